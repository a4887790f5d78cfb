use Rattle.std.proofs.Common.{◌∙◌, sym, ap, refl}
use Rattle.std.specs.Prelude.{option_map}
use Rattle.php_entries.specs.Listing.{Entry}
use Rattle.php_array.specs.Slots.{stored_at}
use Rattle.php_array.proofs.IndexLemmas.{candidate-none, candidate-find}
use Rattle.php_array.proofs.SlotLemmas.{place_of-none}
use Rattle.php_array.proofs.indexing.find_value.Goals as goal

pub returns-in-Some : goal.returns-in-Some
returns-in-Some g c =
    let ss = c.args.slots.now.items in
    c.value.ensures
    ∙ ap (option_map (λ (e : Entry _). e.value)) (candidate-find c.args.index.now ss c.args.key.now c.requires c.in-Some.place (stored_at c.in-Some.place ss) (sym c.in-Some.ensures) refl)

pub returns-in-None : goal.returns-in-None
returns-in-None g c =
    let ss = c.args.slots.now.items in
    sym (ap (option_map (λ (e : Entry _). e.value)) (place_of-none c.args.key.now ss (candidate-none c.args.index.now ss c.args.key.now c.requires (sym c.in-None.ensures))))
