use Rattle.std.proofs.Common.{◌∙◌, sym}
use Rattle.php_array.specs.Slots.{stored_at}
use Rattle.php_array.proofs.IndexLemmas.{candidate-hole}
use Rattle.php_array.proofs.PlaceLemmas.{not_some}
use Rattle.php_array.proofs.indexing.find_live.Goals as goal

pub returns-else-is_live : goal.returns-else-is_live
returns-else-is_live g c =
    let ss = c.args.slots.now.items in
    let none = not_some (stored_at c.in_ok-place.place ss) (sym c.is_live.ensures ∙ c.if-is_live.false) in
    sym (candidate-hole c.args.index.now ss c.args.key.now c.requires c.in_ok-place.place (sym c.in_ok-place.ensures) none)
