use Rattle.std.proofs.Common.{◌∷◌, drop, sym, ◌∙◌, ap, ℕ, add-one}
use Rattle.std.specs.Prelude.{option_map}
use Rattle.php_array.specs.Answers.{shown_entry}
use Rattle.php_array.specs.Slots.{entries_in}
use Rattle.php_array.proofs.SlotLemmas.{drop-live, drop-hole}
use Rattle.php_array.proofs.places.next_stored.Goals as goal

pub returns-in-Some-clause-entries : goal.returns-in-Some-clause-entries
returns-in-Some-clause-entries g c =
    let ss = c.args.slots.now.items in
    sym c.loop-place.invariant
    ∙ drop-live c.loop-place.place ss (shown_entry c.in-Some.entry) (sym c.in-Some.ensures)
    ∙ ap (λ (n : ℕ). shown_entry c.in-Some.entry ∷ entries_in (drop n ss)) (sym (add-one c.loop-place.place))

pub loop-place-preserved : goal.loop-place-preserved
loop-place-preserved g c =
    let ss = c.args.slots.now.items in
    ap (λ (n : ℕ). entries_in (drop n ss)) (add-one c.loop-place.place)
    ∙ drop-hole c.loop-place.place ss (sym c.entry.ensures ∙ ap (option_map shown_entry) c.in_default.is)
    ∙ c.loop-place.invariant
