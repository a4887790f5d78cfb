use Rattle.std.proofs.Common.{◌∙◌, sym, ap}
use Rattle.std.specs.Prelude.{option_map}
use Rattle.php_value.specs.declared.key.Key.{Key}
use Rattle.php_array.specs.Answers.{shown_entry}
use Rattle.php_array.specs.Index.{place_in}
use Rattle.php_array.proofs.IndexLemmas.{collected_live, collected_hole}
use Rattle.php_array.proofs.key_places.collect_places.Goals as goal
use Rattle.php_array.proofs.key_places.collect_places.Goals.{in-Some+in_ok-insert_place, in_default}

pub loop-place-preserved : goal.loop-place-preserved
loop-place-preserved g c =
    let ss = c.args.slots.now.items in
    let i = c.loop-place.place in
    elim c.match-entry.branch [
      | in-Some+in_ok-insert_place w ↦
          λ k. ap (λ (m : _). place_in m.entries k) w.places-is
          ∙ collected_live ss i c.loop-place.places.entries w.insert_place.new.places.entries (shown_entry w.in-Some.entry) c.requires (sym w.in-Some.ensures) w.in_ok-insert_place.ensures.ok c.loop-place.invariant k
      | in_default w ↦
          λ k. ap (λ (m : _). place_in m.entries k) w.places-is
          ∙ collected_hole ss i (λ (q : Key). place_in c.loop-place.places.entries q) (sym c.entry.ensures ∙ ap (option_map shown_entry) w.in_default.is) c.loop-place.invariant k
    ]
