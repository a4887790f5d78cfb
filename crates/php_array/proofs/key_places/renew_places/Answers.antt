use Rattle.std.proofs.Common.{◌∙◌, sym, ap}
use Rattle.std.specs.Prelude.{option_map}
use Rattle.php_value.specs.declared.key.Key.{Key}
use Rattle.php_array.specs.Answers.{shown_entry}
use Rattle.php_array.specs.Index.{place_in}
use Rattle.php_array.proofs.IndexLemmas.{renewed_live, renewed_hole, renewed_there}
use Rattle.php_array.proofs.key_places.renew_places.Goals as goal
use Rattle.php_array.proofs.key_places.renew_places.Goals.{in-Some, in_default}

pub move_place-requires : goal.move_place-requires
move_place-requires g c =
    renewed_there c.args.slots.now.items c.loop-place.place (λ (k : Key). place_in c.args.places.now.entries k) c.loop-place.places.entries (shown_entry c.in-Some.entry) c.requires.distinct (sym c.in-Some.ensures) c.requires.same_keys c.loop-place.invariant

pub loop-place-preserved : goal.loop-place-preserved
loop-place-preserved g c =
    let ss = c.args.slots.now.items in
    let i = c.loop-place.place in
    elim c.match-entry.branch [
      | in-Some w ↦
          λ k. ap (λ (m : _). place_in m.entries k) w.places-is
          ∙ renewed_live ss i (λ (q : Key). place_in c.args.places.now.entries q) c.loop-place.places.entries w.move_place.new.places.entries (shown_entry w.in-Some.entry) c.requires.distinct (sym w.in-Some.ensures) w.move_place.ensures c.loop-place.invariant k
      | in_default w ↦
          λ k. ap (λ (m : _). place_in m.entries k) w.places-is
          ∙ renewed_hole ss i (λ (q : Key). place_in c.args.places.now.entries q) (λ (q : Key). place_in c.loop-place.places.entries q) (sym c.entry.ensures ∙ ap (option_map shown_entry) w.in_default.is) c.loop-place.invariant k
    ]
