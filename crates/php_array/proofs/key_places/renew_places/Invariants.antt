use Rattle.std.proofs.Common.{◌≡◌, take}
use Rattle.php_value.specs.declared.key.Key.{Key}
use Rattle.php_array.specs.Index.{place_in}
use Rattle.php_array.specs.Slots.{place_of}
use Rattle.php_array.proofs.IndexLemmas.{first_some}
use Rattle.php_array.proofs.key_places.renew_places.Given as goal

abbrev pub invariant-loop-place : goal.invariant-loop-place
invariant-loop-place g l = (k : Key) → place_in l.places.entries k ≡ first_some (place_of k (take l.place l.slots.items)) (place_in l.initial.places.entries k)
