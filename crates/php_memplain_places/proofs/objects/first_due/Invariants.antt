use Rattle.std.proofs.Common.{◌≡◌, ◌+◌, drop, map}
use Rattle.std.specs.Prelude.{option_map}
use Rattle.php_memdef.specs.Objects.{first_due}
use Rattle.php_memplain_cells.specs.Seen.{box_seen}
use Rattle.php_memplain_places.proofs.objects.first_due.Given as goal

-- none so far is due
abbrev pub invariant-loop-place : goal.invariant-loop-place
invariant-loop-place l = first_due (map (option_map box_seen) (drop l.place l.slots)) (l.place + 1) ≡ first_due (map (option_map box_seen) l.slots) 1
