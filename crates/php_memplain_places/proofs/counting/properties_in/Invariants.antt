use Rattle.std.proofs.Common.{◌≤◌, ◌+◌, drop, map}
use Rattle.std.specs.Prelude.{option_map}
use Rattle.php_memdef.specs.Numbered.{total}
use Rattle.php_memplain_cells.specs.Seen.{box_seen}
use Rattle.php_memplain_places.specs.Counted.{property_count}
use Rattle.php_memplain_places.proofs.counting.properties_in.Given as goal

abbrev pub invariant-loop-slot : goal.invariant-loop-slot
invariant-loop-slot l = l.count + total property_count (map (option_map box_seen) (drop l.slot-index l.objects)) ≤ total property_count (map (option_map box_seen) l.objects)
