use Rattle.std.proofs.Common.{◌≤◌, ◌+◌, drop, map}
use Rattle.std.specs.Prelude.{reverse}
use Rattle.php_memdef.specs.Holders.{entries_of_items}
use Rattle.php_memplain_cells.specs.Seen.{item_seen}
use Rattle.php_memplain_places.proofs.counting.standing_entries.Given as goal

abbrev pub invariant-loop-depth : goal.invariant-loop-depth
invariant-loop-depth l = l.count + entries_of_items (drop l.depth (map item_seen (reverse l.temps))) ≤ entries_of_items (map item_seen (reverse l.temps))
