use Rattle.std.proofs.Common.{◌≤◌, ◌+◌, drop}
use Rattle.php_memdef.specs.Numbered.{total}
use Rattle.php_memdef.specs.Holders.{entries_of_content}
use Rattle.php_memplain_cells.specs.Seen.{stores_seen}
use Rattle.php_memplain_places.proofs.counting.stored_entries.Given as goal

abbrev pub invariant-loop-key : goal.invariant-loop-key
invariant-loop-key l = l.count + total entries_of_content (drop l.key (stores_seen l.stores)) ≤ total entries_of_content (stores_seen l.stores)
