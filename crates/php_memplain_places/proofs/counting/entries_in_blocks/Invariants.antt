use Rattle.std.proofs.Common.{◌≤◌, ◌+◌, drop}
use Rattle.php_memdef.specs.Numbered.{total}
use Rattle.php_memdef.specs.Holders.{vslots_of_scope}
use Rattle.php_memplain_places.specs.Counted.{blocks_seen}
use Rattle.php_memplain_places.proofs.counting.entries_in_blocks.Given as goal

abbrev pub invariant-loop-key : goal.invariant-loop-key
invariant-loop-key l = l.count + total vslots_of_scope (drop l.key (blocks_seen l.blocks)) ≤ total vslots_of_scope (blocks_seen l.blocks)
