use Rattle.std.proofs.Common.{arith}
use Rattle.php_memdef.specs.Holders.{vslots_of_scope}
use Rattle.php_memplain_places.specs.Counted.{blocks_seen}
use Rattle.php_memplain_places.proofs.TotalLemmas.{total_at}
use Rattle.php_memplain_places.proofs.counting.entries_in_blocks.Goals as goal

pub loop-key-preserved : goal.loop-key-preserved
loop-key-preserved c = omega (arith, c.loop-key.invariant, total_at vslots_of_scope (blocks_seen c.args.blocks.now) c.loop-key.key, c.entries_in_block.ensures, c.saturating_add-count.ensures)
