use Rattle.std.proofs.Common.{arith}
use Rattle.php_memdef.specs.Holders.{entries_of_content}
use Rattle.php_memplain_cells.specs.Seen.{stores_seen}
use Rattle.php_memplain_places.proofs.TotalLemmas.{total_at}
use Rattle.php_memplain_places.proofs.counting.stored_entries.Goals as goal

pub loop-key-preserved : goal.loop-key-preserved
loop-key-preserved c = omega (arith, c.loop-key.invariant, total_at entries_of_content (stores_seen c.args.stores.now) c.loop-key.key, c.entries_under.ensures, c.saturating_add-count.ensures)
