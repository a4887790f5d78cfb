use Rattle.std.proofs.Common.{map, arith}
use Rattle.std.specs.Prelude.{reverse}
use Rattle.php_memplain_cells.specs.Seen.{item_seen}
use Rattle.php_memplain_places.proofs.TotalLemmas.{items_at}
use Rattle.php_memplain_places.proofs.counting.standing_entries.Goals as goal

pub loop-depth-preserved : goal.loop-depth-preserved
loop-depth-preserved c = omega (arith, c.loop-depth.invariant, items_at (map item_seen (reverse c.args.temps.now)) c.loop-depth.depth, c.entries_at.ensures, c.saturating_add-count.ensures)
