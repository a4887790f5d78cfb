use Rattle.php_memplain_changes.proofs.SwapLemmas.{scope_kept}
use Rattle.php_memplain_changes.proofs.falling.reserve_falling.Goals as goal

pub returns-clause-seen : goal.returns-clause-seen
returns-clause-seen c = scope_kept c.args.cells.now c.args.block c.index_mut.result.now c.index_mut.ensures.value c.reserve_place.new.block c.reserve_place.ensures.seen
