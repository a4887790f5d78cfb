use Rattle.std.proofs.Common.{[], ◌∷◌, ◌++◌}
use Rattle.php_memdef.specs.Contents.{Scope, link}
use Rattle.php_memplain_changes.proofs.SwapLemmas.{scope_changed}
use Rattle.php_memplain_changes.proofs.falling.fall.Goals as goal

pub returns-clause-seen : goal.returns-clause-seen
returns-clause-seen c = scope_changed c.args.cells.now c.args.block c.index_mut.result.now c.index_mut.ensures.value c.fall_last.new.block (λ (x : Scope). record x { falling = x.falling ++ link c.args.store ∷ [] }) c.fall_last.ensures
