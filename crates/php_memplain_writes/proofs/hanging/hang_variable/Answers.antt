use Rattle.php_memplain_writes.specs.Hanging.{variable_added}
use Rattle.php_memplain_writes.proofs.BlockLemmas.{scope_changed, scope_kept}
use Rattle.php_memplain_writes.proofs.hanging.hang_variable.Goals as goal

pub returns-in-Ok-clause-ok : goal.returns-in-Ok-clause-ok
returns-in-Ok-clause-ok c = scope_changed c.args.cells.now c.args.block c.index_mut.result.now c.index_mut.ensures.value c.add_variable.new.block (variable_added c.args.name c.args.store) c.in-Ok.ensures.ok

pub returns-in-Err-clause-no_memory : goal.returns-in-Err-clause-no_memory
returns-in-Err-clause-no_memory c = scope_kept c.args.cells.now c.args.block c.index_mut.result.now c.index_mut.ensures.value c.add_variable.new.block c.in-Err.ensures.no_memory
