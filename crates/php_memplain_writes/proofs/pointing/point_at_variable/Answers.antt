use Rattle.std.proofs.Common.{sym, ◌∙◌, ap}
use Rattle.php_memdef.specs.Contents.{Scope}
use Rattle.php_memdef.specs.Places.{variable_store}
use Rattle.php_memdef.specs.Writes.{with_variable}
use Rattle.php_memplain_cells.proofs.MemoryLemmas.{scope_there}
use Rattle.php_memplain_writes.proofs.BlockLemmas.{scope_changed, scope_kept}
use Rattle.php_memplain_writes.proofs.StandLemmas.{waiting_kept}
use Rattle.php_memplain_writes.proofs.pointing.point_at_variable.Goals as goal

pub returns-in-Ok-clause-before : goal.returns-in-Ok-clause-before
returns-in-Ok-clause-before c = c.in-Ok.ensures.before ∙ ap (λ (x : Scope). variable_store x.variables c.args.name) (sym (scope_there c.args.cells.now c.args.block c.index_mut.result.now c.index_mut.ensures.value))

pub returns-in-Ok-clause-ok : goal.returns-in-Ok-clause-ok
returns-in-Ok-clause-ok c = scope_changed c.args.cells.now c.args.block c.index_mut.result.now c.index_mut.ensures.value c.point_variable.new.block (λ (x : Scope). record x { variables = with_variable c.args.name c.args.store x.variables }) c.in-Ok.ensures.ok

pub returns-in-Err-clause-no_memory : goal.returns-in-Err-clause-no_memory
returns-in-Err-clause-no_memory c = scope_kept c.args.cells.now c.args.block c.index_mut.result.now c.index_mut.ensures.value c.point_variable.new.block c.in-Err.ensures.no_memory

pub returns-in-Ok-clause-waiting : goal.returns-in-Ok-clause-waiting
returns-in-Ok-clause-waiting c = waiting_kept c.args.cells.now.blocks c.args.block c.index_mut.result.now c.point_variable.new.block c.index_mut.ensures.value c.point_variable.ensures.waiting

pub returns-in-Err-clause-waiting : goal.returns-in-Err-clause-waiting
returns-in-Err-clause-waiting c = waiting_kept c.args.cells.now.blocks c.args.block c.index_mut.result.now c.point_variable.new.block c.index_mut.ensures.value c.point_variable.ensures.waiting
