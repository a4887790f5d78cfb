use Rattle.php_memdef.specs.Contents.{Scope}
use Rattle.php_memdef.specs.Temporaries.{rest_of}
use Rattle.php_memplain_changes.proofs.SwapLemmas.{scope_changed}
use Rattle.php_memplain_changes.proofs.appending.drop_top.Goals as goal

pub returns-clause-seen : goal.returns-clause-seen
returns-clause-seen c = scope_changed c.args.cells.now c.args.block c.index_mut.result.now c.index_mut.ensures.value c.pop_temp-top.new.block (λ (x : Scope). record x { temps = rest_of x.temps }) c.pop_temp-top.ensures
