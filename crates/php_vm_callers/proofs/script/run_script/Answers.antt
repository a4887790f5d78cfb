use Rattle.php_ast.specs.declaration.View.{script_view}
use Rattle.php_vm_callers.specs.Beginnings.{bytes_of}
use Rattle.php_vm_callers.proofs.TreeLemmas.{is-runnable, runs-as, nothing-compiled}
use Rattle.php_vm_callers.proofs.script.run_script.Goals as goal

pub run_program-requires-clause-runnable : goal.run_program-requires-clause-runnable
run_program-requires-clause-runnable g c = is-runnable (script_view c.args.script.now) c.in-Ok.program c.in-Ok.ensures.program c.requires.told

pub returns-in-Ok-clause-runs : goal.returns-in-Ok-clause-runs
returns-in-Ok-clause-runs g c =
    runs-as (script_view c.args.script.now) c.args.allowance (bytes_of c.args.words.now) (g.M.Memory.means c.run_program.result.memory) (g.K.Sink.written c.run_program.new.out) (g.K.Sink.written c.args.out.now) c.run_program.result.ticks c.in-Ok.program c.run_program.result.stop c.in-Ok.ensures.program c.run_program.ensures.runs

pub returns-in-Err-clause-runs : goal.returns-in-Err-clause-runs
returns-in-Err-clause-runs g c = nothing-compiled (script_view c.args.script.now) c.args.allowance (bytes_of c.args.words.now) (g.M.Memory.means c.args.memory) (g.K.Sink.written c.args.out.now)
