use Rattle.php_vm_callers.specs.Beginnings.{bytes_of}
use Rattle.php_vm_callers.proofs.ProgramLemmas.{nothing-ran, has-run}
use Rattle.php_vm_callers.proofs.script.run_program.Goals as goal

pub returns-in-Ok-clause-runs : goal.returns-in-Ok-clause-runs
returns-in-Ok-clause-runs g c =
    has-run c.args.program.now c.args.allowance (bytes_of c.args.words.now) c.requires.runnable c.requires.arguments (g.M.Memory.means c.begin.new.memory) c.room_of-room.result c.room_of-room.ensures c.in-Ok.frame c.in-Ok.ensures (g.M.Memory.means c.run_from.result.memory) (g.K.Sink.written c.run_from.new.out) (g.K.Sink.written c.args.out.now) c.run_from.result.ticks c.run_from.result.stop c.run_from.ensures.ends

pub returns-in-Err-clause-runs : goal.returns-in-Err-clause-runs
returns-in-Err-clause-runs g c = nothing-ran c.args.program.now c.args.allowance (bytes_of c.args.words.now) (g.M.Memory.means c.begin.new.memory) (g.K.Sink.written c.args.out.now)
