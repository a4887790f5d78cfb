use Rattle.php_vm_callers.specs.Beginnings.{bytes_of}
use Rattle.php_vm_callers.proofs.ProgramLemmas.{begins-with, runs-on}
use Rattle.php_vm_callers.proofs.start.can_run.Goals as goal

pub returns-clause-begins : goal.returns-clause-begins
returns-clause-begins g c =
    begins-with c.args.program.now c.args.allowance (bytes_of c.args.words.now) c.requires.runnable c.requires.arguments (g.M.Memory.means c.args.memory.now) c.args.room c.requires.room c.args.frame.now c.requires.begun

pub returns-clause-runnable : goal.returns-clause-runnable
returns-clause-runnable g c =
    runs-on c.args.program.now c.args.allowance (bytes_of c.args.words.now) c.requires.runnable c.requires.arguments (g.M.Memory.means c.args.memory.now) c.args.room c.requires.room c.args.frame.now c.requires.begun
