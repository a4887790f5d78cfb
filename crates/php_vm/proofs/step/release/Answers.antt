use Rattle.php_vm.proofs.StepLemmas.{releases}
use Rattle.php_vm.proofs.step.release.Goals as goal

pub returns : goal.returns
returns g c = releases c.args.program.now c.args.state.now (g.M.Memory.means c.args.memory.now) (g.M.Memory.means c.fall.new.self) c.fall.result c.fall.ensures.effect
