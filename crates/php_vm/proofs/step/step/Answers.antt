use Rattle.php_vm.proofs.StepLemmas.{can_step_on, step_after_release}
use Rattle.php_vm.proofs.step.step.Goals as goal

pub step_on-requires : goal.step_on-requires
step_on-requires g c = can_step_on c.args.program.now c.args.state.now (g.M.Memory.means c.args.memory.now) (g.M.Memory.means c.release.new.memory) c.release.ensures c.requires

pub returns-clause-steps : goal.returns-clause-steps
returns-clause-steps g c =
    step_after_release c.args.program.now c.args.state.now (g.M.Memory.means c.args.memory.now) (g.M.Memory.means c.release.new.memory) (g.M.Memory.means c.step_on.new.memory) _ _ c.step_on.new.state c.step_on.result c.release.ensures c.step_on.ensures.steps
