use Rattle.std.proofs.Common.{refl}
use Rattle.php_memdef.specs.Operations as op
use Rattle.php_actions.specs.Stack.{effect_stack}
use Rattle.php_actions.specs.declared.stack.StackAction.TheVariants.{Drop}
use Rattle.php_vm_actions.specs.Acting.{frame_of}
use Rattle.php_vm_actions.proofs.ActLemmas.{acts_one}
use Rattle.php_vm_actions.proofs.stack.drop_one.Goals as goal

pub returns : goal.returns
returns g c = acts_one (g.M.Memory.means c.args.memory.now) (g.M.Memory.means c.drop_top.new.self) c.args.frame.now.block.0 (effect_stack Drop (frame_of c.args.frame.now)) (op.drop_top c.args.frame.now.block.0) (λ d. refl) tt c.drop_top.ensures.effect
