use Rattle.std.proofs.Common.{refl}
use Rattle.php_memdef.specs.Operations as op
use Rattle.php_actions.specs.Stack.{effect_stack}
use Rattle.php_actions.specs.declared.stack.StackAction.TheVariants.{PushArray}
use Rattle.php_vm_actions.specs.Acting.{frame_of}
use Rattle.php_vm_actions.proofs.ActLemmas.{acts_one}
use Rattle.php_vm_actions.proofs.stack.push_array.Goals as goal

pub returns-in-Ok : goal.returns-in-Ok
returns-in-Ok g c = acts_one (g.M.Memory.means c.args.memory.now) (g.M.Memory.means c.push_array.new.self) c.args.frame.now.block.0 (effect_stack PushArray (frame_of c.args.frame.now)) (op.push_array c.args.frame.now.block.0) (λ d. refl) tt c.in-Ok.ensures.ok
