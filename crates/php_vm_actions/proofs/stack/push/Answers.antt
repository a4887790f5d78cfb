use Rattle.std.proofs.Common.{[], ◌∷◌, sym, ap}
use Rattle.php_value.specs.declared.scalar.Scalar.{Scalar}
use Rattle.php_memdef.specs.Operations as op
use Rattle.php_memdef.specs.Operations.{run}
use Rattle.php_actions.specs.Data.{next_with}
use Rattle.php_actions.specs.Stack.{effect_stack}
use Rattle.php_actions.specs.declared.stack.StackAction.TheVariants.{Push}
use Rattle.php_vm_actions.specs.Straight.{behind}
use Rattle.php_vm_actions.specs.Acting.{frame_of}
use Rattle.php_vm_actions.proofs.ActLemmas.{acts_one}
use Rattle.php_vm_actions.proofs.stack.push.Goals as goal

pub returns-in-Ok : goal.returns-in-Ok
returns-in-Ok g c =
    acts_one (g.M.Memory.means c.args.memory.now) (g.M.Memory.means c.push.new.self) c.args.frame.now.block.0 (effect_stack (Push c.args.value.now) (frame_of c.args.frame.now)) (op.push c.args.frame.now.block.0 c.in-Ok.value)
    (λ d. ap (λ (v : Scalar). behind (op.push c.args.frame.now.block.0 v ∷ []) d.mem (next_with d)) (sym c.in-Ok.ensures.same)) tt c.push.ensures.effect
