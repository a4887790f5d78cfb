use Rattle.std.proofs.Common.{[], ◌∷◌, sym, ap}
use Rattle.php_memdef.specs.declared.place.Place.{Place}
use Rattle.php_memdef.specs.Operations as op
use Rattle.php_memdef.specs.Operations.{run}
use Rattle.php_actions.specs.Data.{next_with}
use Rattle.php_actions.specs.Stack.{effect_stack}
use Rattle.php_actions.specs.declared.stack.StackAction.TheVariants.{Duplicate}
use Rattle.php_vm_actions.specs.Straight.{behind}
use Rattle.php_vm_actions.specs.Acting.{frame_of}
use Rattle.php_vm_actions.proofs.ActLemmas.{acts_one, answers_does}
use Rattle.php_vm_actions.proofs.stack.duplicate.Goals as goal

pub returns-in-Ok : goal.returns-in-Ok
returns-in-Ok g c =
    acts_one (g.M.Memory.means c.args.memory.now) (g.M.Memory.means c.copy.new.self) c.args.frame.now.block.0 (effect_stack Duplicate (frame_of c.args.frame.now)) (op.copy c.args.frame.now.block.0 c.temporary-top.result)
    (λ d. ap (λ (p : Place). behind (op.copy c.args.frame.now.block.0 p ∷ []) d.mem (next_with d)) (sym c.temporary-top.ensures)) tt
    (answers_does (g.M.Memory.means c.args.memory.now) (g.M.Memory.means c.copy.new.self) _ (run (op.copy c.args.frame.now.block.0 c.temporary-top.result)) c.in-Ok.ensures.ok)
