use Rattle.std.proofs.Common.{Some, Result, sym, subst}
use Rattle.php_value.specs.declared.fault.Stopped.{Stopped}
use Rattle.php_value.specs.declared.scalar.Scalar.{Scalar}
use Rattle.php_actions.specs.Operators.{finish_two}
use Rattle.php_vm_actions.specs.declared.did.Did.TheVariants.{Goes}
use Rattle.php_vm_actions.specs.Acting.{Acts, frame_of}
use Rattle.php_vm_actions.specs.Operands.{FinishedBy}
use Rattle.php_vm_actions.proofs.OperatorLemmas.{two_ok}
use Rattle.php_vm_actions.proofs.operators.finish_two.Goals as goal

pub returns-in-Ok : goal.returns-in-Ok
returns-in-Ok g c =
    subst (λ (t : Result Scalar Stopped). FinishedBy t Goes (Acts (g.M.Memory.means c.args.memory.now) (g.M.Memory.means c.replace.new.memory) c.args.frame.now.block.0 Goes (finish_two (Some t) (frame_of c.args.frame.now)))) (sym c.in-Ok.is)
    (two_ok (g.M.Memory.means c.args.memory.now) (g.M.Memory.means c.replace.new.memory) (frame_of c.args.frame.now) c.in-Ok.value c.replace.ensures)
