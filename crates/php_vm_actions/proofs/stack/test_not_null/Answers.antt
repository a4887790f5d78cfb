use Rattle.std.proofs.Common.{ℕ, [], ◌∷◌, Option, refl, sym, ap}
use Rattle.php_value.specs.declared.scalar.Scalar.TheVariants as scalar
use Rattle.php_memdef.specs.Contents.{Content}
use Rattle.php_memdef.specs.Operations as op
use Rattle.php_memdef.specs.Operations.{run}
use Rattle.php_actions.specs.Contents.{is_null}
use Rattle.php_actions.specs.Data.{Data, Move, next_with}
use Rattle.php_actions.specs.Stack.{effect_stack, tested}
use Rattle.php_actions.specs.declared.stack.StackAction.TheVariants.{TestNotNull}
use Rattle.std.specs.Prelude.{not, Bool}
use Rattle.php_vm_actions.specs.Straight.{behind}
use Rattle.php_vm_actions.specs.Acting.{frame_of}
use Rattle.php_vm_actions.proofs.ActLemmas.{acts_looked}
use Rattle.php_vm_actions.proofs.stack.test_not_null.Goals as goal

abbrev by : ℕ → Option Content → Data → Move
by b c d = tested c (λ x. not (is_null x)) b d.mem (next_with d)

pub returns : goal.returns
returns g c =
    acts_looked (g.M.Memory.means c.args.memory.now) (g.M.Memory.means c.push.new.self) c.args.frame.now.block.0 0 (effect_stack TestNotNull (frame_of c.args.frame.now)) (by c.args.frame.now.block.0) (op.push c.args.frame.now.block.0 (scalar.Bool (not c.is_null_at-is_null.result))) (λ d. refl) (λ d. refl)
    (λ d x m e. ap (λ (t : Bool). behind (op.push c.args.frame.now.block.0 (scalar.Bool t) ∷ []) d.mem (next_with d)) (ap not (sym (c.is_null_at-is_null.ensures d.mem m x e)))) tt c.push.ensures.effect
