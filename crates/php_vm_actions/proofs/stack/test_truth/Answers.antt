use Rattle.std.proofs.Common.{ℕ, [], ◌∷◌, Option, refl, sym, ap}
use Rattle.php_value.specs.declared.scalar.Scalar.TheVariants as scalar
use Rattle.php_memdef.specs.Contents.{Content}
use Rattle.php_memdef.specs.Operations as op
use Rattle.php_memdef.specs.Operations.{run}
use Rattle.php_actions.specs.Contents.{truth_of}
use Rattle.php_actions.specs.Data.{Data, Move, next_with}
use Rattle.php_actions.specs.Stack.{effect_stack, tested}
use Rattle.php_actions.specs.declared.stack.StackAction.TheVariants.{TestTruth}
use Rattle.std.specs.Prelude.{Bool}
use Rattle.php_vm_actions.specs.Straight.{behind}
use Rattle.php_vm_actions.specs.Acting.{frame_of}
use Rattle.php_vm_actions.proofs.ActLemmas.{acts_looked}
use Rattle.php_vm_actions.proofs.stack.test_truth.Goals as goal

abbrev by : ℕ → Option Content → Data → Move
by b c d = tested c truth_of b d.mem (next_with d)

pub returns : goal.returns
returns g c =
    acts_looked (g.M.Memory.means c.args.memory.now) (g.M.Memory.means c.push.new.self) c.args.frame.now.block.0 0 (effect_stack TestTruth (frame_of c.args.frame.now)) (by c.args.frame.now.block.0) (op.push c.args.frame.now.block.0 (scalar.Bool c.truth_at-truth.result)) (λ d. refl) (λ d. refl)
    (λ d x m e. ap (λ (t : Bool). behind (op.push c.args.frame.now.block.0 (scalar.Bool t) ∷ []) d.mem (next_with d)) (sym (c.truth_at-truth.ensures d.mem m x e))) tt c.push.ensures.effect
