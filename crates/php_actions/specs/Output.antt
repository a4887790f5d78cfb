-- Actions that write.
use Rattle.std.specs.Prelude.{ℕ, List, ◌++◌, Option, Some, None, pos}
use Rattle.php_value.specs.declared.scalar.Scalar.TheVariants as scalar
use Rattle.php_machine.specs.Moves.{Next, Wrong}
use Rattle.php_actions.specs.declared.output.OutputAction.{OutputAction}
use Rattle.php_actions.specs.declared.output.OutputAction.TheVariants.{Echo, Write, Print}
use Rattle.php_actions.specs.Data.{Frame, Data, Move, next_with}
use Rattle.php_actions.specs.Steps.{operand, drops, pushed}
use Rattle.php_actions.specs.Operators.{text_if}

-- the data with more output
abbrev pub with_out : Data → List ℕ → Data
with_out d t = record d { out = d.out ++ t }

abbrev pub with_text : Option (List ℕ) → (List ℕ → Move) → Move
with_text None go = Wrong
with_text (Some t) go = go t

abbrev pub effect_output : OutputAction → Frame → Data → Move
effect_output Echo f d = with_text (text_if (operand d.mem f.block 0)) (λ t. drops f.block 1 d.mem (next_with (with_out d t)))
effect_output (Write t) f d = Next (with_out d t)
effect_output Print f d = with_text (text_if (operand d.mem f.block 0)) (λ t. drops f.block 1 d.mem (λ m. pushed f.block (scalar.Int (pos 1)) m (next_with (with_out d t))))
