-- Actions on temporaries alone.
use Rattle.std.specs.Prelude.{ℕ, not, Bool, List, [], ◌∷◌, Option, Some, None}
use Rattle.php_value.specs.declared.scalar.Scalar.TheVariants as scalar
use Rattle.php_memdef.specs.Contents.{Content, Item, value, link, Mem, scope_of}
use Rattle.php_memdef.specs.Temporaries.{push_array, copy, settle}
use Rattle.php_machine.specs.Moves.{Wrong}
use Rattle.php_actions.specs.declared.stack.StackAction.{StackAction}
use Rattle.php_actions.specs.declared.stack.StackAction.TheVariants.{Push, PushArray, Drop, Swap, Duplicate, Settle, TestTruth, TestNotNull}
use Rattle.php_actions.specs.Data.{Frame, Data, Move, on, next_with}
use Rattle.php_actions.specs.Contents.{truth_of, is_null}
use Rattle.php_memdef.specs.Operations as op
use Rattle.php_memdef.specs.Deciders.{can}
use Rattle.php_actions.specs.Steps.{temp, operand, turned, drops, pushed}

abbrev pub settled_if : List Item → ℕ → Mem → (Mem → Move) → Move
settled_if [] b m go = Wrong
settled_if (value c ∷ is) b m go = go m
settled_if (link s ∷ is) b m go = on (can (op.settle b) m) (settle m b) go

-- a test of the top temporary comes above it
abbrev pub tested : Option Content → (Content → Bool) → ℕ → Mem → (Mem → Move) → Move
tested None test b m go = Wrong
tested (Some c) test b m go = pushed b (scalar.Bool (test c)) m go

abbrev pub effect_stack : StackAction → Frame → Data → Move
effect_stack (Push v) f d = pushed f.block v d.mem (next_with d)
effect_stack PushArray f d = on (can (op.push_array f.block) d.mem) (push_array d.mem f.block) (next_with d)
effect_stack Drop f d = drops f.block 1 d.mem (next_with d)
effect_stack Swap f d = turned f.block 2 d.mem (next_with d)
effect_stack Duplicate f d = on (can (op.copy f.block (temp f.block 0)) d.mem) (copy d.mem f.block (temp f.block 0)).0 (next_with d)
effect_stack Settle f d = settled_if (scope_of d.mem f.block).temps f.block d.mem (next_with d)
effect_stack TestTruth f d = tested (operand d.mem f.block 0) truth_of f.block d.mem (next_with d)
effect_stack TestNotNull f d = tested (operand d.mem f.block 0) (λ c. not (is_null c)) f.block d.mem (next_with d)
