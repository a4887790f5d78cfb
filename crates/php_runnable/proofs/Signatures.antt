-- What each action finds of temporaries, what it leaves of them, and for how many over the others it wants room.
use Rattle.std.proofs.Common.{◌≡◌, ℕ, zero, suc, ◌+◌, ◌≤◌, List}
use Rattle.php_memdef.specs.Conditions.{IsScalarWithin}
use Rattle.php_actions.specs.declared.action.Action.{Action}
use Rattle.php_actions.specs.declared.action.Action.TheVariants.{Stack, Place, Operator, Output, Name as NameOf, Call, Jump}
use Rattle.php_actions.specs.declared.stack.StackAction.{StackAction}
use Rattle.php_actions.specs.declared.stack.StackAction.TheVariants.{Push, PushArray, Drop, Swap, Duplicate, Settle, TestTruth, TestNotNull}
use Rattle.php_actions.specs.declared.places.PlaceAction.{PlaceAction}
use Rattle.php_actions.specs.declared.places.PlaceAction.TheVariants.{Read, Assign}
use Rattle.php_actions.specs.declared.operators.OperatorAction.{OperatorAction}
use Rattle.php_actions.specs.declared.operators.OperatorAction.TheVariants.{Operate, Compare, Identical, TestCase, ExclusiveOr, ToBool, Not, ToInt, ToText, Sign, Complement, Count, Join}
use Rattle.php_actions.specs.declared.output.OutputAction.{OutputAction}
use Rattle.php_actions.specs.declared.output.OutputAction.TheVariants.{Echo, Write, Print}
use Rattle.php_meaning.specs.Slots.{Names}
use Rattle.php_meaning.specs.Forms.{variable_form}

abbrev pub found_stack : StackAction → ℕ
found_stack (Push v) = 0
found_stack PushArray = 0
found_stack Drop = 1
found_stack Swap = 2
found_stack Duplicate = 1
found_stack Settle = 1
found_stack TestTruth = 1
found_stack TestNotNull = 1

abbrev pub left_stack : StackAction → ℕ
left_stack (Push v) = 1
left_stack PushArray = 1
left_stack Drop = 0
left_stack Swap = 2
left_stack Duplicate = 2
left_stack Settle = 1
left_stack TestTruth = 2
left_stack TestNotNull = 2

abbrev pub spare_stack : StackAction → ℕ
spare_stack (Push v) = 1
spare_stack PushArray = 1
spare_stack Drop = 0
spare_stack Swap = 0
spare_stack Duplicate = 2
spare_stack Settle = 0
spare_stack TestTruth = 2
spare_stack TestNotNull = 2

abbrev pub IsStackFit : StackAction → Type 0
IsStackFit (Push v) = IsScalarWithin v
IsStackFit _ = Unit {0}

abbrev pub found_operator : OperatorAction → ℕ
found_operator (Operate op) = 2
found_operator (Compare r) = 2
found_operator (Identical negated) = 2
found_operator TestCase = 2
found_operator ExclusiveOr = 2
found_operator ToBool = 1
found_operator Not = 1
found_operator ToInt = 1
found_operator ToText = 1
found_operator (Sign negative) = 1
found_operator Complement = 1
found_operator (Count up) = 1
found_operator (Join n) = n

abbrev pub left_operator : OperatorAction → ℕ
left_operator TestCase = 2
left_operator _ = 1

abbrev pub spare_operator : OperatorAction → ℕ
spare_operator (Operate op) = 4
spare_operator (Join n) = 1
spare_operator _ = 0

abbrev pub found_place : PlaceAction → ℕ
found_place (Read form) = 0
found_place (Assign form) = 1

abbrev pub spare_place : PlaceAction → ℕ
spare_place (Read form) = 1
spare_place (Assign form) = 2

-- a variable, or `$this`
abbrev pub IsVariable : Names → PlaceAction → Type 0
IsVariable ns (Read form) = (n : List ℕ) × (form ≡ variable_form ns n)
IsVariable ns (Assign form) = (n : List ℕ) × (form ≡ variable_form ns n)

abbrev pub found_output : OutputAction → ℕ
found_output Echo = 1
found_output (Write t) = 0
found_output Print = 1

abbrev pub left_output : OutputAction → ℕ
left_output Echo = 0
left_output (Write t) = 0
left_output Print = 1

abbrev pub found : Action → ℕ
found (Stack a) = found_stack a
found (Place a) = found_place a
found (Operator a) = found_operator a
found (Output a) = found_output a
found (NameOf a) = 0
found (Call a) = 0
found (Jump a) = 0

abbrev pub leaves : Action → ℕ
leaves (Stack a) = left_stack a
leaves (Place a) = 1
leaves (Operator a) = left_operator a
leaves (Output a) = left_output a
leaves (NameOf a) = 1
leaves (Call a) = 0
leaves (Jump a) = 0

abbrev pub spare : Action → ℕ
spare (Stack a) = spare_stack a
spare (Place a) = spare_place a
spare (Operator a) = spare_operator a
spare (Output a) = 0
spare (NameOf a) = 0
spare (Call a) = 0
spare (Jump a) = 0

-- a value that is pushed is within its limits, and a place is a variable; the end of a body is no task
abbrev pub IsFit : Names → Action → Type 0
IsFit ns (Stack a) = IsStackFit a
IsFit ns (Place a) = IsVariable ns a
IsFit ns (Operator a) = Unit {0}
IsFit ns (Output a) = Unit {0}
IsFit ns (NameOf a) = Unit {0}
IsFit ns (Call a) = ⊥
IsFit ns (Jump a) = Unit {0}

-- so many fit over r temporaries, where any are wanted
abbrev pub FitsOver : ℕ → ℕ → ℕ → Type 0
FitsOver room r zero = Unit {0}
FitsOver room r (suc k) = r + suc k ≤ room
