-- Which actions forms of the script stand for.
use Rattle.std.specs.Prelude.{ℕ, Bool, true, false, cond, pos, List, [], Option, Some, None}
use Rattle.php_value.specs.declared.op.Op.{Op}
use Rattle.php_value.specs.declared.op.Op.TheVariants as op
use Rattle.php_value.specs.declared.scalar.Scalar.{Scalar}
use Rattle.php_value.specs.declared.scalar.Scalar.TheVariants as scalar
use Rattle.php_ast.specs.declared.operator.Binary.{Binary}
use Rattle.php_ast.specs.declared.operator.Binary.TheVariants as binary
use Rattle.php_ast.specs.declared.operator.Prefix.{Prefix}
use Rattle.php_ast.specs.declared.operator.Prefix.TheVariants as prefix
use Rattle.php_ast.specs.declared.operator.Assign.TheVariants as setting
use Rattle.php_ast.specs.declared.operator.Magic.{Magic}
use Rattle.php_ast.specs.declared.operator.Magic.TheVariants as magic_word
use Rattle.php_ast.specs.expression.Tree.{Leaf, variable, int, string, name, magic, Setting, by_value}
use Rattle.php_ast.specs.expression.Tree.{Tree, leaf}
use Rattle.php_ast.specs.expression.View.{Note}
use Rattle.php_actions.specs.declared.action.Action.{Action}
use Rattle.php_actions.specs.declared.action.Action.TheVariants.{Stack, Place, Operator, Output, Name as NameOf, Jump}
use Rattle.php_actions.specs.declared.stack.StackAction.TheVariants.{Push}
use Rattle.php_actions.specs.declared.places.PlaceAction.TheVariants.{Read, Assign as AssignTo}
use Rattle.php_actions.specs.declared.place_form.BaseForm.{BaseForm}
use Rattle.php_actions.specs.declared.place_form.BaseForm.TheVariants.{Variable, This}
use Rattle.php_actions.specs.declared.place_form.PlaceForm.{PlaceForm}
use Rattle.php_actions.specs.declared.operators.OperatorAction.{OperatorAction}
use Rattle.php_actions.specs.declared.operators.OperatorAction.TheVariants.{Operate, Compare, Identical, ExclusiveOr, ToBool, Not, ToInt, ToText, Sign, Complement}
use Rattle.php_actions.specs.declared.relation.Relation.{Relation}
use Rattle.php_actions.specs.declared.relation.Relation.TheVariants as relation
use Rattle.php_actions.specs.declared.output.OutputAction.TheVariants.{Print}
use Rattle.php_actions.specs.declared.names.NameAction.TheVariants.{PushConstant}
use Rattle.php_actions.specs.declared.jumps.JumpAction.TheVariants.{Tick}
use Rattle.php_meaning.specs.Slots.{Names, slot_in, is_this}
use Rattle.php_meaning.specs.Constants.{constant_of}

-- ---- places

abbrev pub base_of : Names → List ℕ → BaseForm
base_of ns n = cond (is_this n) This (Variable (record { 0 = slot_in ns n }))

abbrev pub variable_form : Names → List ℕ → PlaceForm
variable_form ns n = record { base = base_of ns n; steps = [] }

-- the name of the variable that an expression is
abbrev pub variable_name : Tree Note → Option (List ℕ)
variable_name (leaf at (variable n)) = Some n
variable_name _ = None

abbrev pub form_if : Names → Option (List ℕ) → Option PlaceForm
form_if ns None = None
form_if ns (Some n) = Some (variable_form ns n)

-- elements join as places later
abbrev pub place_form : Names → Tree Note → Option PlaceForm
place_form ns e = form_if ns (variable_name e)

-- ---- leaves

abbrev pub push : Scalar → Action
push v = Stack (Push v)

abbrev pub constant_action : Option Scalar → List ℕ → Action
constant_action None n = NameOf (PushConstant n)
constant_action (Some v) n = push v

-- the script's own part stands in no class and no function
abbrev pub magic_value : Note → Magic → Scalar
magic_value at magic_word.Line = scalar.Int (pos at.line)
magic_value at magic_word.Class = scalar.Str []
magic_value at magic_word.Function = scalar.Str []
magic_value at magic_word.Method = scalar.Str []

abbrev pub read_action : PlaceForm → Action
read_action form = Place (Read form)

abbrev pub leaf_action : Names → Note → Leaf → Action
leaf_action ns at (variable n) = read_action (variable_form ns n)
leaf_action ns at (int n) = push (scalar.Int n)
leaf_action ns at (string t) = push (scalar.Str t)
leaf_action ns at (name n) = constant_action (constant_of n) n
leaf_action ns at (magic m) = push (magic_value at m)

-- ---- operators

abbrev pub operator : OperatorAction → Action
operator a = Operator a

abbrev pub operate : Op → Action
operate o = operator (Operate o)

abbrev pub compare : Relation → Action
compare r = operator (Compare r)

-- none of an operator that isn't told yet
abbrev pub binary_action : Binary → Option Action
binary_action binary.Power = Some (operate op.Pow)
binary_action binary.Times = Some (operate op.Mul)
binary_action binary.Divided = Some (operate op.Div)
binary_action binary.Remainder = Some (operate op.Mod)
binary_action binary.Plus = Some (operate op.Add)
binary_action binary.Minus = Some (operate op.Sub)
binary_action binary.Concatenated = Some (operate op.Concat)
binary_action binary.ShiftedLeft = Some (operate op.Shl)
binary_action binary.ShiftedRight = Some (operate op.Shr)
binary_action binary.BitAnd = Some (operate op.And)
binary_action binary.BitXor = Some (operate op.Xor)
binary_action binary.BitOr = Some (operate op.Or)
binary_action binary.WordXor = Some (operator ExclusiveOr)
binary_action binary.Less = Some (compare relation.Less)
binary_action binary.LessEqual = Some (compare relation.LessEqual)
binary_action binary.Greater = Some (compare relation.Greater)
binary_action binary.GreaterEqual = Some (compare relation.GreaterEqual)
binary_action binary.Equal = Some (compare relation.Equal)
binary_action binary.NotEqual = Some (compare relation.NotEqual)
binary_action binary.LessGreater = Some (compare relation.NotEqual)
binary_action binary.Identical = Some (operator (Identical false))
binary_action binary.NotIdentical = Some (operator (Identical true))
binary_action binary.Compared = Some (compare relation.Compared)
binary_action binary.LogicalAnd = None
binary_action binary.LogicalOr = None
binary_action binary.Coalesced = None
binary_action binary.WordAnd = None
binary_action binary.WordOr = None

-- none of one that does nothing, or isn't told yet
abbrev pub prefix_action : Prefix → Option Action
prefix_action prefix.BitNot = Some (operator Complement)
prefix_action prefix.ToInt = Some (operator ToInt)
prefix_action prefix.ToBool = Some (operator ToBool)
prefix_action prefix.ToText = Some (operator ToText)
prefix_action prefix.Plus = Some (operator (Sign false))
prefix_action prefix.Minus = Some (operator (Sign true))
prefix_action prefix.Not = Some (operator Not)
prefix_action prefix.Print = Some (Output Print)
prefix_action prefix.Silence = None
prefix_action prefix.Clone = None
prefix_action prefix.Increment = None
prefix_action prefix.Decrement = None
prefix_action prefix.ToArray = None
prefix_action prefix.YieldFrom = None

abbrev pub is_plain : Setting → Bool
is_plain (by_value setting.Plain) = true
is_plain _ = false

-- the place to which an assignment writes, where it is told
abbrev pub assigned_form : Names → Setting → Tree Note → Option PlaceForm
assigned_form ns s p = cond (is_plain s) (place_form ns p) None

abbrev pub assign_action : PlaceForm → Action
assign_action form = Place (AssignTo form)

-- the tick of a statement
abbrev pub tick : Note → Action
tick at = Jump (Tick at.line)
