-- The table of powers: how tightly each operator binds. A higher power binds tighter. The powers are
-- even, but for those of `print` and `yield`, between which no other operator stands; so there is room for
-- the least power above one.
use Rattle.std.specs.Prelude.{ℕ, Bool, true, false}
use Rattle.php_ast.specs.declared.operator.Binary.{Binary}
use Rattle.php_ast.specs.declared.operator.Binary.TheVariants as binary
use Rattle.php_ast.specs.declared.operator.Prefix.{Prefix}
use Rattle.php_ast.specs.declared.operator.Prefix.TheVariants as prefix
use Rattle.php_ast.specs.declared.power.Grouping.{Grouping}
use Rattle.php_ast.specs.declared.power.Grouping.TheVariants.{ToLeft, ToRight, Ungrouped}
use Rattle.php_ast.specs.declared.power.Row.{Row}

abbrev pub row : ℕ → Grouping → Row
row power grouping = record { power = power; grouping = grouping }

abbrev pub is_left : Grouping → Bool
is_left ToLeft = true
is_left _ = false

abbrev pub binary_row : Binary → Row
binary_row binary.Power = row 40 ToRight
binary_row binary.Times = row 32 ToLeft
binary_row binary.Divided = row 32 ToLeft
binary_row binary.Remainder = row 32 ToLeft
binary_row binary.Plus = row 30 ToLeft
binary_row binary.Minus = row 30 ToLeft
binary_row binary.Concatenated = row 30 ToLeft
binary_row binary.ShiftedLeft = row 28 ToLeft
binary_row binary.ShiftedRight = row 28 ToLeft
binary_row binary.Less = row 26 Ungrouped
binary_row binary.LessEqual = row 26 Ungrouped
binary_row binary.Greater = row 26 Ungrouped
binary_row binary.GreaterEqual = row 26 Ungrouped
binary_row binary.Equal = row 24 Ungrouped
binary_row binary.NotEqual = row 24 Ungrouped
binary_row binary.LessGreater = row 24 Ungrouped
binary_row binary.Identical = row 24 Ungrouped
binary_row binary.NotIdentical = row 24 Ungrouped
binary_row binary.Compared = row 24 Ungrouped
binary_row binary.BitAnd = row 22 ToLeft
binary_row binary.BitXor = row 20 ToLeft
binary_row binary.BitOr = row 18 ToLeft
binary_row binary.LogicalAnd = row 16 ToLeft
binary_row binary.LogicalOr = row 14 ToLeft
binary_row binary.Coalesced = row 12 ToRight
binary_row binary.WordAnd = row 6 ToLeft
binary_row binary.WordXor = row 4 ToLeft
binary_row binary.WordOr = row 2 ToLeft

-- `? :` and `?:`
abbrev pub choice_row : Row
choice_row = row 10 ToLeft

abbrev pub instance_of_row : Row
instance_of_row = row 36 Ungrouped

-- `=` and the operators with `=`
abbrev pub assign_row : Row
assign_row = row 8 ToRight

-- the power of `yield` with a value
abbrev pub yield_power : ℕ
yield_power = 7

abbrev pub prefix_power : Prefix → ℕ
prefix_power prefix.Clone = 42
prefix_power prefix.Increment = 38
prefix_power prefix.Decrement = 38
prefix_power prefix.BitNot = 38
prefix_power prefix.Silence = 38
prefix_power prefix.ToInt = 38
prefix_power prefix.ToBool = 38
prefix_power prefix.ToText = 38
prefix_power prefix.ToArray = 38
prefix_power prefix.Plus = 38
prefix_power prefix.Minus = 38
prefix_power prefix.Not = 34
prefix_power prefix.Print = 7
prefix_power prefix.YieldFrom = 7
