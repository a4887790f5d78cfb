-- The token of each operator.
use Rattle.php_token.specs.declared.kind.Keyword.TheVariants as word
use Rattle.php_token.specs.declared.kind.Punct.TheVariants as mark
use Rattle.php_token.specs.declared.kind.Cast.TheVariants as to
use Rattle.php_ast.specs.declared.operator.Binary.{Binary}
use Rattle.php_ast.specs.declared.operator.Binary.TheVariants as binary
use Rattle.php_ast.specs.declared.operator.Prefix.{Prefix}
use Rattle.php_ast.specs.declared.operator.Prefix.TheVariants as prefix
use Rattle.php_ast.specs.declared.operator.Count.{Count}
use Rattle.php_ast.specs.declared.operator.Count.TheVariants as count
use Rattle.php_ast.specs.declared.operator.Assign.{Assign}
use Rattle.php_ast.specs.declared.operator.Assign.TheVariants as assign
use Rattle.php_ast.specs.declared.operator.Magic.{Magic}
use Rattle.php_ast.specs.declared.operator.Magic.TheVariants as magic
use Rattle.php_ast.specs.Symbol.{Symbol, keyword, punct, cast}

abbrev pub binary_symbol : Binary → Symbol
binary_symbol binary.Power = punct mark.StarStar
binary_symbol binary.Times = punct mark.Star
binary_symbol binary.Divided = punct mark.Slash
binary_symbol binary.Remainder = punct mark.Percent
binary_symbol binary.Plus = punct mark.Plus
binary_symbol binary.Minus = punct mark.Minus
binary_symbol binary.Concatenated = punct mark.Dot
binary_symbol binary.ShiftedLeft = punct mark.ShiftLeft
binary_symbol binary.ShiftedRight = punct mark.ShiftRight
binary_symbol binary.Less = punct mark.Less
binary_symbol binary.LessEqual = punct mark.LessEqual
binary_symbol binary.Greater = punct mark.Greater
binary_symbol binary.GreaterEqual = punct mark.GreaterEqual
binary_symbol binary.Equal = punct mark.EqualEqual
binary_symbol binary.NotEqual = punct mark.NotEqual
binary_symbol binary.LessGreater = punct mark.LessGreater
binary_symbol binary.Identical = punct mark.Identical
binary_symbol binary.NotIdentical = punct mark.NotIdentical
binary_symbol binary.Compared = punct mark.Spaceship
binary_symbol binary.BitAnd = punct mark.Ampersand
binary_symbol binary.BitXor = punct mark.Caret
binary_symbol binary.BitOr = punct mark.Bar
binary_symbol binary.LogicalAnd = punct mark.AndAnd
binary_symbol binary.LogicalOr = punct mark.BarBar
binary_symbol binary.Coalesced = punct mark.QuestionQuestion
binary_symbol binary.WordAnd = keyword word.And
binary_symbol binary.WordXor = keyword word.Xor
binary_symbol binary.WordOr = keyword word.Or

abbrev pub prefix_symbol : Prefix → Symbol
prefix_symbol prefix.Clone = keyword word.Clone
prefix_symbol prefix.Increment = punct mark.PlusPlus
prefix_symbol prefix.Decrement = punct mark.MinusMinus
prefix_symbol prefix.BitNot = punct mark.Tilde
prefix_symbol prefix.Silence = punct mark.At
prefix_symbol prefix.ToInt = cast to.Int
prefix_symbol prefix.ToBool = cast to.Bool
prefix_symbol prefix.ToText = cast to.Str
prefix_symbol prefix.ToArray = cast to.Arr
prefix_symbol prefix.Plus = punct mark.Plus
prefix_symbol prefix.Minus = punct mark.Minus
prefix_symbol prefix.Not = punct mark.Bang
prefix_symbol prefix.Print = keyword word.Print
prefix_symbol prefix.YieldFrom = keyword word.YieldFrom

abbrev pub count_symbol : Count → Symbol
count_symbol count.Up = punct mark.PlusPlus
count_symbol count.Down = punct mark.MinusMinus

abbrev pub assign_symbol : Assign → Symbol
assign_symbol assign.Plain = punct mark.Assign
assign_symbol assign.Power = punct mark.PowerAssign
assign_symbol assign.Times = punct mark.StarAssign
assign_symbol assign.Divided = punct mark.SlashAssign
assign_symbol assign.Remainder = punct mark.PercentAssign
assign_symbol assign.Plus = punct mark.PlusAssign
assign_symbol assign.Minus = punct mark.MinusAssign
assign_symbol assign.Concatenated = punct mark.DotAssign
assign_symbol assign.ShiftedLeft = punct mark.ShiftLeftAssign
assign_symbol assign.ShiftedRight = punct mark.ShiftRightAssign
assign_symbol assign.BitAnd = punct mark.AmpersandAssign
assign_symbol assign.BitXor = punct mark.CaretAssign
assign_symbol assign.BitOr = punct mark.BarAssign

abbrev pub magic_symbol : Magic → Symbol
magic_symbol magic.Line = keyword word.LineNumber
magic_symbol magic.Class = keyword word.ClassName
magic_symbol magic.Function = keyword word.FunctionName
magic_symbol magic.Method = keyword word.MethodName
