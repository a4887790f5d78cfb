-- The roles of a symbol: what it begins where an expression is due, and what it does behind one.
use Rattle.std.specs.Prelude.{ℕ, Bool, true, false, Option, Some, None}
use Rattle.php_token.specs.declared.kind.Keyword.{Keyword}
use Rattle.php_token.specs.declared.kind.Keyword.TheVariants as word
use Rattle.php_token.specs.declared.kind.Punct.{Punct}
use Rattle.php_token.specs.declared.kind.Punct.TheVariants as mark
use Rattle.php_token.specs.declared.kind.Cast.{Cast}
use Rattle.php_token.specs.declared.kind.Cast.TheVariants as to
use Rattle.php_ast.specs.declared.operator.Binary.{Binary}
use Rattle.php_ast.specs.declared.operator.Binary.TheVariants as binary
use Rattle.php_ast.specs.declared.operator.Prefix.{Prefix}
use Rattle.php_ast.specs.declared.operator.Prefix.TheVariants as prefix
use Rattle.php_ast.specs.declared.operator.Count.{Count}
use Rattle.php_ast.specs.declared.operator.Count.TheVariants as count
use Rattle.php_ast.specs.declared.operator.Assign.{Assign}
use Rattle.php_ast.specs.declared.operator.Assign.TheVariants as assign
use Rattle.php_ast.specs.declared.operator.Magic.TheVariants as magic
use Rattle.php_ast.specs.declared.operator.ArrayForm.TheVariants as form
use Rattle.php_ast.specs.Symbol as symbol
use Rattle.php_ast.specs.Symbol.{Symbol, keyword, punct, cast}
use Rattle.php_ast.specs.expression.Tree as tree
use Rattle.php_ast.specs.expression.Tree.{Leaf, Enclosure, parentheses, emptiness, Listing, array, is_set, Arrow, thin, colons, Member, named, reserved, held}
use Rattle.php_grammar.specs.declared.closer.Closer.{Closer}
use Rattle.php_grammar.specs.declared.closer.Closer.TheVariants as ender
use Rattle.php_ast.specs.Power.{binary_row, choice_row, instance_of_row}
use Rattle.php_ast.specs.expression.Proper.{free, select_strength, call_strength, may_name}

-- ---- at the beginning of an expression

pub data Beginning : Type 0 where
  at_leaf : Leaf → Beginning
  -- `static`, the start of a text with parts, `exit`, `new`, `yield`
  at_static : Beginning
  at_template : Beginning
  at_exit : Beginning
  at_new : Beginning
  at_yield : Beginning
  -- `(`, `empty`
  at_enclosed : Enclosure → Beginning
  -- `[`, `array`, `list`, `isset`
  at_listed : Listing → Beginning
  at_prefix : Prefix → Beginning
  at_nothing : Beginning

abbrev pub beginning_keyword : Keyword → Beginning
beginning_keyword word.Array = at_listed (array form.Array)
beginning_keyword word.List = at_listed (array form.List)
beginning_keyword word.IsSet = at_listed is_set
beginning_keyword word.Empty = at_enclosed emptiness
beginning_keyword word.Exit = at_exit
beginning_keyword word.New = at_new
beginning_keyword word.Static = at_static
beginning_keyword word.Yield = at_yield
beginning_keyword word.Clone = at_prefix prefix.Clone
beginning_keyword word.Print = at_prefix prefix.Print
beginning_keyword word.YieldFrom = at_prefix prefix.YieldFrom
beginning_keyword word.LineNumber = at_leaf (tree.magic magic.Line)
beginning_keyword word.ClassName = at_leaf (tree.magic magic.Class)
beginning_keyword word.FunctionName = at_leaf (tree.magic magic.Function)
beginning_keyword word.MethodName = at_leaf (tree.magic magic.Method)
beginning_keyword _ = at_nothing

abbrev pub beginning_punct : Punct → Beginning
beginning_punct mark.LeftParen = at_enclosed parentheses
beginning_punct mark.LeftBracket = at_listed (array form.Brackets)
beginning_punct mark.PlusPlus = at_prefix prefix.Increment
beginning_punct mark.MinusMinus = at_prefix prefix.Decrement
beginning_punct mark.Tilde = at_prefix prefix.BitNot
beginning_punct mark.At = at_prefix prefix.Silence
beginning_punct mark.Plus = at_prefix prefix.Plus
beginning_punct mark.Minus = at_prefix prefix.Minus
beginning_punct mark.Bang = at_prefix prefix.Not
beginning_punct _ = at_nothing

abbrev pub beginning_cast : Cast → Beginning
beginning_cast to.Int = at_prefix prefix.ToInt
beginning_cast to.Bool = at_prefix prefix.ToBool
beginning_cast to.Str = at_prefix prefix.ToText
beginning_cast to.Arr = at_prefix prefix.ToArray
beginning_cast to.Other = at_nothing

abbrev pub beginning : Symbol → Beginning
beginning (symbol.variable text) = at_leaf (tree.variable text)
beginning (symbol.int n) = at_leaf (tree.int n)
beginning (symbol.string text) = at_leaf (tree.string text)
beginning (symbol.name text) = at_leaf (tree.name text)
beginning symbol.quote = at_template
beginning (keyword k) = beginning_keyword k
beginning (punct p) = beginning_punct p
beginning (cast c) = beginning_cast c
beginning _ = at_nothing

-- ---- behind an expression

-- what goes on with an expression
pub data Draw : Type 0 where
  by_binary : Binary → Draw
  -- `instanceof`, `?`
  by_instance_of : Draw
  by_choice : Draw
  by_assign : Assign → Draw
  by_count : Count → Draw
  -- `(`, `[`, `->`, `::`
  by_call : Draw
  by_index : Draw
  by_select : Arrow → Draw

pub data Continuation : Type 0 where
  draws : Draw → Continuation
  closes : Closer → Continuation
  neither : Continuation

abbrev pub continuation_keyword : Keyword → Continuation
continuation_keyword word.InstanceOf = draws by_instance_of
continuation_keyword word.And = draws (by_binary binary.WordAnd)
continuation_keyword word.Xor = draws (by_binary binary.WordXor)
continuation_keyword word.Or = draws (by_binary binary.WordOr)
continuation_keyword _ = neither

abbrev pub continuation_punct : Punct → Continuation
continuation_punct mark.LeftBracket = draws by_index
continuation_punct mark.RightBracket = closes ender.Bracket
continuation_punct mark.LeftParen = draws by_call
continuation_punct mark.RightParen = closes ender.Paren
continuation_punct mark.RightBrace = closes ender.Brace
continuation_punct mark.Dot = draws (by_binary binary.Concatenated)
continuation_punct mark.Arrow = draws (by_select thin)
continuation_punct mark.PlusPlus = draws (by_count count.Up)
continuation_punct mark.MinusMinus = draws (by_count count.Down)
continuation_punct mark.StarStar = draws (by_binary binary.Power)
continuation_punct mark.Star = draws (by_binary binary.Times)
continuation_punct mark.Plus = draws (by_binary binary.Plus)
continuation_punct mark.Minus = draws (by_binary binary.Minus)
continuation_punct mark.Slash = draws (by_binary binary.Divided)
continuation_punct mark.Percent = draws (by_binary binary.Remainder)
continuation_punct mark.ShiftLeft = draws (by_binary binary.ShiftedLeft)
continuation_punct mark.ShiftRight = draws (by_binary binary.ShiftedRight)
continuation_punct mark.Less = draws (by_binary binary.Less)
continuation_punct mark.Greater = draws (by_binary binary.Greater)
continuation_punct mark.LessEqual = draws (by_binary binary.LessEqual)
continuation_punct mark.GreaterEqual = draws (by_binary binary.GreaterEqual)
continuation_punct mark.EqualEqual = draws (by_binary binary.Equal)
continuation_punct mark.Identical = draws (by_binary binary.Identical)
continuation_punct mark.NotEqual = draws (by_binary binary.NotEqual)
continuation_punct mark.NotIdentical = draws (by_binary binary.NotIdentical)
continuation_punct mark.LessGreater = draws (by_binary binary.LessGreater)
continuation_punct mark.Spaceship = draws (by_binary binary.Compared)
continuation_punct mark.Caret = draws (by_binary binary.BitXor)
continuation_punct mark.Bar = draws (by_binary binary.BitOr)
continuation_punct mark.Ampersand = draws (by_binary binary.BitAnd)
continuation_punct mark.AndAnd = draws (by_binary binary.LogicalAnd)
continuation_punct mark.BarBar = draws (by_binary binary.LogicalOr)
continuation_punct mark.Question = draws by_choice
continuation_punct mark.Colon = closes ender.Colon
continuation_punct mark.Semicolon = closes ender.Semicolon
continuation_punct mark.Assign = draws (by_assign assign.Plain)
continuation_punct mark.PowerAssign = draws (by_assign assign.Power)
continuation_punct mark.StarAssign = draws (by_assign assign.Times)
continuation_punct mark.SlashAssign = draws (by_assign assign.Divided)
continuation_punct mark.PercentAssign = draws (by_assign assign.Remainder)
continuation_punct mark.PlusAssign = draws (by_assign assign.Plus)
continuation_punct mark.MinusAssign = draws (by_assign assign.Minus)
continuation_punct mark.DotAssign = draws (by_assign assign.Concatenated)
continuation_punct mark.ShiftLeftAssign = draws (by_assign assign.ShiftedLeft)
continuation_punct mark.ShiftRightAssign = draws (by_assign assign.ShiftedRight)
continuation_punct mark.AmpersandAssign = draws (by_assign assign.BitAnd)
continuation_punct mark.CaretAssign = draws (by_assign assign.BitXor)
continuation_punct mark.BarAssign = draws (by_assign assign.BitOr)
continuation_punct mark.Comma = closes ender.Comma
continuation_punct mark.QuestionQuestion = draws (by_binary binary.Coalesced)
continuation_punct mark.DoubleArrow = closes ender.DoubleArrow
continuation_punct mark.DoubleColon = draws (by_select colons)
continuation_punct _ = neither

abbrev pub continuation : Symbol → Continuation
continuation (keyword k) = continuation_keyword k
continuation (punct p) = continuation_punct p
continuation symbol.end_part = closes ender.EndPart
continuation _ = neither

-- How tightly a symbol draws what stands before it: an operator with its power, the others in the order in
-- which operands are open to them. What ends an expression draws nothing.
abbrev pub draw_strength : Draw → ℕ
draw_strength (by_binary op) = (binary_row op).power
draw_strength by_instance_of = instance_of_row.power
draw_strength by_choice = choice_row.power
draw_strength (by_assign op) = free
draw_strength (by_count c) = free
draw_strength by_index = select_strength
draw_strength (by_select arrow) = select_strength
draw_strength by_call = call_strength

abbrev pub strength_of : Continuation → ℕ
strength_of (draws d) = draw_strength d
strength_of _ = 0

abbrev pub strength : Symbol → ℕ
strength t = strength_of (continuation t)

abbrev pub is_arrow : Continuation → Bool
is_arrow (closes ender.DoubleArrow) = true
is_arrow _ = false

-- A `yield` stands alone in front of these.
abbrev pub ends_yield : Continuation → Bool
ends_yield (closes ender.Paren) = true
ends_yield (closes ender.Semicolon) = true
ends_yield (closes ender.Comma) = true
ends_yield (closes ender.Bracket) = true
ends_yield _ = false

-- ---- behind `->` and `::`

abbrev pub reserved_if : Bool → Keyword → Option (Member (Unit {0}))
reserved_if true k = Some (reserved tt k)
reserved_if false k = None

abbrev pub word_of : Symbol → Option (Member (Unit {0}))
word_of (symbol.name text) = Some (named tt text)
word_of (keyword k) = reserved_if (may_name k) k
word_of _ = None

abbrev pub member_of : Symbol → Option (Member (Unit {0}))
member_of (symbol.variable text) = Some (held tt text)
member_of t = word_of t

-- ---- where an item of a list is due

pub data Mark : Type 0 where
  -- `&`, `...`
  refers : Mark
  spreads : Mark
  ends_item : Closer → Mark
  begins : Mark

abbrev pub mark_of : Continuation → Mark
mark_of (closes c) = ends_item c
mark_of (draws (by_binary binary.BitAnd)) = refers
mark_of _ = begins

abbrev pub item_mark : Symbol → Mark
item_mark (punct mark.Ellipsis) = spreads
item_mark t = mark_of (continuation t)

abbrev pub is_ampersand : Symbol → Bool
is_ampersand (punct mark.Ampersand) = true
is_ampersand _ = false

abbrev pub is_paren : Symbol → Bool
is_paren (punct mark.LeftParen) = true
is_paren _ = false

abbrev pub is_right_paren : Symbol → Bool
is_right_paren (punct mark.RightParen) = true
is_right_paren _ = false

abbrev pub is_right_bracket : Symbol → Bool
is_right_bracket (punct mark.RightBracket) = true
is_right_bracket _ = false

abbrev pub is_left_brace : Symbol → Bool
is_left_brace (punct mark.LeftBrace) = true
is_left_brace _ = false

abbrev pub is_colon : Symbol → Bool
is_colon (punct mark.Colon) = true
is_colon _ = false
