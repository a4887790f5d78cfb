-- From the roles of tokens in the program to those of the grammar of statements.
use Rattle.std.specs.Prelude.{◌≡◌, ◌≢◌, ℕ, ℤ, Bool, true, false, Option, Some, None, List, [], ◌∷◌}
use Rattle.php_token.specs.Token.{Token}
use Rattle.php_ast.specs.Symbol as symbol
use Rattle.php_ast.specs.Symbol.{Symbol}
use Rattle.php_ast.specs.statement.Tree.{Jump, returning, breaking, continuing}
use Rattle.php_grammar.specs.statement.Role.{StatementBeginning, at_block, at_blank, at_inline, at_echo, at_globals, at_statics, at_unset, at_constants, at_jump, at_throw, at_if, at_while, at_do, at_for, at_foreach, at_switch, at_try, at_declare, at_expression, statement_beginning, Behind, by_else, by_elseif, by_while, by_case, by_default, by_brace, by_endif, by_endwhile, by_endfor, by_endforeach, by_endswitch, by_catch, by_finally, by_other, behind, Ending, left_paren, right_paren, left_brace, fixed_colon, fixed_semicolon, fixed_assign}
use Rattle.php_grammar.specs.statement.Role as role
use Rattle.php_grammar.specs.statement.Laws.{head_behind}
use Rattle.php_reader.specs.Seen.{rest, Shows}
use Rattle.php_parse_simple.specs.declared.read.Number.{Number}
use Rattle.php_parse_simple.specs.declared.role.JumpKind.{JumpKind}
use Rattle.php_parse_simple.specs.declared.role.JumpKind.TheVariants as jump_kind
use Rattle.php_parse_simple.specs.declared.role.Begun.{Begun}
use Rattle.php_parse_simple.specs.declared.role.Begun.TheVariants as begun
use Rattle.php_parse_simple.specs.declared.role.Fixed.{Fixed}
use Rattle.php_parse_simple.specs.declared.role.Fixed.TheVariants as fixed
use Rattle.php_parse_simple.specs.declared.role.After.{After}
use Rattle.php_parse_simple.specs.declared.role.After.TheVariants as after

abbrev pub jump_view : JumpKind → Jump
jump_view jump_kind.Return = returning
jump_view jump_kind.Break = breaking
jump_view jump_kind.Continue = continuing

-- of a token with this text
abbrev pub begun_view : Begun → List ℕ → StatementBeginning
begun_view begun.Block text = at_block
begun_view begun.Blank text = at_blank
begun_view begun.Inline text = at_inline text
begun_view begun.Echo text = at_echo
begun_view begun.Globals text = at_globals
begun_view begun.Statics text = at_statics
begun_view begun.Unset text = at_unset
begun_view begun.Constants text = at_constants
begun_view (begun.Jump kind) text = at_jump (jump_view kind)
begun_view begun.Throw text = at_throw
begun_view begun.If text = at_if
begun_view begun.While text = at_while
begun_view begun.Do text = at_do
begun_view begun.For text = at_for
begun_view begun.Foreach text = at_foreach
begun_view begun.Switch text = at_switch
begun_view begun.Try text = at_try
begun_view begun.Declare text = at_declare
begun_view begun.Expression text = at_expression

-- what the first of some symbols begins; at the end it is as if an expression were due
abbrev pub head_begun : List Symbol → StatementBeginning
head_begun [] = at_expression
head_begun (t ∷ w) = statement_beginning t

abbrev pub StartsStatement : List Token → ℕ → StatementBeginning → Type 0
StartsStatement tokens at at_expression = head_begun (rest tokens at) ≡ at_expression
StartsStatement tokens at x = Shows statement_beginning tokens at x

abbrev pub after_view : After → Behind
after_view after.Else = by_else
after_view after.ElseIf = by_elseif
after_view after.While = by_while
after_view after.Case = by_case
after_view after.Default = by_default
after_view after.Brace = by_brace
after_view after.EndIf = by_endif
after_view after.EndWhile = by_endwhile
after_view after.EndFor = by_endfor
after_view after.EndForeach = by_endforeach
after_view after.EndSwitch = by_endswitch
after_view after.Catch = by_catch
after_view after.Finally = by_finally
after_view after.Other = by_other

abbrev pub StandsBehind : List Token → ℕ → Behind → Type 0
StandsBehind tokens at by_other = head_behind (rest tokens at) ≡ by_other
StandsBehind tokens at x = Shows behind tokens at x

-- whether a symbol ends a list of statements, and so begins none of it
abbrev pub ends_list : Behind → Bool
ends_list by_while = false
ends_list by_other = false
ends_list _ = true

abbrev pub fixed_view : Fixed → role.Fixed
fixed_view fixed.LeftParen = left_paren
fixed_view fixed.RightParen = right_paren
fixed_view fixed.LeftBrace = left_brace
fixed_view fixed.Colon = fixed_colon
fixed_view fixed.Semicolon = fixed_semicolon
fixed_view fixed.Assign = fixed_assign

abbrev pub is_variable_symbol : Symbol → Bool
is_variable_symbol (symbol.variable text) = true
is_variable_symbol _ = false

-- the value of an integer
abbrev pub int_value : Symbol → Option ℤ
int_value (symbol.int value) = Some value
int_value _ = None

-- whether it is this one
abbrev pub IsEnding : Ending → Ending → Bool → Type 0
IsEnding x e true = x ≡ e
IsEnding x e false = x ≢ e

abbrev pub head_int : List Symbol → Option ℤ
head_int [] = None
head_int (t ∷ w) = int_value t

abbrev pub ShowsInt : List Token → ℕ → Option Number → Type 0
ShowsInt tokens at None = head_int (rest tokens at) ≡ None
ShowsInt tokens at (Some n) = Shows int_value tokens at (Some n.value)
