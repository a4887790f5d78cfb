-- The roles of a symbol among statements: what it begins where a statement is due, what it does behind one, and how
-- it ends an expression inside one.
use Rattle.std.specs.Prelude.{ℕ, Bool, true, false, Option, Some, None, List}
use Rattle.php_token.specs.declared.kind.Keyword.{Keyword}
use Rattle.php_token.specs.declared.kind.Keyword.TheVariants as word
use Rattle.php_token.specs.declared.kind.Punct.{Punct}
use Rattle.php_token.specs.declared.kind.Punct.TheVariants as mark
use Rattle.php_ast.specs.Symbol as symbol
use Rattle.php_ast.specs.Symbol.{Symbol, keyword, punct}
use Rattle.php_ast.specs.statement.Tree.{Jump, returning, breaking, continuing}
use Rattle.php_grammar.specs.declared.closer.Closer.{Closer}
use Rattle.php_grammar.specs.expression.Role.{Continuation, closes, continuation, is_paren, is_right_paren, is_left_brace, is_colon}

-- ---- where a statement is due

pub data StatementBeginning : Type 0 where
  -- `{`, `;`, bytes outside the tags
  at_block : StatementBeginning
  at_blank : StatementBeginning
  at_inline : List ℕ → StatementBeginning
  -- the word of a form
  at_echo : StatementBeginning
  at_globals : StatementBeginning
  at_statics : StatementBeginning
  at_unset : StatementBeginning
  at_constants : StatementBeginning
  at_jump : Jump → StatementBeginning
  at_throw : StatementBeginning
  at_if : StatementBeginning
  at_while : StatementBeginning
  at_do : StatementBeginning
  at_for : StatementBeginning
  at_foreach : StatementBeginning
  at_switch : StatementBeginning
  at_try : StatementBeginning
  at_declare : StatementBeginning
  -- anything else, which begins an expression or nothing
  at_expression : StatementBeginning

abbrev pub statement_keyword : Keyword → StatementBeginning
statement_keyword word.Echo = at_echo
statement_keyword word.Global = at_globals
statement_keyword word.Static = at_statics
statement_keyword word.Unset = at_unset
statement_keyword word.Const = at_constants
statement_keyword word.Return = at_jump returning
statement_keyword word.Break = at_jump breaking
statement_keyword word.Continue = at_jump continuing
statement_keyword word.Throw = at_throw
statement_keyword word.If = at_if
statement_keyword word.While = at_while
statement_keyword word.Do = at_do
statement_keyword word.For = at_for
statement_keyword word.Foreach = at_foreach
statement_keyword word.Switch = at_switch
statement_keyword word.Try = at_try
statement_keyword word.Declare = at_declare
statement_keyword _ = at_expression

abbrev pub statement_punct : Punct → StatementBeginning
statement_punct mark.LeftBrace = at_block
statement_punct mark.Semicolon = at_blank
statement_punct _ = at_expression

abbrev pub statement_beginning : Symbol → StatementBeginning
statement_beginning (symbol.inline text) = at_inline text
statement_beginning (keyword k) = statement_keyword k
statement_beginning (punct p) = statement_punct p
statement_beginning _ = at_expression

-- ---- behind a statement

-- A word that goes on with the form around a statement, or a token that ends the list in which it stands.
pub data Behind : Type 0 where
  by_else : Behind
  by_elseif : Behind
  by_while : Behind
  by_case : Behind
  by_default : Behind
  by_brace : Behind
  by_endif : Behind
  by_endwhile : Behind
  by_endfor : Behind
  by_endforeach : Behind
  by_endswitch : Behind
  by_catch : Behind
  by_finally : Behind
  by_other : Behind

abbrev pub behind_keyword : Keyword → Behind
behind_keyword word.Else = by_else
behind_keyword word.ElseIf = by_elseif
behind_keyword word.While = by_while
behind_keyword word.Case = by_case
behind_keyword word.Default = by_default
behind_keyword word.EndIf = by_endif
behind_keyword word.EndWhile = by_endwhile
behind_keyword word.EndFor = by_endfor
behind_keyword word.EndForeach = by_endforeach
behind_keyword word.EndSwitch = by_endswitch
behind_keyword word.Catch = by_catch
behind_keyword word.Finally = by_finally
behind_keyword _ = by_other

abbrev pub behind_punct : Punct → Behind
behind_punct mark.RightBrace = by_brace
behind_punct _ = by_other

abbrev pub behind : Symbol → Behind
behind (keyword k) = behind_keyword k
behind (punct p) = behind_punct p
behind _ = by_other

-- the strength of `else` and `elseif`
abbrev pub else_strength : ℕ
else_strength = 1

-- How much a symbol leaves open of the bodies before it: an `else` or `elseif` leaves an `if` open that can take it, and
-- anything else ends each body up to the list around them, or to a `do`.
abbrev pub body_strength : Behind → ℕ
body_strength by_else = else_strength
body_strength by_elseif = else_strength
body_strength _ = 0

-- whether the symbol stands outside the list that it ends, as every token of a colon list does
abbrev pub ends_outside : Behind → Bool
ends_outside by_else = true
ends_outside by_elseif = true
ends_outside by_endif = true
ends_outside by_endwhile = true
ends_outside by_endfor = true
ends_outside by_endforeach = true
ends_outside by_endswitch = true
ends_outside _ = false

-- ---- behind an expression in a statement

pub data Ending : Type 0 where
  closer : Closer → Ending
  -- `as`
  as_word : Ending
  no_ending : Ending

abbrev pub ending_of : Continuation → Ending
ending_of (closes c) = closer c
ending_of _ = no_ending

abbrev pub ending : Symbol → Ending
ending (keyword word.As) = as_word
ending t = ending_of (continuation t)

-- ---- fixed tokens

-- a token that is due whatever else was read
pub data Fixed : Type 0 where
  left_paren : Fixed
  right_paren : Fixed
  left_brace : Fixed
  fixed_colon : Fixed
  fixed_semicolon : Fixed
  fixed_assign : Fixed

abbrev pub fixed_symbol : Fixed → Symbol
fixed_symbol left_paren = punct mark.LeftParen
fixed_symbol right_paren = punct mark.RightParen
fixed_symbol left_brace = punct mark.LeftBrace
fixed_symbol fixed_colon = punct mark.Colon
fixed_symbol fixed_semicolon = punct mark.Semicolon
fixed_symbol fixed_assign = punct mark.Assign

abbrev pub is_semicolon : Symbol → Bool
is_semicolon (punct mark.Semicolon) = true
is_semicolon _ = false

abbrev pub is_assign : Symbol → Bool
is_assign (punct mark.Assign) = true
is_assign _ = false

abbrev pub is_right_brace : Symbol → Bool
is_right_brace (punct mark.RightBrace) = true
is_right_brace _ = false

abbrev pub is_bar : Symbol → Bool
is_bar (punct mark.Bar) = true
is_bar _ = false

abbrev pub is_fixed : Fixed → Symbol → Bool
is_fixed left_paren t = is_paren t
is_fixed right_paren t = is_right_paren t
is_fixed left_brace t = is_left_brace t
is_fixed fixed_colon t = is_colon t
is_fixed fixed_semicolon t = is_semicolon t
is_fixed fixed_assign t = is_assign t

-- ---- names

abbrev pub name_text : Symbol → Option (List ℕ)
name_text (symbol.name text) = Some text
name_text _ = None

abbrev pub variable_text : Symbol → Option (List ℕ)
variable_text (symbol.variable text) = Some text
variable_text _ = None
