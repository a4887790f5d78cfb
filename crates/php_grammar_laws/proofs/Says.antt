-- What the role of a symbol among statements says of the symbol.
use Rattle.std.proofs.Common.{◌≡◌, ℕ, Bool, true, false, Option, Some, None, List, refl}
use Rattle.php_token.specs.declared.kind.Keyword.{Keyword}
use Rattle.php_token.specs.declared.kind.Keyword.TheVariants as word
use Rattle.php_token.specs.declared.kind.Punct.{Punct}
use Rattle.php_token.specs.declared.kind.Punct.TheVariants as mark
use Rattle.php_ast.specs.Symbol as symbol
use Rattle.php_ast.specs.Symbol.{Symbol, keyword, punct}
use Rattle.php_ast.specs.statement.Spelling.{jump_word}
use Rattle.php_grammar.specs.expression.Role.{Continuation, draws, closes, neither, continuation}
use Rattle.php_grammar.specs.statement.Role.{StatementBeginning, at_block, at_blank, at_inline, at_echo, at_globals, at_statics, at_unset, at_constants, at_jump, at_throw, at_if, at_while, at_do, at_for, at_foreach, at_switch, at_try, at_declare, at_expression, statement_keyword, statement_punct, statement_beginning, Behind, by_else, by_elseif, by_while, by_case, by_default, by_brace, by_endif, by_endwhile, by_endfor, by_endforeach, by_endswitch, by_catch, by_finally, by_other, behind_keyword, behind_punct, behind, Ending, closer, as_word, no_ending, ending_of, ending, Fixed, left_paren, right_paren, left_brace, fixed_colon, fixed_semicolon, fixed_assign, fixed_symbol, is_fixed, is_semicolon, is_assign, is_right_brace, is_bar, name_text, variable_text}
use Rattle.php_grammar.proofs.expression.Roles.{closer_symbol, Says, continuation_says, TestSays, paren_says, right_paren_says, left_brace_says, colon_says}

-- ---- beginnings

abbrev pub StatementSays : StatementBeginning → Symbol → Type 0
StatementSays at_block t = t ≡ punct mark.LeftBrace
StatementSays at_blank t = t ≡ punct mark.Semicolon
StatementSays (at_inline text) t = t ≡ symbol.inline text
StatementSays at_echo t = t ≡ keyword word.Echo
StatementSays at_globals t = t ≡ keyword word.Global
StatementSays at_statics t = t ≡ keyword word.Static
StatementSays at_unset t = t ≡ keyword word.Unset
StatementSays at_constants t = t ≡ keyword word.Const
StatementSays (at_jump kind) t = t ≡ keyword (jump_word kind)
StatementSays at_throw t = t ≡ keyword word.Throw
StatementSays at_if t = t ≡ keyword word.If
StatementSays at_while t = t ≡ keyword word.While
StatementSays at_do t = t ≡ keyword word.Do
StatementSays at_for t = t ≡ keyword word.For
StatementSays at_foreach t = t ≡ keyword word.Foreach
StatementSays at_switch t = t ≡ keyword word.Switch
StatementSays at_try t = t ≡ keyword word.Try
StatementSays at_declare t = t ≡ keyword word.Declare
StatementSays at_expression t = Unit {0}

statement_keyword_says : (k : Keyword) → StatementSays (statement_keyword k) (keyword k)
statement_keyword_says word.Echo = refl
statement_keyword_says word.Global = refl
statement_keyword_says word.Static = refl
statement_keyword_says word.Unset = refl
statement_keyword_says word.Const = refl
statement_keyword_says word.Return = refl
statement_keyword_says word.Break = refl
statement_keyword_says word.Continue = refl
statement_keyword_says word.Throw = refl
statement_keyword_says word.If = refl
statement_keyword_says word.While = refl
statement_keyword_says word.Do = refl
statement_keyword_says word.For = refl
statement_keyword_says word.Foreach = refl
statement_keyword_says word.Switch = refl
statement_keyword_says word.Try = refl
statement_keyword_says word.Declare = refl
statement_keyword_says _ = tt

statement_punct_says : (p : Punct) → StatementSays (statement_punct p) (punct p)
statement_punct_says mark.LeftBrace = refl
statement_punct_says mark.Semicolon = refl
statement_punct_says _ = tt

pub statement_says : (t : Symbol) → StatementSays (statement_beginning t) t
statement_says (symbol.inline text) = refl
statement_says (keyword k) = statement_keyword_says k
statement_says (punct p) = statement_punct_says p
statement_says _ = tt

-- ---- behind a statement

abbrev pub BehindSays : Behind → Symbol → Type 0
BehindSays by_else t = t ≡ keyword word.Else
BehindSays by_elseif t = t ≡ keyword word.ElseIf
BehindSays by_while t = t ≡ keyword word.While
BehindSays by_case t = t ≡ keyword word.Case
BehindSays by_default t = t ≡ keyword word.Default
BehindSays by_brace t = t ≡ punct mark.RightBrace
BehindSays by_endif t = t ≡ keyword word.EndIf
BehindSays by_endwhile t = t ≡ keyword word.EndWhile
BehindSays by_endfor t = t ≡ keyword word.EndFor
BehindSays by_endforeach t = t ≡ keyword word.EndForeach
BehindSays by_endswitch t = t ≡ keyword word.EndSwitch
BehindSays by_catch t = t ≡ keyword word.Catch
BehindSays by_finally t = t ≡ keyword word.Finally
BehindSays by_other t = Unit {0}

behind_keyword_says : (k : Keyword) → BehindSays (behind_keyword k) (keyword k)
behind_keyword_says word.Else = refl
behind_keyword_says word.ElseIf = refl
behind_keyword_says word.While = refl
behind_keyword_says word.Case = refl
behind_keyword_says word.Default = refl
behind_keyword_says word.EndIf = refl
behind_keyword_says word.EndWhile = refl
behind_keyword_says word.EndFor = refl
behind_keyword_says word.EndForeach = refl
behind_keyword_says word.EndSwitch = refl
behind_keyword_says word.Catch = refl
behind_keyword_says word.Finally = refl
behind_keyword_says _ = tt

behind_punct_says : (p : Punct) → BehindSays (behind_punct p) (punct p)
behind_punct_says mark.RightBrace = refl
behind_punct_says _ = tt

pub behind_says : (t : Symbol) → BehindSays (behind t) t
behind_says (keyword k) = behind_keyword_says k
behind_says (punct p) = behind_punct_says p
behind_says _ = tt

-- ---- behind an expression

abbrev pub EndingSays : Ending → Symbol → Type 0
EndingSays (closer c) t = t ≡ closer_symbol c
EndingSays as_word t = t ≡ keyword word.As
EndingSays no_ending t = Unit {0}

ending_of_says : (x : Continuation) (t : Symbol) → Says x t → EndingSays (ending_of x) t
ending_of_says (draws d) t h = tt
ending_of_says (closes c) t h = h
ending_of_says neither t h = tt

ending_keyword_says : (k : Keyword) → EndingSays (ending (keyword k)) (keyword k)
ending_keyword_says word.As = refl
ending_keyword_says _ = tt

pub ending_says : (t : Symbol) → EndingSays (ending t) t
ending_says (keyword k) = ending_keyword_says k
ending_says (punct p) = ending_of_says (continuation (punct p)) (punct p) (continuation_says (punct p))
ending_says symbol.end_part = refl
ending_says _ = tt

-- ---- tests of one symbol

semicolon_punct : (p : Punct) → TestSays (is_semicolon (punct p)) (punct p) (punct mark.Semicolon)
semicolon_punct mark.Semicolon = refl
semicolon_punct _ = tt

pub semicolon_says : (t : Symbol) → TestSays (is_semicolon t) t (punct mark.Semicolon)
semicolon_says (punct p) = semicolon_punct p
semicolon_says _ = tt

assign_punct : (p : Punct) → TestSays (is_assign (punct p)) (punct p) (punct mark.Assign)
assign_punct mark.Assign = refl
assign_punct _ = tt

pub assign_says : (t : Symbol) → TestSays (is_assign t) t (punct mark.Assign)
assign_says (punct p) = assign_punct p
assign_says _ = tt

right_brace_punct : (p : Punct) → TestSays (is_right_brace (punct p)) (punct p) (punct mark.RightBrace)
right_brace_punct mark.RightBrace = refl
right_brace_punct _ = tt

pub right_brace_says : (t : Symbol) → TestSays (is_right_brace t) t (punct mark.RightBrace)
right_brace_says (punct p) = right_brace_punct p
right_brace_says _ = tt

bar_punct : (p : Punct) → TestSays (is_bar (punct p)) (punct p) (punct mark.Bar)
bar_punct mark.Bar = refl
bar_punct _ = tt

pub bar_says : (t : Symbol) → TestSays (is_bar t) t (punct mark.Bar)
bar_says (punct p) = bar_punct p
bar_says _ = tt

pub fixed_says : (x : Fixed) (t : Symbol) → TestSays (is_fixed x t) t (fixed_symbol x)
fixed_says left_paren t = paren_says t
fixed_says right_paren t = right_paren_says t
fixed_says left_brace t = left_brace_says t
fixed_says fixed_colon t = colon_says t
fixed_says fixed_semicolon t = semicolon_says t
fixed_says fixed_assign t = assign_says t

pub test_is : (b : Bool) (t x : Symbol) → TestSays b t x → b ≡ true → t ≡ x
test_is true t x h e = h
test_is false t x h e = cc

-- ---- names

abbrev pub NameSays : Option (List ℕ) → Symbol → Type 0
NameSays (Some text) t = t ≡ symbol.name text
NameSays None t = Unit {0}

pub name_says : (t : Symbol) → NameSays (name_text t) t
name_says (symbol.name text) = refl
name_says _ = tt

abbrev pub VariableSays : Option (List ℕ) → Symbol → Type 0
VariableSays (Some text) t = t ≡ symbol.variable text
VariableSays None t = Unit {0}

pub variable_says : (t : Symbol) → VariableSays (variable_text t) t
variable_says (symbol.variable text) = refl
variable_says _ = tt
