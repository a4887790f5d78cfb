-- What puts symbols in front of others does so whatever those are.
use Rattle.std.proofs.Common.{◌≡◌, List, [], ◌∷◌, ◌++◌, Option, Some, None, Bool, true, false, refl, ◌∙◌, ap}
use Rattle.php_token.specs.declared.kind.Keyword.{Keyword}
use Rattle.php_token.specs.declared.kind.Keyword.TheVariants as word
use Rattle.php_token.specs.declared.kind.Punct.TheVariants as mark
use Rattle.php_ast.specs.declared.statement.SwitchForm.{SwitchForm}
use Rattle.php_ast.specs.declared.statement.SwitchForm.TheVariants as switch_form
use Rattle.php_ast.specs.Symbol as symbol
use Rattle.php_ast.specs.Symbol.{Symbol, keyword, punct}
use Rattle.php_ast.specs.expression.Tree.{Tree, Items, none, and, skip, Lead, plain, reference, spread, keyed, keyed_reference}
use Rattle.php_ast.specs.expression.Spelling.{spell, spell_items, spell_lead, comma}
use Rattle.php_ast.specs.statement.Tree.{Sequence, empty, then_also, Name, Variable, Constant, Target}
use Rattle.php_ast.specs.statement.Tree.{Statement, block, blank, inline, expression, echo, globals, statics, unset, constants, jump, throw, if_only, if_else, if_lists, if_else_lists, while, do_while, for, foreach, switch, try_catch, try_finally, declares}
use Rattle.php_ast.specs.statement.Tree.{Statements, no_statement, and_statement, ElseIfs, no_elseif, and_elseif, ElseIfLists, no_elseif_list, and_elseif_list, Body, single, list_behind_colon, Cases, no_case, and_case, Catches, no_catch, and_catch}
use Rattle.php_ast.specs.statement.Spelling.{separator, separated, spell_name, spell_dollar, spell_value, spell_variable, spell_constant, spell_optional, symbol_if, jump_word, spell_target, spell_key, spell_head, spell_label, case_end_symbol, cases_opening, cases_closing, spell_statement, spell_statements, spell_elseifs, spell_elseif_lists, spell_body, spell_cases, spell_catches}
use Rattle.php_grammar.proofs.expression.Appended.{spell_append}

pub record Appends (f : List Symbol → List Symbol) : Type 0 where
  pub at : (v w : List Symbol) → f (v ++ w) ≡ f v ++ w

pub nothing : Appends (λ w. w)
nothing = record { at = λ v w. refl }

-- a symbol before and behind, and one after the other
pub before : {f : List Symbol → List Symbol} (t : Symbol) → Appends f → Appends (λ w. t ∷ f w)
before t a = record { at = λ v w. ap (λ u. t ∷ u) (a.at v w) }

pub behind : {f : List Symbol → List Symbol} (t : Symbol) → Appends f → Appends (λ w. f (t ∷ w))
behind t a = record { at = λ v w. a.at (t ∷ v) w }

pub both : {f g : List Symbol → List Symbol} → Appends f → Appends g → Appends (λ w. f (g w))
both {f} {g} a b = record { at = λ v w. ap f (b.at v w) ∙ a.at (g v) w }

-- all of it in front of nothing
pub in_front : {f : List Symbol → List Symbol} → Appends f → (w : List Symbol) → f w ≡ f [] ++ w
in_front a w = a.at [] w

-- ---- expressions

pub expression_appends : {S : Type 0} (e : Tree S) → Appends (spell e)
expression_appends e = record { at = λ v w. spell_append e v w }

pub comma_appends : {S : Type 0} (items : Items S) → Appends (comma items)
comma_appends none = record { at = λ v w. refl }
comma_appends (and items lead e) = record { at = λ v w. refl }
comma_appends (skip items) = record { at = λ v w. refl }

lead_appends : {S : Type 0} (lead : Lead S) → Appends (spell_lead lead)
lead_appends plain = record { at = λ v w. refl }
lead_appends reference = record { at = λ v w. refl }
lead_appends spread = record { at = λ v w. refl }
lead_appends (keyed k) = record { at = λ v w. spell_append k (punct mark.DoubleArrow ∷ v) w }
lead_appends (keyed_reference k) = record { at = λ v w. spell_append k (punct mark.DoubleArrow ∷ punct mark.Ampersand ∷ v) w }

pub items_appends : {S : Type 0} (items : Items S) → Appends (spell_items items)
items_appends none = record { at = λ v w. refl }
items_appends (and items lead e) = record { at = λ v w. (both (items_appends items) (both (comma_appends items) (both (lead_appends lead) (expression_appends e)))).at v w }
items_appends (skip items) = record { at = λ v w. (both (items_appends items) (comma_appends items)).at v w }

-- ---- parts of statements

separator_appends : {A : Type 0} (between : Symbol) (xs : Sequence A) → Appends (separator between xs)
separator_appends between empty = record { at = λ v w. refl }
separator_appends between (then_also xs x) = record { at = λ v w. refl }

pub separated_appends : {A : Type 0} (between : Symbol) (each : A → List Symbol → List Symbol) → ((x : A) → Appends (each x)) → (xs : Sequence A) → Appends (separated between each xs)
separated_appends between each a empty = record { at = λ v w. refl }
separated_appends between each a (then_also xs x) = record { at = λ v w. (both (separated_appends between each a xs) (both (separator_appends between xs) (a x))).at v w }

pub name_appends : {S : Type 0} (n : Name S) → Appends (spell_name n)
name_appends n = record { at = λ v w. refl }

pub dollar_appends : {S : Type 0} (n : Name S) → Appends (spell_dollar n)
dollar_appends n = record { at = λ v w. refl }

pub value_appends : {S : Type 0} (x : Option (Tree S)) → Appends (spell_value x)
value_appends None = record { at = λ v w. refl }
value_appends (Some e) = record { at = λ v w. (before (punct mark.Assign) (expression_appends e)).at v w }

pub variable_appends : {S : Type 0} (x : Variable S) → Appends (spell_variable x)
variable_appends x = record { at = λ v w. (both (dollar_appends x.name) (value_appends x.value)).at v w }

constant_appends : {S : Type 0} (x : Constant S) → Appends (spell_constant x)
constant_appends x = record { at = λ v w. (before (symbol.name x.name.text) (before (punct mark.Assign) (expression_appends x.value))).at v w }

optional_appends : {S : Type 0} (x : Option (Tree S)) → Appends (spell_optional x)
optional_appends None = record { at = λ v w. refl }
optional_appends (Some e) = record { at = λ v w. spell_append e v w }

pub if_appends : (b : Bool) (t : Symbol) → Appends (symbol_if b t)
if_appends true t = record { at = λ v w. refl }
if_appends false t = record { at = λ v w. refl }

target_appends : {S : Type 0} (x : Target S) → Appends (spell_target x)
target_appends x = record { at = λ v w. (both (if_appends x.is_reference (punct mark.Ampersand)) (expression_appends x.place)).at v w }

key_appends : {S : Type 0} (x : Option (Target S)) → Appends (spell_key x)
key_appends None = record { at = λ v w. refl }
key_appends (Some x) = record { at = λ v w. (behind (punct mark.DoubleArrow) (target_appends x)).at v w }

head_appends : {S : Type 0} (k : Keyword) (e : Tree S) → Appends (spell_head k e)
head_appends k e = record { at = λ v w. (before (keyword k) (before (punct mark.LeftParen) (behind (punct mark.RightParen) (expression_appends e)))).at v w }

label_appends : {S : Type 0} (x : Option (Tree S)) → Appends (spell_label x)
label_appends None = record { at = λ v w. refl }
label_appends (Some e) = record { at = λ v w. (before (keyword word.Case) (expression_appends e)).at v w }

closing_appends : (form : SwitchForm) → Appends (cases_closing form)
closing_appends switch_form.Braces = record { at = λ v w. refl }
closing_appends switch_form.Colon = record { at = λ v w. refl }

-- ---- statements

mutual
  pub statement_appends : {S : Type 0} (a : Statement S) → Appends (spell_statement a)
  statement_appends (block note body) = record { at = λ v w. (before (punct mark.LeftBrace) (behind (punct mark.RightBrace) (statements_appends body))).at v w }
  statement_appends (blank note) = record { at = λ v w. refl }
  statement_appends (inline note text) = record { at = λ v w. refl }
  statement_appends (expression note e) = record { at = λ v w. spell_append e (punct mark.Semicolon ∷ v) w }
  statement_appends (echo note items) = record { at = λ v w. (before (keyword word.Echo) (behind (punct mark.Semicolon) (items_appends items))).at v w }
  statement_appends (globals note names) = record { at = λ v w. (before (keyword word.Global) (behind (punct mark.Semicolon) (separated_appends (punct mark.Comma) spell_dollar dollar_appends names))).at v w }
  statement_appends (statics note xs) = record { at = λ v w. (before (keyword word.Static) (behind (punct mark.Semicolon) (separated_appends (punct mark.Comma) spell_variable variable_appends xs))).at v w }
  statement_appends (unset note items) =
      record { at = λ v w. (before (keyword word.Unset) (before (punct mark.LeftParen) (behind (punct mark.Semicolon) (behind (punct mark.RightParen) (items_appends items))))).at v w }
  statement_appends (constants note xs) = record { at = λ v w. (before (keyword word.Const) (behind (punct mark.Semicolon) (separated_appends (punct mark.Comma) spell_constant constant_appends xs))).at v w }
  statement_appends (jump note kind x) = record { at = λ v w. (before (keyword (jump_word kind)) (behind (punct mark.Semicolon) (optional_appends x))).at v w }
  statement_appends (throw note e) = record { at = λ v w. (before (keyword word.Throw) (behind (punct mark.Semicolon) (expression_appends e))).at v w }
  statement_appends (if_only note test body parts) = record { at = λ v w. (both (head_appends word.If test) (both (statement_appends body) (elseifs_append parts))).at v w }
  statement_appends (if_else note test body parts last) =
      record { at = λ v w. (both (head_appends word.If test) (both (statement_appends body) (both (elseifs_append parts) (before (keyword word.Else) (statement_appends last))))).at v w }
  statement_appends (if_lists note test body parts) =
      record { at = λ v w. (both (head_appends word.If test) (before (punct mark.Colon) (both (statements_appends body) (behind (punct mark.Semicolon) (behind (keyword word.EndIf) (elseif_lists_append parts)))))).at v w }
  statement_appends (if_else_lists note test body parts last) =
      record {
        at = λ v w. (both (head_appends word.If test) (before (punct mark.Colon) (both (statements_appends body) (both (elseif_lists_append parts)
            (before (keyword word.Else) (before (punct mark.Colon) (behind (punct mark.Semicolon) (behind (keyword word.EndIf) (statements_appends last))))))))).at v w;
      }
  statement_appends (while note test body) = record { at = λ v w. (both (head_appends word.While test) (body_appends word.EndWhile body)).at v w }
  statement_appends (do_while note body test) =
      record { at = λ v w. (before (keyword word.Do) (both (statement_appends body) (behind (punct mark.Semicolon) (head_appends word.While test)))).at v w }
  statement_appends (for note a b c body) =
      record {
        at = λ v w. (before (keyword word.For) (before (punct mark.LeftParen) (both (items_appends a) (before (punct mark.Semicolon) (both (items_appends b) (before (punct mark.Semicolon)
            (both (items_appends c) (before (punct mark.RightParen) (body_appends word.EndFor body))))))))).at v w;
      }
  statement_appends (foreach note walked key value body) =
      record {
        at = λ v w. (before (keyword word.Foreach) (before (punct mark.LeftParen) (both (expression_appends walked) (before (keyword word.As) (both (key_appends key) (both (target_appends value)
            (before (punct mark.RightParen) (body_appends word.EndForeach body)))))))).at v w;
      }
  statement_appends (switch note e form cases) =
      record { at = λ v w. (both (head_appends word.Switch e) (before (cases_opening form) (both (cases_append cases) (closing_appends form)))).at v w }
  statement_appends (try_catch note body catches) =
      record { at = λ v w. (before (keyword word.Try) (before (punct mark.LeftBrace) (both (statements_appends body) (before (punct mark.RightBrace) (catches_append catches))))).at v w }
  statement_appends (try_finally note body catches last) =
      record {
        at = λ v w. (before (keyword word.Try) (before (punct mark.LeftBrace) (both (statements_appends body) (before (punct mark.RightBrace) (both (catches_append catches)
            (before (keyword word.Finally) (before (punct mark.LeftBrace) (behind (punct mark.RightBrace) (statements_appends last))))))))).at v w;
      }
  statement_appends (declares note n value) = record { at = λ v w. refl }

  pub statements_appends : {S : Type 0} (ss : Statements S) → Appends (spell_statements ss)
  statements_appends no_statement = record { at = λ v w. refl }
  statements_appends (and_statement ss a) = record { at = λ v w. (both (statements_appends ss) (statement_appends a)).at v w }

  elseifs_append : {S : Type 0} (parts : ElseIfs S) → Appends (spell_elseifs parts)
  elseifs_append no_elseif = record { at = λ v w. refl }
  elseifs_append (and_elseif parts test body) = record { at = λ v w. (both (elseifs_append parts) (both (head_appends word.ElseIf test) (statement_appends body))).at v w }

  elseif_lists_append : {S : Type 0} (parts : ElseIfLists S) → Appends (spell_elseif_lists parts)
  elseif_lists_append no_elseif_list = record { at = λ v w. refl }
  elseif_lists_append (and_elseif_list parts test body) =
      record { at = λ v w. (both (elseif_lists_append parts) (both (head_appends word.ElseIf test) (before (punct mark.Colon) (statements_appends body)))).at v w }

  body_appends : {S : Type 0} (k : Keyword) (body : Body S) → Appends (spell_body k body)
  body_appends k (single a) = record { at = λ v w. (statement_appends a).at v w }
  body_appends k (list_behind_colon ss) = record { at = λ v w. (before (punct mark.Colon) (behind (punct mark.Semicolon) (behind (keyword k) (statements_appends ss)))).at v w }

  cases_append : {S : Type 0} (cases : Cases S) → Appends (spell_cases cases)
  cases_append no_case = record { at = λ v w. refl }
  cases_append (and_case cases note label end ss) = record { at = λ v w. (both (cases_append cases) (both (label_appends label) (before (case_end_symbol end) (statements_appends ss)))).at v w }

  catches_append : {S : Type 0} (catches : Catches S) → Appends (spell_catches catches)
  catches_append no_catch = record { at = λ v w. refl }
  catches_append (and_catch catches classes n ss) =
      record {
        at = λ v w. (both (catches_append catches) (before (keyword word.Catch) (before (punct mark.LeftParen) (both (separated_appends (punct mark.Bar) spell_name name_appends classes)
            (both (dollar_appends n) (before (punct mark.RightParen) (before (punct mark.LeftBrace) (behind (punct mark.RightBrace) (statements_appends ss))))))))).at v w;
      }
