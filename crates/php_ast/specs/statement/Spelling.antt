-- The spelling of a statement, in front of what follows it.
use Rattle.std.specs.Prelude.{Bool, true, false, Option, Some, None, List, ◌∷◌}
use Rattle.php_token.specs.declared.kind.Keyword.{Keyword}
use Rattle.php_token.specs.declared.kind.Keyword.TheVariants as word
use Rattle.php_token.specs.declared.kind.Punct.TheVariants as mark
use Rattle.php_ast.specs.declared.statement.SwitchForm.{SwitchForm}
use Rattle.php_ast.specs.declared.statement.SwitchForm.TheVariants as switch_form
use Rattle.php_ast.specs.declared.statement.CaseEnd.{CaseEnd}
use Rattle.php_ast.specs.declared.statement.CaseEnd.TheVariants as case_end
use Rattle.php_ast.specs.Symbol as symbol
use Rattle.php_ast.specs.Symbol.{Symbol, keyword, punct}
use Rattle.php_ast.specs.expression.Tree.{Tree}
use Rattle.php_ast.specs.expression.Spelling.{spell, spell_items}
use Rattle.php_ast.specs.statement.Tree.{Sequence, empty, then_also, Name, Variable, Constant, Target, Jump, returning, breaking, continuing}
use Rattle.php_ast.specs.statement.Tree.{Statement, block, blank, inline, expression, echo, globals, statics, unset, constants, jump, throw, if_only, if_else, if_lists, if_else_lists, while, do_while, for, foreach, switch, try_catch, try_finally, declares}
use Rattle.php_ast.specs.statement.Tree.{Statements, no_statement, and_statement, ElseIfs, no_elseif, and_elseif, ElseIfLists, no_elseif_list, and_elseif_list, Body, single, list_behind_colon, Cases, no_case, and_case, Catches, no_catch, and_catch}

-- ---- sequences

abbrev pub separator : {A : Type 0} → Symbol → Sequence A → List Symbol → List Symbol
separator between empty w = w
separator between (then_also xs x) w = between ∷ w

-- the elements, with a symbol between each two
abbrev pub separated : {A : Type 0} → Symbol → (A → List Symbol → List Symbol) → Sequence A → List Symbol → List Symbol
separated between each empty w = w
separated between each (then_also xs x) w = separated between each xs (separator between xs (each x w))

abbrev pub commas : {A : Type 0} → (A → List Symbol → List Symbol) → Sequence A → List Symbol → List Symbol
commas each xs w = separated (punct mark.Comma) each xs w

abbrev pub spell_name : {S : Type 0} → Name S → List Symbol → List Symbol
spell_name n w = symbol.name n.text ∷ w

abbrev pub spell_dollar : {S : Type 0} → Name S → List Symbol → List Symbol
spell_dollar n w = symbol.variable n.text ∷ w

-- `= value`, where there is one
abbrev pub spell_value : {S : Type 0} → Option (Tree S) → List Symbol → List Symbol
spell_value None w = w
spell_value (Some e) w = punct mark.Assign ∷ spell e w

abbrev pub spell_variable : {S : Type 0} → Variable S → List Symbol → List Symbol
spell_variable x w = spell_dollar x.name (spell_value x.value w)

abbrev pub spell_constant : {S : Type 0} → Constant S → List Symbol → List Symbol
spell_constant x w = spell_name x.name (punct mark.Assign ∷ spell x.value w)

-- ---- parts of statements

abbrev pub spell_optional : {S : Type 0} → Option (Tree S) → List Symbol → List Symbol
spell_optional None w = w
spell_optional (Some e) w = spell e w

abbrev pub symbol_if : Bool → Symbol → List Symbol → List Symbol
symbol_if true between w = between ∷ w
symbol_if false between w = w

abbrev pub jump_word : Jump → Keyword
jump_word returning = word.Return
jump_word breaking = word.Break
jump_word continuing = word.Continue

abbrev pub spell_target : {S : Type 0} → Target S → List Symbol → List Symbol
spell_target t w = symbol_if t.is_reference (punct mark.Ampersand) (spell t.place w)

abbrev pub spell_key : {S : Type 0} → Option (Target S) → List Symbol → List Symbol
spell_key None w = w
spell_key (Some t) w = spell_target t (punct mark.DoubleArrow ∷ w)

-- an expression in parentheses, behind a word
abbrev pub spell_head : {S : Type 0} → Keyword → Tree S → List Symbol → List Symbol
spell_head head test w = keyword head ∷ punct mark.LeftParen ∷ spell test (punct mark.RightParen ∷ w)

abbrev pub spell_label : {S : Type 0} → Option (Tree S) → List Symbol → List Symbol
spell_label None w = keyword word.Default ∷ w
spell_label (Some e) w = keyword word.Case ∷ spell e w

abbrev pub case_end_symbol : CaseEnd → Symbol
case_end_symbol case_end.Colon = punct mark.Colon
case_end_symbol case_end.Semicolon = punct mark.Semicolon

abbrev pub cases_opening : SwitchForm → Symbol
cases_opening switch_form.Braces = punct mark.LeftBrace
cases_opening switch_form.Colon = punct mark.Colon

abbrev pub cases_closing : SwitchForm → List Symbol → List Symbol
cases_closing switch_form.Braces w = punct mark.RightBrace ∷ w
cases_closing switch_form.Colon w = keyword word.EndSwitch ∷ punct mark.Semicolon ∷ w

-- ---- statements

abbrev mutual
  pub spell_statement : {S : Type 0} → Statement S → List Symbol → List Symbol
  spell_statement (block note body) w = punct mark.LeftBrace ∷ spell_statements body (punct mark.RightBrace ∷ w)
  spell_statement (blank note) w = punct mark.Semicolon ∷ w
  spell_statement (inline note text) w = symbol.inline text ∷ w
  spell_statement (expression note e) w = spell e (punct mark.Semicolon ∷ w)
  spell_statement (echo note values) w = keyword word.Echo ∷ spell_items values (punct mark.Semicolon ∷ w)
  spell_statement (globals note names) w = keyword word.Global ∷ commas spell_dollar names (punct mark.Semicolon ∷ w)
  spell_statement (statics note variables) w = keyword word.Static ∷ commas spell_variable variables (punct mark.Semicolon ∷ w)
  spell_statement (unset note places) w =
      keyword word.Unset ∷ punct mark.LeftParen ∷ spell_items places (punct mark.RightParen ∷ punct mark.Semicolon ∷ w)
  spell_statement (constants note items) w = keyword word.Const ∷ commas spell_constant items (punct mark.Semicolon ∷ w)
  spell_statement (jump note kind value) w = keyword (jump_word kind) ∷ spell_optional value (punct mark.Semicolon ∷ w)
  spell_statement (throw note e) w = keyword word.Throw ∷ spell e (punct mark.Semicolon ∷ w)
  spell_statement (if_only note test body parts) w = spell_head word.If test (spell_statement body (spell_elseifs parts w))
  spell_statement (if_else note test body parts last) w =
      spell_head word.If test (spell_statement body (spell_elseifs parts (keyword word.Else ∷ spell_statement last w)))
  spell_statement (if_lists note test body parts) w =
      spell_head word.If test (punct mark.Colon ∷ spell_statements body (spell_elseif_lists parts
      (keyword word.EndIf ∷ punct mark.Semicolon ∷ w)))
  spell_statement (if_else_lists note test body parts last) w =
      spell_head word.If test (punct mark.Colon ∷ spell_statements body (spell_elseif_lists parts
      (keyword word.Else ∷ punct mark.Colon ∷ spell_statements last (keyword word.EndIf ∷ punct mark.Semicolon ∷ w))))
  spell_statement (while note test body) w = spell_head word.While test (spell_body word.EndWhile body w)
  spell_statement (do_while note body test) w = keyword word.Do ∷ spell_statement body (spell_head word.While test (punct mark.Semicolon ∷ w))
  spell_statement (for note starts tests steps body) w =
      keyword word.For ∷ punct mark.LeftParen ∷ spell_items starts (punct mark.Semicolon ∷ spell_items tests (punct mark.Semicolon
      ∷ spell_items steps (punct mark.RightParen ∷ spell_body word.EndFor body w)))
  spell_statement (foreach note walked key value body) w =
      keyword word.Foreach ∷ punct mark.LeftParen ∷ spell walked (keyword word.As ∷ spell_key key (spell_target value
      (punct mark.RightParen ∷ spell_body word.EndForeach body w)))
  spell_statement (switch note e form cases) w = spell_head word.Switch e (cases_opening form ∷ spell_cases cases (cases_closing form w))
  spell_statement (try_catch note body catches) w = keyword word.Try ∷ punct mark.LeftBrace ∷ spell_statements body (punct mark.RightBrace ∷ spell_catches catches w)
  spell_statement (try_finally note body catches last) w =
      keyword word.Try ∷ punct mark.LeftBrace ∷ spell_statements body (punct mark.RightBrace ∷ spell_catches catches
      (keyword word.Finally ∷ punct mark.LeftBrace ∷ spell_statements last (punct mark.RightBrace ∷ w)))
  spell_statement (declares note n value) w =
      keyword word.Declare ∷ punct mark.LeftParen ∷ spell_name n (punct mark.Assign ∷ symbol.int value ∷ punct mark.RightParen ∷ punct mark.Semicolon ∷ w)

  pub spell_statements : {S : Type 0} → Statements S → List Symbol → List Symbol
  spell_statements no_statement w = w
  spell_statements (and_statement body s) w = spell_statements body (spell_statement s w)

  pub spell_elseifs : {S : Type 0} → ElseIfs S → List Symbol → List Symbol
  spell_elseifs no_elseif w = w
  spell_elseifs (and_elseif parts test body) w = spell_elseifs parts (spell_head word.ElseIf test (spell_statement body w))

  pub spell_elseif_lists : {S : Type 0} → ElseIfLists S → List Symbol → List Symbol
  spell_elseif_lists no_elseif_list w = w
  spell_elseif_lists (and_elseif_list parts test body) w = spell_elseif_lists parts (spell_head word.ElseIf test (punct mark.Colon ∷ spell_statements body w))

  pub spell_body : {S : Type 0} → Keyword → Body S → List Symbol → List Symbol
  spell_body behind (single s) w = spell_statement s w
  spell_body behind (list_behind_colon body) w = punct mark.Colon ∷ spell_statements body (keyword behind ∷ punct mark.Semicolon ∷ w)

  pub spell_cases : {S : Type 0} → Cases S → List Symbol → List Symbol
  spell_cases no_case w = w
  spell_cases (and_case cases note label end body) w = spell_cases cases (spell_label label (case_end_symbol end ∷ spell_statements body w))

  pub spell_catches : {S : Type 0} → Catches S → List Symbol → List Symbol
  spell_catches no_catch w = w
  spell_catches (and_catch catches classes variable body) w =
      spell_catches catches (keyword word.Catch ∷ punct mark.LeftParen ∷ separated (punct mark.Bar) spell_name classes
      (spell_dollar variable (punct mark.RightParen ∷ punct mark.LeftBrace ∷ spell_statements body (punct mark.RightBrace ∷ w))))
