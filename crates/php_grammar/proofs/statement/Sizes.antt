-- The sizes by which the notes of statements and declarations are placed are the lengths of spellings.
use Rattle.std.proofs.Common.{◌≡◌, ℕ, ◌+◌, Bool, true, false, Option, Some, None, List, ◌∷◌, length, arith}
use Rattle.php_token.specs.declared.kind.Keyword.{Keyword}
use Rattle.php_token.specs.declared.kind.Keyword.TheVariants as word
use Rattle.php_token.specs.declared.kind.Punct.TheVariants as mark
use Rattle.php_ast.specs.declared.statement.SwitchForm.{SwitchForm}
use Rattle.php_ast.specs.declared.statement.SwitchForm.TheVariants as switch_form
use Rattle.php_ast.specs.Symbol.{Symbol, keyword, punct}
use Rattle.php_ast.specs.expression.Tree.{Tree}
use Rattle.php_ast.specs.expression.Spelling.{spell, spell_items}
use Rattle.php_ast.specs.statement.Tree.{Sequence, empty, then_also, Name, Variable, Constant, Target, Statement, block, blank, inline, expression, echo, globals, statics, unset, constants, jump, throw, if_only, if_else, if_lists, if_else_lists, while, do_while, for, foreach, switch, try_catch, try_finally, declares, Statements, no_statement, and_statement, ElseIfs, no_elseif, and_elseif, ElseIfLists, no_elseif_list, and_elseif_list, Body, single, list_behind_colon, Cases, no_case, and_case, Catches, no_catch, and_catch}
use Rattle.php_ast.specs.statement.Spelling.{separator, separated, spell_name, spell_dollar, spell_value, spell_variable, spell_constant, spell_optional, symbol_if, spell_target, spell_key, spell_head, spell_label, case_end_symbol, cases_opening, cases_closing, spell_statement, spell_statements, spell_elseifs, spell_elseif_lists, spell_body, spell_cases, spell_catches}
use Rattle.php_ast.specs.statement.Placed.{size_separator, size_separated, size_name, size_optional, size_value, size_variable, size_constant, size_if, size_target, size_key, size_head, size_cases_end, size_statement, size_statements, size_elseifs, size_elseif_lists, size_body, size_cases, size_catches}
use Rattle.php_grammar.proofs.expression.Sizes.{spell_length, items_length}

-- ---- parts

separator_length : {A : Type 0} (between : Symbol) (xs : Sequence A) (w : List Symbol) → length (separator between xs w) ≡ size_separator xs + length w
separator_length between empty w = omega arith
separator_length between (then_also xs x) w = omega arith

pub separated_length : {A : Type 0} (between : Symbol) (each : A → List Symbol → List Symbol) (size_each : A → ℕ) → ((x : A) (w : List Symbol) → length (each x w) ≡ size_each x + length w)
    → (xs : Sequence A) (w : List Symbol) → length (separated between each xs w) ≡ size_separated size_each xs + length w
separated_length between each size_each h empty w = omega arith
separated_length between each size_each h (then_also xs x) w =
    omega (arith, separated_length between each size_each h xs (separator between xs (each x w)), separator_length between xs (each x w), h x w)

pub name_length : {S : Type 0} (n : Name S) (w : List Symbol) → length (spell_name n w) ≡ size_name n + length w
name_length n w = omega arith

pub dollar_length : {S : Type 0} (n : Name S) (w : List Symbol) → length (spell_dollar n w) ≡ size_name n + length w
dollar_length n w = omega arith

pub value_length : {S : Type 0} (value : Option (Tree S)) (w : List Symbol) → length (spell_value value w) ≡ size_value value + length w
value_length None w = omega arith
value_length (Some e) w = omega (arith, spell_length e w)

pub variable_length : {S : Type 0} (x : Variable S) (w : List Symbol) → length (spell_variable x w) ≡ size_variable x + length w
variable_length x w = omega (arith, value_length x.value w)

constant_length : {S : Type 0} (x : Constant S) (w : List Symbol) → length (spell_constant x w) ≡ size_constant x + length w
constant_length x w = omega (arith, spell_length x.value w)

optional_length : {S : Type 0} (value : Option (Tree S)) (w : List Symbol) → length (spell_optional value w) ≡ size_optional value + length w
optional_length None w = omega arith
optional_length (Some e) w = omega (arith, spell_length e w)

pub length_if : (b : Bool) (between : Symbol) (w : List Symbol) → length (symbol_if b between w) ≡ size_if b + length w
length_if true between w = omega arith
length_if false between w = omega arith

target_length : {S : Type 0} (t : Target S) (w : List Symbol) → length (spell_target t w) ≡ size_target t + length w
target_length t w = omega (arith, length_if t.is_reference (punct mark.Ampersand) (spell t.place w), spell_length t.place w)

key_length : {S : Type 0} (key : Option (Target S)) (w : List Symbol) → length (spell_key key w) ≡ size_key key + length w
key_length None w = omega arith
key_length (Some t) w = omega (arith, target_length t (punct mark.DoubleArrow ∷ w))

head_length : {S : Type 0} (head : Keyword) (test : Tree S) (w : List Symbol) → length (spell_head head test w) ≡ size_head test + length w
head_length head test w = omega (arith, spell_length test (punct mark.RightParen ∷ w))

label_length : {S : Type 0} (label : Option (Tree S)) (w : List Symbol) → length (spell_label label w) ≡ 1 + size_optional label + length w
label_length None w = omega arith
label_length (Some e) w = omega (arith, spell_length e w)

closing_length : (form : SwitchForm) (w : List Symbol) → length (cases_closing form w) ≡ size_cases_end form + length w
closing_length switch_form.Braces w = omega arith
closing_length switch_form.Colon w = omega arith

-- ---- statements

mutual
  pub statement_length : {S : Type 0} (a : Statement S) (w : List Symbol) → length (spell_statement a w) ≡ size_statement a + length w
  statement_length (block note body) w = omega (arith, statements_length body (punct mark.RightBrace ∷ w))
  statement_length (blank note) w = omega arith
  statement_length (inline note text) w = omega arith
  statement_length (expression note e) w = omega (arith, spell_length e (punct mark.Semicolon ∷ w))
  statement_length (echo note values) w = omega (arith, items_length values (punct mark.Semicolon ∷ w))
  statement_length (globals note names) w = omega (arith, separated_length (punct mark.Comma) spell_dollar size_name dollar_length names (punct mark.Semicolon ∷ w))
  statement_length (statics note variables) w = omega (arith, separated_length (punct mark.Comma) spell_variable size_variable variable_length variables (punct mark.Semicolon ∷ w))
  statement_length (unset note places) w = omega (arith, items_length places (punct mark.RightParen ∷ punct mark.Semicolon ∷ w))
  statement_length (constants note items) w = omega (arith, separated_length (punct mark.Comma) spell_constant size_constant constant_length items (punct mark.Semicolon ∷ w))
  statement_length (jump note kind value) w = omega (arith, optional_length value (punct mark.Semicolon ∷ w))
  statement_length (throw note e) w = omega (arith, spell_length e (punct mark.Semicolon ∷ w))
  statement_length (if_only note test body parts) w =
      omega (arith, head_length word.If test (spell_statement body (spell_elseifs parts w)), statement_length body (spell_elseifs parts w), elseifs_length parts w)
  statement_length (if_else note test body parts last) w =
      let rest : List Symbol = keyword word.Else ∷ spell_statement last w in
      omega (arith, head_length word.If test (spell_statement body (spell_elseifs parts rest)), statement_length body (spell_elseifs parts rest), elseifs_length parts rest, statement_length last w)
  statement_length (if_lists note test body parts) w =
      let rest : List Symbol = spell_elseif_lists parts (keyword word.EndIf ∷ punct mark.Semicolon ∷ w) in
      omega (
        arith,
        head_length word.If test (punct mark.Colon ∷ spell_statements body rest),
        statements_length body rest,
        elseif_lists_length parts (keyword word.EndIf ∷ punct mark.Semicolon ∷ w),
      )
  statement_length (if_else_lists note test body parts last) w =
      let end : List Symbol = keyword word.EndIf ∷ punct mark.Semicolon ∷ w in
      let more : List Symbol = keyword word.Else ∷ punct mark.Colon ∷ spell_statements last end in
      omega (
        arith,
        head_length word.If test (punct mark.Colon ∷ spell_statements body (spell_elseif_lists parts more)),
        statements_length body (spell_elseif_lists parts more),
        elseif_lists_length parts more,
        statements_length last end,
      )
  statement_length (while note test body) w = omega (arith, head_length word.While test (spell_body word.EndWhile body w), body_length word.EndWhile body w)
  statement_length (do_while note body test) w =
      omega (arith, statement_length body (spell_head word.While test (punct mark.Semicolon ∷ w)), head_length word.While test (punct mark.Semicolon ∷ w))
  statement_length (for note firsts tests steps body) w =
      let last : List Symbol = punct mark.RightParen ∷ spell_body word.EndFor body w in
      let more : List Symbol = punct mark.Semicolon ∷ spell_items steps last in
      omega (
        arith,
        items_length firsts (punct mark.Semicolon ∷ spell_items tests more),
        items_length tests more,
        items_length steps last,
        body_length word.EndFor body w,
      )
  statement_length (foreach note walked key value body) w =
      let last : List Symbol = punct mark.RightParen ∷ spell_body word.EndForeach body w in
      omega (
        arith,
        spell_length walked (keyword word.As ∷ spell_key key (spell_target value last)),
        key_length key (spell_target value last),
        target_length value last,
        body_length word.EndForeach body w,
      )
  statement_length (switch note e form cases) w =
      omega (arith, head_length word.Switch e (cases_opening form ∷ spell_cases cases (cases_closing form w)), cases_length cases (cases_closing form w), closing_length form w)
  statement_length (try_catch note body catches) w = omega (arith, statements_length body (punct mark.RightBrace ∷ spell_catches catches w), catches_length catches w)
  statement_length (try_finally note body catches last) w =
      let end : List Symbol = punct mark.RightBrace ∷ w in
      let more : List Symbol = keyword word.Finally ∷ punct mark.LeftBrace ∷ spell_statements last end in
      omega (arith, statements_length body (punct mark.RightBrace ∷ spell_catches catches more), catches_length catches more, statements_length last end)
  statement_length (declares note n value) w = omega arith

  pub statements_length : {S : Type 0} (ss : Statements S) (w : List Symbol) → length (spell_statements ss w) ≡ size_statements ss + length w
  statements_length no_statement w = omega arith
  statements_length (and_statement ss a) w = omega (arith, statements_length ss (spell_statement a w), statement_length a w)

  elseifs_length : {S : Type 0} (parts : ElseIfs S) (w : List Symbol) → length (spell_elseifs parts w) ≡ size_elseifs parts + length w
  elseifs_length no_elseif w = omega arith
  elseifs_length (and_elseif parts e a) w =
      omega (arith, elseifs_length parts (spell_head word.ElseIf e (spell_statement a w)), head_length word.ElseIf e (spell_statement a w), statement_length a w)

  elseif_lists_length : {S : Type 0} (parts : ElseIfLists S) (w : List Symbol) → length (spell_elseif_lists parts w) ≡ size_elseif_lists parts + length w
  elseif_lists_length no_elseif_list w = omega arith
  elseif_lists_length (and_elseif_list parts e ss) w =
      let rest : List Symbol = punct mark.Colon ∷ spell_statements ss w in
      omega (arith, elseif_lists_length parts (spell_head word.ElseIf e rest), head_length word.ElseIf e rest, statements_length ss w)

  body_length : {S : Type 0} (behind : Keyword) (body : Body S) (w : List Symbol) → length (spell_body behind body w) ≡ size_body body + length w
  body_length behind (single s) w = omega (arith, statement_length s w)
  body_length behind (list_behind_colon ss) w = omega (arith, statements_length ss (keyword behind ∷ punct mark.Semicolon ∷ w))

  cases_length : {S : Type 0} (cases : Cases S) (w : List Symbol) → length (spell_cases cases w) ≡ size_cases cases + length w
  cases_length no_case w = omega arith
  cases_length (and_case cases note label end ss) w =
      let rest : List Symbol = case_end_symbol end ∷ spell_statements ss w in
      omega (arith, cases_length cases (spell_label label rest), label_length label rest, statements_length ss w)

  catches_length : {S : Type 0} (catches : Catches S) (w : List Symbol) → length (spell_catches catches w) ≡ size_catches catches + length w
  catches_length no_catch w = omega arith
  catches_length (and_catch catches classes n ss) w =
      let rest : List Symbol = punct mark.RightParen ∷ punct mark.LeftBrace ∷ spell_statements ss (punct mark.RightBrace ∷ w) in
      let names : List Symbol = separated (punct mark.Bar) spell_name classes (spell_dollar n rest) in
      omega (
        arith,
        catches_length catches (keyword word.Catch ∷ punct mark.LeftParen ∷ names),
        separated_length (punct mark.Bar) spell_name size_name name_length classes (spell_dollar n rest),
        statements_length ss (punct mark.RightBrace ∷ w),
      )
