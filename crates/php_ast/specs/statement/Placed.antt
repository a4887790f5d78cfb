-- Which token each note of a statement is about: as in Placed, right notes take the place of those that a
-- tree has, and a tree is placed where that changes nothing.
use Rattle.std.specs.Prelude.{◌≡◌, ℕ, ◌+◌, Bool, true, false, Option, Some, None, List}
use Rattle.php_token.specs.Token.{Token}
use Rattle.php_ast.specs.declared.statement.SwitchForm.{SwitchForm}
use Rattle.php_ast.specs.declared.statement.SwitchForm.TheVariants as switch_form
use Rattle.php_ast.specs.expression.Tree.{Tree}
use Rattle.php_ast.specs.expression.View.{Note}
use Rattle.php_ast.specs.expression.Placed.{Notes, size, size_items, noted, noted_items, no_notes, notes_of}
use Rattle.php_ast.specs.statement.Tree.{Sequence, empty, then_also, Name, Variable, Constant, Target}
use Rattle.php_ast.specs.statement.Tree.{Statement, block, blank, inline, expression, echo, globals, statics, unset, constants, jump, throw, if_only, if_else, if_lists, if_else_lists, while, do_while, for, foreach, switch, try_catch, try_finally, declares}
use Rattle.php_ast.specs.statement.Tree.{Statements, no_statement, and_statement, ElseIfs, no_elseif, and_elseif, ElseIfLists, no_elseif_list, and_elseif_list, Body, single, list_behind_colon, Cases, no_case, and_case, Catches, no_catch, and_catch}

-- ---- parts

abbrev pub size_separator : {A : Type 0} → Sequence A → ℕ
size_separator empty = 0
size_separator (then_also xs x) = 1

abbrev pub size_separated : {A : Type 0} → (A → ℕ) → Sequence A → ℕ
size_separated each empty = 0
size_separated each (then_also xs x) = size_separated each xs + size_separator xs + each x

abbrev pub noted_separated : {A B : Type 0} → (A → ℕ) → (ℕ → A → B) → ℕ → Sequence A → Sequence B
noted_separated each f at empty = empty
noted_separated each f at (then_also xs x) =
    then_also (noted_separated each f at xs) (f (at + size_separated each xs + size_separator xs) x)

abbrev pub size_name : {S : Type 0} → Name S → ℕ
size_name n = 1

abbrev pub noted_name : {S T : Type 0} → Notes T → ℕ → Name S → Name T
noted_name notes at n = record { note = notes.token at; text = n.text }

abbrev pub size_optional : {S : Type 0} → Option (Tree S) → ℕ
size_optional None = 0
size_optional (Some e) = size e

abbrev pub noted_optional : {S T : Type 0} → Notes T → ℕ → Option (Tree S) → Option (Tree T)
noted_optional notes at None = None
noted_optional notes at (Some e) = Some (noted notes at e)

-- a value behind its `=`
abbrev pub size_value : {S : Type 0} → Option (Tree S) → ℕ
size_value None = 0
size_value (Some e) = 1 + size e

abbrev pub size_variable : {S : Type 0} → Variable S → ℕ
size_variable x = 1 + size_value x.value

abbrev pub noted_variable : {S T : Type 0} → Notes T → ℕ → Variable S → Variable T
noted_variable notes at x = record { name = noted_name notes at x.name; value = noted_optional notes (at + 2) x.value }

abbrev pub size_constant : {S : Type 0} → Constant S → ℕ
size_constant x = 2 + size x.value

abbrev pub noted_constant : {S T : Type 0} → Notes T → ℕ → Constant S → Constant T
noted_constant notes at x = record { name = noted_name notes at x.name; value = noted notes (at + 2) x.value }

abbrev pub size_if : Bool → ℕ
size_if true = 1
size_if false = 0

abbrev pub size_target : {S : Type 0} → Target S → ℕ
size_target t = size_if t.is_reference + size t.place

abbrev pub noted_target : {S T : Type 0} → Notes T → ℕ → Target S → Target T
noted_target notes at t = record { is_reference = t.is_reference; place = noted notes (at + size_if t.is_reference) t.place }

-- a key with its `=>`
abbrev pub size_key : {S : Type 0} → Option (Target S) → ℕ
size_key None = 0
size_key (Some t) = size_target t + 1

abbrev pub noted_key : {S T : Type 0} → Notes T → ℕ → Option (Target S) → Option (Target T)
noted_key notes at None = None
noted_key notes at (Some t) = Some (noted_target notes at t)

-- a word and an expression in parentheses
abbrev pub size_head : {S : Type 0} → Tree S → ℕ
size_head test = size test + 3

abbrev pub size_cases_end : SwitchForm → ℕ
size_cases_end switch_form.Braces = 1
size_cases_end switch_form.Colon = 2

-- ---- how many tokens there are

abbrev mutual
  pub size_statement : {S : Type 0} → Statement S → ℕ
  size_statement (block note body) = size_statements body + 2
  size_statement (blank note) = 1
  size_statement (inline note text) = 1
  size_statement (expression note e) = size e + 1
  size_statement (echo note values) = size_items values + 2
  size_statement (globals note names) = size_separated size_name names + 2
  size_statement (statics note variables) = size_separated size_variable variables + 2
  size_statement (unset note places) = size_items places + 4
  size_statement (constants note items) = size_separated size_constant items + 2
  size_statement (jump note kind value) = size_optional value + 2
  size_statement (throw note e) = size e + 2
  size_statement (if_only note test body parts) = size_head test + size_statement body + size_elseifs parts
  size_statement (if_else note test body parts last) =
      size_head test + size_statement body + size_elseifs parts + 1 + size_statement last
  size_statement (if_lists note test body parts) = size_head test + 1 + size_statements body + size_elseif_lists parts + 2
  size_statement (if_else_lists note test body parts last) =
      size_head test + 1 + size_statements body + size_elseif_lists parts + 2 + size_statements last + 2
  size_statement (while note test body) = size_head test + size_body body
  size_statement (do_while note body test) = 1 + size_statement body + size_head test + 1
  size_statement (for note starts tests steps body) = 2 + size_items starts + 1 + size_items tests + 1 + size_items steps + 1 + size_body body
  size_statement (foreach note walked key value body) = 2 + size walked + 1 + size_key key + size_target value + 1 + size_body body
  size_statement (switch note e form cases) = size_head e + 1 + size_cases cases + size_cases_end form
  size_statement (try_catch note body catches) = 3 + size_statements body + size_catches catches
  size_statement (try_finally note body catches last) = 3 + size_statements body + size_catches catches + 3 + size_statements last
  size_statement (declares note n value) = 7

  pub size_statements : {S : Type 0} → Statements S → ℕ
  size_statements no_statement = 0
  size_statements (and_statement body s) = size_statements body + size_statement s

  pub size_elseifs : {S : Type 0} → ElseIfs S → ℕ
  size_elseifs no_elseif = 0
  size_elseifs (and_elseif parts test body) = size_elseifs parts + size_head test + size_statement body

  pub size_elseif_lists : {S : Type 0} → ElseIfLists S → ℕ
  size_elseif_lists no_elseif_list = 0
  size_elseif_lists (and_elseif_list parts test body) = size_elseif_lists parts + size_head test + 1 + size_statements body

  pub size_body : {S : Type 0} → Body S → ℕ
  size_body (single s) = size_statement s
  size_body (list_behind_colon body) = 1 + size_statements body + 2

  pub size_cases : {S : Type 0} → Cases S → ℕ
  size_cases no_case = 0
  size_cases (and_case cases note label end body) = size_cases cases + 1 + size_optional label + 1 + size_statements body

  pub size_catches : {S : Type 0} → Catches S → ℕ
  size_catches no_catch = 0
  size_catches (and_catch catches classes variable body) =
      size_catches catches + 2 + size_separated size_name classes + 3 + size_statements body + 1

-- ---- notes

abbrev mutual
  pub noted_statement : {S T : Type 0} → Notes T → ℕ → Statement S → Statement T
  noted_statement f at (block note body) = block (f.token at) (noted_statements f (at + 1) body)
  noted_statement f at (blank note) = blank (f.token at)
  noted_statement f at (inline note text) = inline (f.token at) text
  noted_statement f at (expression note e) = expression (f.token at) (noted f at e)
  noted_statement f at (echo note values) = echo (f.token at) (noted_items f (at + 1) values)
  noted_statement f at (globals note names) = globals (f.token at) (noted_separated size_name (noted_name f) (at + 1) names)
  noted_statement f at (statics note variables) = statics (f.token at) (noted_separated size_variable (noted_variable f) (at + 1) variables)
  noted_statement f at (unset note places) = unset (f.token at) (noted_items f (at + 2) places)
  noted_statement f at (constants note items) = constants (f.token at) (noted_separated size_constant (noted_constant f) (at + 1) items)
  noted_statement f at (jump note kind value) = jump (f.token at) kind (noted_optional f (at + 1) value)
  noted_statement f at (throw note e) = throw (f.token at) (noted f (at + 1) e)
  noted_statement f at (if_only note test body parts) =
      if_only (f.token at) (noted f (at + 2) test) (noted_statement f (at + size_head test) body)
      (noted_elseifs f (at + size_head test + size_statement body) parts)
  noted_statement f at (if_else note test body parts last) =
      if_else (f.token at) (noted f (at + 2) test) (noted_statement f (at + size_head test) body)
      (noted_elseifs f (at + size_head test + size_statement body) parts)
      (noted_statement f (at + size_head test + size_statement body + size_elseifs parts + 1) last)
  noted_statement f at (if_lists note test body parts) =
      if_lists (f.token at) (noted f (at + 2) test) (noted_statements f (at + size_head test + 1) body)
      (noted_elseif_lists f (at + size_head test + 1 + size_statements body) parts)
  noted_statement f at (if_else_lists note test body parts last) =
      if_else_lists (f.token at) (noted f (at + 2) test) (noted_statements f (at + size_head test + 1) body)
      (noted_elseif_lists f (at + size_head test + 1 + size_statements body) parts)
      (noted_statements f (at + size_head test + 1 + size_statements body + size_elseif_lists parts + 2) last)
  noted_statement f at (while note test body) = while (f.token at) (noted f (at + 2) test) (noted_body f (at + size_head test) body)
  noted_statement f at (do_while note body test) =
      do_while (f.token at) (noted_statement f (at + 1) body) (noted f (at + 1 + size_statement body + 2) test)
  noted_statement f at (for note starts tests steps body) =
      for (f.token at) (noted_items f (at + 2) starts) (noted_items f (at + 2 + size_items starts + 1) tests)
      (noted_items f (at + 2 + size_items starts + 1 + size_items tests + 1) steps)
      (noted_body f (at + 2 + size_items starts + 1 + size_items tests + 1 + size_items steps + 1) body)
  noted_statement f at (foreach note walked key value body) =
      foreach (f.token at) (noted f (at + 2) walked) (noted_key f (at + 2 + size walked + 1) key)
      (noted_target f (at + 2 + size walked + 1 + size_key key) value)
      (noted_body f (at + 2 + size walked + 1 + size_key key + size_target value + 1) body)
  noted_statement f at (switch note e form cases) = switch (f.token at) (noted f (at + 2) e) form (noted_cases f (at + size_head e + 1) cases)
  noted_statement f at (try_catch note body catches) =
      try_catch (f.token at) (noted_statements f (at + 2) body) (noted_catches f (at + 3 + size_statements body) catches)
  noted_statement f at (try_finally note body catches last) =
      try_finally (f.token at) (noted_statements f (at + 2) body) (noted_catches f (at + 3 + size_statements body) catches)
      (noted_statements f (at + 3 + size_statements body + size_catches catches + 2) last)
  noted_statement f at (declares note n value) = declares (f.token at) (noted_name f (at + 2) n) value

  pub noted_statements : {S T : Type 0} → Notes T → ℕ → Statements S → Statements T
  noted_statements f at no_statement = no_statement
  noted_statements f at (and_statement body s) = and_statement (noted_statements f at body) (noted_statement f (at + size_statements body) s)

  pub noted_elseifs : {S T : Type 0} → Notes T → ℕ → ElseIfs S → ElseIfs T
  noted_elseifs f at no_elseif = no_elseif
  noted_elseifs f at (and_elseif parts test body) =
      and_elseif (noted_elseifs f at parts) (noted f (at + size_elseifs parts + 2) test)
      (noted_statement f (at + size_elseifs parts + size_head test) body)

  pub noted_elseif_lists : {S T : Type 0} → Notes T → ℕ → ElseIfLists S → ElseIfLists T
  noted_elseif_lists f at no_elseif_list = no_elseif_list
  noted_elseif_lists f at (and_elseif_list parts test body) =
      and_elseif_list (noted_elseif_lists f at parts) (noted f (at + size_elseif_lists parts + 2) test)
      (noted_statements f (at + size_elseif_lists parts + size_head test + 1) body)

  pub noted_body : {S T : Type 0} → Notes T → ℕ → Body S → Body T
  noted_body f at (single s) = single (noted_statement f at s)
  noted_body f at (list_behind_colon body) = list_behind_colon (noted_statements f (at + 1) body)

  pub noted_cases : {S T : Type 0} → Notes T → ℕ → Cases S → Cases T
  noted_cases f at no_case = no_case
  noted_cases f at (and_case cases note label end body) =
      and_case (noted_cases f at cases) (f.token (at + size_cases cases)) (noted_optional f (at + size_cases cases + 1) label) end
      (noted_statements f (at + size_cases cases + 1 + size_optional label + 1) body)

  pub noted_catches : {S T : Type 0} → Notes T → ℕ → Catches S → Catches T
  noted_catches f at no_catch = no_catch
  noted_catches f at (and_catch catches classes variable body) =
      and_catch (noted_catches f at catches) (noted_separated size_name (noted_name f) (at + size_catches catches + 2) classes)
      (noted_name f (at + size_catches catches + 2 + size_separated size_name classes) variable)
      (noted_statements f (at + size_catches catches + 2 + size_separated size_name classes + 3) body)

-- the form of a statement alone
abbrev pub statement_form : {S : Type 0} → Statement S → Statement (Unit {0})
statement_form s = noted_statement no_notes 0 s

-- Each note of the statement is that of its token, where the first one is at a place.
abbrev pub IsPlacedStatement : List Token → ℕ → Statement Note → Type 0
IsPlacedStatement tokens at s = noted_statement (notes_of tokens) at s ≡ s
