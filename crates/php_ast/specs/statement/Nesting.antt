-- How deep each token of a statement is nested, by the tree alone.
--
-- A body that is no block is a construct that opens behind the token before it and has no closing token:
-- a statement behind the head of an `if`, `elseif` or loop, behind `else` or `do`, and what stands behind the colon of an
-- `if`, `elseif`, `else`, loop or `switch`. What stands behind the label of a case is no such body.
use Rattle.std.specs.Prelude.{ℕ, ◌+◌, Bool, true, false, Option, Some, None, List, ◌∷◌}
use Rattle.php_ast.specs.declared.statement.SwitchForm.{SwitchForm}
use Rattle.php_ast.specs.declared.statement.SwitchForm.TheVariants as switch_form
use Rattle.php_ast.specs.expression.Tree.{Tree}
use Rattle.php_ast.specs.expression.Nesting.{nests, nests_items}
use Rattle.php_ast.specs.statement.Tree.{Sequence, empty, then_also, Name, Variable, Constant, Target}
use Rattle.php_ast.specs.statement.Tree.{Statement, block, blank, inline, expression, echo, globals, statics, unset, constants, jump, throw, if_only, if_else, if_lists, if_else_lists, while, do_while, for, foreach, switch, try_catch, try_finally, declares}
use Rattle.php_ast.specs.statement.Tree.{Statements, no_statement, and_statement, ElseIfs, no_elseif, and_elseif, ElseIfLists, no_elseif_list, and_elseif_list, Body, single, list_behind_colon, Cases, no_case, and_case, Catches, no_catch, and_catch}

-- ---- parts

abbrev pub separator_nests : {A : Type 0} → Sequence A → ℕ → List ℕ → List ℕ
separator_nests empty d w = w
separator_nests (then_also xs x) d w = d ∷ w

-- elements with a symbol between each two
abbrev pub separated_nests : {A : Type 0} → (A → ℕ → List ℕ → List ℕ) → Sequence A → ℕ → List ℕ → List ℕ
separated_nests each empty d w = w
separated_nests each (then_also xs x) d w = separated_nests each xs d (separator_nests xs d (each x d w))

abbrev pub name_nests : {S : Type 0} → Name S → ℕ → List ℕ → List ℕ
name_nests n d w = d ∷ w

abbrev pub value_nests : {S : Type 0} → Option (Tree S) → ℕ → List ℕ → List ℕ
value_nests None d w = w
value_nests (Some e) d w = d ∷ nests e d w

abbrev pub variable_nests : {S : Type 0} → Variable S → ℕ → List ℕ → List ℕ
variable_nests x d w = d ∷ value_nests x.value d w

abbrev pub constant_nests : {S : Type 0} → Constant S → ℕ → List ℕ → List ℕ
constant_nests x d w = d ∷ d ∷ nests x.value d w

abbrev pub optional_nests : {S : Type 0} → Option (Tree S) → ℕ → List ℕ → List ℕ
optional_nests None d w = w
optional_nests (Some e) d w = nests e d w

abbrev pub nests_if : Bool → ℕ → List ℕ → List ℕ
nests_if true d w = d ∷ w
nests_if false d w = w

abbrev pub target_nests : {S : Type 0} → Target S → ℕ → List ℕ → List ℕ
target_nests t d w = nests_if t.is_reference d (nests t.place d w)

abbrev pub key_nests : {S : Type 0} → Option (Target S) → ℕ → List ℕ → List ℕ
key_nests None d w = w
key_nests (Some t) d w = target_nests t d (d ∷ w)

-- a word and an expression in parentheses
abbrev pub head_nests : {S : Type 0} → Tree S → ℕ → List ℕ → List ℕ
head_nests test d w = d ∷ d ∷ nests test (1 + d) ((1 + d) ∷ w)

-- how deep a statement stands that is a body at depth d
abbrev pub body_depth : {S : Type 0} → Statement S → ℕ → ℕ
body_depth (block note body) d = d
body_depth _ d = 1 + d

abbrev pub cases_end_nests : SwitchForm → ℕ → List ℕ → List ℕ
cases_end_nests switch_form.Braces d w = (1 + d) ∷ w
cases_end_nests switch_form.Colon d w = d ∷ d ∷ w

-- ---- statements

abbrev mutual
  pub nests_statement : {S : Type 0} → Statement S → ℕ → List ℕ → List ℕ
  nests_statement (block note body) d w = d ∷ nests_statements body (1 + d) ((1 + d) ∷ w)
  nests_statement (blank note) d w = d ∷ w
  nests_statement (inline note text) d w = d ∷ w
  nests_statement (expression note e) d w = nests e d (d ∷ w)
  nests_statement (echo note values) d w = d ∷ nests_items values d (d ∷ w)
  nests_statement (globals note names) d w = d ∷ separated_nests name_nests names d (d ∷ w)
  nests_statement (statics note variables) d w = d ∷ separated_nests variable_nests variables d (d ∷ w)
  nests_statement (unset note places) d w = d ∷ d ∷ nests_items places (1 + d) ((1 + d) ∷ d ∷ w)
  nests_statement (constants note items) d w = d ∷ separated_nests constant_nests items d (d ∷ w)
  nests_statement (jump note kind value) d w = d ∷ optional_nests value d (d ∷ w)
  nests_statement (throw note e) d w = d ∷ nests e d (d ∷ w)
  nests_statement (if_only note test body parts) d w =
      head_nests test d (nests_statement body (body_depth body d) (nests_elseifs parts d w))
  nests_statement (if_else note test body parts last) d w =
      head_nests test d (nests_statement body (body_depth body d) (nests_elseifs parts d (d ∷ nests_statement last (body_depth last d) w)))
  nests_statement (if_lists note test body parts) d w =
      head_nests test d (d ∷ nests_statements body (1 + d) (nests_elseif_lists parts d (d ∷ d ∷ w)))
  nests_statement (if_else_lists note test body parts last) d w =
      head_nests test d (d ∷ nests_statements body (1 + d) (nests_elseif_lists parts d (d ∷ d ∷ nests_statements last (1 + d) (d ∷ d ∷ w))))
  nests_statement (while note test body) d w = head_nests test d (nests_body body d w)
  nests_statement (do_while note body test) d w = d ∷ nests_statement body (body_depth body d) (head_nests test d (d ∷ w))
  nests_statement (for note starts tests steps body) d w =
      d ∷ d ∷ nests_items starts (1 + d) ((1 + d) ∷ nests_items tests (1 + d) ((1 + d) ∷ nests_items steps (1 + d) ((1 + d) ∷ nests_body body d w)))
  nests_statement (foreach note walked key value body) d w =
      d ∷ d ∷ nests walked (1 + d) ((1 + d) ∷ key_nests key (1 + d) (target_nests value (1 + d) ((1 + d) ∷ nests_body body d w)))
  nests_statement (switch note e form cases) d w = head_nests e d (d ∷ nests_cases cases (1 + d) (cases_end_nests form d w))
  nests_statement (try_catch note body catches) d w = d ∷ d ∷ nests_statements body (1 + d) ((1 + d) ∷ nests_catches catches d w)
  nests_statement (try_finally note body catches last) d w =
      d ∷ d ∷ nests_statements body (1 + d) ((1 + d) ∷ nests_catches catches d (d ∷ d ∷ nests_statements last (1 + d) ((1 + d) ∷ w)))
  nests_statement (declares note n value) d w = d ∷ d ∷ (1 + d) ∷ (1 + d) ∷ (1 + d) ∷ (1 + d) ∷ d ∷ w

  pub nests_statements : {S : Type 0} → Statements S → ℕ → List ℕ → List ℕ
  nests_statements no_statement d w = w
  nests_statements (and_statement body s) d w = nests_statements body d (nests_statement s d w)

  pub nests_elseifs : {S : Type 0} → ElseIfs S → ℕ → List ℕ → List ℕ
  nests_elseifs no_elseif d w = w
  nests_elseifs (and_elseif parts test body) d w = nests_elseifs parts d (head_nests test d (nests_statement body (body_depth body d) w))

  pub nests_elseif_lists : {S : Type 0} → ElseIfLists S → ℕ → List ℕ → List ℕ
  nests_elseif_lists no_elseif_list d w = w
  nests_elseif_lists (and_elseif_list parts test body) d w = nests_elseif_lists parts d (head_nests test d (d ∷ nests_statements body (1 + d) w))

  pub nests_body : {S : Type 0} → Body S → ℕ → List ℕ → List ℕ
  nests_body (single s) d w = nests_statement s (body_depth s d) w
  nests_body (list_behind_colon body) d w = d ∷ nests_statements body (1 + d) (d ∷ d ∷ w)

  pub nests_cases : {S : Type 0} → Cases S → ℕ → List ℕ → List ℕ
  nests_cases no_case d w = w
  nests_cases (and_case cases note label end body) d w = nests_cases cases d (d ∷ optional_nests label d (d ∷ nests_statements body d w))

  pub nests_catches : {S : Type 0} → Catches S → ℕ → List ℕ → List ℕ
  nests_catches no_catch d w = w
  nests_catches (and_catch catches classes variable body) d w =
      nests_catches catches d (d ∷ d ∷ separated_nests name_nests classes (1 + d) ((1 + d) ∷ (1 + d) ∷ d ∷ nests_statements body (1 + d) ((1 + d) ∷ w)))
