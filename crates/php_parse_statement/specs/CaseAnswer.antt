-- What the functions of the parser answer that read a `switch`.
use Rattle.std.specs.Prelude.{◌≡◌, ◌≢◌, ◌≤◌, ◌<◌, ℕ, ◌+◌, Bool, true, Option, Some, None, Result, Ok, Err, List, map, length}
use Rattle.std.specs.List.{list_all}
use Rattle.php_token.specs.Token.{Token}
use Rattle.php_ast.specs.declared.statement.Stmt.{Stmt}
use Rattle.php_ast.specs.declared.statement.Case.{Case}
use Rattle.php_ast.specs.declared.statement.SwitchForm.{SwitchForm}
use Rattle.php_ast.specs.expression.View.{spot_view, view}
use Rattle.php_ast.specs.expression.Placed.{notes_of}
use Rattle.php_ast.specs.statement.Tree.{switch, Cases, no_case, and_case, Statements}
use Rattle.php_ast.specs.statement.View.{cases_from, optional, statements_view}
use Rattle.php_ast.specs.statement.Placed.{size_optional, noted_optional, size_statements, noted_statements, size_cases, size_cases_end, noted_cases}
use Rattle.php_grammar.specs.expression.Machine.{Nothing, Form}
use Rattle.php_grammar.specs.statement.Laws.{head_behind}
use Rattle.php_grammar.specs.statement.Role.{by_case, by_default, behind}
use Rattle.php_grammar.specs.statement.Forms.{done, due_case}
use Rattle.php_grammar.specs.statement.Depth.{statement_depth}
use Rattle.php_flat.specs.Statements.{is_flat_optional, are_flat_statements, is_flat_case}
use Rattle.php_reader.specs.declared.reader.Reader.{Reader}
use Rattle.php_reader.specs.declared.fail.Stop.{Stop}
use Rattle.php_reader.specs.Seen.{Shows, rest}
use Rattle.php_reader.specs.declared.found.Entry.{Entry}
use Rattle.php_reader.specs.declared.found.Listed.{Listed}
use Rattle.php_parse_simple.specs.Parts.{case_parts}
use Rattle.php_parse_simple.specs.LabelAnswer.{label_behind}
use Rattle.php_parse_simple.specs.Walk.{Leads}
use Rattle.php_parse_simple.specs.Answer.{Fails}

-- whether a label begins, and is a `default`
abbrev pub SeesLabel : List Token → ℕ → Option Bool → Type 0
SeesLabel tokens at None = (head_behind (rest tokens at) ≢ by_case) × (head_behind (rest tokens at) ≢ by_default)
SeesLabel tokens at (Some is_default) = Shows behind tokens at (label_behind is_default)

-- ---- one case

pub record FoundCase (room : ℕ) (tokens : List Token) (at : ℕ) (r : Entry (Case Stmt)) : Type 0 where
  pub label : Option Form
  pub body : Statements Nothing
  pub spot_is : spot_view r.item.spot ≡ (notes_of tokens).token at
  pub label_shown : optional view r.item.value ≡ noted_optional (notes_of tokens) (at + 1) label
  pub body_shown : statements_view r.item.body ≡ noted_statements (notes_of tokens) (at + 1 + size_optional label + 1) body
  pub sized : at + 1 + size_optional label + 1 + size_statements body ≡ r.next
  pub reads : (e : Form) (form : SwitchForm) (cases : Cases Nothing)
      → Leads statement_depth room (λ o. due_case e form cases o) (rest tokens at) (λ o. due_case e form (and_case cases tt label r.item.end body) o) (rest tokens r.next)
  pub within : r.next ≤ length tokens
  pub flat_value : is_flat_optional r.item.value ≡ true
  pub flat_body : are_flat_statements r.item.body ≡ true

abbrev pub AnswersCase : Reader → ℕ → Result (Entry (Case Stmt)) Stop → Type 0
AnswersCase reader at (Ok r) = FoundCase reader.room reader.tokens.now at r
AnswersCase reader at (Err e) = (value : Form) (form : SwitchForm) (cases : Cases Nothing)
    → Fails statement_depth reader.room (λ o. due_case value form cases o) (rest reader.tokens.now at) reader.tokens.now at e

-- ---- all of them

pub record CasesSoFar (room : ℕ) (tokens : List Token) (at : ℕ) (xs : List (Case Stmt)) (next : ℕ) : Type 0 where
  pub cases : Cases Nothing
  pub shown : cases_from no_case (map case_parts xs) ≡ noted_cases (notes_of tokens) at cases
  pub sized : at + size_cases cases ≡ next
  pub reads : (e : Form) (form : SwitchForm) → Leads statement_depth room (λ o. due_case e form no_case o) (rest tokens at) (λ o. due_case e form cases o) (rest tokens next)
  pub within : next ≤ length tokens
  pub flat : list_all is_flat_case xs ≡ true

pub record FoundCases (room : ℕ) (tokens : List Token) (at : ℕ) (r : Listed (Case Stmt)) : Type 0 where
  pub so_far : CasesSoFar room tokens at r.items r.next
  pub no_case_word : head_behind (rest tokens r.next) ≢ by_case
  pub no_default : head_behind (rest tokens r.next) ≢ by_default

abbrev pub AnswersCases : Reader → ℕ → Result (Listed (Case Stmt)) Stop → Type 0
AnswersCases reader at (Ok r) = FoundCases reader.room reader.tokens.now at r
AnswersCases reader at (Err e) = (value : Form) (form : SwitchForm)
    → Fails statement_depth reader.room (λ o. due_case value form no_case o) (rest reader.tokens.now at) reader.tokens.now at e

-- with what ends them
pub record FoundEnclosed (form : SwitchForm) (room : ℕ) (tokens : List Token) (at : ℕ) (r : Listed (Case Stmt)) : Type 0 where
  pub cases : Cases Nothing
  pub shown : cases_from no_case (map case_parts r.items) ≡ noted_cases (notes_of tokens) at cases
  pub sized : at + size_cases cases + size_cases_end form ≡ r.next
  pub reads : (e : Form) → Leads statement_depth room (λ o. due_case e form no_case o) (rest tokens at) (λ o. done (switch tt e form cases) o) (rest tokens r.next)
  pub within : r.next ≤ length tokens
  pub flat : list_all is_flat_case r.items ≡ true

abbrev pub AnswersEnclosed : SwitchForm → Reader → ℕ → Result (Listed (Case Stmt)) Stop → Type 0
AnswersEnclosed form reader at (Ok r) = FoundEnclosed form reader.room reader.tokens.now at r
AnswersEnclosed form reader at (Err e) = (value : Form)
    → Fails statement_depth reader.room (λ o. due_case value form no_case o) (rest reader.tokens.now at) reader.tokens.now at e
