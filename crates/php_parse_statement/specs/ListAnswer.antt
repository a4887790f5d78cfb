-- What the functions of the parser answer that read lists of statements, blocks and bodies.
use Rattle.std.specs.Prelude.{◌≡◌, ◌≢◌, ◌≤◌, ◌<◌, ℕ, ◌+◌, true, Some, None, Result, Ok, Err, List, ◌∷◌, length}
use Rattle.php_token.specs.Token.{Token}
use Rattle.php_ast.specs.declared.statement.Stmt.{Stmt}
use Rattle.php_ast.specs.expression.Placed.{notes_of}
use Rattle.php_ast.specs.statement.Tree.{Statement, Statements, no_statement}
use Rattle.php_ast.specs.statement.View.{statement_view, statements_view}
use Rattle.php_ast.specs.statement.Placed.{size_statements, noted_statements}
use Rattle.php_grammar.specs.expression.Machine.{Nothing}
use Rattle.php_grammar.specs.statement.Laws.{head_behind}
use Rattle.php_grammar.specs.statement.Role.{Behind, by_brace}
use Rattle.php_grammar.specs.statement.Forms.{StatementList, of_block, OpenStatement, Around, StatementState, due_statement, done, due_in_list}
use Rattle.php_grammar.specs.statement.Machine.{list_end}
use Rattle.php_grammar.specs.statement.Depth.{is_body_at, statement_depth, depth_outside}
use Rattle.php_flat.specs.Statements.{are_flat_statements}
use Rattle.php_reader.specs.declared.reader.Reader.{Reader}
use Rattle.php_reader.specs.declared.fail.Stop.{Stop}
use Rattle.php_reader.specs.Seen.{rest}
use Rattle.php_parse_simple.specs.declared.read.ReadStatement.{ReadStatement}
use Rattle.php_reader.specs.declared.found.Listed.{Listed}
use Rattle.php_parse_simple.specs.RoleView.{ends_list}
use Rattle.php_parse_simple.specs.Walk.{Leads}
use Rattle.php_parse_simple.specs.Answer.{Fails, SpansStatement}

-- ---- lists

-- where the token stands that opens the list
abbrev pub list_measure : StatementList → Around → ℕ
list_measure of_block o = depth_outside o
list_measure _ o = statement_depth o

pub record StatementsSoFar (room : ℕ) (tokens : List Token) (at : ℕ) (xs : List Stmt) (next : ℕ) : Type 0 where
  pub statements : Statements Nothing
  pub shown : statements_view xs ≡ noted_statements (notes_of tokens) at statements
  pub sized : at + size_statements statements ≡ next
  pub reads : (list : StatementList) → Leads (list_measure list) room (λ o. due_in_list list no_statement o) (rest tokens at) (λ o. due_in_list list statements o) (rest tokens next)
  pub within : next ≤ length tokens
  pub flat : are_flat_statements xs ≡ true

-- The statements of a list were read, up to a token that ends one.
pub record FoundStatements (room : ℕ) (tokens : List Token) (at : ℕ) (r : Listed Stmt) : Type 0 where
  pub so_far : StatementsSoFar room tokens at r.items r.next
  pub ended : ends_list (head_behind (rest tokens r.next)) ≡ true

abbrev pub AnswersStatements : Reader → ℕ → Result (Listed Stmt) Stop → Type 0
AnswersStatements reader at (Ok r) = FoundStatements reader.room reader.tokens.now at r
AnswersStatements reader at (Err e) = (list : StatementList) → Fails (list_measure list) reader.room (λ o. due_in_list list no_statement o) (rest reader.tokens.now at) reader.tokens.now at e

-- ---- in braces

-- A list that `}` ends, and nothing else, and where that leads.
pub record IsBraced (list : StatementList) (to : Statements Nothing → Around → StatementState) : Type 0 where
  pub closes : (ss : Statements Nothing) (o : Around) → list_end list ss o by_brace ≡ Some (to ss o)
  pub only : (ss : Statements Nothing) (o : Around) (x : Behind) → x ≢ by_brace → list_end list ss o x ≡ None

pub record FoundBraced (room : ℕ) (tokens : List Token) (at : ℕ) (r : Listed Stmt) : Type 0 where
  pub statements : Statements Nothing
  pub shown : statements_view r.items ≡ noted_statements (notes_of tokens) at statements
  pub sized : at + size_statements statements + 1 ≡ r.next
  pub reads : (list : StatementList) (to : Statements Nothing → Around → StatementState) → IsBraced list to
      → Leads (list_measure list) room (λ o. due_in_list list no_statement o) (rest tokens at) (λ o. to statements o) (rest tokens r.next)
  pub within : r.next ≤ length tokens
  pub flat : are_flat_statements r.items ≡ true

abbrev pub AnswersBraced : Reader → ℕ → Result (Listed Stmt) Stop → Type 0
AnswersBraced reader at (Ok r) = FoundBraced reader.room reader.tokens.now at r
AnswersBraced reader at (Err e) = (list : StatementList) (to : Statements Nothing → Around → StatementState) → IsBraced list to
    → Fails (list_measure list) reader.room (λ o. due_in_list list no_statement o) (rest reader.tokens.now at) reader.tokens.now at e

-- ---- bodies

pub record FoundBody (room : ℕ) (tokens : List Token) (at : ℕ) (r : ReadStatement) : Type 0 where
  pub form : Statement Nothing
  pub spans : SpansStatement tokens (statement_view r.statement) form at r.next
  pub reads : (f : OpenStatement) → is_body_at f ≡ true → Leads statement_depth room (λ o. due_statement (f ∷ o)) (rest tokens at) (λ o. done form (f ∷ o)) (rest tokens r.next)
  pub ahead : at < r.next
  pub within : r.next ≤ length tokens

abbrev pub AnswersBody : Reader → ℕ → Result ReadStatement Stop → Type 0
AnswersBody reader at (Ok r) = FoundBody reader.room reader.tokens.now at r
AnswersBody reader at (Err e) = (f : OpenStatement) → is_body_at f ≡ true
    → Fails statement_depth reader.room (λ o. due_statement (f ∷ o)) (rest reader.tokens.now at) reader.tokens.now at e
