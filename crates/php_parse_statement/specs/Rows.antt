-- What is answered of statements around which no other statement is open: of one, and of those between the braces of a
-- function.
use Rattle.std.specs.Prelude.{◌≡◌, ◌≤◌, ◌<◌, ℕ, suc, ◌+◌, Bool, true, false, Option, Some, None, Result, Ok, Err, List, [], ◌∷◌, length}
use Rattle.php_token.specs.Token.{Token}
use Rattle.php_token.specs.declared.kind.Punct.TheVariants as mark
use Rattle.php_ast.specs.declared.statement.Stmt.{Stmt}
use Rattle.php_ast.specs.Symbol.{Symbol, punct}
use Rattle.php_ast.specs.expression.Placed.{notes_of}
use Rattle.php_ast.specs.statement.Tree.{Statement, Statements, no_statement, and_statement}
use Rattle.php_ast.specs.statement.View.{statement_view, statements_view}
use Rattle.php_ast.specs.statement.Placed.{size_statement, noted_statement, size_statements, noted_statements}
use Rattle.php_grammar.specs.expression.Machine.{Nothing, pick}
use Rattle.php_grammar.specs.statement.Role.{is_right_brace}
use Rattle.php_grammar.specs.statement.Forms.{StatementState, due_statement}
use Rattle.php_grammar.specs.statement.Machine.{begin}
use Rattle.php_grammar_laws.specs.Walks.{whole, walk_statement}
use Rattle.php_flat.specs.Statements.{are_flat_statements}
use Rattle.php_reader.specs.declared.reader.Reader.{Reader}
use Rattle.php_reader.specs.declared.fail.Stop.{Stop}
use Rattle.php_reader.specs.declared.fail.Stop.TheVariants.{Syntax, TooDeep, NoMemory}
use Rattle.php_reader.specs.Seen.{rest, test}
use Rattle.php_parse_simple.specs.declared.read.ReadStatement.{ReadStatement}
use Rattle.php_parse_simple.specs.Walk.{stopped}
use Rattle.php_parse_statement.specs.declared.read.ReadBraced.{ReadBraced}

-- ---- one statement, with symbols nested as deep as n

pub record Outermost (n : ℕ) (tokens : List Token) (at : ℕ) (r : ReadStatement) : Type 0 where
  pub form : Statement Nothing
  pub shown : statement_view r.statement ≡ noted_statement (notes_of tokens) at form
  pub sized : at + size_statement form ≡ r.next
  pub reads : walk_statement n (due_statement []) (rest tokens at) ≡ whole form (rest tokens r.next)
  pub ahead : at < r.next
  pub within : r.next ≤ length tokens

pub record IsStopped (too_deep : Bool) (n : ℕ) (tokens : List Token) (at k : ℕ) : Type 0 where
  pub halts : walk_statement n (due_statement []) (rest tokens at) ≡ stopped too_deep (rest tokens k)
  pub ahead : at ≤ k
  pub within : k ≤ length tokens

abbrev pub StopsAll : ℕ → List Token → ℕ → Stop → Type 0
StopsAll n tokens at (Syntax k) = IsStopped false n tokens at k
StopsAll n tokens at (TooDeep k) = IsStopped true n tokens at k
StopsAll n tokens at NoMemory = Unit {0}

-- ---- between the braces of a function

-- a statement there: it isn't the `}`, and is read by a walk of its own
pub record IsNext (n : ℕ) (u : List Symbol) (a : Statement Nothing) (v : List Symbol) : Type 0 where
  pub no_brace : test is_right_brace u ≡ false
  pub reads : walk_statement n (due_statement []) u ≡ whole a v

-- one behind the other
abbrev pub IsRow : ℕ → List Symbol → Statements Nothing → List Symbol → Type 0
IsRow n w no_statement v = w ≡ v
IsRow n w (and_statement ss a) v = (u : List Symbol) × (IsRow n w ss u × IsNext n u a v)

abbrev pub is_some : Option StatementState → Bool
is_some None = false
is_some (Some m) = true

-- `}`, or what begins a statement
abbrev pub goes_on : Symbol → Bool
goes_on t = pick (is_right_brace t) true (is_some (begin [] t))

-- so many levels of nesting are left around the braces
pub record FoundRow (room : ℕ) (tokens : List Token) (at : ℕ) (r : ReadBraced) : Type 0 where
  pub statements : Statements Nothing
  pub shown : statements_view r.statements ≡ noted_statements (notes_of tokens) at statements
  pub sized : at + size_statements statements + 1 ≡ r.next
  pub row : (n : ℕ) → room ≡ suc (suc n) → IsRow n (rest tokens at) statements (punct mark.RightBrace ∷ rest tokens r.next)
  pub inside : 2 ≤ room
  pub within : r.next ≤ length tokens

-- behind some statements, one that stops there
pub record StopsRow (too_deep : Bool) (n : ℕ) (w x : List Symbol) : Type 0 where
  pub statements : Statements Nothing
  pub mid : List Symbol
  pub row : IsRow n w statements mid
  pub no_brace : test is_right_brace mid ≡ false
  pub halts : walk_statement n (due_statement []) mid ≡ stopped too_deep x

pub record RowStops (too_deep : Bool) (room : ℕ) (tokens : List Token) (at k : ℕ) : Type 0 where
  pub inside : (n : ℕ) → room ≡ suc (suc n) → StopsRow too_deep n (rest tokens at) (rest tokens k)
  -- no level is left in the braces
  pub none : room ≡ 1 → (at ≡ k) × (test goes_on (rest tokens at) ≡ too_deep)
  pub ahead : at ≤ k
  pub within : k ≤ length tokens

abbrev pub RowFails : ℕ → List Token → ℕ → Stop → Type 0
RowFails room tokens at (Syntax k) = RowStops false room tokens at k
RowFails room tokens at (TooDeep k) = RowStops true room tokens at k
RowFails room tokens at NoMemory = Unit {0}

abbrev pub AnswersRow : Reader → ℕ → Result ReadBraced Stop → Type 0
AnswersRow reader at (Ok r) = FoundRow reader.room reader.tokens.now at r
AnswersRow reader at (Err e) = RowFails reader.room reader.tokens.now at e

pub record RowSoFar (room : ℕ) (tokens : List Token) (at : ℕ) (xs : List Stmt) (next : ℕ) : Type 0 where
  pub statements : Statements Nothing
  pub shown : statements_view xs ≡ noted_statements (notes_of tokens) at statements
  pub sized : at + size_statements statements ≡ next
  pub row : (n : ℕ) → room ≡ suc (suc n) → IsRow n (rest tokens at) statements (rest tokens next)
  pub within : next ≤ length tokens
  pub flat : are_flat_statements xs ≡ true
