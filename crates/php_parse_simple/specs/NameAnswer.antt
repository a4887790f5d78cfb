-- What the functions of the parser answer that read names and what stands behind them.
use Rattle.std.specs.Prelude.{◌≡◌, ◌≤◌, ◌<◌, ℕ, suc, ◌+◌, nat_lt, true, Option, Some, None, Result, Ok, Err, List, [], ◌∷◌, length}
use Rattle.std.specs.List.{list_all}
use Rattle.php_token.specs.Token.{Token}
use Rattle.php_ast.specs.declared.spot.Name as rust_name
use Rattle.php_ast.specs.declared.statement.VariableItem.{VariableItem}
use Rattle.php_ast.specs.declared.statement.ConstantItem.{ConstantItem}
use Rattle.php_ast.specs.Symbol.{Symbol}
use Rattle.php_ast.specs.expression.Placed.{notes_of}
use Rattle.php_ast.specs.statement.Tree.{Sequence, then_also, Name, Variable, Constant, statics}
use Rattle.php_ast.specs.statement.View.{sequence, name_view, variable_view, constant_view}
use Rattle.php_ast.specs.statement.Placed.{size_separated, size_separator, noted_separated, size_name, noted_name, size_variable, noted_variable, size_constant, noted_constant}
use Rattle.php_grammar.specs.declared.closer.Closer.TheVariants as ender
use Rattle.php_grammar.specs.expression.Machine.{Nothing}
use Rattle.php_grammar.specs.statement.Role.{Ending, closer, ending}
use Rattle.php_grammar.specs.statement.Forms.{Around, as_constant, of_globals, of_statics, of_constants, StatementState, due_statement, done, due_name}
use Rattle.php_grammar.specs.statement.Depth.{statement_depth}
use Rattle.php_flat.specs.Statements.{is_flat_variable, is_flat_constant}
use Rattle.php_reader.specs.declared.reader.Reader.{Reader}
use Rattle.php_reader.specs.declared.fail.Stop.{Stop}
use Rattle.php_reader.specs.Seen.{rest}
use Rattle.php_reader.specs.declared.found.Entry.{Entry}
use Rattle.php_grammar_laws.specs.Walks.{short, stepped, walk_statement}
use Rattle.php_parse_simple.specs.Walk.{StatementOutcome, walk_behind, Leads}
use Rattle.php_parse_simple.specs.Answer.{Fails}

-- ---- elements of a sequence so far

-- behind each of which a comma was read
pub record SpansSoFar {A B : Type 0} (shown : Sequence B) (each : A → ℕ) (note : ℕ → A → B) (at : ℕ) (xs : Sequence A) (next : ℕ) : Type 0 where
  pub shown_is : shown ≡ noted_separated each note at xs
  pub sized : at + size_separated each xs + size_separator xs ≡ next

pub record GlobalsSoFar (room : ℕ) (tokens : List Token) (at : ℕ) (xs : List rust_name.Name) (next : ℕ) : Type 0 where
  pub names : Sequence (Name Nothing)
  pub spans : SpansSoFar (sequence name_view xs) size_name (noted_name (notes_of tokens)) (at + 1) names next
  pub reads : Leads statement_depth room (λ o. due_statement o) (rest tokens at) (λ o. due_name (of_globals names) o) (rest tokens next)
  pub within : next ≤ length tokens

-- ---- a static variable

abbrev pub variable_step : Sequence (Variable Nothing) → Variable Nothing → Around → Ending → Option StatementState
variable_step xs x o (closer ender.Comma) = Some (due_name (of_statics (then_also xs x)) o)
variable_step xs x o (closer ender.Semicolon) = Some (done (statics tt (then_also xs x)) o)
variable_step xs x o _ = None

-- behind a static variable with its value, or with none
abbrev pub walk_variable : ℕ → Sequence (Variable Nothing) → Variable Nothing → Around → List Symbol → StatementOutcome
walk_variable n xs x o [] = short []
walk_variable n xs x o (t ∷ v) = stepped (variable_step xs x o (ending t)) (nat_lt n (statement_depth o)) (λ m. walk_statement n m v) (short (t ∷ v)) (t ∷ v)

pub record FoundVariable (room : ℕ) (tokens : List Token) (at : ℕ) (r : Entry VariableItem) : Type 0 where
  pub variable : Variable Nothing
  pub shown : variable_view r.item ≡ noted_variable (notes_of tokens) at variable
  pub sized : at + size_variable variable ≡ r.next
  pub reads : (xs : Sequence (Variable Nothing)) (n : ℕ) (o : Around) → statement_depth o + room ≡ suc n
      → walk_statement n (due_name (of_statics xs) o) (rest tokens at) ≡ walk_variable n xs variable o (rest tokens r.next)
  pub ahead : at < r.next
  pub within : r.next ≤ length tokens
  pub flat : is_flat_variable r.item ≡ true

abbrev pub AnswersVariable : Reader → ℕ → Result (Entry VariableItem) Stop → Type 0
AnswersVariable reader at (Ok r) = FoundVariable reader.room reader.tokens.now at r
AnswersVariable reader at (Err e) = (xs : Sequence (Variable Nothing)) → Fails statement_depth reader.room (λ o. due_name (of_statics xs) o) (rest reader.tokens.now at) reader.tokens.now at e

pub record VariablesSoFar (room : ℕ) (tokens : List Token) (at : ℕ) (xs : List VariableItem) (next : ℕ) : Type 0 where
  pub variables : Sequence (Variable Nothing)
  pub spans : SpansSoFar (sequence variable_view xs) size_variable (noted_variable (notes_of tokens)) (at + 1) variables next
  pub reads : Leads statement_depth room (λ o. due_statement o) (rest tokens at) (λ o. due_name (of_statics variables) o) (rest tokens next)
  pub within : next ≤ length tokens
  pub flat : list_all is_flat_variable xs ≡ true

-- ---- a constant

pub record FoundConstant (room : ℕ) (tokens : List Token) (at : ℕ) (r : Entry ConstantItem) : Type 0 where
  pub constant : Constant Nothing
  pub shown : constant_view r.item ≡ noted_constant (notes_of tokens) at constant
  pub sized : at + size_constant constant ≡ r.next
  pub reads : (xs : Sequence (Constant Nothing)) (n : ℕ) (o : Around) → statement_depth o + room ≡ suc n
      → walk_statement n (due_name (of_constants xs) o) (rest tokens at) ≡ walk_behind n (as_constant xs constant.name) constant.value o (rest tokens r.next)
  pub ahead : at < r.next
  pub within : r.next ≤ length tokens
  pub flat : is_flat_constant r.item ≡ true

abbrev pub AnswersConstant : Reader → ℕ → Result (Entry ConstantItem) Stop → Type 0
AnswersConstant reader at (Ok r) = FoundConstant reader.room reader.tokens.now at r
AnswersConstant reader at (Err e) = (xs : Sequence (Constant Nothing)) → Fails statement_depth reader.room (λ o. due_name (of_constants xs) o) (rest reader.tokens.now at) reader.tokens.now at e

pub record ConstantsSoFar (room : ℕ) (tokens : List Token) (at : ℕ) (xs : List ConstantItem) (next : ℕ) : Type 0 where
  pub constants : Sequence (Constant Nothing)
  pub spans : SpansSoFar (sequence constant_view xs) size_constant (noted_constant (notes_of tokens)) (at + 1) constants next
  pub reads : Leads statement_depth room (λ o. due_statement o) (rest tokens at) (λ o. due_name (of_constants constants) o) (rest tokens next)
  pub within : next ≤ length tokens
  pub flat : list_all is_flat_constant xs ≡ true
