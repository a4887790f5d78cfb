-- What the functions of the parser answer.
use Rattle.std.specs.Prelude.{◌≡◌, ◌≢◌, ◌≤◌, ◌<◌, ℕ, suc, ◌+◌, ◌-◌, Bool, true, false, Option, Some, None, Result, Ok, Err, List, [], ◌∷◌, map, length}
use Rattle.php_token.specs.Token.{Token}
use Rattle.php_ast.specs.declared.expression.Expr.{Expr}
use Rattle.php_ast.specs.declared.spot.Name as rust_name
use Rattle.php_ast.specs.Symbol.{Symbol}
use Rattle.php_ast.specs.expression.Tree as tree
use Rattle.php_ast.specs.expression.View.{Note, view, values_from}
use Rattle.php_ast.specs.expression.Placed.{size_items, noted_items, comma_size, notes_of}
use Rattle.php_ast.specs.statement.Tree.{Statement}
use Rattle.php_ast.specs.statement.View.{name_view, statement_view}
use Rattle.php_ast.specs.statement.Placed.{size_statement, noted_name, noted_statement}
use Rattle.php_grammar.specs.declared.closer.Closer.TheVariants as ender
use Rattle.php_grammar.specs.expression.Machine.{Nothing, Form}
use Rattle.php_grammar.specs.statement.Role.{closer}
use Rattle.php_grammar.specs.statement.Forms.{Around, Values, as_line, as_value, StatementState, due_statement, done}
use Rattle.php_grammar.specs.statement.Machine.{expected, named_here}
use Rattle.php_grammar.specs.statement.Depth.{statement_depth, values_depth}
use Rattle.php_build.specs.Flat.{are_flat}
use Rattle.php_reader.specs.declared.reader.Reader.{Reader}
use Rattle.php_reader.specs.declared.fail.Stop.{Stop}
use Rattle.php_reader.specs.declared.fail.Stop.TheVariants.{Syntax, TooDeep, NoMemory}
use Rattle.php_reader.specs.Seen.{rest, Shows}
use Rattle.php_parse_operands.specs.declared.read.Read.{Read}
use Rattle.php_parse_operands.specs.Walk as inner
use Rattle.php_parse_operands.specs.Answer.{Spans}
use Rattle.php_parse_simple.specs.declared.read.ReadStatement.{ReadStatement}
use Rattle.php_reader.specs.declared.found.Listed.{Listed}
use Rattle.php_grammar_laws.specs.Walks.{walk_statement}
use Rattle.php_parse_simple.specs.Walk.{Leads, Halts, walk_behind, expression_outcome, depth_before, head_ending}

-- ---- failures

-- The reading stops in front of the token at a place, not before those that were read already.
pub record StopsAt (too_deep : Bool) (depth : Around → ℕ) (room : ℕ) (from : Around → StatementState) (w : List Symbol) (tokens : List Token) (at k : ℕ) : Type 0 where
  pub halts : Halts too_deep depth room from w (rest tokens k)
  pub ahead : at ≤ k
  pub within : k ≤ length tokens

-- from a state before the symbols w
abbrev pub Fails : (Around → ℕ) → ℕ → (Around → StatementState) → List Symbol → List Token → ℕ → Stop → Type 0
Fails depth room from w tokens at (Syntax k) = StopsAt false depth room from w tokens at k
Fails depth room from w tokens at (TooDeep k) = StopsAt true depth room from w tokens at k
Fails depth room from w tokens at NoMemory = Unit {0}

-- ---- an expression in a statement

pub record FoundExpression (room : ℕ) (tokens : List Token) (at : ℕ) (r : Read) : Type 0 where
  pub form : Form
  pub spans : Spans tokens (view r.expr) form at r.next
  pub reads : expression_outcome room (rest tokens at) ≡ inner.whole form (rest tokens r.next)
  pub ahead : at < r.next
  pub within : r.next ≤ length tokens
  pub some : 1 ≤ room

pub record StopsInside (too_deep : Bool) (room : ℕ) (tokens : List Token) (at k : ℕ) : Type 0 where
  pub halts : expression_outcome room (rest tokens at) ≡ inner.stopped too_deep (rest tokens k)
  pub ahead : at ≤ k
  pub within : k ≤ length tokens

abbrev pub FailsInside : ℕ → List Token → ℕ → Stop → Type 0
FailsInside room tokens at (Syntax k) = StopsInside false room tokens at k
FailsInside room tokens at (TooDeep k) = StopsInside true room tokens at k
FailsInside room tokens at NoMemory = Unit {0}

-- the expression that begins at a place
abbrev pub AnswersExpression : Reader → ℕ → Result Read Stop → Type 0
AnswersExpression reader at (Ok r) = FoundExpression reader.room reader.tokens.now at r
AnswersExpression reader at (Err e) = FailsInside reader.room reader.tokens.now at e

-- ---- a statement

-- The tree has this form, and its notes are about the tokens from one place to before another.
pub record SpansStatement (tokens : List Token) (a : Statement Note) (form : Statement Nothing) (at next : ℕ) : Type 0 where
  pub shown : a ≡ noted_statement (notes_of tokens) at form
  pub sized : at + size_statement form ≡ next

-- A statement was read, from where one is due to where it is whole.
pub record FoundStatement (depth : Around → ℕ) (room : ℕ) (tokens : List Token) (at : ℕ) (r : ReadStatement) : Type 0 where
  pub form : Statement Nothing
  pub spans : SpansStatement tokens (statement_view r.statement) form at r.next
  pub reads : Leads depth room (λ o. due_statement o) (rest tokens at) (λ o. done form o) (rest tokens r.next)
  pub ahead : at < r.next
  pub within : r.next ≤ length tokens

abbrev pub AnswersIn : (Around → ℕ) → ℕ → List Token → ℕ → Result ReadStatement Stop → Type 0
AnswersIn depth room tokens at (Ok r) = FoundStatement depth room tokens at r
AnswersIn depth room tokens at (Err e) = Fails depth room (λ o. due_statement o) (rest tokens at) tokens at e

abbrev pub AnswersBy : (Around → ℕ) → Reader → ℕ → Result ReadStatement Stop → Type 0
AnswersBy depth reader at r = AnswersIn depth reader.room reader.tokens.now at r

-- one that is no block
abbrev pub AnswersForm : Reader → ℕ → Result ReadStatement Stop → Type 0
AnswersForm reader at r = AnswersBy statement_depth reader at r

-- any one
abbrev pub AnswersStatement : Reader → ℕ → Result ReadStatement Stop → Type 0
AnswersStatement reader at r = AnswersBy (depth_before (rest reader.tokens.now at)) reader at r

-- where a statement is due, an expression is
abbrev pub IsLine : Reader → ℕ → Type 0
IsLine reader at = Leads statement_depth reader.room (λ o. due_statement o) (rest reader.tokens.now at) (λ o. expected as_line o) (rest reader.tokens.now at)

-- ---- values between commas

-- The last value stands in front of what ends the list, or doesn't.
pub record FoundValues (room : ℕ) (tokens : List Token) (at : ℕ) (r : Listed Expr) : Type 0 where
  pub items : tree.Items Nothing
  pub last : Form
  pub shown : values_from tree.none (map view r.items) ≡ noted_items (notes_of tokens) at (tree.and items tree.plain last)
  pub sized : at + size_items (tree.and items tree.plain last) ≡ r.next
  pub reads : (values : Values) (n : ℕ) (o : Around) → values_depth values (statement_depth o) + room ≡ suc n
      → walk_statement n (expected (as_value values tree.none) o) (rest tokens at) ≡ walk_behind n (as_value values items) last o (rest tokens r.next)
  pub no_comma : head_ending (rest tokens r.next) ≢ closer ender.Comma
  pub ahead : at < r.next
  pub within : r.next ≤ length tokens
  pub some : 1 ≤ room
  pub flat : are_flat r.items ≡ true

abbrev pub AnswersValues : Reader → ℕ → Result (Listed Expr) Stop → Type 0
AnswersValues reader at (Ok r) = FoundValues reader.room reader.tokens.now at r
AnswersValues reader at (Err e) = (values : Values)
    → Fails (λ o. values_depth values (statement_depth o)) reader.room (λ o. expected (as_value values tree.none) o) (rest reader.tokens.now at) reader.tokens.now at e

pub record ValuesSoFar (room : ℕ) (tokens : List Token) (at : ℕ) (xs : List Expr) (next : ℕ) : Type 0 where
  pub items : tree.Items Nothing
  pub shown : values_from tree.none (map view xs) ≡ noted_items (notes_of tokens) at items
  pub sized : at + size_items items + comma_size items ≡ next
  pub reads : (values : Values)
      → Leads (λ o. values_depth values (statement_depth o)) room (λ o. expected (as_value values tree.none) o) (rest tokens at) (λ o. expected (as_value values items) o) (rest tokens next)
  pub within : next ≤ length tokens
  pub flat : are_flat xs ≡ true

-- ---- what is seen at a place

-- the name that a symbol is
abbrev pub head_text : (Symbol → Option (List ℕ)) → List Symbol → Option (List ℕ)
head_text text_of [] = None
head_text text_of (t ∷ w) = text_of t

abbrev pub ShowsName : (Symbol → Option (List ℕ)) → List Token → ℕ → Option rust_name.Name → Type 0
ShowsName text_of tokens at None = head_text text_of (rest tokens at) ≡ None
ShowsName text_of tokens at (Some n) = (text : List ℕ) × Shows text_of tokens at (Some text) × (name_view n ≡ noted_name (notes_of tokens) at (named_here text))

abbrev pub text_if : Bool → List ℕ → Option (List ℕ)
text_if true text = Some text
text_if false text = None
