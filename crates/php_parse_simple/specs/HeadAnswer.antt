-- What the functions of the parser answer that read what stands in parentheses behind the word of a form.
use Rattle.std.specs.Prelude.{◌≡◌, ◌≢◌, ◌≤◌, ◌<◌, ℕ, suc, ◌+◌, Bool, true, Option, Some, None, Result, Ok, Err, List, [], ◌∷◌, map, length}
use Rattle.php_token.specs.Token.{Token}
use Rattle.php_ast.specs.declared.statement.Target as rust_target
use Rattle.php_ast.specs.declared.expression.Expr.{Expr}
use Rattle.php_ast.specs.declared.statement.ForHead.{ForHead}
use Rattle.php_ast.specs.declared.statement.ForeachHead.{ForeachHead}
use Rattle.php_ast.specs.expression.Tree as tree
use Rattle.php_grammar.specs.declared.closer.Closer.{Closer}
use Rattle.php_reader.specs.declared.found.Listed.{Listed}
use Rattle.php_ast.specs.Symbol.{Symbol}
use Rattle.php_ast.specs.expression.View.{view, values_from}
use Rattle.php_ast.specs.expression.Placed.{size, size_items, noted, noted_items, notes_of}
use Rattle.php_ast.specs.statement.Tree.{Target}
use Rattle.php_ast.specs.statement.View.{optional, target_view, values_view}
use Rattle.php_ast.specs.statement.Placed.{size_key, size_target, noted_key, noted_target}
use Rattle.php_grammar.specs.expression.Machine.{Nothing, Form}
use Rattle.php_grammar.specs.statement.Role.{left_paren}
use Rattle.php_grammar.specs.statement.Forms.{for_loop, foreach_loop, Values, of_starts, as_walked, Around, Head, ExpressionPlace, StatementState, due, due_value, past_as, past_loop}
use Rattle.php_grammar.specs.statement.Machine.{headed, tested, expected, target_step, values_end, advance_statement}
use Rattle.php_grammar.specs.statement.Depth.{statement_depth, place_depth, values_depth, statement_depth_at}
use Rattle.php_grammar.specs.statement.Reading.{halt_statement}
use Rattle.php_build.specs.Flat.{is_flat, are_flat}
use Rattle.php_flat.specs.Statements.{is_flat_target, is_flat_for, is_flat_foreach}
use Rattle.php_reader.specs.declared.reader.Reader.{Reader}
use Rattle.php_reader.specs.declared.fail.Stop.{Stop}
use Rattle.php_reader.specs.Seen.{rest}
use Rattle.php_reader.specs.declared.found.Entry.{Entry}
use Rattle.php_parse_simple.specs.declared.read.Turn.{Turn}
use Rattle.php_grammar_laws.specs.Walks.{short, outcome, walk_statement}
use Rattle.php_parse_simple.specs.Walk.{walk_behind, Leads}
use Rattle.php_parse_simple.specs.Answer.{Fails}

-- ---- a test in parentheses

pub record FoundTest (room : ℕ) (tokens : List Token) (at : ℕ) (r : Entry Expr) : Type 0 where
  pub form : Form
  pub shown : view r.item ≡ noted (notes_of tokens) (at + 1) form
  pub sized : at + size form + 2 ≡ r.next
  pub reads : (head : Head) → Leads statement_depth room (λ o. headed head o) (rest tokens at) (λ o. tested head form o) (rest tokens r.next)
  pub ahead : at < r.next
  pub within : r.next ≤ length tokens
  pub flat : is_flat r.item ≡ true

abbrev pub AnswersTest : Reader → ℕ → Result (Entry Expr) Stop → Type 0
AnswersTest reader at (Ok r) = FoundTest reader.room reader.tokens.now at r
AnswersTest reader at (Err e) = (head : Head) → Fails statement_depth reader.room (λ o. headed head o) (rest reader.tokens.now at) reader.tokens.now at e

-- ---- a target

-- a state in which a target is due, and the place of its expression by whether it is a reference
pub record IsTargetPlace (ready : Around → StatementState) (place : Bool → ExpressionPlace) : Type 0 where
  pub steps : (o : Around) (t : Symbol) → advance_statement (ready o) t ≡ target_step place o t
  pub counts : (o : Around) (t : Symbol) → statement_depth_at (ready o) t ≡ 1 + statement_depth o
  pub places : (b : Bool) (d : ℕ) → place_depth (place b) d ≡ 1 + d
  pub lacks : (o : Around) (w : List Symbol) → outcome (halt_statement (ready o) w) ≡ short w

-- in parentheses in which so many levels are left
pub record FoundTarget (room : ℕ) (tokens : List Token) (at : ℕ) (r : Entry rust_target.Target) : Type 0 where
  pub target : Target Nothing
  pub shown : target_view r.item ≡ noted_target (notes_of tokens) at target
  pub sized : at + size_target target ≡ r.next
  pub reads : (ready : Around → StatementState) (place : Bool → ExpressionPlace) → IsTargetPlace ready place → (n : ℕ) (o : Around) → 1 + statement_depth o + room ≡ suc n
      → walk_statement n (ready o) (rest tokens at) ≡ walk_behind n (place target.is_reference) target.place o (rest tokens r.next)
  pub ahead : at < r.next
  pub within : r.next ≤ length tokens
  pub flat : is_flat_target r.item ≡ true

abbrev pub AnswersTarget : Reader → ℕ → Result (Entry rust_target.Target) Stop → Type 0
AnswersTarget reader at (Ok r) = FoundTarget reader.room reader.tokens.now at r
AnswersTarget reader at (Err e) = (ready : Around → StatementState) (place : Bool → ExpressionPlace) → IsTargetPlace ready place
    → Fails (λ o. 1 + statement_depth o) reader.room ready (rest reader.tokens.now at) reader.tokens.now at e

-- ---- what stands behind the `as` of a `foreach`, up to its `)`

pub record FoundTurn (room : ℕ) (tokens : List Token) (at : ℕ) (r : Turn) : Type 0 where
  pub key : Option (Target Nothing)
  pub value : Target Nothing
  pub key_shown : optional target_view r.key ≡ noted_key (notes_of tokens) at key
  pub value_shown : target_view r.value ≡ noted_target (notes_of tokens) (at + size_key key) value
  pub sized : at + size_key key + size_target value + 1 ≡ r.next
  pub reads : (walked : Form) → Leads statement_depth room (λ o. past_as walked o) (rest tokens at) (λ o. past_loop (foreach_loop walked key value) o) (rest tokens r.next)
  pub ahead : at < r.next
  pub within : r.next ≤ length tokens

abbrev pub AnswersTurn : Reader → ℕ → Result Turn Stop → Type 0
AnswersTurn reader at (Ok r) = FoundTurn reader.room reader.tokens.now at r
AnswersTurn reader at (Err e) = (walked : Form) → Fails statement_depth reader.room (λ o. past_as walked o) (rest reader.tokens.now at) reader.tokens.now at e

-- ---- the head of a `foreach`, from its `(` on

pub record FoundForeachHead (room : ℕ) (tokens : List Token) (at : ℕ) (r : Entry ForeachHead) : Type 0 where
  pub walked : Form
  pub key : Option (Target Nothing)
  pub value : Target Nothing
  pub walked_shown : view r.item.walked ≡ noted (notes_of tokens) (at + 1) walked
  pub key_shown : optional target_view r.item.key ≡ noted_key (notes_of tokens) (at + 1 + size walked + 1) key
  pub value_shown : target_view r.item.value ≡ noted_target (notes_of tokens) (at + 1 + size walked + 1 + size_key key) value
  pub sized : at + 1 + size walked + 1 + size_key key + size_target value + 1 ≡ r.next
  pub reads : Leads statement_depth room (λ o. due (left_paren ∷ []) (expected as_walked o)) (rest tokens at) (λ o. past_loop (foreach_loop walked key value) o) (rest tokens r.next)
  pub ahead : at < r.next
  pub within : r.next ≤ length tokens
  pub flat : is_flat_foreach r.item ≡ true

abbrev pub AnswersForeachHead : Reader → ℕ → Result (Entry ForeachHead) Stop → Type 0
AnswersForeachHead reader at (Ok r) = FoundForeachHead reader.room reader.tokens.now at r
AnswersForeachHead reader at (Err e) = Fails statement_depth reader.room (λ o. due (left_paren ∷ []) (expected as_walked o)) (rest reader.tokens.now at) reader.tokens.now at e

-- ---- a list of a `for`

-- Values in parentheses that one token ends, and no other but a comma, and where that leads.
pub record IsEnded (values : Values) (end : Closer) (to : tree.Items Nothing → Around → StatementState) : Type 0 where
  pub closes : (items : tree.Items Nothing) (o : Around) → values_end values items o end ≡ Some (to items o)
  pub only : (items : tree.Items Nothing) (o : Around) (c : Closer) → c ≢ end → values_end values items o c ≡ None
  pub inside : (d : ℕ) → values_depth values d ≡ 1 + d

-- in parentheses in which so many levels are left
pub record FoundValueList (end : Closer) (room : ℕ) (tokens : List Token) (at : ℕ) (r : Listed Expr) : Type 0 where
  pub items : tree.Items Nothing
  pub shown : values_from tree.none (map view r.items) ≡ noted_items (notes_of tokens) at items
  pub sized : at + size_items items + 1 ≡ r.next
  pub reads : (values : Values) (to : tree.Items Nothing → Around → StatementState) → IsEnded values end to
      → Leads (λ o. 1 + statement_depth o) room (λ o. due_value values o) (rest tokens at) (λ o. to items o) (rest tokens r.next)
  pub within : r.next ≤ length tokens
  pub flat : are_flat r.items ≡ true

abbrev pub AnswersValueList : Closer → Reader → ℕ → Result (Listed Expr) Stop → Type 0
AnswersValueList end reader at (Ok r) = FoundValueList end reader.room reader.tokens.now at r
AnswersValueList end reader at (Err e) = (values : Values) (to : tree.Items Nothing → Around → StatementState) → IsEnded values end to
    → Fails (λ o. 1 + statement_depth o) reader.room (λ o. due_value values o) (rest reader.tokens.now at) reader.tokens.now at e

-- ---- the head of a `for`, from its `(` on

pub record FoundForHead (room : ℕ) (tokens : List Token) (at : ℕ) (r : Entry ForHead) : Type 0 where
  pub starts : tree.Items Nothing
  pub tests : tree.Items Nothing
  pub steps : tree.Items Nothing
  pub starts_shown : values_view r.item.starts ≡ noted_items (notes_of tokens) (at + 1) starts
  pub tests_shown : values_view r.item.tests ≡ noted_items (notes_of tokens) (at + 1 + size_items starts + 1) tests
  pub steps_shown : values_view r.item.steps ≡ noted_items (notes_of tokens) (at + 1 + size_items starts + 1 + size_items tests + 1) steps
  pub sized : at + 1 + size_items starts + 1 + size_items tests + 1 + size_items steps + 1 ≡ r.next
  pub reads : Leads statement_depth room (λ o. due (left_paren ∷ []) (due_value of_starts o)) (rest tokens at) (λ o. past_loop (for_loop starts tests steps) o) (rest tokens r.next)
  pub within : r.next ≤ length tokens
  pub flat : is_flat_for r.item ≡ true

abbrev pub AnswersForHead : Reader → ℕ → Result (Entry ForHead) Stop → Type 0
AnswersForHead reader at (Ok r) = FoundForHead reader.room reader.tokens.now at r
AnswersForHead reader at (Err e) = Fails statement_depth reader.room (λ o. due (left_paren ∷ []) (due_value of_starts o)) (rest reader.tokens.now at) reader.tokens.now at e
