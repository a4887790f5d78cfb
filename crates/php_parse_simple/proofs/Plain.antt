-- Statements that hold no other statement.
use Rattle.std.proofs.Common.{◌≡◌, ◌≢◌, ◌≤◌, ℕ, suc, ◌+◌, true, false, Option, Some, None, List, [], ◌∷◌, refl, sym, ◌∙◌, ap, arith}
use Rattle.std.specs.Prelude.{nat_lt}
use Rattle.std.proofs.lemmas.Bool.{le-ltb}
use Rattle.php_token.specs.Token.{Token}
use Rattle.php_ast.specs.Symbol.{Symbol}
use Rattle.php_ast.specs.expression.Tree.{Tree, Items, none}
use Rattle.php_ast.specs.expression.View.{Note}
use Rattle.php_ast.specs.expression.Placed.{size_items, noted_items, notes_of}
use Rattle.php_ast.specs.statement.Tree.{Statement, Jump, blank, inline, expression, echo, unset, jump, throw}
use Rattle.php_grammar.specs.declared.closer.Closer.TheVariants as ender
use Rattle.php_grammar.specs.Run.{either, if_some, whole_before}
use Rattle.php_grammar.specs.TooDeep.{depth_inside}
use Rattle.php_grammar.specs.expression.Machine.{Nothing, Form, State, expects, advance, pick}
use Rattle.php_grammar.specs.statement.Role.{StatementBeginning, at_expression, statement_beginning, Ending, closer, ending, is_semicolon}
use Rattle.php_grammar.specs.statement.Forms.{Around, Values, of_echo, of_unset, as_line, as_value, as_jump, as_thrown, ExpressionPlace, StatementState, due_statement, done, in_expression, past_jump}
use Rattle.php_grammar.specs.statement.Machine.{begun, expected, entered, filled, advance_statement}
use Rattle.php_grammar.specs.statement.Depth.{statement_depth, begun_depth, place_depth, values_depth, statement_depth_at}
use Rattle.php_grammar.specs.statement.Reading.{halt_statement}
use Rattle.php_reader.specs.Seen.{test}
use Rattle.php_parse_operands.specs.Answer.{Spans}
use Rattle.php_parse_simple.specs.RoleView.{head_begun}
use Rattle.php_parse_simple.specs.Answer.{SpansStatement}
use Rattle.php_grammar_laws.specs.Walks.{short, outcome, stepped, walk_statement}
use Rattle.php_parse_simple.specs.Walk.{walk_behind, Leads, Halts, head_ending}
use Rattle.php_parse_simple.proofs.Moves.{alike, move}
use Rattle.php_parse_simple.proofs.Inside.{place_lacks}

-- ---- what a statement begins with

pub begins : {room : ℕ} {to : Around → StatementState} {x v : List Symbol} (b : StatementBeginning) (t : Symbol) → x ≡ t ∷ v → statement_beginning t ≡ b
    → ((o : Around) → begun b o t ≡ Some (to o)) → ((o : Around) → begun_depth b o ≡ statement_depth o) → 1 ≤ room → Leads statement_depth room (λ o. due_statement o) x to v
begins b t is role_is on outside roomy =
    move t is (λ o. ap (λ z. begun z o t) role_is ∙ on o) (λ n o at. omega (arith, ap (λ z. begun_depth z o) role_is, outside o))

-- ---- where an expression may begin

entered_by : (place : ExpressionPlace) (o : Around) (t : Symbol) (b : Option State) → advance (expects []) t ≡ b
    → if_some b (λ m. Some (in_expression place m o)) ≡ either (if_some b (λ m. Some (in_expression place m o))) (if_some (whole_before (expects []) t) (λ e. filled place e o (ending t)))
entered_by place o t (Some m) is = refl
entered_by place o t None is = refl

-- a state in which a symbol begins an expression, or can't go on
pub enters : (n : ℕ) (m : StatementState) (place : ExpressionPlace) (o : Around) (t : Symbol) (w : List Symbol) → advance_statement m t ≡ entered place o t → statement_depth_at m t ≡ place_depth place (statement_depth o)
    → outcome (halt_statement m (t ∷ w)) ≡ short (t ∷ w) → walk_statement n m (t ∷ w) ≡ walk_statement n (expected place o) (t ∷ w)
enters n m place o t w step depth halted =
    alike n m (expected place o) t w (step ∙ entered_by place o t (advance (expects []) t) refl) (depth ∙ zero_in (advance (expects []) t) (place_depth place (statement_depth o))) (halted ∙ sym (place_lacks place o (expects []) (t ∷ w)))
  where
    zero_in : (b : Option State) (k : ℕ) → k ≡ depth_inside b 0 k
    zero_in (Some m) k = omega arith
    zero_in None k = refl

line_in : (n : ℕ) (o : Around) (w : List Symbol) → head_begun w ≡ at_expression → walk_statement n (due_statement o) w ≡ walk_statement n (expected as_line o) w
line_in n o [] h = sym (place_lacks as_line o (expects []) [])
line_in n o (t ∷ w) h = enters n (due_statement o) as_line o t w (ap (λ z. begun z o t) h) (ap (λ z. begun_depth z o) h) refl

pub line_due : {room : ℕ} {w : List Symbol} → head_begun w ≡ at_expression → Leads statement_depth room (λ o. due_statement o) w (λ o. expected as_line o) w
line_due {room} {w} h = record { same = λ n o is. line_in n o w h }

jump_in : (n : ℕ) (kind : Jump) (o : Around) (w : List Symbol) → test is_semicolon w ≡ false → walk_statement n (past_jump kind o) w ≡ walk_statement n (expected (as_jump kind) o) w
jump_in n kind o [] h = sym (place_lacks (as_jump kind) o (expects []) [])
jump_in n kind o (t ∷ w) h =
    enters n (past_jump kind o) (as_jump kind) o t w (ap (λ b. pick b (Some (done (jump tt kind None) o)) (entered (as_jump kind) o t)) h) refl refl

pub jump_due : {room : ℕ} {w : List Symbol} (kind : Jump) → test is_semicolon w ≡ false → Leads statement_depth room (λ o. past_jump kind o) w (λ o. expected (as_jump kind) o) w
jump_due {room} {w} kind h = record { same = λ n o is. jump_in n kind o w h }

pub jump_ends : {room : ℕ} {x w : List Symbol} (kind : Jump) (t : Symbol) → x ≡ t ∷ w → is_semicolon t ≡ true → 1 ≤ room → Leads statement_depth room (λ o. past_jump kind o) x (λ o. done (jump tt kind None) o) w
jump_ends kind t is h roomy = move t is (λ o. ap (λ b. pick b (Some (done (jump tt kind None) o)) (entered (as_jump kind) o t)) h) (λ n o at. omega arith)

-- ---- what doesn't end an expression

pub line_stuck : (e : Form) (o : Around) (x : Ending) → x ≢ closer ender.Semicolon → filled as_line e o x ≡ None
line_stuck e o (closer ender.Semicolon) h = absurd (h refl)
line_stuck e o _ h = refl

pub jump_stuck : (kind : Jump) (e : Form) (o : Around) (x : Ending) → x ≢ closer ender.Semicolon → filled (as_jump kind) e o x ≡ None
jump_stuck kind e o (closer ender.Semicolon) h = absurd (h refl)
jump_stuck kind e o _ h = refl

pub thrown_stuck : (e : Form) (o : Around) (x : Ending) → x ≢ closer ender.Semicolon → filled as_thrown e o x ≡ None
thrown_stuck e o (closer ender.Semicolon) h = absurd (h refl)
thrown_stuck e o _ h = refl

pub echo_stuck : (items : Items Nothing) (e : Form) (o : Around) (x : Ending) → x ≢ closer ender.Comma → x ≢ closer ender.Semicolon → filled (as_value of_echo items) e o x ≡ None
echo_stuck items e o (closer ender.Comma) a b = absurd (a refl)
echo_stuck items e o (closer ender.Semicolon) a b = absurd (b refl)
echo_stuck items e o _ a b = refl

pub unset_stuck : (items : Items Nothing) (e : Form) (o : Around) (x : Ending) → x ≢ closer ender.Comma → x ≢ closer ender.Paren → filled (as_value of_unset items) e o x ≡ None
unset_stuck items e o (closer ender.Comma) a b = absurd (a refl)
unset_stuck items e o (closer ender.Paren) a b = absurd (b refl)
unset_stuck items e o _ a b = refl

-- ---- behind values

-- with the symbol that ends them
pub values_lead : {depth : Around → ℕ} {room : ℕ} {x w v : List Symbol} (values : Values) (within : ℕ) (items : Items Nothing) (last : Form) (t : Symbol) (to : Around → StatementState)
    → ((o : Around) → values_depth values (statement_depth o) + within ≡ depth o + room) → 1 ≤ within
    → ((n : ℕ) (o : Around) → values_depth values (statement_depth o) + within ≡ suc n → walk_statement n (expected (as_value values none) o) x ≡ walk_behind n (as_value values items) last o w)
    → w ≡ t ∷ v → ((o : Around) → filled (as_value values items) last o (ending t) ≡ Some (to o))
    → Leads depth room (λ o. expected (as_value values none) o) x to v
values_lead {depth} {room} {x} {w} {v} values within items last t to same roomy read is fills = record {
  same = λ n o at.
      read n o (same o ∙ at)
      ∙ ap (walk_behind n (as_value values items) last o) is
      ∙ ap (λ u. stepped u (nat_lt n (values_depth values (statement_depth o))) (λ m. walk_statement n m v) (short (t ∷ v)) (t ∷ v)) (fills o)
      ∙ ap (λ b. stepped (Some (to o)) b (λ m. walk_statement n m v) (short (t ∷ v)) (t ∷ v)) (le-ltb n (values_depth values (statement_depth o)) (omega (arith, same o)));
}

unfilled : (n : ℕ) (place : ExpressionPlace) (e : Form) (o : Around) (w : List Symbol) → filled place e o (head_ending w) ≡ None → walk_behind n place e o w ≡ short w
unfilled n place e o [] h = refl
unfilled n place e o (t ∷ v) h = ap (λ u. stepped u (nat_lt n (place_depth place (statement_depth o))) (λ m. walk_statement n m v) (short (t ∷ v)) (t ∷ v)) h

pub values_unended : {depth : Around → ℕ} {room : ℕ} {x w : List Symbol} (values : Values) (within : ℕ) (items : Items Nothing) (last : Form)
    → ((o : Around) → values_depth values (statement_depth o) + within ≡ depth o + room)
    → ((n : ℕ) (o : Around) → values_depth values (statement_depth o) + within ≡ suc n → walk_statement n (expected (as_value values none) o) x ≡ walk_behind n (as_value values items) last o w)
    → ((o : Around) → filled (as_value values items) last o (head_ending w) ≡ None) → Halts false depth room (λ o. expected (as_value values none) o) x w
values_unended {depth} {room} {x} {w} values within items last same read stuck =
    record { same = λ n o at. read n o (same o ∙ at) ∙ unfilled n (as_value values items) last o w (stuck o) }

-- ---- notes

pub blank_spans : (tokens : List Token) (made : Statement Note) (spot : Note) (at : ℕ) → made ≡ blank spot → spot ≡ (notes_of tokens).token at → SpansStatement tokens made (blank tt) at (at + 1)
blank_spans tokens made spot at is noted_is = record { shown = is ∙ ap blank noted_is; sized = omega arith }

pub inline_spans : (tokens : List Token) (made : Statement Note) (spot : Note) (text own : List ℕ) (at : ℕ) → made ≡ inline spot text → spot ≡ (notes_of tokens).token at → text ≡ own → SpansStatement tokens made (inline tt own) at (at + 1)
inline_spans tokens made spot text own at is noted_is same = record { shown = is ∙ ap (λ n. inline n text) noted_is ∙ ap (inline ((notes_of tokens).token at)) same; sized = omega arith }

pub line_spans : (tokens : List Token) (made : Statement Note) (spot : Note) (e : Tree Note) (form : Form) (at next : ℕ) → made ≡ expression spot e → spot ≡ (notes_of tokens).token at → Spans tokens e form at next
    → SpansStatement tokens made (expression tt form) at (next + 1)
line_spans tokens made spot e form at next is noted_is spans =
    record { shown = is ∙ ap (λ n. expression n e) noted_is ∙ ap (expression ((notes_of tokens).token at)) spans.shown; sized = omega (arith, spans.sized) }

pub throw_spans : (tokens : List Token) (made : Statement Note) (spot : Note) (e : Tree Note) (form : Form) (at next : ℕ) → made ≡ throw spot e → spot ≡ (notes_of tokens).token at → Spans tokens e form (at + 1) next
    → SpansStatement tokens made (throw tt form) at (next + 1)
throw_spans tokens made spot e form at next is noted_is spans =
    record { shown = is ∙ ap (λ n. throw n e) noted_is ∙ ap (throw ((notes_of tokens).token at)) spans.shown; sized = omega (arith, spans.sized) }

pub jump_spans : (tokens : List Token) (made : Statement Note) (spot : Note) (kind : Jump) (e : Tree Note) (form : Form) (at next : ℕ) → made ≡ jump spot kind (Some e) → spot ≡ (notes_of tokens).token at → Spans tokens e form (at + 1) next
    → SpansStatement tokens made (jump tt kind (Some form)) at (next + 1)
jump_spans tokens made spot kind e form at next is noted_is spans =
    record { shown = is ∙ ap (λ n. jump n kind (Some e)) noted_is ∙ ap (λ x. jump ((notes_of tokens).token at) kind (Some x)) spans.shown; sized = omega (arith, spans.sized) }

pub jump_alone_spans : (tokens : List Token) (made : Statement Note) (spot : Note) (kind : Jump) (at : ℕ) → made ≡ jump spot kind None → spot ≡ (notes_of tokens).token at → SpansStatement tokens made (jump tt kind None) at (at + 1 + 1)
jump_alone_spans tokens made spot kind at is noted_is = record { shown = is ∙ ap (λ n. jump n kind None) noted_is; sized = omega arith }

pub echo_spans : (tokens : List Token) (made : Statement Note) (spot : Note) (values : Items Note) (items : Items Nothing) (at next : ℕ) → made ≡ echo spot values → spot ≡ (notes_of tokens).token at
    → values ≡ noted_items (notes_of tokens) (at + 1) items → (at + 1) + size_items items ≡ next → SpansStatement tokens made (echo tt items) at (next + 1)
echo_spans tokens made spot values items at next is noted_is shown sized =
    record { shown = is ∙ ap (λ n. echo n values) noted_is ∙ ap (echo ((notes_of tokens).token at)) shown; sized = omega (arith, sized) }

pub unset_spans : (tokens : List Token) (made : Statement Note) (spot : Note) (values : Items Note) (items : Items Nothing) (at next : ℕ) → made ≡ unset spot values → spot ≡ (notes_of tokens).token at
    → values ≡ noted_items (notes_of tokens) (at + 1 + 1) items → (at + 1 + 1) + size_items items ≡ next → SpansStatement tokens made (unset tt items) at (next + 1 + 1)
unset_spans tokens made spot values items at next is noted_is shown sized = record {
  shown = is ∙ ap (λ n. unset n values) noted_is ∙ ap (unset ((notes_of tokens).token at)) (shown ∙ ap (λ k. noted_items (notes_of tokens) k items) (omega arith));
  sized = omega (arith, sized);
}
