-- Tests, and the heads of `for` and `foreach`.
use Rattle.std.proofs.Common.{◌≡◌, ◌≢◌, ◌≤◌, ℕ, suc, ◌+◌, ◌-◌, Bool, true, false, Option, Some, None, List, [], ◌∷◌, refl, sym, ◌∙◌, ap, arith}
use Rattle.std.specs.Prelude.{nat_lt}
use Rattle.std.proofs.lemmas.Bool.{le-ltb}
use Rattle.php_token.specs.Token.{Token}
use Rattle.php_ast.specs.Symbol.{Symbol}
use Rattle.php_ast.specs.expression.Tree.{Tree, Items, none, and, plain}
use Rattle.php_ast.specs.expression.View.{Note}
use Rattle.php_ast.specs.expression.Placed.{size, size_items, noted, noted_items, notes_of}
use Rattle.php_ast.specs.statement.Tree.{Statement, Target, Body, for, foreach}
use Rattle.php_ast.specs.statement.Placed.{size_key, size_target, size_body, noted_key, noted_target, noted_body}
use Rattle.php_grammar.specs.declared.closer.Closer.{Closer}
use Rattle.php_grammar.specs.declared.closer.Closer.TheVariants as ender
use Rattle.php_grammar.specs.Run.{either}
use Rattle.php_grammar.specs.expression.Role.{is_ampersand}
use Rattle.php_grammar.specs.expression.Machine.{Nothing, Form, expects, pick}
use Rattle.php_grammar.specs.statement.Role.{Ending, closer, as_word, no_ending, ending}
use Rattle.php_grammar.specs.statement.Forms.{Head, as_test, Values, of_echo, of_starts, of_tests, of_steps, for_loop, as_value, as_walked, as_first, as_second, due_value, past_as, past_key, past_loop, Around, ExpressionPlace, StatementState}
use Rattle.php_grammar.specs.statement.Machine.{expected, entered, filled, values_end, values_step, advance_statement}
use Rattle.php_grammar.specs.statement.Depth.{statement_depth, place_depth}
use Rattle.php_grammar.specs.statement.Reading.{halt_statement, values_rest, values_statement, missing_around, completed_around}
use Rattle.php_reader.specs.Seen.{test}
use Rattle.php_parse_simple.specs.Answer.{SpansStatement}
use Rattle.php_parse_simple.specs.HeadAnswer.{IsTargetPlace, IsEnded}
use Rattle.php_grammar_laws.specs.Walks.{short, deep, stepped, outcome, walk_statement}
use Rattle.php_parse_simple.specs.Walk.{walk_behind, Leads, Halts, head_ending}
use Rattle.php_parse_simple.proofs.Inside.{place_lacks}
use Rattle.php_parse_simple.proofs.Moves.{moves, sinks, Some_of, lacks_by}
use Rattle.php_parse_simple.proofs.Plain.{enters}

-- ---- tests

pub test_stuck : (head : Head) (e : Form) (o : Around) (x : Ending) → x ≢ closer ender.Paren → filled (as_test head) e o x ≡ None
test_stuck head e o (closer ender.Paren) h = absurd (h refl)
test_stuck head e o _ h = refl

-- ---- where a target is due

pub first_place : (walked : Form) → IsTargetPlace (λ o. past_as walked o) (as_first walked)
first_place walked = record { steps = λ o t. refl; counts = λ o t. refl; places = λ b d. refl; lacks = λ o w. refl }

pub second_place : (walked : Form) (key : Target Nothing) → IsTargetPlace (λ o. past_key walked key o) (as_second walked key)
second_place walked key = record { steps = λ o t. refl; counts = λ o t. refl; places = λ b d. refl; lacks = λ o w. refl }

plain_in : (n : ℕ) (ready : Around → StatementState) (place : Bool → ExpressionPlace) (o : Around) (w : List Symbol) → IsTargetPlace ready place → test is_ampersand w ≡ false
    → walk_statement n (ready o) w ≡ walk_statement n (expected (place false) o) w
plain_in n ready place o [] is h = is.lacks o [] ∙ sym (place_lacks (place false) o (expects []) [])
plain_in n ready place o (t ∷ w) is h =
    enters n (ready o) (place false) o t w (is.steps o t ∙ ap (λ b. pick b (Some (expected (place true) o)) (entered (place false) o t)) h) (is.counts o t ∙ sym (is.places false (statement_depth o))) (is.lacks o (t ∷ w))

pub target_plain : {room : ℕ} {w : List Symbol} (ready : Around → StatementState) (place : Bool → ExpressionPlace) → IsTargetPlace ready place → test is_ampersand w ≡ false
    → Leads (λ o. 1 + statement_depth o) room ready w (λ o. expected (place false) o) w
target_plain {room} {w} ready place is h = record { same = λ n o at. plain_in n ready place o w is h }

pub target_reference : {room : ℕ} {x w : List Symbol} (ready : Around → StatementState) (place : Bool → ExpressionPlace) (t : Symbol) → IsTargetPlace ready place → x ≡ t ∷ w → is_ampersand t ≡ true → 1 ≤ room
    → Leads (λ o. 1 + statement_depth o) room ready x (λ o. expected (place true) o) w
target_reference {room} {x} {w} ready place t is here h roomy = record {
  same = λ n o at.
      ap (walk_statement n (ready o)) here
      ∙ moves n (ready o) (expected (place true) o) t w (is.steps o t ∙ ap (λ b. pick b (Some (expected (place true) o)) (entered (place false) o t)) h) (omega (arith, is.counts o t));
}

pub target_same : (ready : Around → StatementState) (place : Bool → ExpressionPlace) (b : Bool) (room : ℕ) → IsTargetPlace ready place → (o : Around) → place_depth (place b) (statement_depth o) + room ≡ 1 + statement_depth o + room
target_same ready place b room is o = ap (λ d. d + room) (is.places b (statement_depth o))

-- ---- what stands behind a target

pub target_leads : {room : ℕ} {x w v : List Symbol} (ready : Around → StatementState) (place : ExpressionPlace) (e : Form) (t : Symbol) (to : Around → StatementState) → 2 ≤ room → ((d : ℕ) → place_depth place d ≡ 1 + d)
    → ((n : ℕ) (o : Around) → 1 + statement_depth o + (room - 1) ≡ suc n → walk_statement n (ready o) x ≡ walk_behind n place e o w)
    → w ≡ t ∷ v → ((o : Around) → filled place e o (ending t) ≡ Some (to o)) → Leads statement_depth room ready x to v
target_leads {room} {x} {w} {v} ready place e t to roomy deeper read is fills = record {
  same = λ n o at.
      read n o (omega arith) ∙ ap (walk_behind n place e o) is
      ∙ ap (λ u. stepped u (nat_lt n (place_depth place (statement_depth o))) (λ m. walk_statement n m v) (short (t ∷ v)) (t ∷ v)) (fills o)
      ∙ ap (λ b. stepped (Some (to o)) b (λ m. walk_statement n m v) (short (t ∷ v)) (t ∷ v)) (le-ltb n (place_depth place (statement_depth o)) (omega (arith, deeper (statement_depth o))));
}

unfilled : (n : ℕ) (place : ExpressionPlace) (e : Form) (o : Around) (w : List Symbol) → filled place e o (head_ending w) ≡ None → walk_behind n place e o w ≡ short w
unfilled n place e o [] h = refl
unfilled n place e o (t ∷ v) h = ap (λ u. stepped u (nat_lt n (place_depth place (statement_depth o))) (λ m. walk_statement n m v) (short (t ∷ v)) (t ∷ v)) h

pub target_halts : {room : ℕ} {x w : List Symbol} (ready : Around → StatementState) (place : ExpressionPlace) (e : Form) → 1 ≤ room
    → ((n : ℕ) (o : Around) → 1 + statement_depth o + (room - 1) ≡ suc n → walk_statement n (ready o) x ≡ walk_behind n place e o w)
    → ((o : Around) → filled place e o (head_ending w) ≡ None) → Halts false statement_depth room ready x w
target_halts {room} {x} {w} ready place e roomy read stuck = record { same = λ n o at. read n o (omega arith) ∙ unfilled n place e o w (stuck o) }

pub walked_stuck : (e : Form) (o : Around) (x : Ending) → x ≢ as_word → filled as_walked e o x ≡ None
walked_stuck e o as_word h = absurd (h refl)
walked_stuck e o _ h = refl

pub first_stuck : (walked : Form) (b : Bool) (e : Form) (o : Around) (x : Ending) → x ≢ closer ender.Paren → x ≢ closer ender.DoubleArrow → filled (as_first walked b) e o x ≡ None
first_stuck walked b e o (closer ender.Paren) p q = absurd (p refl)
first_stuck walked b e o (closer ender.DoubleArrow) p q = absurd (q refl)
first_stuck walked b e o _ p q = refl

pub second_stuck : (walked : Form) (key : Target Nothing) (b : Bool) (e : Form) (o : Around) (x : Ending) → x ≢ closer ender.Paren → filled (as_second walked key b) e o x ≡ None
second_stuck walked key b e o (closer ender.Paren) p = absurd (p refl)
second_stuck walked key b e o _ p = refl

-- ---- notes

pub reference_shown : (tokens : List Token) (at : ℕ) (e : Tree Note) (form : Form) → e ≡ noted (notes_of tokens) (at + 1) form
    → record { is_reference = true; place = e } ≡ noted_target (notes_of tokens) at (record { is_reference = true; place = form })
reference_shown tokens at e form is = ap (λ z. record { is_reference = true; place = z }) is

pub plain_shown : (tokens : List Token) (at : ℕ) (e : Tree Note) (form : Form) → e ≡ noted (notes_of tokens) at form
    → record { is_reference = false; place = e } ≡ noted_target (notes_of tokens) at (record { is_reference = false; place = form })
plain_shown tokens at e form is = ap (λ z. record { is_reference = false; place = z }) (is ∙ ap (λ k. noted (notes_of tokens) k form) (omega arith))

pub target_shift : (tokens : List Token) (place other : ℕ) (made : Target Note) (t : Target Nothing) → made ≡ noted_target (notes_of tokens) place t → other ≡ place → made ≡ noted_target (notes_of tokens) other t
target_shift tokens place other made t is same = is ∙ ap (λ k. noted_target (notes_of tokens) k t) (sym same)

pub key_shift : (tokens : List Token) (place other : ℕ) (made : Option (Target Note)) (k : Option (Target Nothing)) → made ≡ noted_key (notes_of tokens) place k → other ≡ place → made ≡ noted_key (notes_of tokens) other k
key_shift tokens place other made k is same = is ∙ ap (λ p. noted_key (notes_of tokens) p k) (sym same)

pub foreach_spans : (tokens : List Token) (made : Statement Note) (spot : Note) (e : Tree Note) (key : Option (Target Note)) (value : Target Note) (shown : Body Note) (form : Form) (k : Option (Target Nothing)) (v : Target Nothing) (body : Body Nothing) (at place next : ℕ)
    → made ≡ foreach spot e key value shown → spot ≡ (notes_of tokens).token at → e ≡ noted (notes_of tokens) (at + 1 + 1) form → key ≡ noted_key (notes_of tokens) (at + 1 + 1 + size form + 1) k
    → value ≡ noted_target (notes_of tokens) (at + 1 + 1 + size form + 1 + size_key k) v → at + 1 + 1 + size form + 1 + size_key k + size_target v + 1 ≡ place
    → shown ≡ noted_body (notes_of tokens) place body → place + size_body body ≡ next → SpansStatement tokens made (foreach tt form k v body) at next
foreach_spans tokens made spot e key value shown form k v body at place next is noted_is walked_is key_is value_is where_is body_is sized = record {
  shown = is ∙ ap (λ n. foreach n e key value shown) noted_is
      ∙ ap (λ z. foreach ((notes_of tokens).token at) z key value shown) (walked_is ∙ ap (λ p. noted (notes_of tokens) p form) (omega arith))
      ∙ ap (λ z. foreach ((notes_of tokens).token at) (noted (notes_of tokens) (at + 2) form) z value shown) (key_is ∙ ap (λ p. noted_key (notes_of tokens) p k) (omega arith))
      ∙ ap (λ z. foreach ((notes_of tokens).token at) (noted (notes_of tokens) (at + 2) form) (noted_key (notes_of tokens) (at + 2 + size form + 1) k) z shown) (value_is ∙ ap (λ p. noted_target (notes_of tokens) p v) (omega arith))
      ∙ ap (foreach ((notes_of tokens).token at) (noted (notes_of tokens) (at + 2) form) (noted_key (notes_of tokens) (at + 2 + size form + 1) k) (noted_target (notes_of tokens) (at + 2 + size form + 1 + size_key k) v))
      (body_is ∙ ap (λ p. noted_body (notes_of tokens) p body) (omega arith));
  sized = omega arith;
}

-- ---- a list of a `for`

values_some : (values : Values) (w : List Symbol) → Some_of (values_rest values w)
values_some of_echo w = tt
values_some of_starts w = tt
values_some (of_tests starts) w = tt
values_some _ w = tt

value_lacks : (values : Values) (o : Around) (w : List Symbol) → outcome (halt_statement (due_value values o) w) ≡ short w
value_lacks values o w = lacks_by (values_rest values (missing_around o)) (completed_around o (values_statement values none)) w (values_some values (missing_around o))

none_step : (values : Values) (end : Closer) (to : Items Nothing → Around → StatementState) (t : Symbol) → IsEnded values end to → ending t ≡ closer end → (o : Around) → advance_statement (due_value values o) t ≡ Some (to none o)
none_step values end to t is ends o =
    ap (λ z. either (values_step values none o z) (entered (as_value values none) o t)) ends ∙ ap (λ u. either u (entered (as_value values none) o t)) (is.closes none o)

-- no value, in front of what ends the list
pub none_ends : {room : ℕ} {x w : List Symbol} (values : Values) (end : Closer) (to : Items Nothing → Around → StatementState) (t : Symbol) → IsEnded values end to → x ≡ t ∷ w → ending t ≡ closer end → 1 ≤ room
    → Leads (λ o. 1 + statement_depth o) room (λ o. due_value values o) x (λ o. to none o) w
none_ends {room} {x} {w} values end to t is here ends roomy = record {
  same = λ n o at.
      ap (walk_statement n (due_value values o)) here
      ∙ moves n (due_value values o) (to none o) t w (none_step values end to t is ends o) (omega (arith, is.inside (statement_depth o)));
}

pub none_sinks : {room : ℕ} {x w : List Symbol} (values : Values) (end : Closer) (to : Items Nothing → Around → StatementState) (t : Symbol) → IsEnded values end to → x ≡ t ∷ w → ending t ≡ closer end → room ≡ 0
    → Halts true (λ o. 1 + statement_depth o) room (λ o. due_value values o) x x
none_sinks {room} {x} {w} values end to t is here ends none_left = record {
  same = λ n o at.
      ap (walk_statement n (due_value values o)) here
      ∙ sinks n (due_value values o) (to none o) t w (none_step values end to t is ends o) (omega (arith, is.inside (statement_depth o)))
      ∙ ap deep (sym here);
}

unstepped : (values : Values) (end : Closer) (to : Items Nothing → Around → StatementState) (o : Around) (x : Ending) → IsEnded values end to → x ≢ closer end → values_step values none o x ≡ None
unstepped values end to o (closer c) is h = is.only none o c (λ e. h (ap closer e))
unstepped values end to o as_word is h = refl
unstepped values end to o no_ending is h = refl

value_in : (n : ℕ) (values : Values) (end : Closer) (to : Items Nothing → Around → StatementState) (o : Around) (w : List Symbol) → IsEnded values end to → head_ending w ≢ closer end
    → walk_statement n (due_value values o) w ≡ walk_statement n (expected (as_value values none) o) w
value_in n values end to o [] is h = value_lacks values o [] ∙ sym (place_lacks (as_value values none) o (expects []) [])
value_in n values end to o (t ∷ w) is h =
    enters n (due_value values o) (as_value values none) o t w (ap (λ u. either u (entered (as_value values none) o t)) (unstepped values end to o (ending t) is h)) refl (value_lacks values o (t ∷ w))

pub value_due : {room : ℕ} {w : List Symbol} (values : Values) (end : Closer) (to : Items Nothing → Around → StatementState) → IsEnded values end to → head_ending w ≢ closer end
    → Leads (λ o. 1 + statement_depth o) room (λ o. due_value values o) w (λ o. expected (as_value values none) o) w
value_due {room} {w} values end to is h = record { same = λ n o at. value_in n values end to o w is h }

filled_end : (values : Values) (items : Items Nothing) (e : Form) (o : Around) (c : Closer) → c ≢ ender.Comma → filled (as_value values items) e o (closer c) ≡ values_end values (and items plain e) o c
filled_end values items e o ender.Comma h = absurd (h refl)
filled_end values items e o _ h = refl

pub ended_fills : (values : Values) (end : Closer) (to : Items Nothing → Around → StatementState) (items : Items Nothing) (e : Form) (o : Around) (t : Symbol) → IsEnded values end to → end ≢ ender.Comma → ending t ≡ closer end
    → filled (as_value values items) e o (ending t) ≡ Some (to (and items plain e) o)
ended_fills values end to items e o t is other ends = ap (filled (as_value values items) e o) ends ∙ filled_end values items e o end other ∙ is.closes (and items plain e) o

pub ended_stuck : (values : Values) (end : Closer) (to : Items Nothing → Around → StatementState) (items : Items Nothing) (e : Form) (o : Around) (x : Ending) → IsEnded values end to → x ≢ closer ender.Comma → x ≢ closer end
    → filled (as_value values items) e o x ≡ None
ended_stuck values end to items e o (closer c) is a b = filled_end values items e o c (λ h. a (ap closer h)) ∙ is.only (and items plain e) o c (λ h. b (ap closer h))
ended_stuck values end to items e o as_word is a b = refl
ended_stuck values end to items e o no_ending is a b = refl

starts_only : (items : Items Nothing) (o : Around) (c : Closer) → c ≢ ender.Semicolon → values_end of_starts items o c ≡ None
starts_only items o ender.Semicolon h = absurd (h refl)
starts_only items o _ h = refl

tests_only : (starts items : Items Nothing) (o : Around) (c : Closer) → c ≢ ender.Semicolon → values_end (of_tests starts) items o c ≡ None
tests_only starts items o ender.Semicolon h = absurd (h refl)
tests_only starts items o _ h = refl

steps_only : (starts tests items : Items Nothing) (o : Around) (c : Closer) → c ≢ ender.Paren → values_end (of_steps starts tests) items o c ≡ None
steps_only starts tests items o ender.Paren h = absurd (h refl)
steps_only starts tests items o _ h = refl

pub starts_ended : IsEnded of_starts ender.Semicolon (λ items o. due_value (of_tests items) o)
starts_ended = record { closes = λ items o. refl; only = λ items o c h. starts_only items o c h; inside = λ d. refl }

pub tests_ended : (starts : Items Nothing) → IsEnded (of_tests starts) ender.Semicolon (λ items o. due_value (of_steps starts items) o)
tests_ended starts = record { closes = λ items o. refl; only = λ items o c h. tests_only starts items o c h; inside = λ d. refl }

pub steps_ended : (starts tests : Items Nothing) → IsEnded (of_steps starts tests) ender.Paren (λ items o. past_loop (for_loop starts tests items) o)
steps_ended starts tests = record { closes = λ items o. refl; only = λ items o c h. steps_only starts tests items o c h; inside = λ d. refl }

-- one level further out
pub inwards : {room : ℕ} {from to : Around → StatementState} {x w : List Symbol} → 1 ≤ room → Leads (λ o. 1 + statement_depth o) (room - 1) from x to w → Leads statement_depth room from x to w
inwards {room} roomy r = record { same = λ n o at. r.same n o (omega arith) }

pub items_shift : (tokens : List Token) (place other : ℕ) (made : Items Note) (items : Items Nothing) → made ≡ noted_items (notes_of tokens) place items → other ≡ place → made ≡ noted_items (notes_of tokens) other items
items_shift tokens place other made items is same = is ∙ ap (λ k. noted_items (notes_of tokens) k items) (sym same)

pub for_spans : (tokens : List Token) (made : Statement Note) (spot : Note) (xs ys zs : Items Note) (shown : Body Note) (starts tests steps : Items Nothing) (body : Body Nothing) (at place next : ℕ) → made ≡ for spot xs ys zs shown → spot ≡ (notes_of tokens).token at
    → xs ≡ noted_items (notes_of tokens) (at + 1 + 1) starts → ys ≡ noted_items (notes_of tokens) (at + 1 + 1 + size_items starts + 1) tests → zs ≡ noted_items (notes_of tokens) (at + 1 + 1 + size_items starts + 1 + size_items tests + 1) steps
    → at + 1 + 1 + size_items starts + 1 + size_items tests + 1 + size_items steps + 1 ≡ place → shown ≡ noted_body (notes_of tokens) place body → place + size_body body ≡ next → SpansStatement tokens made (for tt starts tests steps body) at next
for_spans tokens made spot xs ys zs shown starts tests steps body at place next is noted_is xs_is ys_is zs_is where_is body_is sized = record {
  shown = is ∙ ap (λ n. for n xs ys zs shown) noted_is
      ∙ ap (λ z. for ((notes_of tokens).token at) z ys zs shown) (xs_is ∙ ap (λ p. noted_items (notes_of tokens) p starts) (omega arith))
      ∙ ap (λ z. for ((notes_of tokens).token at) (noted_items (notes_of tokens) (at + 2) starts) z zs shown) (ys_is ∙ ap (λ p. noted_items (notes_of tokens) p tests) (omega arith))
      ∙ ap (λ z. for ((notes_of tokens).token at) (noted_items (notes_of tokens) (at + 2) starts) (noted_items (notes_of tokens) (at + 2 + size_items starts + 1) tests) z shown) (zs_is ∙ ap (λ p. noted_items (notes_of tokens) p steps) (omega arith))
      ∙ ap (for ((notes_of tokens).token at) (noted_items (notes_of tokens) (at + 2) starts) (noted_items (notes_of tokens) (at + 2 + size_items starts + 1) tests) (noted_items (notes_of tokens) (at + 2 + size_items starts + 1 + size_items tests + 1) steps))
      (body_is ∙ ap (λ p. noted_body (notes_of tokens) p body) (omega arith));
  sized = omega arith;
}
