-- The nesting that the machine of statements counts, in the parts of statements that have no statement inside.
use Rattle.std.proofs.Common.{◌≡◌, ℕ, ◌+◌, Bool, true, false, Option, Some, None, List, [], ◌∷◌, refl, sym, ◌∙◌, ap, subst, arith}
use Rattle.std.specs.Prelude.{nat_lt}
use Rattle.php_token.specs.declared.kind.Keyword.{Keyword}
use Rattle.php_token.specs.declared.kind.Keyword.TheVariants as word
use Rattle.php_token.specs.declared.kind.Punct.TheVariants as mark
use Rattle.php_ast.specs.Symbol as symbol
use Rattle.php_ast.specs.Symbol.{Symbol, keyword, punct}
use Rattle.php_ast.specs.expression.Tree.{Items, none, and, skip, plain, reference, spread, keyed, keyed_reference}
use Rattle.php_ast.specs.expression.Spelling.{spell, spell_items}
use Rattle.php_ast.specs.expression.Nesting.{nests, nests_items, comma_nests}
use Rattle.php_ast.specs.expression.Proper.{Proper, AreValues, AreProperItems}
use Rattle.php_grammar.specs.expression.Role.{beginning}
use Rattle.php_grammar.specs.expression.Machine.{Nothing, Form, State, expects, pick, advance}
use Rattle.php_grammar.specs.expression.Laws.{EndsBefore}
use Rattle.php_grammar.specs.Run.{either, if_some}
use Rattle.php_grammar.specs.TooDeep.{taken, depths_taken, depth_inside}
use Rattle.php_ast.specs.statement.Tree.{Sequence, empty, then_also, Name, Variable, Constant, Target, Jump, Statement, statics, constants, jump, Statements, no_statement, and_statement, Catches, and_catch, try_catch}
use Rattle.php_ast.specs.statement.Spelling.{separated, commas, spell_name, spell_dollar, spell_value, spell_variable, spell_constant, spell_target, spell_key}
use Rattle.php_ast.specs.statement.Nesting.{separated_nests, separator_nests, name_nests, value_nests, variable_nests, constant_nests, target_nests, key_nests}
use Rattle.php_ast.specs.statement.Proper.{Each, IfAny, AreSome, AreAny, IsProperTarget, IsProperKey}
use Rattle.php_grammar.specs.statement.Role.{StatementBeginning, at_block, at_expression, statement_beginning, Behind, by_else, by_while, by_other, by_catch, by_finally, behind, body_strength, ends_outside, ending}
use Rattle.php_grammar.specs.statement.Forms.{StatementList, of_block, of_if, of_loop, list_open, if_open, loop_open, OpenStatement, Around, Loop, foreach_loop, Values, ExpressionPlace, as_line, as_value, as_static, as_constant, as_jump, as_first, as_second, of_globals, of_statics, of_constants, of_classes, StatementState, due_statement, done, in_expression, due_value, due_name, past_name, past_static_word, past_jump, past_if, past_loop, past_as, past_key, past_block, completed_statement}
use Rattle.php_grammar.specs.statement.Machine.{least_strength, released_bodies, reached_step, expected, entered, listing, begun, begin, list_end, list_step, values_step, filled, target, past_statement, advance_statement}
use Rattle.php_grammar.specs.expression.Machine.{past_static, past_static_colons}
use Rattle.php_grammar.specs.statement.Depth.{is_body, deepened_statement, statement_depth, begun_depth, begin_depth, list_depth, form_depth, kept_bodies, depth_past, block_depth, values_depth, place_depth, statement_depth_at}
use Rattle.php_grammar.specs.statement.Laws.{is_catching, head_behind}
use Rattle.php_grammar.proofs.expression.Trees.{begins_some, Starts, starts}
use Rattle.php_grammar.proofs.Machines.{IsSome}
use Rattle.php_grammar.proofs.Deepened.{Counts, expression_depths}
use Rattle.php_grammar.proofs.expression.Shifts.{nests_shift}
use Rattle.php_grammar.proofs.statement.Starts.{begins_no_ending, begins_no_semicolon, begins_no_ampersand, starts_statement, StartsStatement, starts_no_colon, starts_no_ender, no_end, ender, StaticFits, started_goes, led}
use Rattle.php_grammar.proofs.statement.Parts.{place_reader, at_semicolon, at_comma, at_paren, at_arrow, keyword_line, punct_line, is_static_word, static_word, StartsVariable, items_start, strength_small, catches_ended_by}

abbrev pub trace : StatementState → List Symbol → List ℕ
trace = depths_taken advance_statement statement_depth_at

-- ---- expressions

abbrev place_counts : (place : ExpressionPlace) (o : Around) → Counts StatementState advance_statement statement_depth_at (place_reader place o) (place_depth place (statement_depth o))
place_counts place o = record { counts = λ m t. refl }

pub place_trace : (place : ExpressionPlace) (o : Around) (e : Form) (t : Symbol) (v : List Symbol) (n : StatementState) → Proper e → EndsBefore e (t ∷ v) → filled place e o (ending t) ≡ Some n
    → trace (expected place o) (spell e (t ∷ v)) ≡ nests e (place_depth place (statement_depth o)) (place_depth place (statement_depth o) ∷ trace n v)
place_trace place o e t v n p h is =
    let k : ℕ = place_depth place (statement_depth o) in
    let w : List ℕ = k ∷ trace n v in
    let zero_plus : k ≡ 0 + k = omega arith in
    expression_depths advance_statement statement_depth_at (place_reader place o) k (place_counts place o) e t v n p h is ∙ sym (ap (λ x. nests e x w) zero_plus ∙ nests_shift e 0 k [] w)

entered_by : (o : Option State) (on : State → StatementState) (other : Option StatementState) (k : ℕ) (f : StatementState → List ℕ) → IsSome o
    → taken (if_some o (λ m. Some (on m))) k f ≡ taken (either (if_some o (λ m. Some (on m))) other) (depth_inside o 0 k) f
entered_by None on other k f h = absurd h
entered_by (Some m) on other k f h = let zero_plus : k ≡ 0 + k = omega arith in ap (λ x. x ∷ f (on m)) zero_plus

entered_trace : (t : Symbol) (on : State → StatementState) (other : Option StatementState) (k : ℕ) (f : StatementState → List ℕ) → begins_some (beginning t) ≡ true
    → taken (if_some (advance (expects []) t) (λ m. Some (on m))) k f ≡ taken (either (if_some (advance (expects []) t) (λ m. Some (on m))) other) (depth_inside (advance (expects []) t) 0 k) f
entered_trace t on other k f h = entered_by (advance (expects []) t) on other k f (started_goes (beginning t) h)

-- ---- where an expression may begin

pub jump_traced : (kind : Jump) (o : Around) (w : List Symbol) → Starts w → trace (past_jump kind o) w ≡ trace (expected (as_jump kind) o) w
jump_traced kind o [] h = absurd h
jump_traced kind o (t ∷ w) h =
    ap (λ b. taken (pick b (Some (done (jump tt kind None) o)) (entered (as_jump kind) o t)) (statement_depth o) (λ n. trace n w)) (begins_no_semicolon t h)
    ∙ entered_trace t (λ m. in_expression (as_jump kind) m o) _ (statement_depth o) (λ n. trace n w) h

value_traced : (values : Values) (o : Around) (w : List Symbol) → Starts w → trace (due_value values o) w ≡ trace (expected (as_value values none) o) w
value_traced values o [] h = absurd h
value_traced values o (t ∷ w) h =
    ap (λ x. taken (either (values_step values none o x) (entered (as_value values none) o t)) (values_depth values (statement_depth o)) (λ n. trace n w)) (begins_no_ending t h)
    ∙ entered_trace t (λ m. in_expression (as_value values none) m o) _ (values_depth values (statement_depth o)) (λ n. trace n w) h

first_traced : (walked : Form) (o : Around) (w : List Symbol) → Starts w → trace (past_as walked o) w ≡ trace (expected (as_first walked false) o) w
first_traced walked o [] h = absurd h
first_traced walked o (t ∷ w) h =
    ap (λ b. taken (pick b (Some (expected (as_first walked true) o)) (entered (as_first walked false) o t)) (1 + statement_depth o) (λ n. trace n w)) (begins_no_ampersand t h)
    ∙ entered_trace t (λ m. in_expression (as_first walked false) m o) _ (1 + statement_depth o) (λ n. trace n w) h

second_traced : (walked : Form) (key : Target Nothing) (o : Around) (w : List Symbol) → Starts w → trace (past_key walked key o) w ≡ trace (expected (as_second walked key false) o) w
second_traced walked key o [] h = absurd h
second_traced walked key o (t ∷ w) h =
    ap (λ b. taken (pick b (Some (expected (as_second walked key true) o)) (entered (as_second walked key false) o t)) (1 + statement_depth o) (λ n. trace n w)) (begins_no_ampersand t h)
    ∙ entered_trace t (λ m. in_expression (as_second walked key false) m o) _ (1 + statement_depth o) (λ n. trace n w) h

line_begun : (o : Around) (t : Symbol) (w : List Symbol) → begins_some (beginning t) ≡ true → statement_beginning t ≡ at_expression → trace (due_statement o) (t ∷ w) ≡ trace (expected as_line o) (t ∷ w)
line_begun o t w h is =
    ap (λ x. taken (begun x o t) (begun_depth x o) (λ n. trace n w)) is ∙ entered_trace t (λ m. in_expression as_line m o) _ (statement_depth o) (λ n. trace n w) h

static_line : (o : Around) (w : List Symbol) → StaticFits (keyword word.Static ∷ w) → trace (due_statement o) (keyword word.Static ∷ w) ≡ trace (expected as_line o) (keyword word.Static ∷ w)
static_line o [] fits = absurd fits
static_line o (t ∷ w) fits =
    let zero_plus : statement_depth o ≡ 0 + statement_depth o = omega arith in
    ap (λ x. statement_depth o ∷ trace (past_static_word o) (x ∷ w)) fits
    ∙ ap (λ x. x ∷ x ∷ trace (in_expression as_line (past_static_colons []) o) w) zero_plus
    ∙ ap (λ x. (0 + statement_depth o) ∷ trace (in_expression as_line (past_static []) o) (x ∷ w)) (sym fits)

keyword_traced : (b : Bool) (k : Keyword) (o : Around) (w : List Symbol) → is_static_word k ≡ b → begins_some (beginning (keyword k)) ≡ true → StaticFits (keyword k ∷ w)
    → trace (due_statement o) (keyword k ∷ w) ≡ trace (expected as_line o) (keyword k ∷ w)
keyword_traced false k o w is h fits = line_begun o (keyword k) w h (keyword_line k h is)
keyword_traced true k o w is h fits =
    let same : k ≡ word.Static = static_word k is in
    ap (λ x. trace (due_statement o) (keyword x ∷ w)) same ∙ static_line o w (subst (λ x. StaticFits (keyword x ∷ w)) same fits)
    ∙ ap (λ x. trace (expected as_line o) (keyword x ∷ w)) (sym same)

pub line_traced : (o : Around) (w : List Symbol) → Starts w → StaticFits w → trace (due_statement o) w ≡ trace (expected as_line o) w
line_traced o [] h fits = absurd h
line_traced o (keyword k ∷ w) h fits = keyword_traced (is_static_word k) k o w refl h fits
line_traced o (punct p ∷ w) h fits = line_begun o (punct p) w h (punct_line p h)
line_traced o (symbol.inline text ∷ w) h fits = cc
line_traced o (t ∷ w) h fits = line_begun o t w h refl

-- ---- where a statement may begin

pub if_traced : (test : Form) (o : Around) (w : List Symbol) → StartsStatement w → trace (past_if test o) w ≡ trace (due_statement (if_open test ∷ o)) w
if_traced test o [] h = absurd h
if_traced test o (t ∷ w) h =
    ap (λ b. taken (pick b (Some (listing (of_if test) o)) (begin (if_open test ∷ o) t)) (pick b (statement_depth o) (begin_depth (if_open test ∷ o) t)) (λ n. trace n w)) (starts_no_colon t h)

pub loop_traced : (loop : Loop) (o : Around) (w : List Symbol) → StartsStatement w → trace (past_loop loop o) w ≡ trace (due_statement (loop_open loop ∷ o)) w
loop_traced loop o [] h = absurd h
loop_traced loop o (t ∷ w) h =
    ap (λ b. taken (pick b (Some (listing (of_loop loop) o)) (begin (loop_open loop ∷ o) t)) (pick b (statement_depth o) (begin_depth (loop_open loop ∷ o) t)) (λ n. trace n w)) (starts_no_colon t h)

outside_by : (x : Behind) → ender x ≡ false → ends_outside x ≡ false
outside_by by_while h = refl
outside_by by_other h = refl
outside_by _ h = cc

in_list : (list : StatementList) (ss : Statements Nothing) (o : Around) (t : Symbol) (w : List Symbol) → starts_statement t ≡ true
    → taken (list_step list ss o t) (list_depth (list_open list ss) o t) (λ n. trace n w) ≡ trace (due_statement (list_open list ss ∷ o)) (t ∷ w)
in_list list ss o t w h =
    ap (λ u. taken (either u (begin (list_open list ss ∷ o) t)) (list_depth (list_open list ss) o t) (λ n. trace n w)) (no_end list ss o (behind t) (starts_no_ender t h))
    ∙ ap (λ b. taken (begin (list_open list ss ∷ o) t) (pick b (statement_depth o) (begin_depth (list_open list ss ∷ o) t)) (λ n. trace n w)) (outside_by (behind t) (starts_no_ender t h))

-- the statements so far make no difference
pub deepened_same : (list : StatementList) (ss other : Statements Nothing) (b : Bool) (d : ℕ) → deepened_statement (list_open list ss) b d ≡ deepened_statement (list_open list other) b d
deepened_same of_block ss other true d = refl
deepened_same of_block ss other false d = refl
deepened_same (of_if test) ss other b d = refl
deepened_same _ ss other b d = refl

begun_same : (x : StatementBeginning) (list : StatementList) (ss other : Statements Nothing) (o : Around) → begun_depth x (list_open list ss ∷ o) ≡ begun_depth x (list_open list other ∷ o)
begun_same at_block list ss other o = deepened_same list ss other (is_body o) (statement_depth o)
begun_same _ list ss other o = deepened_same list ss other (is_body o) (statement_depth o)

same_depth : (list : StatementList) (ss other : Statements Nothing) (o : Around) (t : Symbol) → list_depth (list_open list ss) o t ≡ list_depth (list_open list other) o t
same_depth list ss other o t = ap (pick (ends_outside (behind t)) (statement_depth o)) (begun_same (statement_beginning t) list ss other o)

behind_traced : (x : Behind) (list : StatementList) (ss : Statements Nothing) (a : Statement Nothing) (o : Around) (t : Symbol) (w : List Symbol)
    → taken (reached_step (released_bodies (body_strength x) (list_open list ss ∷ o) a) t x) (form_depth (kept_bodies (body_strength x) (list_open list ss ∷ o)) t) (λ n. trace n w)
    ≡ taken (list_step list (and_statement ss a) o t) (list_depth (list_open list ss) o t) (λ n. trace n w)
behind_traced by_else list ss a o t w = refl
behind_traced _ list ss a o t w = refl

further_traced : (list : StatementList) (ss : Statements Nothing) (a : Statement Nothing) (o : Around) (t : Symbol) (w : List Symbol)
    → trace (done a (list_open list ss ∷ o)) (t ∷ w) ≡ taken (list_step list (and_statement ss a) o t) (list_depth (list_open list (and_statement ss a)) o t) (λ n. trace n w)
further_traced list ss a o t w =
    behind_traced (behind t) list ss a o t w ∙ ap (λ d. taken (list_step list (and_statement ss a) o t) d (λ n. trace n w)) (same_depth list ss (and_statement ss a) o t)

pub led_traced : (list : StatementList) (ss : Statements Nothing) (o : Around) (w : List Symbol) → StartsStatement w → trace (led list ss o) w ≡ trace (due_statement (list_open list ss ∷ o)) w
led_traced list ss o [] h = absurd h
led_traced list no_statement o (t ∷ w) h = in_list list no_statement o t w h
led_traced list (and_statement ss a) o (t ∷ w) h = further_traced list ss a o t w ∙ in_list list (and_statement ss a) o t w h

pub end_traced : (list : StatementList) (ss : Statements Nothing) (o : Around) (t : Symbol) (w : List Symbol) (n : StatementState) → list_end list ss o (behind t) ≡ Some n
    → trace (led list ss o) (t ∷ w) ≡ list_depth (list_open list ss) o t ∷ trace n w
end_traced list no_statement o t w n h = ap (λ u. taken (either u (begin (list_open list no_statement ∷ o) t)) (list_depth (list_open list no_statement) o t) (λ m. trace m w)) h
end_traced list (and_statement ss a) o t w n h =
    further_traced list ss a o t w
    ∙ ap (λ u. taken (either u (begin (list_open list (and_statement ss a) ∷ o) t)) (list_depth (list_open list (and_statement ss a)) o t) (λ m. trace m w)) h

-- ---- the end of a body

body_traced : (f : OpenStatement) (a : Statement Nothing) (o : Around) (w : List Symbol) → nat_lt (body_strength (head_behind w)) (least_strength f) ≡ true
    → trace (done a (f ∷ o)) w ≡ trace (done (completed_statement f a) o) w
body_traced f a o [] h = refl
body_traced f a o (t ∷ w) h =
    ap (λ b. taken (reached_step (pick b (released_bodies (body_strength (behind t)) o (completed_statement f a)) (record { tree = a; around = f ∷ o })) t (behind t))
    (form_depth (pick b (kept_bodies (body_strength (behind t)) o) (f ∷ o)) t) (λ n. trace n w)) h

pub last_traced : (f : OpenStatement) (a : Statement Nothing) (o : Around) (w : List Symbol) → least_strength f ≡ 2 → trace (done a (f ∷ o)) w ≡ trace (done (completed_statement f a) o) w
last_traced f a o w h = body_traced f a o w (ap (nat_lt (body_strength (head_behind w))) h ∙ strength_small (head_behind w))

pub ended_traced : (f : OpenStatement) (a : Statement Nothing) (o : Around) (w : List Symbol) → least_strength f ≡ 1 → body_strength (head_behind w) ≡ 0 → trace (done a (f ∷ o)) w ≡ trace (done (completed_statement f a) o) w
ended_traced f a o w level h = body_traced f a o w (ap (nat_lt (body_strength (head_behind w))) level ∙ ap (λ n. nat_lt n 1) h)

catches_depth : (x : Behind) (o : Around) (t : Symbol) → is_catching x ≡ false → block_depth x o t ≡ depth_past o t
catches_depth by_catch o t h = cc
catches_depth by_finally o t h = cc
catches_depth _ o t h = refl

pub catches_traced : (body : Statements Nothing) (catches : Catches Nothing) (classes : Sequence (Name Nothing)) (n : Name Nothing) (ss : Statements Nothing) (o : Around) (w : List Symbol)
    → is_catching (head_behind w) ≡ false → trace (past_block body (and_catch catches classes n ss) o) w ≡ trace (done (try_catch tt body (and_catch catches classes n ss)) o) w
catches_traced body catches classes n ss o [] h = refl
catches_traced body catches classes n ss o (t ∷ w) h =
    ap (λ u. taken u (block_depth (behind t) o t) (λ m. trace m w)) (catches_ended_by (behind t) body catches classes n ss o t h)
    ∙ ap (λ d. taken (past_statement (try_catch tt body (and_catch catches classes n ss)) o t) d (λ m. trace m w)) (catches_depth (behind t) o t h)

-- ---- values

values_led : (values : Values) (items : Items Nothing) (e : Form) (o : Around) (w : List Symbol) → AreValues items → AreProperItems items
    → trace (expected (as_value values none) o) (spell_items (and items plain e) w)
    ≡ nests_items items (values_depth values (statement_depth o)) (comma_nests items (values_depth values (statement_depth o)) (trace (expected (as_value values items) o) (spell e w)))
values_led values none e o w h p = refl
values_led values (and items plain x) e o w h p =
    values_led values items x o (punct mark.Comma ∷ spell e w) h p.0
    ∙ ap (λ u. nests_items items (values_depth values (statement_depth o)) (comma_nests items (values_depth values (statement_depth o)) u))
    (place_trace (as_value values items) o x (punct mark.Comma) (spell e w) (expected (as_value values (and items plain x)) o) p.2 (at_comma x (spell e w)) refl)
values_led values (and items reference x) e o w h p = absurd h
values_led values (and items spread x) e o w h p = absurd h
values_led values (and items (keyed k) x) e o w h p = absurd h
values_led values (and items (keyed_reference k) x) e o w h p = absurd h
values_led values (skip items) e o w h p = absurd h

pub values_trace : (values : Values) (items : Items Nothing) (o : Around) (t : Symbol) (v : List Symbol) (n : Items Nothing → StatementState) → AreSome items
    → ((e : Form) → EndsBefore e (t ∷ v)) → ((xs : Items Nothing) (e : Form) → filled (as_value values xs) e o (ending t) ≡ Some (n (and xs plain e)))
    → trace (expected (as_value values none) o) (spell_items items (t ∷ v))
    ≡ nests_items items (values_depth values (statement_depth o)) (values_depth values (statement_depth o) ∷ trace (n items) v)
values_trace values none o t v n h ends is = let x : true ≡ false = h.1 in cc
values_trace values (and items plain e) o t v n h ends is =
    values_led values items e o (t ∷ v) h.0 h.2.0
    ∙ ap (λ u. nests_items items (values_depth values (statement_depth o)) (comma_nests items (values_depth values (statement_depth o)) u))
    (place_trace (as_value values items) o e t v (n (and items plain e)) h.2.2 (ends e) (is items e))
values_trace values (and items reference e) o t v n h ends is = absurd h.0
values_trace values (and items spread e) o t v n h ends is = absurd h.0
values_trace values (and items (keyed k) e) o t v n h ends is = absurd h.0
values_trace values (and items (keyed_reference k) e) o t v n h ends is = absurd h.0
values_trace values (skip items) o t v n h ends is = absurd h.0

pub any_values_trace : (values : Values) (items : Items Nothing) (o : Around) (t : Symbol) (v : List Symbol) (n : Items Nothing → StatementState) → AreAny items
    → ((e : Form) → EndsBefore e (t ∷ v)) → ((xs : Items Nothing) (e : Form) → filled (as_value values xs) e o (ending t) ≡ Some (n (and xs plain e)))
    → values_step values none o (ending t) ≡ Some (n none)
    → trace (due_value values o) (spell_items items (t ∷ v)) ≡ nests_items items (values_depth values (statement_depth o)) (values_depth values (statement_depth o) ∷ trace (n items) v)
any_values_trace values none o t v n h ends is last = ap (λ u. taken (either u (entered (as_value values none) o t)) (values_depth values (statement_depth o)) (λ m. trace m v)) last
any_values_trace values (and items lead e) o t v n h ends is last =
    value_traced values o (spell_items (and items lead e) (t ∷ v)) (items_start (and items lead e) (t ∷ v) h.0 refl)
    ∙ values_trace values (and items lead e) o t v n (h.0, refl, h.1) ends is
any_values_trace values (skip items) o t v n h ends is last = absurd h.0

-- ---- names

pub globals_led : (xs : Sequence (Name Nothing)) (x : Name Nothing) (o : Around) (w : List Symbol)
    → trace (due_name (of_globals empty) o) (commas spell_dollar (then_also xs x) w) ≡ separated_nests name_nests (then_also xs x) (statement_depth o) (trace (past_name (of_globals xs) x o) w)
globals_led empty x o w = refl
globals_led (then_also xs y) x o w = globals_led xs y o (punct mark.Comma ∷ spell_dollar x w)

pub classes_led : (body : Statements Nothing) (catches : Catches Nothing) (xs : Sequence (Name Nothing)) (x : Name Nothing) (o : Around) (w : List Symbol)
    → trace (due_name (of_classes body catches empty) o) (separated (punct mark.Bar) spell_name (then_also xs x) w)
    ≡ separated_nests name_nests (then_also xs x) (1 + statement_depth o) (trace (past_name (of_classes body catches xs) x o) w)
classes_led body catches empty x o w = refl
classes_led body catches (then_also xs y) x o w = classes_led body catches xs y o (punct mark.Bar ∷ spell_name x w)

static_comma : (xs : Sequence (Variable Nothing)) (n : Name Nothing) (value : Option Form) (o : Around) (w : List Symbol) → IfAny value
    → trace (past_name (of_statics xs) n o) (spell_value value (punct mark.Comma ∷ w))
    ≡ value_nests value (statement_depth o) (statement_depth o ∷ trace (due_name (of_statics (then_also xs (record { name = n; value = value }))) o) w)
static_comma xs n None o w p = refl
static_comma xs n (Some e) o w p = ap (λ u. statement_depth o ∷ u) (place_trace (as_static xs n) o e (punct mark.Comma) w _ p (at_comma e w) refl)

pub static_end : (xs : Sequence (Variable Nothing)) (n : Name Nothing) (value : Option Form) (o : Around) (w : List Symbol) → IfAny value
    → trace (past_name (of_statics xs) n o) (spell_value value (punct mark.Semicolon ∷ w))
    ≡ value_nests value (statement_depth o) (statement_depth o ∷ trace (done (statics tt (then_also xs (record { name = n; value = value }))) o) w)
static_end xs n None o w p = refl
static_end xs n (Some e) o w p = ap (λ u. statement_depth o ∷ u) (place_trace (as_static xs n) o e (punct mark.Semicolon) w _ p (at_semicolon e w) refl)

pub statics_led : (xs : Sequence (Variable Nothing)) (x : Variable Nothing) (o : Around) (w : List Symbol) → Each (λ y. IfAny y.value) xs
    → trace (due_name (of_statics empty) o) (commas spell_variable (then_also xs x) w)
    ≡ separated_nests variable_nests xs (statement_depth o) (separator_nests xs (statement_depth o) (statement_depth o ∷ trace (past_name (of_statics xs) x.name o) (spell_value x.value w)))
statics_led empty x o w p = refl
statics_led (then_also xs y) x o w p =
    statics_led xs y o (punct mark.Comma ∷ spell_variable x w) p.0
    ∙ ap (λ u. separated_nests variable_nests xs (statement_depth o) (separator_nests xs (statement_depth o) (statement_depth o ∷ u))) (static_comma xs y.name y.value o (spell_variable x w) p.1)

pub static_traced : (o : Around) (w : List Symbol) → StartsVariable w → trace (past_static_word o) w ≡ trace (due_name (of_statics empty) o) w
static_traced o (symbol.variable text ∷ w) h = refl
static_traced o [] h = absurd h
static_traced o (t ∷ w) h = absurd h

constant_comma : (xs : Sequence (Constant Nothing)) (n : Name Nothing) (e : Form) (o : Around) (w : List Symbol) → Proper e
    → trace (past_name (of_constants xs) n o) (punct mark.Assign ∷ spell e (punct mark.Comma ∷ w))
    ≡ statement_depth o ∷ nests e (statement_depth o) (statement_depth o ∷ trace (due_name (of_constants (then_also xs (record { name = n; value = e }))) o) w)
constant_comma xs n e o w p = ap (λ u. statement_depth o ∷ u) (place_trace (as_constant xs n) o e (punct mark.Comma) w _ p (at_comma e w) refl)

pub constant_end : (xs : Sequence (Constant Nothing)) (n : Name Nothing) (e : Form) (o : Around) (w : List Symbol) → Proper e
    → trace (past_name (of_constants xs) n o) (punct mark.Assign ∷ spell e (punct mark.Semicolon ∷ w))
    ≡ statement_depth o ∷ nests e (statement_depth o) (statement_depth o ∷ trace (done (constants tt (then_also xs (record { name = n; value = e }))) o) w)
constant_end xs n e o w p = ap (λ u. statement_depth o ∷ u) (place_trace (as_constant xs n) o e (punct mark.Semicolon) w _ p (at_semicolon e w) refl)

pub constants_led : (xs : Sequence (Constant Nothing)) (x : Constant Nothing) (o : Around) (w : List Symbol) → Each (λ y. Proper y.value) xs
    → trace (due_name (of_constants empty) o) (commas spell_constant (then_also xs x) w)
    ≡ separated_nests constant_nests xs (statement_depth o) (separator_nests xs (statement_depth o) (statement_depth o ∷ trace (past_name (of_constants xs) x.name o) (punct mark.Assign ∷ spell x.value w)))
constants_led empty x o w p = refl
constants_led (then_also xs y) x o w p =
    constants_led xs y o (punct mark.Comma ∷ spell_constant x w) p.0
    ∙ ap (λ u. separated_nests constant_nests xs (statement_depth o) (separator_nests xs (statement_depth o) (statement_depth o ∷ u))) (constant_comma xs y.name y.value o (spell_constant x w) p.1)

-- ---- targets of a `foreach`

first_target : (walked : Form) (b : Bool) (e : Form) (o : Around) (t : Symbol) (w : List Symbol) (n : StatementState) → Proper e → EndsBefore e (t ∷ w) → filled (as_first walked b) e o (ending t) ≡ Some n
    → trace (past_as walked o) (spell_target (target b e) (t ∷ w)) ≡ target_nests (target b e) (1 + statement_depth o) ((1 + statement_depth o) ∷ trace n w)
first_target walked true e o t w n p h is = ap (λ u. (1 + statement_depth o) ∷ u) (place_trace (as_first walked true) o e t w n p h is)
first_target walked false e o t w n p h is = first_traced walked o (spell e (t ∷ w)) (starts e (t ∷ w)) ∙ place_trace (as_first walked false) o e t w n p h is

second_target : (walked : Form) (key : Target Nothing) (b : Bool) (e : Form) (o : Around) (t : Symbol) (w : List Symbol) (n : StatementState) → Proper e → EndsBefore e (t ∷ w)
    → filled (as_second walked key b) e o (ending t) ≡ Some n
    → trace (past_key walked key o) (spell_target (target b e) (t ∷ w)) ≡ target_nests (target b e) (1 + statement_depth o) ((1 + statement_depth o) ∷ trace n w)
second_target walked key true e o t w n p h is = ap (λ u. (1 + statement_depth o) ∷ u) (place_trace (as_second walked key true) o e t w n p h is)
second_target walked key false e o t w n p h is = second_traced walked key o (spell e (t ∷ w)) (starts e (t ∷ w)) ∙ place_trace (as_second walked key false) o e t w n p h is

pub targets_trace : (walked : Form) (key : Option (Target Nothing)) (value : Target Nothing) (o : Around) (w : List Symbol) → IsProperKey key → IsProperTarget value
    → trace (past_as walked o) (spell_key key (spell_target value (punct mark.RightParen ∷ w)))
    ≡ key_nests key (1 + statement_depth o) (target_nests value (1 + statement_depth o) ((1 + statement_depth o) ∷ trace (past_loop (foreach_loop walked key value) o) w))
targets_trace walked None value o w k p = first_target walked value.is_reference value.place o (punct mark.RightParen) w _ p (at_paren value.place w) refl
targets_trace walked (Some key) value o w k p =
    first_target walked key.is_reference key.place o (punct mark.DoubleArrow) (spell_target value (punct mark.RightParen ∷ w)) _ k.1 (at_arrow key.place _ k.0) refl
    ∙ ap (λ u. target_nests key (1 + statement_depth o) ((1 + statement_depth o) ∷ u))
    (second_target walked key value.is_reference value.place o (punct mark.RightParen) w _ p (at_paren value.place w) refl)
