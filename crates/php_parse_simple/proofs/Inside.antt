-- Expressions in statements.
use Rattle.std.proofs.Common.{◌≡◌, ◌≤◌, ◌<◌, ℕ, zero, suc, ◌+◌, Bool, true, false, Option, Some, None, List, [], ◌∷◌, ◌++◌, refl, sym, ◌∙◌, ap, subst, arith}
use Rattle.std.specs.Prelude.{nat_lt}
use Rattle.std.proofs.lemmas.Bool.{le-ltb}
use Rattle.php_ast.specs.Symbol.{Symbol}
use Rattle.php_ast.specs.declared.operator.ArrayForm.TheVariants as array_form
use Rattle.php_ast.specs.expression.Tree.{parentheses, emptiness, exiting, array, is_set}
use Rattle.php_ast.specs.statement.Tree.{Statement}
use Rattle.php_grammar.specs.Run.{either, if_some, whole_before}
use Rattle.php_grammar.specs.TooDeep.{depth_inside}
use Rattle.php_grammar.specs.expression.Role.{Beginning, at_leaf, at_static, at_template, at_exit, at_new, at_yield, at_enclosed, at_listed, at_prefix, at_nothing, beginning}
use Rattle.php_grammar.specs.expression.Machine.{Nothing, Form, State, expects, started, advance, halt}
use Rattle.php_grammar.specs.statement.Role.{ending}
use Rattle.php_grammar.specs.statement.Forms.{Around, Head, elseif_list_head, switch_head, Values, of_echo, of_starts, of_tests, ExpressionPlace, as_value, as_test, as_walked, as_first, as_second, as_label, StatementState, in_expression}
use Rattle.php_grammar.specs.statement.Machine.{expected, filled, advance_statement}
use Rattle.php_grammar.specs.statement.Depth.{statement_depth, place_depth, statement_depth_at}
use Rattle.php_grammar.specs.statement.Reading.{halt_statement, values_rest, head_rest, place_rest, missing_around, completed_around, placed_statement}
use Rattle.php_grammar.proofs.expression.LawProofs.{halt_unread}
use Rattle.php_parse_operands.specs.Walk as inner
use Rattle.php_parse_operands.specs.Walk.{walk}
use Rattle.php_grammar_laws.specs.Walks.{short, deep, outcome, stepped, walk_statement}
use Rattle.php_parse_simple.specs.Walk.{Leads, Halts, sunk, sunk_here, expression_outcome, head_ending, walk_behind}
use Rattle.php_parse_simple.proofs.Bridge.{Inside, walk_past, passed, bridge}
use Rattle.php_parse_simple.proofs.Moves.{sticks, sinks, Some_of, lacks_by, some_behind}

-- ---- a place of a statement

values_some : (values : Values) (w : List Symbol) → Some_of (values_rest values w)
values_some of_echo w = tt
values_some of_starts w = tt
values_some (of_tests starts) w = tt
values_some _ w = tt

head_some : (head : Head) (w : List Symbol) → Some_of (head_rest head w)
head_some (elseif_list_head test body parts) w = tt
head_some switch_head w = tt
head_some _ w = tt

place_some : (place : ExpressionPlace) (w : List Symbol) → Some_of (place_rest place w)
place_some (as_value values items) w = values_some values w
place_some (as_test head) w = head_some head w
place_some as_walked w = tt
place_some (as_first walked b) w = tt
place_some (as_second walked key b) w = tt
place_some (as_label e form cases) w = tt
place_some _ w = tt

pub place_lacks : (place : ExpressionPlace) (o : Around) (m : State) (w : List Symbol) → outcome (halt_statement (in_expression place m o) w) ≡ short w
place_lacks place o m w =
    let end : List Symbol = place_rest place (missing_around o) in
    lacks_by ((halt m end).missing ++ (halt m end).unread) (completed_around o (placed_statement place (halt m end).tree)) w
    (some_behind (halt m end).missing (halt m end).unread (subst Some_of (sym (halt_unread m end)) (place_some place (missing_around o))))

abbrev inside_place : (place : ExpressionPlace) (o : Around) → Inside StatementState (Statement Nothing) advance_statement statement_depth_at halt_statement (place_depth place (statement_depth o))
inside_place place o = record {
  on = λ m. in_expression place m o;
  ended = λ t e. filled place e o (ending t);
  steps = λ m t. refl;
  counts = λ m t. refl;
  lacks = λ m w. place_lacks place o m w;
}

past_same : (n : ℕ) (place : ExpressionPlace) (o : Around) (e : Form) (v : List Symbol)
    → walk_past advance_statement statement_depth_at halt_statement (place_depth place (statement_depth o)) n (λ t f. filled place f o (ending t)) e v ≡ walk_behind n place e o v
past_same n place o e [] = refl
past_same n place o e (t ∷ v) = refl

-- ---- where no level is left

abbrev Goes : Option State → Type 0
Goes None = ⊥
Goes (Some m) = Unit {0}

begun_sinks : (n : ℕ) (place : ExpressionPlace) (o : Around) (t : Symbol) (w : List Symbol) (b : Option State) → advance (expects []) t ≡ b → n < place_depth place (statement_depth o)
    → Goes b → walk_statement n (expected place o) (t ∷ w) ≡ deep (t ∷ w)
begun_sinks n place o t w None is under some = absurd some
begun_sinks n place o t w (Some m) is under some =
    sinks n (expected place o) (in_expression place m o) t w (ap (λ u. either (if_some u (λ x. Some (in_expression place x o))) (if_some (whole_before (expects []) t) (λ e. filled place e o (ending t)))) is)
    (omega (arith, ap (λ u. depth_inside u 0 (place_depth place (statement_depth o))) is))

sunk_by : (n : ℕ) (place : ExpressionPlace) (o : Around) (t : Symbol) (w : List Symbol) (b : Beginning) → beginning t ≡ b → n < place_depth place (statement_depth o)
    → walk_statement n (expected place o) (t ∷ w) ≡ passed (λ e v. walk_behind n place e o v) (sunk b (t ∷ w))
sunk_by n place o t w at_nothing is under =
    sticks n (expected place o) t w (ap (λ b. either (if_some (started b []) (λ x. Some (in_expression place x o))) (if_some (whole_before (expects []) t) (λ e. filled place e o (ending t)))) is)
    ∙ place_lacks place o (expects []) (t ∷ w)
sunk_by n place o t w (at_leaf l) is under = begun_sinks n place o t w (started (at_leaf l) []) (ap (λ b. started b []) is) under tt
sunk_by n place o t w at_static is under = begun_sinks n place o t w (started at_static []) (ap (λ b. started b []) is) under tt
sunk_by n place o t w at_template is under = begun_sinks n place o t w (started at_template []) (ap (λ b. started b []) is) under tt
sunk_by n place o t w at_exit is under = begun_sinks n place o t w (started at_exit []) (ap (λ b. started b []) is) under tt
sunk_by n place o t w at_new is under = begun_sinks n place o t w (started at_new []) (ap (λ b. started b []) is) under tt
sunk_by n place o t w at_yield is under = begun_sinks n place o t w (started at_yield []) (ap (λ b. started b []) is) under tt
sunk_by n place o t w (at_enclosed parentheses) is under = begun_sinks n place o t w (started (at_enclosed parentheses) []) (ap (λ b. started b []) is) under tt
sunk_by n place o t w (at_enclosed emptiness) is under = begun_sinks n place o t w (started (at_enclosed emptiness) []) (ap (λ b. started b []) is) under tt
sunk_by n place o t w (at_enclosed exiting) is under = begun_sinks n place o t w (started (at_enclosed exiting) []) (ap (λ b. started b []) is) under tt
sunk_by n place o t w (at_listed (array array_form.Brackets)) is under = begun_sinks n place o t w (started (at_listed (array array_form.Brackets)) []) (ap (λ b. started b []) is) under tt
sunk_by n place o t w (at_listed (array array_form.Array)) is under = begun_sinks n place o t w (started (at_listed (array array_form.Array)) []) (ap (λ b. started b []) is) under tt
sunk_by n place o t w (at_listed (array array_form.List)) is under = begun_sinks n place o t w (started (at_listed (array array_form.List)) []) (ap (λ b. started b []) is) under tt
sunk_by n place o t w (at_listed is_set) is under = begun_sinks n place o t w (started (at_listed is_set) []) (ap (λ b. started b []) is) under tt
sunk_by n place o t w (at_prefix op) is under = begun_sinks n place o t w (started (at_prefix op) []) (ap (λ b. started b []) is) under tt

sunk_walk : (n : ℕ) (place : ExpressionPlace) (o : Around) (w : List Symbol) → n < place_depth place (statement_depth o)
    → walk_statement n (expected place o) w ≡ passed (λ e v. walk_behind n place e o v) (sunk_here w)
sunk_walk n place o [] under = place_lacks place o (expects []) []
sunk_walk n place o (t ∷ w) under = sunk_by n place o t w (beginning t) refl under

-- ---- where some are left

passed_same : (n : ℕ) (place : ExpressionPlace) (o : Around) (x : inner.Outcome)
    → passed (walk_past advance_statement statement_depth_at halt_statement (place_depth place (statement_depth o)) n (λ t f. filled place f o (ending t))) x ≡ passed (λ e v. walk_behind n place e o v) x
passed_same n place o (inner.whole e v) = past_same n place o e v
passed_same n place o (inner.short v) = refl
passed_same n place o (inner.deep v) = refl

-- What the walk comes to where an expression is due, by what the expression comes to.
pub expression_walk : (n room : ℕ) (place : ExpressionPlace) (o : Around) (w : List Symbol) → place_depth place (statement_depth o) + room ≡ suc n
    → walk_statement n (expected place o) w ≡ passed (λ e v. walk_behind n place e o v) (expression_outcome room w)
expression_walk n zero place o w sum = sunk_walk n place o w (omega arith)
expression_walk n (suc r) place o w sum =
    bridge advance_statement statement_depth_at halt_statement (place_depth place (statement_depth o)) r n (inside_place place o) (expects []) w (omega arith)
    ∙ passed_same n place o (walk r (expects []) w)

-- ---- what reads an expression

-- with the symbol that ends it
pub read_leads : {depth : Around → ℕ} {room : ℕ} {x w v : List Symbol} (place : ExpressionPlace) (within : ℕ) (e : Form) (t : Symbol) (to : Around → StatementState)
    → ((o : Around) → place_depth place (statement_depth o) + within ≡ depth o + room) → 1 ≤ within
    → expression_outcome within x ≡ inner.whole e w → w ≡ t ∷ v → ((o : Around) → filled place e o (ending t) ≡ Some (to o))
    → Leads depth room (λ o. expected place o) x to v
read_leads {depth} {room} {x} {w} {v} place within e t to same roomy read is fills = record {
  same = λ n o at.
      let sum : place_depth place (statement_depth o) + within ≡ suc n = same o ∙ at in
      expression_walk n within place o x sum
      ∙ ap (passed (λ f u. walk_behind n place f o u)) read
      ∙ ap (walk_behind n place e o) is
      ∙ ap (λ u. stepped u (nat_lt n (place_depth place (statement_depth o))) (λ m. walk_statement n m v) (short (t ∷ v)) (t ∷ v)) (fills o)
      ∙ ap (λ b. stepped (Some (to o)) b (λ m. walk_statement n m v) (short (t ∷ v)) (t ∷ v)) (le-ltb n (place_depth place (statement_depth o)) (omega arith));
}

unfilled : (n : ℕ) (place : ExpressionPlace) (e : Form) (o : Around) (w : List Symbol) → filled place e o (head_ending w) ≡ None → walk_behind n place e o w ≡ short w
unfilled n place e o [] h = refl
unfilled n place e o (t ∷ v) h = ap (λ u. stepped u (nat_lt n (place_depth place (statement_depth o))) (λ m. walk_statement n m v) (short (t ∷ v)) (t ∷ v)) h

-- in front of a symbol that doesn't end it there
pub read_unclosed : {depth : Around → ℕ} {room : ℕ} {x w : List Symbol} (place : ExpressionPlace) (within : ℕ) (e : Form)
    → ((o : Around) → place_depth place (statement_depth o) + within ≡ depth o + room)
    → expression_outcome within x ≡ inner.whole e w → ((o : Around) → filled place e o (head_ending w) ≡ None)
    → Halts false depth room (λ o. expected place o) x w
read_unclosed {depth} {room} {x} {w} place within e same read stuck = record {
  same = λ n o at.
      expression_walk n within place o x (same o ∙ at)
      ∙ ap (passed (λ f u. walk_behind n place f o u)) read
      ∙ unfilled n place e o w (stuck o);
}

-- where none is read
pub read_halts : {depth : Around → ℕ} {room : ℕ} {x w : List Symbol} (too_deep : Bool) (place : ExpressionPlace) (within : ℕ)
    → ((o : Around) → place_depth place (statement_depth o) + within ≡ depth o + room)
    → expression_outcome within x ≡ inner.stopped too_deep w → Halts too_deep depth room (λ o. expected place o) x w
read_halts {depth} {room} {x} {w} true place within same read =
    record { same = λ n o at. expression_walk n within place o x (same o ∙ at) ∙ ap (passed (λ f u. walk_behind n place f o u)) read }
read_halts {depth} {room} {x} {w} false place within same read =
    record { same = λ n o at. expression_walk n within place o x (same o ∙ at) ∙ ap (passed (λ f u. walk_behind n place f o u)) read }
