-- The nesting that a reading counts at each symbol of a spelling.
use Rattle.std.proofs.Common.{◌≡◌, ◌≤◌, ◌<◌, ℕ, ◌+◌, Bool, true, false, Some, None, List, [], ◌∷◌, refl, ◌∙◌, ap, arith}
use Rattle.std.specs.Prelude.{nat_lt}
use Rattle.std.proofs.lemmas.Bool.{lt-ltb, le-ltb}
use Rattle.php_token.specs.declared.kind.Keyword.TheVariants as word
use Rattle.php_token.specs.declared.kind.Punct.TheVariants as mark
use Rattle.php_ast.specs.declared.operator.Prefix.{Prefix}
use Rattle.php_ast.specs.declared.operator.Assign.{Assign}
use Rattle.php_ast.specs.declared.operator.Assign.TheVariants as setting
use Rattle.php_ast.specs.Symbol.{Symbol, keyword, punct}
use Rattle.php_ast.specs.expression.Tree.{append, exiting, exit_empty, by_reference, keyed_reference, Leaf, by_value, leaf, Items, plain, keyed, Class, new, instance_of_static, exit, yield_nothing}
use Rattle.php_ast.specs.expression.Spelling.{leaf_symbol}
use Rattle.php_ast.specs.Operators.{prefix_symbol}
use Rattle.php_ast.specs.expression.Proper.{operand_level, free, ends, is_call}
use Rattle.php_grammar.specs.expression.Role.{Draw, draws, continuation, draw_strength, strength_of, is_arrow, ends_yield, item_mark, is_ampersand, is_right_paren, is_right_bracket, is_colon}
use Rattle.php_grammar.specs.expression.Machine.{Nothing, Form, Holder, OpenForm, enclosed_open, items_open, index_open, then_open, short_open, prefix_open, instance_of_open, assign_open, yield_open, OpenForms, State, expects, holds, holds_call, past_items, past_value, past_exit, past_exit_paren, past_static, past_index, past_class, past_question, past_assign, past_yield, least_power_at, least_power, ends_at, completed, pick, allowed_if, after_by, after, assigning, opened_by, goes_on, started, start, item_step, advance}
use Rattle.php_grammar.specs.expression.Depth.{depth, kept, depth_behind, depth_at, noting, depths_read}
use Rattle.php_grammar.proofs.expression.Roles.{draw_symbol, continuation_draw, beginning_prefix, beginning_leaf, item_says, ampersand_says, right_paren_says, right_bracket_says, colon_says, continuation_says}
use Rattle.php_grammar.proofs.expression.Fill.{least_power_most}
use Rattle.php_grammar.proofs.expression.Settle.{ends_top, kept_power}
use Rattle.php_grammar.proofs.expression.Trees.{Starts, test_false, item_begins, yield_begins}
use Rattle.php_grammar.proofs.expression.Steps.{head_continuation, head_strength, after_low, released_step, paren_weight, class_by, static_by, goes_on_draws}

pub counts_on : (m n : State) (t : Symbol) (w : List Symbol) (d : ℕ) → advance m t ≡ Some n → depth_at m t ≡ d → depths_read m (t ∷ w) ≡ d ∷ depths_read n w
counts_on m n t w d is at = ap (λ o. noting o (depth_at m t) (λ x. depths_read x w)) is ∙ ap (λ k. k ∷ depths_read n w) at

-- ---- behind an expression

kept_none : (arrow : Bool) (n : ℕ) (s : OpenForms) → ends_top arrow s ≤ n → kept arrow n s ≡ s
kept_none arrow n [] h = refl
kept_none arrow n (f ∷ s) h = ap (λ b. pick b (kept arrow n s) (f ∷ s)) (le-ltb n (ends_at arrow f) h)

behind_draw : (d : Draw) (s : OpenForms) → least_power s ≤ draw_strength d → depth_behind s (continuation (draw_symbol d)) ≡ depth s
behind_draw d s near = ap (depth_behind s) (continuation_draw d) ∙ ap depth (kept_none false (draw_strength d) s (omega (arith, kept_power s)))

draws_count : (d : Draw) (e : Form) (s : OpenForms) (w : List Symbol) → least_power s ≤ draw_strength d → draw_strength d < ends e
    → depths_read (holds e s) (draw_symbol d ∷ w) ≡ depth s ∷ depths_read (opened_by d e s) w
draws_count d e s w near low =
    counts_on (holds e s) (opened_by d e s) (draw_symbol d) w (depth s) (ap (goes_on e s) (continuation_draw d) ∙ goes_on_draws d e s near low) (behind_draw d s near)

suffix_by : (b : Bool) (d : Draw) (e : Form) (s : OpenForms) (w : List Symbol) → 90 < draw_strength d → draw_strength d < ends e
    → depths_read (after_by b e s) (draw_symbol d ∷ w) ≡ depth s ∷ depths_read (opened_by d e s) w
suffix_by false d e s w tight low = draws_count d e s w (omega (arith, least_power_most s)) low
suffix_by true d e [] w tight low = draws_count d e [] w (omega arith) low
suffix_by true d e (instance_of_open l ∷ s) w tight low =
    counts_on (holds_call e (instance_of_open l ∷ s)) (opened_by d e (instance_of_open l ∷ s)) (draw_symbol d) w (depth (instance_of_open l ∷ s))
    (ap (λ x. pick (nat_lt operand_level (strength_of x)) (goes_on e (instance_of_open l ∷ s) x) None) (continuation_draw d)
    ∙ ap (λ b. pick b (goes_on e (instance_of_open l ∷ s) (draws d)) None) (lt-ltb operand_level (draw_strength d) tight)
    ∙ goes_on_draws d e (instance_of_open l ∷ s) (omega arith) low) refl
suffix_by true d e (f ∷ s) w tight low = draws_count d e (f ∷ s) w (omega (arith, least_power_most (f ∷ s))) low

pub suffix_count : (d : Draw) (e : Form) (s : OpenForms) (w : List Symbol) → 90 < draw_strength d → draw_strength d < ends e
    → depths_read (after e s) (draw_symbol d ∷ w) ≡ depth s ∷ depths_read (opened_by d e s) w
suffix_count d e s w tight low = suffix_by (is_call e) d e s w tight low

pub operator_count : (d : Draw) (e : Form) (s : OpenForms) (w : List Symbol) → draw_strength d < 90 → least_power s ≤ draw_strength d → draw_strength d < ends e
    → depths_read (after e s) (draw_symbol d ∷ w) ≡ depth s ∷ depths_read (opened_by d e s) w
operator_count d e s w small near low = ap (λ m. depths_read m (draw_symbol d ∷ w)) (after_low e s (omega arith)) ∙ draws_count d e s w near low

ended_count : (f : OpenForm) (s : OpenForms) (e : Form) (w : List Symbol) → head_strength w < ends_at (is_arrow (head_continuation w)) f
    → depths_read (holds e (f ∷ s)) w ≡ depths_read (holds (completed f e) s) w
ended_count f s e [] h = refl
ended_count f s e (t ∷ w) h =
    ap (λ o. noting o (depth_at (holds e (f ∷ s)) t) (λ n. depths_read n w)) (released_step f s e (continuation t) h)
    ∙ ap (λ b. noting (goes_on (completed f e) s (continuation t)) (depth (pick b (kept (is_arrow (continuation t)) (strength_of (continuation t)) s) (f ∷ s))) (λ n. depths_read n w))
    (lt-ltb (strength_of (continuation t)) (ends_at (is_arrow (continuation t)) f) h)

pub close_count : (f : OpenForm) (s : OpenForms) (e : Form) (w : List Symbol) → least_power_at f < 90 → head_strength w < ends_at (is_arrow (head_continuation w)) f
    → depths_read (after e (f ∷ s)) w ≡ depths_read (holds (completed f e) s) w
close_count f s e w small short = ap (λ m. depths_read m w) (after_low e (f ∷ s) small) ∙ ended_count f s e w short

pub instance_of_count : (l e : Form) (s : OpenForms) (w : List Symbol) → is_call e ≡ false → head_strength w < ends_at (is_arrow (head_continuation w)) (instance_of_open l)
    → depths_read (after e (instance_of_open l ∷ s)) w ≡ depths_read (holds (completed (instance_of_open l) e) s) w
instance_of_count l e s w is short = ap (λ b. depths_read (after_by b e (instance_of_open l ∷ s)) w) is ∙ ended_count (instance_of_open l) s e w short

-- ---- where an expression begins

pub prefix_count : (op : Prefix) (s : OpenForms) (w : List Symbol) → least_power s ≤ free → depths_read (expects s) (prefix_symbol op ∷ w) ≡ depth s ∷ depths_read (expects (prefix_open op ∷ s)) w
prefix_count op s w h =
    counts_on (expects s) (expects (prefix_open op ∷ s)) (prefix_symbol op) w (depth s)
    (ap (λ x. started x s) (beginning_prefix op) ∙ ap (λ b. allowed_if b (expects (prefix_open op ∷ s))) (lt-ltb (least_power s) operand_level (omega arith))) refl

pub yield_count : (s : OpenForms) (w : List Symbol) → least_power s ≤ free → depths_read (expects s) (keyword word.Yield ∷ w) ≡ depth s ∷ depths_read (past_yield s) w
yield_count s w h =
    counts_on (expects s) (past_yield s) (keyword word.Yield) w (depth s) (ap (λ b. allowed_if b (past_yield s)) (lt-ltb (least_power s) operand_level (omega arith))) refl

pub leaf_count : (l : Leaf) (s : OpenForms) (w : List Symbol) → depths_read (expects s) (leaf_symbol l ∷ w) ≡ depth s ∷ depths_read (holds (leaf tt l) s) w
leaf_count l s w = counts_on (expects s) (holds (leaf tt l) s) (leaf_symbol l) w (depth s) (ap (λ x. started x s) (beginning_leaf l)) refl

-- ---- after a token that opens a form

pub index_enters : (e : Form) (s : OpenForms) (v : List Symbol) → Starts v → depths_read (past_index e s) v ≡ depths_read (expects (index_open e ∷ s)) v
index_enters e s [] h = absurd h
index_enters e s (t ∷ w) h =
    ap (λ b. noting (pick b (Some (holds (append e) s)) (start (index_open e ∷ s) t)) (1 + depth s) (λ n. depths_read n w))
    (test_false (is_right_bracket t) t (punct mark.RightBracket) (right_bracket_says t) refl h)

pub exit_enters : (s : OpenForms) (v : List Symbol) → Starts v → depths_read (past_exit_paren s) v ≡ depths_read (expects (enclosed_open exiting ∷ s)) v
exit_enters s [] h = absurd h
exit_enters s (t ∷ w) h =
    ap (λ b. noting (pick b (Some (holds (exit_empty tt) s)) (start (enclosed_open exiting ∷ s) t)) (1 + depth s) (λ n. depths_read n w))
    (test_false (is_right_paren t) t (punct mark.RightParen) (right_paren_says t) refl h)

pub then_enters : (c : Form) (s : OpenForms) (v : List Symbol) → Starts v → depths_read (past_question c s) v ≡ depths_read (expects (then_open c ∷ s)) v
then_enters c s [] h = absurd h
then_enters c s (t ∷ w) h =
    ap (λ b. noting (pick b (Some (expects (short_open c ∷ s))) (start (then_open c ∷ s) t)) (pick b (depth s) (1 + depth s)) (λ n. depths_read n w))
    (test_false (is_colon t) t (punct mark.Colon) (colon_says t) refl h)

assign_enters : (l : Form) (s : OpenForms) (v : List Symbol) → Starts v → depths_read (past_assign l s) v ≡ depths_read (expects (assign_open (by_value setting.Plain) l ∷ s)) v
assign_enters l s [] h = absurd h
assign_enters l s (t ∷ w) h =
    ap (λ b. noting (pick b (Some (expects (assign_open by_reference l ∷ s))) (start (assign_open (by_value setting.Plain) l ∷ s) t)) (pick b (depth s) (1 + depth s)) (λ n. depths_read n w))
    (test_false (is_ampersand t) t (punct mark.Ampersand) (ampersand_says t) refl h)

pub assigned_enters : (op : Assign) (l : Form) (s : OpenForms) (v : List Symbol) → Starts v → depths_read (assigning op l s) v ≡ depths_read (expects (assign_open (by_value op) l ∷ s)) v
assigned_enters setting.Plain l s v h = assign_enters l s v h
assigned_enters _ l s v h = refl

pub value_enters : (h : Holder) (items : Items Nothing) (k : Form) (s : OpenForms) (v : List Symbol) → Starts v → depths_read (past_value h items k s) v ≡ depths_read (expects (items_open h items (keyed k) ∷ s)) v
value_enters h items k s [] g = absurd g
value_enters h items k s (t ∷ w) g =
    ap (λ b. noting (pick b (Some (expects (items_open h items (keyed_reference k) ∷ s))) (start (items_open h items (keyed k) ∷ s) t)) (1 + depth s) (λ n. depths_read n w))
    (test_false (is_ampersand t) t (punct mark.Ampersand) (ampersand_says t) refl g)

pub items_enter : (h : Holder) (items : Items Nothing) (s : OpenForms) (v : List Symbol) → Starts v → depths_read (past_items h items s) v ≡ depths_read (expects (items_open h items plain ∷ s)) v
items_enter h items s [] g = absurd g
items_enter h items s (t ∷ w) g = ap (λ x. noting (item_step x h items s t) (1 + depth s) (λ n. depths_read n w)) (item_begins (item_mark t) t (item_says t) g)

pub yield_enters : (s : OpenForms) (v : List Symbol) → Starts v → depths_read (past_yield s) v ≡ depths_read (expects (yield_open ∷ s)) v
yield_enters s [] h = absurd h
yield_enters s (t ∷ w) h =
    ap (λ b. noting (pick b (goes_on (yield_nothing tt) s (continuation t)) (start (yield_open ∷ s) t)) (pick b (depth_behind s (continuation t)) (1 + depth s)) (λ n. depths_read n w))
    (yield_begins (continuation t) t (continuation_says t) h)

-- ---- words that may end a form

pub exit_ends : (s : OpenForms) (w : List Symbol) → head_strength w < 105 → depths_read (past_exit s) w ≡ depths_read (holds (exit tt) s) w
exit_ends s [] h = refl
exit_ends s (t ∷ w) h =
    ap (λ b. noting (pick b (Some (past_exit_paren s)) (goes_on (exit tt) s (continuation t))) (depth_behind s (continuation t)) (λ n. depths_read n w)) (paren_weight t h)

pub class_ends : (class : Class Nothing) (s : OpenForms) (w : List Symbol) → head_strength w < 80 → depths_read (past_class class s) w ≡ depths_read (holds (new tt class) s) w
class_ends class s [] h = refl
class_ends class s (t ∷ w) h = ap (λ o. noting o (depth_behind s (continuation t)) (λ n. depths_read n w)) (class_by (continuation t) class s h)

pub static_ends : (l : Form) (s : OpenForms) (w : List Symbol) → head_strength w < 80 → depths_read (past_static (instance_of_open l ∷ s)) w ≡ depths_read (holds (instance_of_static l tt) s) w
static_ends l s [] h = refl
static_ends l s (t ∷ w) h = ap (λ o. noting o (depth_behind s (continuation t)) (λ n. depths_read n w)) (static_by (continuation t) l s h)

pub bare_ends_it : (s : OpenForms) (w : List Symbol) → ends_yield (head_continuation w) ≡ true → depths_read (past_yield s) w ≡ depths_read (holds (yield_nothing tt) s) w
bare_ends_it s [] h = refl
bare_ends_it s (t ∷ w) h =
    ap (λ b. noting (pick b (goes_on (yield_nothing tt) s (continuation t)) (start (yield_open ∷ s) t)) (pick b (depth_behind s (continuation t)) (1 + depth s)) (λ n. depths_read n w)) h

-- a suffix behind a word that it goes on with
pub behind_suffix : (d : Draw) (s : OpenForms) → 90 ≤ draw_strength d → depth_behind s (continuation (draw_symbol d)) ≡ depth s
behind_suffix d s tight = behind_draw d s (omega (arith, least_power_most s))
