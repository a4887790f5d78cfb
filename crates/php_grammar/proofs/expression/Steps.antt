-- The steps of the machine along a spelling.
use Rattle.std.proofs.Common.{◌≡◌, ◌≤◌, ◌<◌, ℕ, Bool, true, false, Some, None, List, [], ◌∷◌, refl, ◌∙◌, ap, arith}
use Rattle.std.specs.Prelude.{nat_lt}
use Rattle.std.proofs.lemmas.Bool.{lt-ltb}
use Rattle.php_token.specs.declared.kind.Keyword.TheVariants as word
use Rattle.php_token.specs.declared.kind.Punct.TheVariants as mark
use Rattle.php_ast.specs.declared.operator.Prefix.{Prefix}
use Rattle.php_ast.specs.declared.operator.Assign.TheVariants as setting
use Rattle.php_ast.specs.Symbol.{Symbol, keyword, punct}
use Rattle.php_ast.specs.expression.Tree.{append, selected, static_member, exiting, exit_empty, by_reference, keyed_reference, Leaf, Arrow, thin, colons, by_value, Member, named, reserved, held}
use Rattle.php_ast.specs.expression.Tree.{leaf, Items, plain, keyed, Class, class_name, class_static, class_found, Steps, step_property, new, instance_of_static, exit, yield_nothing}
use Rattle.php_ast.specs.expression.Spelling.{leaf_symbol, member_symbol}
use Rattle.php_ast.specs.Operators.{prefix_symbol}
use Rattle.php_ast.specs.expression.Proper.{operand_level, free, ends, is_call, IsWord, IsMemberName}
use Rattle.php_grammar.specs.expression.Role.{Draw, by_call, by_index, by_select, Continuation, draws, neither, continuation, draw_strength, strength_of, strength, is_arrow, ends_yield, item_mark, is_ampersand, is_paren, is_right_paren, is_right_bracket, is_left_brace, is_colon, member_of}
use Rattle.php_grammar.specs.expression.Machine.{Nothing, Form, Holder, OpenForm, enclosed_open, items_open, index_open, computed_open, then_open, short_open, prefix_open, instance_of_open, assign_open, yield_open, OpenForms, State, expects, holds, holds_call, past_items, past_value, past_exit, past_exit_paren, past_static, past_static_colons, past_index, past_arrow, past_class, past_step, past_question, past_assign, past_yield, least_power_at, least_power, ends_at, completed, seated, seat_end, completed_all, missing_end, closing_part, pick, allowed_if, released, after_by, after, opened_by, continued, goes_on, started, start, item_step, with_member, class_step, static_step, advance, halt_whole, halt_short, halt_yield, is_last, halt, or_halt, read_from}
use Rattle.php_grammar.proofs.expression.Roles.{draw_symbol, continuation_draw, beginning_prefix, beginning_leaf, item_says, ampersand_says, paren_says, right_paren_says, right_bracket_says, colon_says, continuation_says, TestSays, word_back, member_back}
use Rattle.php_grammar.proofs.expression.Fill.{without_end, without_end_call, least_power_most}
use Rattle.php_grammar.proofs.expression.Settle.{kept_power, releases_none}
use Rattle.php_grammar.proofs.expression.Trees.{Starts, test_false, item_begins, yield_begins}

pub advances : (m n : State) (t : Symbol) (w : List Symbol) → advance m t ≡ Some n → read_from m (t ∷ w) ≡ read_from n w
advances m n t w is = ap (λ o. or_halt o (λ x. read_from x w) (halt m (t ∷ w))) is

abbrev pub head_continuation : List Symbol → Continuation
head_continuation [] = neither
head_continuation (t ∷ w) = continuation t

abbrev pub head_strength : List Symbol → ℕ
head_strength w = strength_of (head_continuation w)

-- ---- a call, in a place where it may stand

pub after_low : (e : Form) (s : OpenForms) → least_power s < 90 → after e s ≡ holds e s
after_low e s h = low_by (is_call e) e s h
  where
    low_by : (b : Bool) (e : Form) (s : OpenForms) → least_power s < 90 → after_by b e s ≡ holds e s
    low_by false e s h = refl
    low_by true e [] h = refl
    low_by true e (instance_of_open l ∷ s) h = absurd (omega arith)
    low_by true e (f ∷ s) h = refl

-- ---- behind an expression

pub goes_on_draws : (d : Draw) (e : Form) (s : OpenForms) → least_power s ≤ draw_strength d → draw_strength d < ends e → goes_on e s (draws d) ≡ Some (opened_by d e s)
goes_on_draws d e s near low =
    ap (continued (draws d)) (releases_none false (draw_strength d) s e (omega (arith, kept_power s)))
    ∙ ap (λ b. allowed_if b (opened_by d e s)) (lt-ltb (draw_strength d) (ends e) low)

pub draws_on : (d : Draw) (e : Form) (s : OpenForms) (w : List Symbol) → least_power s ≤ draw_strength d → draw_strength d < ends e
    → read_from (holds e s) (draw_symbol d ∷ w) ≡ read_from (opened_by d e s) w
draws_on d e s w near low = advances (holds e s) (opened_by d e s) (draw_symbol d) w (ap (goes_on e s) (continuation_draw d) ∙ goes_on_draws d e s near low)

-- a suffix, in any place
suffix_by : (b : Bool) (d : Draw) (e : Form) (s : OpenForms) (w : List Symbol) → 90 < draw_strength d → draw_strength d < ends e
    → read_from (after_by b e s) (draw_symbol d ∷ w) ≡ read_from (opened_by d e s) w
suffix_by false d e s w tight low = draws_on d e s w (omega (arith, least_power_most s)) low
suffix_by true d e [] w tight low = draws_on d e [] w (omega arith) low
suffix_by true d e (instance_of_open l ∷ s) w tight low =
    advances (holds_call e (instance_of_open l ∷ s)) (opened_by d e (instance_of_open l ∷ s)) (draw_symbol d) w
    (ap (λ x. pick (nat_lt operand_level (strength_of x)) (goes_on e (instance_of_open l ∷ s) x) None) (continuation_draw d)
    ∙ ap (λ b. pick b (goes_on e (instance_of_open l ∷ s) (draws d)) None) (lt-ltb operand_level (draw_strength d) tight)
    ∙ goes_on_draws d e (instance_of_open l ∷ s) (omega arith) low)
suffix_by true d e (f ∷ s) w tight low = draws_on d e (f ∷ s) w (omega (arith, least_power_most (f ∷ s))) low

pub suffix_on : (d : Draw) (e : Form) (s : OpenForms) (w : List Symbol) → 90 < draw_strength d → draw_strength d < ends e
    → read_from (after e s) (draw_symbol d ∷ w) ≡ read_from (opened_by d e s) w
suffix_on d e s w tight low = suffix_by (is_call e) d e s w tight low

-- an operator, where its power has a place
pub operator_on : (d : Draw) (e : Form) (s : OpenForms) (w : List Symbol) → draw_strength d < 90 → least_power s ≤ draw_strength d → draw_strength d < ends e
    → read_from (after e s) (draw_symbol d ∷ w) ≡ read_from (opened_by d e s) w
operator_on d e s w small near low = ap (λ m. read_from m (draw_symbol d ∷ w)) (after_low e s (omega arith)) ∙ draws_on d e s w near low

-- ---- the end of a form without an end of its own

halt_completed : (f : OpenForm) (s : OpenForms) (e : Form) (w : List Symbol) → 0 < least_power_at f → halt (holds e (f ∷ s)) w ≡ halt (holds (completed f e) s) w
halt_completed f s e w h =
    ap (λ b. record { tree = completed_all s (seated b s (completed f e)); missing = closing_part f (seat_end b s (missing_end s)); unread = w }) (without_end_call f h)
    ∙ ap (λ v. record { tree = completed_all s (completed f e); missing = v; unread = w }) (without_end f (missing_end s) h)

pub released_step : (f : OpenForm) (s : OpenForms) (e : Form) (x : Continuation) → strength_of x < ends_at (is_arrow x) f → goes_on e (f ∷ s) x ≡ goes_on (completed f e) s x
released_step f s e x h =
    ap (λ b. continued x (pick b (released (is_arrow x) (strength_of x) s (completed f e)) (record { tree = e; stack = f ∷ s }))) (lt-ltb (strength_of x) (ends_at (is_arrow x) f) h)

pub released_before : (f : OpenForm) (s : OpenForms) (e : Form) (w : List Symbol) → 0 < least_power_at f → head_strength w < ends_at (is_arrow (head_continuation w)) f
    → read_from (holds e (f ∷ s)) w ≡ read_from (holds (completed f e) s) w
released_before f s e [] on h = halt_completed f s e [] on
released_before f s e (t ∷ w) on h =
    ap (λ o. or_halt o (λ n. read_from n w) (halt (holds e (f ∷ s)) (t ∷ w))) (released_step f s e (continuation t) h)
    ∙ ap (λ o. or_halt (goes_on (completed f e) s (continuation t)) (λ n. read_from n w) o) (halt_completed f s e (t ∷ w) on)

-- ---- where an expression begins

pub prefix_on : (op : Prefix) (s : OpenForms) (w : List Symbol) → least_power s ≤ free
    → read_from (expects s) (prefix_symbol op ∷ w) ≡ read_from (expects (prefix_open op ∷ s)) w
prefix_on op s w h =
    advances (expects s) (expects (prefix_open op ∷ s)) (prefix_symbol op) w
    (ap (λ x. started x s) (beginning_prefix op) ∙ ap (λ b. allowed_if b (expects (prefix_open op ∷ s))) (lt-ltb (least_power s) operand_level (omega arith)))

pub yield_on : (s : OpenForms) (w : List Symbol) → least_power s ≤ free → read_from (expects s) (keyword word.Yield ∷ w) ≡ read_from (past_yield s) w
yield_on s w h = advances (expects s) (past_yield s) (keyword word.Yield) w (ap (λ b. allowed_if b (past_yield s)) (lt-ltb (least_power s) operand_level (omega arith)))

pub leaf_on : (l : Leaf) (s : OpenForms) (w : List Symbol) → read_from (expects s) (leaf_symbol l ∷ w) ≡ read_from (holds (leaf tt l) s) w
leaf_on l s w = advances (expects s) (holds (leaf tt l) s) (leaf_symbol l) w (ap (λ x. started x s) (beginning_leaf l))

-- ---- after a token that opens a form, where a shorter ending is possible

pub enters_index : (e : Form) (s : OpenForms) (v : List Symbol) → Starts v → read_from (past_index e s) v ≡ read_from (expects (index_open e ∷ s)) v
enters_index e s [] h = absurd h
enters_index e s (t ∷ w) h =
    ap (λ b. or_halt (pick b (Some (holds (append e) s)) (start (index_open e ∷ s) t)) (λ n. read_from n w) (halt_short (index_open e ∷ s) (t ∷ w)))
    (test_false (is_right_bracket t) t (punct mark.RightBracket) (right_bracket_says t) refl h)

pub enter_exit : (s : OpenForms) (v : List Symbol) → Starts v → read_from (past_exit_paren s) v ≡ read_from (expects (enclosed_open exiting ∷ s)) v
enter_exit s [] h = absurd h
enter_exit s (t ∷ w) h =
    ap (λ b. or_halt (pick b (Some (holds (exit_empty tt) s)) (start (enclosed_open exiting ∷ s) t)) (λ n. read_from n w) (halt_short (enclosed_open exiting ∷ s) (t ∷ w)))
    (test_false (is_right_paren t) t (punct mark.RightParen) (right_paren_says t) refl h)

pub enter_then : (c : Form) (s : OpenForms) (v : List Symbol) → Starts v → read_from (past_question c s) v ≡ read_from (expects (then_open c ∷ s)) v
enter_then c s [] h = absurd h
enter_then c s (t ∷ w) h =
    ap (λ b. or_halt (pick b (Some (expects (short_open c ∷ s))) (start (then_open c ∷ s) t)) (λ n. read_from n w) (halt_short (then_open c ∷ s) (t ∷ w)))
    (test_false (is_colon t) t (punct mark.Colon) (colon_says t) refl h)

pub enter_assign : (l : Form) (s : OpenForms) (v : List Symbol) → Starts v → read_from (past_assign l s) v ≡ read_from (expects (assign_open (by_value setting.Plain) l ∷ s)) v
enter_assign l s [] h = absurd h
enter_assign l s (t ∷ w) h =
    ap (λ b. or_halt (pick b (Some (expects (assign_open by_reference l ∷ s))) (start (assign_open (by_value setting.Plain) l ∷ s) t)) (λ n. read_from n w) (halt_short (assign_open (by_value setting.Plain) l ∷ s) (t ∷ w)))
    (test_false (is_ampersand t) t (punct mark.Ampersand) (ampersand_says t) refl h)

pub enter_value : (h : Holder) (items : Items Nothing) (k : Form) (s : OpenForms) (v : List Symbol) → Starts v → read_from (past_value h items k s) v ≡ read_from (expects (items_open h items (keyed k) ∷ s)) v
enter_value h items k s [] g = absurd g
enter_value h items k s (t ∷ w) g =
    ap (λ b. or_halt (pick b (Some (expects (items_open h items (keyed_reference k) ∷ s))) (start (items_open h items (keyed k) ∷ s) t)) (λ n. read_from n w) (halt_short (items_open h items (keyed k) ∷ s) (t ∷ w)))
    (test_false (is_ampersand t) t (punct mark.Ampersand) (ampersand_says t) refl g)

pub enter_items : (h : Holder) (items : Items Nothing) (s : OpenForms) (v : List Symbol) → Starts v → read_from (past_items h items s) v ≡ read_from (expects (items_open h items plain ∷ s)) v
enter_items h items s [] g = absurd g
enter_items h items s (t ∷ w) g =
    ap (λ x. or_halt (item_step x h items s t) (λ n. read_from n w) (halt_short (items_open h items plain ∷ s) (t ∷ w))) (item_begins (item_mark t) t (item_says t) g)

last_false : (t : Symbol) (w v : List Symbol) → ends_yield (continuation t) ≡ false → is_last (t ∷ w) v ≡ false
last_false t w [] h = h
last_false t w (x ∷ v) h = refl

pub enter_yield : (s : OpenForms) (v : List Symbol) → Starts v → read_from (past_yield s) v ≡ read_from (expects (yield_open ∷ s)) v
enter_yield s [] h = absurd h
enter_yield s (t ∷ w) h =
    let shut : ends_yield (continuation t) ≡ false = yield_begins (continuation t) t (continuation_says t) h in
    ap (λ b. or_halt (pick b (goes_on (yield_nothing tt) s (continuation t)) (start (yield_open ∷ s) t)) (λ n. read_from n w) (halt_yield (is_last (t ∷ w) (missing_end s)) s (t ∷ w))) shut
    ∙ ap (λ b. or_halt (start (yield_open ∷ s) t) (λ n. read_from n w) (halt_yield b s (t ∷ w))) (last_false t w (missing_end s) shut)

-- ---- words that may end a form

pub paren_weight : (t : Symbol) → strength t < 105 → is_paren t ≡ false
paren_weight t h = weight_by (is_paren t) t (paren_says t) h
  where
    weight_by : (b : Bool) (t : Symbol) → TestSays b t (punct mark.LeftParen) → strength t < 105 → b ≡ false
    weight_by false t says h = refl
    weight_by true t says h = let e : strength t ≡ 110 = ap strength says in absurd (omega arith)

pub exit_done : (s : OpenForms) (w : List Symbol) → head_strength w < 105 → read_from (past_exit s) w ≡ read_from (holds (exit tt) s) w
exit_done s [] h = refl
exit_done s (t ∷ w) h =
    ap (λ b. or_halt (pick b (Some (past_exit_paren s)) (goes_on (exit tt) s (continuation t))) (λ n. read_from n w) (halt_whole (exit tt) s (t ∷ w))) (paren_weight t h)

pub class_by : (x : Continuation) (class : Class Nothing) (s : OpenForms) → strength_of x < 80 → class_step class s x ≡ goes_on (new tt class) s x
class_by (draws by_call) class s h = absurd (omega arith)
class_by (draws by_index) class s h = absurd (omega arith)
class_by (draws (by_select arrow)) class s h = absurd (omega arith)
class_by x (class_name spot text) s h = refl
class_by x (class_static spot) s h = refl
class_by x (class_found steps) s h = refl

pub class_done : (class : Class Nothing) (s : OpenForms) (w : List Symbol) → head_strength w < 80 → read_from (past_class class s) w ≡ read_from (holds (new tt class) s) w
class_done class s [] h = refl
class_done class s (t ∷ w) h = ap (λ o. or_halt o (λ n. read_from n w) (halt_whole (new tt class) s (t ∷ w))) (class_by (continuation t) class s h)

pub static_by : (x : Continuation) (l : Form) (s : OpenForms) → strength_of x < 80 → static_step (instance_of_open l ∷ s) x ≡ goes_on (instance_of_static l tt) s x
static_by (draws (by_select colons)) l s h = absurd (omega arith)
static_by _ l s h = refl

pub static_done : (l : Form) (s : OpenForms) (w : List Symbol) → head_strength w < 80 → read_from (past_static (instance_of_open l ∷ s)) w ≡ read_from (holds (instance_of_static l tt) s) w
static_done l s [] h = refl
static_done l s (t ∷ w) h = ap (λ o. or_halt o (λ n. read_from n w) (halt_whole (instance_of_static l tt) s (t ∷ w))) (static_by (continuation t) l s h)

-- ---- names of members

member_no_brace : (m : Member Nothing) → is_left_brace (member_symbol m) ≡ false
member_no_brace (named spot text) = refl
member_no_brace (reserved spot k) = refl
member_no_brace (held spot text) = refl

pub member_advances : (arrow : Arrow) (m : Member Nothing) (e : Form) (s : OpenForms) → IsMemberName m → advance (past_arrow arrow e s) (member_symbol m) ≡ Some (holds (selected e arrow m) s)
member_advances thin m e s h =
    ap (λ b. pick b (Some (expects (computed_open e ∷ s))) (with_member (member_of (member_symbol m)) (λ x. holds (selected e thin x) s))) (member_no_brace m)
    ∙ ap (λ o. with_member o (λ x. holds (selected e thin x) s)) (member_back m h)
member_advances colons m e s h = ap (λ o. with_member o (λ x. holds (selected e colons x) s)) (member_back m h)

pub static_advances : (m : Member Nothing) (s : OpenForms) → IsMemberName m → advance (past_static_colons s) (member_symbol m) ≡ Some (holds (static_member tt m) s)
static_advances m s h = ap (λ o. with_member o (λ x. holds (static_member tt x) s)) (member_back m h)

pub property_advances : (m : Member Nothing) (steps : Steps Nothing) (s : OpenForms) → IsWord m → advance (past_step steps s) (member_symbol m) ≡ Some (past_class (class_found (step_property steps m)) s)
property_advances m steps s h = ap (λ o. with_member o (λ x. past_class (class_found (step_property steps x)) s)) (word_back m h)
