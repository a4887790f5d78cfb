-- Behind a token that opens a form which a shorter one may be, or a form that may be over.
use Rattle.std.proofs.Common.{◌≡◌, ◌≢◌, ℕ, ◌+◌, Bool, true, false, Some, None, List, [], ◌∷◌, refl, sym, ◌∙◌, ap}
use Rattle.std.specs.Prelude.{nat_lt}
use Rattle.php_ast.specs.declared.operator.Assign.TheVariants as setting
use Rattle.php_ast.specs.Symbol.{Symbol}
use Rattle.php_ast.specs.expression.Tree.{Items, skip, plain, keyed, keyed_reference, reference, spread, Class, class_name, class_static, class_found, exiting, exit, exit_empty, append, new, instance_of_static, by_value, by_reference, thin, colons, yield_nothing}
use Rattle.php_grammar.specs.declared.closer.Closer.{Closer}
use Rattle.php_grammar.specs.declared.closer.Closer.TheVariants as ender
use Rattle.php_grammar.specs.expression.Role.{Beginning, at_nothing, beginning, Continuation, draws, closes, neither, continuation, strength_of, ends_yield, by_call, by_index, by_select, Mark, refers, spreads, ends_item, begins, item_mark, is_ampersand, is_paren, is_right_paren, is_right_bracket, is_colon}
use Rattle.php_grammar.specs.expression.Machine.{Form, Holder, is_array, is_arguments, has_paren, may_end, enclosed_open, items_open, index_open, then_open, assign_open, short_open, yield_open, instance_of_open, OpenForms, State, expects, holds, past_items, past_value, past_exit, past_exit_paren, past_index, past_question, past_assign, past_class, past_static, past_yield, goes_on, start, item_step, ended_by, class_step, static_step, allowed_if, pick, advance, halt, halt_yield, halt_whole, is_last, missing_end, completed_all, closed_with, ended_items, after}
use Rattle.php_grammar.specs.expression.Depth.{depth, depth_at, depth_behind}
use Rattle.php_grammar.specs.expression.Laws.{head_continuation}
use Rattle.php_grammar.proofs.expression.Roles.{closer_symbol, MarkSays, item_says}
use Rattle.php_parse_operands.specs.Walk.{outcome_of, outcome, stepped, walk, Leads}
use Rattle.php_reader.specs.Seen.{test, head_mark}
use Rattle.php_parse_operands.specs.ListAnswer.{is_found}

-- ---- two states that do the same

pub alike : (n : ℕ) (m k : State) (t : Symbol) (w : List Symbol) → advance m t ≡ advance k t → depth_at m t ≡ depth_at k t → halt m (t ∷ w) ≡ halt k (t ∷ w)
    → walk n m (t ∷ w) ≡ walk n k (t ∷ w)
alike n m k t w on deep halts =
    ap (λ o. stepped o (nat_lt n (depth_at m t)) (λ x. walk n x w) (outcome (halt m (t ∷ w))) (t ∷ w)) on
    ∙ ap (λ d. stepped (advance k t) (nat_lt n d) (λ x. walk n x w) (outcome (halt m (t ∷ w))) (t ∷ w)) deep
    ∙ ap (λ r. stepped (advance k t) (nat_lt n (depth_at k t)) (λ x. walk n x w) (outcome r) (t ∷ w)) halts

exit_by : (n : ℕ) (s : OpenForms) (v : List Symbol) → test is_paren v ≡ false → walk n (past_exit s) v ≡ walk n (holds (exit tt) s) v
exit_by n s [] h = refl
exit_by n s (t ∷ w) h =
    alike n (past_exit s) (holds (exit tt) s) t w (ap (λ b. pick b (Some (past_exit_paren s)) (goes_on (exit tt) s (continuation t))) h) refl refl

pub exit_alone : {room least : ℕ} {v : List Symbol} → test is_paren v ≡ false → Leads room least (λ s. past_exit s) v (λ s. holds (exit tt) s) v
exit_alone {room} {least} {v} h = record { same = λ n s whole near is. exit_by n s v h }

exit_in : (n : ℕ) (s : OpenForms) (v : List Symbol) → test is_right_paren v ≡ false → walk n (past_exit_paren s) v ≡ walk n (expects (enclosed_open exiting ∷ s)) v
exit_in n s [] h = refl
exit_in n s (t ∷ w) h =
    alike n (past_exit_paren s) (expects (enclosed_open exiting ∷ s)) t w (ap (λ b. pick b (Some (holds (exit_empty tt) s)) (start (enclosed_open exiting ∷ s) t)) h) refl refl

pub exit_enters : {room least : ℕ} {v : List Symbol} → test is_right_paren v ≡ false → Leads room least (λ s. past_exit_paren s) v (λ s. expects (enclosed_open exiting ∷ s)) v
exit_enters {room} {least} {v} h = record { same = λ n s whole near is. exit_in n s v h }

index_in : (n : ℕ) (e : Form) (s : OpenForms) (v : List Symbol) → test is_right_bracket v ≡ false → walk n (past_index e s) v ≡ walk n (expects (index_open e ∷ s)) v
index_in n e s [] h = refl
index_in n e s (t ∷ w) h =
    alike n (past_index e s) (expects (index_open e ∷ s)) t w (ap (λ b. pick b (Some (holds (append e) s)) (start (index_open e ∷ s) t)) h) refl refl

pub index_enters : {room least : ℕ} {v : List Symbol} (e : Form) → test is_right_bracket v ≡ false → Leads room least (λ s. past_index e s) v (λ s. expects (index_open e ∷ s)) v
index_enters {room} {least} {v} e h = record { same = λ n s whole near is. index_in n e s v h }

question_in : (n : ℕ) (c : Form) (s : OpenForms) (v : List Symbol) → test is_colon v ≡ false → walk n (past_question c s) v ≡ walk n (expects (then_open c ∷ s)) v
question_in n c s [] h = refl
question_in n c s (t ∷ w) h =
    alike n (past_question c s) (expects (then_open c ∷ s)) t w (ap (λ b. pick b (Some (expects (short_open c ∷ s))) (start (then_open c ∷ s) t)) h)
    (ap (λ b. pick b (depth s) (1 + depth s)) h) refl

pub question_enters : {room least : ℕ} {v : List Symbol} (c : Form) → test is_colon v ≡ false → Leads room least (λ s. past_question c s) v (λ s. expects (then_open c ∷ s)) v
question_enters {room} {least} {v} c h = record { same = λ n s whole near is. question_in n c s v h }

assign_in : (n : ℕ) (l : Form) (s : OpenForms) (v : List Symbol) → test is_ampersand v ≡ false → walk n (past_assign l s) v ≡ walk n (expects (assign_open (by_value setting.Plain) l ∷ s)) v
assign_in n l s [] h = refl
assign_in n l s (t ∷ w) h =
    alike n (past_assign l s) (expects (assign_open (by_value setting.Plain) l ∷ s)) t w
    (ap (λ b. pick b (Some (expects (assign_open by_reference l ∷ s))) (start (assign_open (by_value setting.Plain) l ∷ s) t)) h) (ap (λ b. pick b (depth s) (1 + depth s)) h) refl

pub assign_enters : {room least : ℕ} {v : List Symbol} (l : Form) → test is_ampersand v ≡ false → Leads room least (λ s. past_assign l s) v (λ s. expects (assign_open (by_value setting.Plain) l ∷ s)) v
assign_enters {room} {least} {v} l h = record { same = λ n s whole near is. assign_in n l s v h }

value_in : (n : ℕ) (h : Holder) (items : Items (Unit {0})) (k : Form) (s : OpenForms) (v : List Symbol) → test is_ampersand v ≡ false → walk n (past_value h items k s) v ≡ walk n (expects (items_open h items (keyed k) ∷ s)) v
value_in n h items k s [] g = refl
value_in n h items k s (t ∷ w) g =
    alike n (past_value h items k s) (expects (items_open h items (keyed k) ∷ s)) t w
    (ap (λ b. pick b (Some (expects (items_open h items (keyed_reference k) ∷ s))) (start (items_open h items (keyed k) ∷ s) t)) g) refl refl

pub value_enters : {room least : ℕ} {v : List Symbol} (h : Holder) (items : Items (Unit {0})) (k : Form) → test is_ampersand v ≡ false
    → Leads room least (λ s. past_value h items k s) v (λ s. expects (items_open h items (keyed k) ∷ s)) v
value_enters {room} {least} {v} h items k g = record { same = λ n s whole near is. value_in n h items k s v g }

class_by : (x : Continuation) (class : Class (Unit {0})) (s : OpenForms) → x ≢ draws by_call → (is_found class ≡ true → x ≢ draws by_index) → (is_found class ≡ true → x ≢ draws (by_select thin)) → class_step class s x ≡ goes_on (new tt class) s x
class_by (draws by_call) class s a b c = absurd (a refl)
class_by (draws by_index) (class_found steps) s a b c = absurd (b refl refl)
class_by (draws (by_select thin)) (class_found steps) s a b c = absurd (c refl refl)
class_by x (class_name spot text) s a b c = refl
class_by x (class_static spot) s a b c = refl
class_by x (class_found steps) s a b c = refl

-- ---- an item that is no mark of a list

-- what the mark of a list needs, where no such mark is read
pub record NoMark (h : Holder) (items : Items (Unit {0})) (x : Mark) : Type 0 where
  pub no_reference : is_array h ≡ true → x ≢ refers
  pub no_spread : is_arguments h ≡ true → x ≢ spreads
  pub no_comma : is_array h ≡ true → x ≢ ends_item ender.Comma
  pub no_paren : has_paren h ≡ true → may_end h items ≡ true → x ≢ ends_item ender.Paren
  pub no_bracket : has_paren h ≡ false → may_end h items ≡ true → x ≢ ends_item ender.Bracket

marked_off : (b : Bool) (m : State) → (b ≡ true → ⊥) → allowed_if b m ≡ None
marked_off false m h = refl
marked_off true m h = absurd (h refl)

picked_off : (b c : Bool) (m : State) → (b ≡ true → c ≡ true → ⊥) → pick b (allowed_if c m) None ≡ None
picked_off false c m h = refl
picked_off true false m h = refl
picked_off true true m h = absurd (h refl refl)

dropped_off : (b c : Bool) (m : State) → (b ≡ false → c ≡ true → ⊥) → pick b None (allowed_if c m) ≡ None
dropped_off true c m h = refl
dropped_off false false m h = refl
dropped_off false true m h = absurd (h refl refl)

ends_off : (c : Closer) (h : Holder) (items : Items (Unit {0})) (s : OpenForms) → NoMark h items (ends_item c) → ended_by c h items s ≡ None
ends_off ender.Comma h items s g = marked_off (is_array h) (past_items h (skip items) s) (λ a. g.no_comma a refl)
ends_off ender.Paren h items s g = picked_off (has_paren h) (may_end h items) (after (closed_with h (ended_items items)) s) (λ a b. g.no_paren a b refl)
ends_off ender.Bracket h items s g = dropped_off (has_paren h) (may_end h items) (after (closed_with h (ended_items items)) s) (λ a b. g.no_bracket a b refl)
ends_off _ h items s g = refl

closer_starts : (c : Closer) (s : OpenForms) → start s (closer_symbol c) ≡ None
closer_starts ender.Paren s = refl
closer_starts _ s = refl

items_by : (x : Mark) (t : Symbol) (h : Holder) (items : Items (Unit {0})) (s : OpenForms) → MarkSays x t → NoMark h items x → item_step x h items s t ≡ start (items_open h items plain ∷ s) t
items_by refers t h items s says g = marked_off (is_array h) (expects (items_open h items reference ∷ s)) (λ a. g.no_reference a refl) ∙ ap (start (items_open h items plain ∷ s)) (sym says)
items_by spreads t h items s says g = marked_off (is_arguments h) (expects (items_open h items spread ∷ s)) (λ a. g.no_spread a refl) ∙ ap (start (items_open h items plain ∷ s)) (sym says)
items_by (ends_item c) t h items s says g =
    ends_off c h items s g ∙ sym (closer_starts c (items_open h items plain ∷ s)) ∙ ap (start (items_open h items plain ∷ s)) (sym says)
items_by begins t h items s says g = refl

items_in : (n : ℕ) (h : Holder) (items : Items (Unit {0})) (s : OpenForms) (v : List Symbol) → NoMark h items (head_mark v) → walk n (past_items h items s) v ≡ walk n (expects (items_open h items plain ∷ s)) v
items_in n h items s [] g = refl
items_in n h items s (t ∷ w) g =
    alike n (past_items h items s) (expects (items_open h items plain ∷ s)) t w (items_by (item_mark t) t h items s (item_says t) g) refl refl

pub items_enter : {room least : ℕ} {v : List Symbol} (h : Holder) (items : Items (Unit {0})) → NoMark h items (head_mark v)
    → Leads room least (λ s. past_items h items s) v (λ s. expects (items_open h items plain ∷ s)) v
items_enter {room} {least} {v} h items g = record { same = λ n s whole near is. items_in n h items s v g }

-- ---- a class that is over, `static` alone, and a `yield` alone

class_in : (n : ℕ) (class : Class (Unit {0})) (s : OpenForms) (v : List Symbol) → head_continuation v ≢ draws by_call → (is_found class ≡ true → head_continuation v ≢ draws by_index) → (is_found class ≡ true → head_continuation v ≢ draws (by_select thin))
    → walk n (past_class class s) v ≡ walk n (holds (new tt class) s) v
class_in n class s [] a b c = refl
class_in n class s (t ∷ w) a b c = alike n (past_class class s) (holds (new tt class) s) t w (class_by (continuation t) class s a b c) refl refl

pub class_ends : {room least : ℕ} {v : List Symbol} (class : Class (Unit {0})) → head_continuation v ≢ draws by_call → (is_found class ≡ true → head_continuation v ≢ draws by_index) → (is_found class ≡ true → head_continuation v ≢ draws (by_select thin))
    → Leads room least (λ s. past_class class s) v (λ s. holds (new tt class) s) v
class_ends {room} {least} {v} class a b c = record { same = λ n s whole near is. class_in n class s v a b c }

static_by : (x : Continuation) (l : Form) (s : OpenForms) → x ≢ draws (by_select colons) → static_step (instance_of_open l ∷ s) x ≡ goes_on (instance_of_static l tt) s x
static_by (draws (by_select colons)) l s h = absurd (h refl)
static_by _ l s h = refl

static_in : (n : ℕ) (l : Form) (s : OpenForms) (v : List Symbol) → head_continuation v ≢ draws (by_select colons) → walk n (past_static (instance_of_open l ∷ s)) v ≡ walk n (holds (instance_of_static l tt) s) v
static_in n l s [] h = refl
static_in n l s (t ∷ w) h = alike n (past_static (instance_of_open l ∷ s)) (holds (instance_of_static l tt) s) t w (static_by (continuation t) l s h) refl refl

pub static_ends : {room least : ℕ} {v : List Symbol} (l : Form) → head_continuation v ≢ draws (by_select colons)
    → Leads room least (λ s. past_static (instance_of_open l ∷ s)) v (λ s. holds (instance_of_static l tt) s) v
static_ends {room} {least} {v} l h = record { same = λ n s whole near is. static_in n l s v h }

last_false : (t : Symbol) (w v : List Symbol) → ends_yield (continuation t) ≡ false → is_last (t ∷ w) v ≡ false
last_false t w [] h = h
last_false t w (x ∷ v) h = refl

yield_in : (n : ℕ) (s : OpenForms) (v : List Symbol) → ends_yield (head_continuation v) ≡ false → walk n (past_yield s) v ≡ walk n (expects (yield_open ∷ s)) v
yield_in n s [] h = refl
yield_in n s (t ∷ w) h =
    alike n (past_yield s) (expects (yield_open ∷ s)) t w
    (ap (λ b. pick b (goes_on (yield_nothing tt) s (continuation t)) (start (yield_open ∷ s) t)) h)
    (ap (λ b. pick b (depth_behind s (continuation t)) (1 + depth s)) h)
    (ap (λ b. halt_yield b s (t ∷ w)) (last_false t w (missing_end s) h))

pub yield_enters : {room least : ℕ} {v : List Symbol} → ends_yield (head_continuation v) ≡ false → Leads room least (λ s. past_yield s) v (λ s. expects (yield_open ∷ s)) v
yield_enters {room} {least} {v} h = record { same = λ n s whole near is. yield_in n s v h }

-- where a `yield` stands alone and something is missing, both ways to halt say so
lacking : (s : OpenForms) (m : List Symbol) (t : Symbol) (w : List Symbol) → ends_yield (continuation t) ≡ true → m ≡ missing_end s
    → outcome (halt_yield (is_last (t ∷ w) m) s (t ∷ w)) ≡ outcome (halt_whole (yield_nothing tt) s (t ∷ w))
lacking s [] t w h is = ap (λ b. outcome (halt_yield b s (t ∷ w))) h
lacking s (x ∷ m) t w h is = ap (λ l. outcome_of l (completed_all s (yield_nothing tt)) (t ∷ w)) is

yield_by : (n : ℕ) (s : OpenForms) (v : List Symbol) → ends_yield (head_continuation v) ≡ true → walk n (past_yield s) v ≡ walk n (holds (yield_nothing tt) s) v
yield_by n s [] h = cc
yield_by n s (t ∷ w) h =
    ap (λ b. stepped (pick b (goes_on (yield_nothing tt) s (continuation t)) (start (yield_open ∷ s) t)) (nat_lt n (pick b (depth_behind s (continuation t)) (1 + depth s))) (λ x. walk n x w) (outcome (halt (past_yield s) (t ∷ w))) (t ∷ w)) h
    ∙ ap (λ o. stepped (goes_on (yield_nothing tt) s (continuation t)) (nat_lt n (depth_behind s (continuation t))) (λ x. walk n x w) o (t ∷ w)) (lacking s (missing_end s) t w h refl)

pub yield_alone : {room least : ℕ} {v : List Symbol} → ends_yield (head_continuation v) ≡ true → Leads room least (λ s. past_yield s) v (λ s. holds (yield_nothing tt) s) v
yield_alone {room} {least} {v} h = record { same = λ n s whole near is. yield_by n s v h }
