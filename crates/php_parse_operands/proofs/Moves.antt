-- How the machine moves, where nesting is limited.
use Rattle.std.proofs.Common.{◌≡◌, ◌≤◌, ◌<◌, ◌⊎◌, inl, inr, ℕ, suc, ◌+◌, Bool, true, false, Some, None, List, [], ◌∷◌, refl, sym, ◌∙◌, ap, arith, ltb-true, ltb-false}
use Rattle.std.specs.Prelude.{nat_lt}
use Rattle.std.proofs.lemmas.Bool.{lt-ltb, le-ltb}
use Rattle.php_reader.specs.declared.limit.TheConstants.{LEAST_POWER}
use Rattle.php_ast.specs.Symbol.{Symbol}
use Rattle.php_ast.specs.declared.operator.Binary.{Binary}
use Rattle.php_ast.specs.declared.operator.Binary.TheVariants as binary
use Rattle.php_ast.specs.Power.{binary_row}
use Rattle.php_ast.specs.expression.Proper.{operand_level, ends, right, free, top}
use Rattle.php_grammar.specs.declared.closer.Closer.{Closer}
use Rattle.php_grammar.specs.declared.closer.Closer.TheVariants as ender
use Rattle.php_grammar.specs.expression.Role as role
use Rattle.php_grammar.specs.expression.Role.{Draw, draw_strength, Continuation, draws, closes, neither, continuation, strength_of, is_arrow}
use Rattle.php_grammar.specs.expression.Machine.{Form, OpenForm, enclosed_open, items_open, index_open, computed_open, step_open, part_open, then_open, else_open, short_open, prefix_open, binary_open, instance_of_open, assign_open, yield_open, yield_value_open, OpenForms, State, expects, holds, least_power_at, least_power, ends_at, completed, seated, seat_end, completed_all, missing_end, closing_part, after_by, after, holds_call, pick, allowed_if, released, opened_by, closed, continued, goes_on, advance, halt}
use Rattle.php_grammar.specs.expression.Depth.{deepened, depth, kept, depth_behind, depth_at}
use Rattle.php_grammar.specs.expression.Laws.{head_continuation}
use Rattle.php_ast.specs.expression.Tree.{instance_of}
use Rattle.php_ast.specs.expression.Proper.{is_call}
use Rattle.php_grammar.proofs.expression.Fill.{without_end, without_end_call, least_power_most}
use Rattle.php_grammar.proofs.expression.Steps.{after_low, goes_on_draws}
use Rattle.php_grammar.proofs.expression.Settle.{releases_none, kept_power, ends_top}
use Rattle.php_parse_operands.specs.Walk.{short, outcome_of, outcome, stepped, walk, IsOrderly, Leads, Halts, stopped, head_strength, Rests}

-- ---- one symbol

pub moves : (n : ℕ) (m to : State) (t : Symbol) (w : List Symbol) → advance m t ≡ Some to → depth_at m t ≤ n → walk n m (t ∷ w) ≡ walk n to w
moves n m to t w is shallow =
    ap (λ o. stepped o (nat_lt n (depth_at m t)) (λ x. walk n x w) (outcome (halt m (t ∷ w))) (t ∷ w)) is
    ∙ ap (λ b. stepped (Some to) b (λ x. walk n x w) (outcome (halt m (t ∷ w))) (t ∷ w)) (le-ltb n (depth_at m t) shallow)

pub sinks : (n : ℕ) (m to : State) (t : Symbol) (w : List Symbol) → advance m t ≡ Some to → n < depth_at m t → walk n m (t ∷ w) ≡ stopped true (t ∷ w)
sinks n m to t w is deep =
    ap (λ o. stepped o (nat_lt n (depth_at m t)) (λ x. walk n x w) (outcome (halt m (t ∷ w))) (t ∷ w)) is
    ∙ ap (λ b. stepped (Some to) b (λ x. walk n x w) (outcome (halt m (t ∷ w))) (t ∷ w)) (lt-ltb n (depth_at m t) deep)

pub sticks : (n : ℕ) (m : State) (t : Symbol) (w : List Symbol) → advance m t ≡ None → walk n m (t ∷ w) ≡ outcome (halt m (t ∷ w))
sticks n m t w is = ap (λ o. stepped o (nat_lt n (depth_at m t)) (λ x. walk n x w) (outcome (halt m (t ∷ w))) (t ∷ w)) is

-- ---- chains

pub leads : {room least : ℕ} {from to : OpenForms → State} {w v u : List Symbol} (mid : OpenForms → State)
    → Leads room least from w mid v → Leads room least mid v to u → Leads room least from w to u
leads mid a b = record { same = λ n s whole near is. a.same n s whole near is ∙ b.same n s whole near is }

pub leads_halts : {too_deep : Bool} {room least : ℕ} {from : OpenForms → State} {w v u : List Symbol} (mid : OpenForms → State)
    → Leads room least from w mid v → Halts too_deep room least mid v u → Halts too_deep room least from w u
leads_halts mid a b = record { same = λ n s whole near is. a.same n s whole near is ∙ b.same n s whole near is }

pub move : {room least : ℕ} {from to : OpenForms → State} {x w : List Symbol} (t : Symbol) → x ≡ t ∷ w
    → ((s : OpenForms) → least_power s ≤ least → advance (from s) t ≡ Some (to s))
    → ((n : ℕ) (s : OpenForms) → least_power s ≤ least → depth s + room ≡ suc n → depth_at (from s) t ≤ n)
    → Leads room least from x to w
move {room} {least} {from} {to} {x} {w} t is on shallow =
    record { same = λ n s whole near at. ap (walk n (from s)) is ∙ moves n (from s) (to s) t w (on s near) (shallow n s near at) }

-- one that is nested too deep
pub sink : {room least : ℕ} {from to : OpenForms → State} {x w : List Symbol} (t : Symbol) → x ≡ t ∷ w
    → ((s : OpenForms) → least_power s ≤ least → advance (from s) t ≡ Some (to s))
    → ((n : ℕ) (s : OpenForms) → least_power s ≤ least → depth s + room ≡ suc n → n < depth_at (from s) t)
    → Halts true room least from x x
sink {room} {least} {from} {to} {x} {w} t is on deep = record {
  same = λ n s whole near at. ap (walk n (from s)) is ∙ sinks n (from s) (to s) t w (on s near) (deep n s near at) ∙ ap (λ z. stopped true z) (sym is);
}

seated_in : {least : ℕ} (f : OpenForm) (s : OpenForms) → (least_power_at f ≡ 0) ⊎ (least ≤ free) → least_power s ≤ least → (least_power_at f ≡ 0) ⊎ (least_power s ≤ free)
seated_in f s (inl h) near = inl h
seated_in f s (inr h) near = inr (omega arith)

-- what is read inside an open form
pub inside : {room least : ℕ} {e : Form} {w v : List Symbol} (within inner_least : ℕ) (f : OpenForm) → (least_power_at f ≡ 0) ⊎ (least ≤ free) → least_power_at f ≤ inner_least
    → ((d : ℕ) → deepened f d + within ≡ d + room)
    → Leads within inner_least (λ s. expects s) w (λ s. holds e s) v → Leads room least (λ s. expects (f ∷ s)) w (λ s. holds e (f ∷ s)) v
inside within inner_least f seat low deeper r =
    record { same = λ n s whole near is. r.same n (f ∷ s) (seated_in f s seat near, whole) low (omega (arith, deeper (depth s), is)) }

pub inside_halts : {too_deep : Bool} {room least : ℕ} {w v : List Symbol} (within inner_least : ℕ) (f : OpenForm) → (least_power_at f ≡ 0) ⊎ (least ≤ free) → least_power_at f ≤ inner_least
    → ((d : ℕ) → deepened f d + within ≡ d + room)
    → Halts too_deep within inner_least (λ s. expects s) w v → Halts too_deep room least (λ s. expects (f ∷ s)) w v
inside_halts within inner_least f seat low deeper r =
    record { same = λ n s whole near is. r.same n (f ∷ s) (seated_in f s seat near, whole) low (omega (arith, deeper (depth s), is)) }

-- ---- forms with an end of their own

pub closing_short : (f : OpenForm) (w u : List Symbol) (e : Form) → least_power_at f ≡ 0 → outcome_of (closing_part f w) e u ≡ short u
closing_short (enclosed_open enclosure) w u e h = refl
closing_short (items_open holder items lead) w u e h = refl
closing_short (index_open a) w u e h = refl
closing_short (computed_open a) w u e h = refl
closing_short (step_open steps) w u e h = refl
closing_short (part_open pieces) w u e h = refl
closing_short (then_open c) w u e h = refl
closing_short (else_open c a) w u e h = absurd (omega arith)
closing_short (short_open c) w u e h = absurd (omega arith)
closing_short (prefix_open op) w u e h = absurd (omega arith)
closing_short (binary_open op l) w u e h = absurd (binary_some op h)
  where
    binary_some : (op : Binary) → right (binary_row op) ≡ 0 → ⊥
    binary_some binary.Power h = omega arith
    binary_some _ h = omega arith
closing_short (instance_of_open l) w u e h = absurd (omega arith)
closing_short (assign_open how l) w u e h = absurd (omega arith)
closing_short yield_open w u e h = absurd (omega arith)
closing_short (yield_value_open k) w u e h = absurd (omega arith)

pub ends_none : (arrow : Bool) (f : OpenForm) → least_power_at f ≡ 0 → ends_at arrow f ≡ 0
ends_none false f h = h
ends_none true yield_open h = refl
ends_none true _ h = h

pub draws_some : (d : Draw) → 2 ≤ draw_strength d
draws_some (role.by_binary op) = binary_power op
  where
    binary_power : (op : Binary) → 2 ≤ (binary_row op).power
    binary_power binary.Power = omega arith
    binary_power _ = omega arith
draws_some _ = omega arith

-- an expression that goes no further, in a form that no symbol here closes
sticks_by : (x : Continuation) (e : Form) (f : OpenForm) (s : OpenForms) → least_power_at f ≡ 0 → (strength_of x < LEAST_POWER) ⊎ (ends e ≤ strength_of x)
    → ((c : Closer) → x ≡ closes c → closed c e f s ≡ None) → goes_on e (f ∷ s) x ≡ None
sticks_by (draws d) e f s own (inl h) shut = absurd (omega (arith, draws_some d))
sticks_by (draws d) e f s own (inr h) shut =
    ap (continued (draws d)) (releases_none false (draw_strength d) (f ∷ s) e (omega arith))
    ∙ ap (λ b. allowed_if b (opened_by d e (f ∷ s))) (le-ltb (draw_strength d) (ends e) h)
sticks_by (closes c) e f s own h shut =
    ap (continued (closes c)) (releases_none (is_arrow (closes c)) 0 (f ∷ s) e (omega (arith, ends_none (is_arrow (closes c)) f own)))
    ∙ shut c refl
sticks_by neither e f s own h shut = refl

pub unclosed : (n : ℕ) (e : Form) (f : OpenForm) (s : OpenForms) (v : List Symbol) → least_power_at f ≡ 0 → Rests LEAST_POWER (ends e) v
    → ((c : Closer) → head_continuation v ≡ closes c → closed c e f s ≡ None) → walk n (holds e (f ∷ s)) v ≡ short v
unclosed n e f s [] own h shut = closing_short f _ [] _ own
unclosed n e f s (t ∷ v) own h shut =
    sticks n (holds e (f ∷ s)) t v (sticks_by (continuation t) e f s own h shut) ∙ closing_short f _ (t ∷ v) _ own

pub unclosed_halts : {room least : ℕ} (e : Form) (f : OpenForm) (v : List Symbol) → least_power_at f ≡ 0 → Rests LEAST_POWER (ends e) v
    → ((c : Closer) (s : OpenForms) → head_continuation v ≡ closes c → closed c e f s ≡ None)
    → Halts false room least (λ s. holds e (f ∷ s)) v v
unclosed_halts e f v own h shut = record { same = λ n s whole near is. unclosed n e f s v own h (λ c. shut c s) }

closes_by : (x : Continuation) (c : Closer) (e : Form) (f : OpenForm) (s : OpenForms) (m : State) → x ≡ closes c → least_power_at f ≡ 0 → closed c e f s ≡ Some m
    → goes_on e (f ∷ s) x ≡ Some m
closes_by x c e f s m is own to =
    ap (goes_on e (f ∷ s)) is
    ∙ ap (continued (closes c)) (releases_none (is_arrow (closes c)) 0 (f ∷ s) e (omega (arith, ends_none (is_arrow (closes c)) f own)))
    ∙ to

pub kept_all : (arrow : Bool) (n : ℕ) (s : OpenForms) → ends_top arrow s ≤ n → kept arrow n s ≡ s
kept_all arrow n [] h = refl
kept_all arrow n (f ∷ s) h = ap (λ b. pick b (kept arrow n s) (f ∷ s)) (le-ltb n (ends_at arrow f) h)

-- the token that closes a form
pub close : {room least : ℕ} {x v : List Symbol} (t : Symbol) (c : Closer) (e : Form) (f : OpenForm) (to : OpenForms → State) → x ≡ t ∷ v → continuation t ≡ closes c
    → least_power_at f ≡ 0 → ((s : OpenForms) → closed c e f s ≡ Some (to s)) → ((d : ℕ) → deepened f d ≤ 1 + d) → 2 ≤ room
    → Leads room least (λ s. holds e (f ∷ s)) x to v
close {room} {least} {x} {v} t c e f to is closing own on deeper deep =
    move t is (λ s near. closes_by (continuation t) c e f s (to s) closing own (on s))
    (λ n s near at. let same : depth_behind (f ∷ s) (continuation t) ≡ deepened f (depth s) =
    ap (depth_behind (f ∷ s)) closing ∙ ap depth (kept_all (is_arrow (closes c)) 0 (f ∷ s) (omega (arith, ends_none (is_arrow (closes c)) f own))) in
    omega (arith, deeper (depth s)))

-- ---- forms without an end of their own

halt_completed : (f : OpenForm) (s : OpenForms) (e : Form) (w : List Symbol) → 0 < least_power_at f → halt (holds e (f ∷ s)) w ≡ halt (holds (completed f e) s) w
halt_completed f s e w h =
    ap (λ b. record { tree = completed_all s (seated b s (completed f e)); missing = closing_part f (seat_end b s (missing_end s)); unread = w }) (without_end_call f h)
    ∙ ap (λ v. record { tree = completed_all s (completed f e); missing = v; unread = w }) (without_end f (missing_end s) h)

pub completed_ends : (f : OpenForm) (e : Form) → 0 < least_power_at f → least_power_at f ≤ free → ends (completed f e) ≤ ends e
completed_ends (enclosed_open enclosure) e h low = absurd (omega arith)
completed_ends (items_open holder items lead) e h low = absurd (omega arith)
completed_ends (index_open a) e h low = absurd (omega arith)
completed_ends (computed_open a) e h low = absurd (omega arith)
completed_ends (step_open steps) e h low = absurd (omega arith)
completed_ends (part_open pieces) e h low = absurd (omega arith)
completed_ends (then_open c) e h low = absurd (omega arith)
completed_ends (instance_of_open l) e h low = absurd (omega arith)
completed_ends _ e h low = omega arith

ends_least : (arrow : Bool) (f : OpenForm) → ends_at arrow f ≤ least_power_at f
ends_least false f = omega arith
ends_least true yield_open = omega arith
ends_least true _ = omega arith

released_if : (b : Bool) (arrow : Bool) (n : ℕ) (f : OpenForm) (s : OpenForms) (e : Form) → nat_lt n (ends_at arrow f) ≡ b → least_power_at f ≤ free → (least_power_at f ≡ 0) ⊎ (least_power s ≤ free)
    → (least_power s ≤ free → ends (released arrow n s (completed f e)).tree ≤ ends (completed f e))
    → ends (pick b (released arrow n s (completed f e)) (record { tree = e; stack = f ∷ s })).tree ≤ ends e
released_if false arrow n f s e is low seat below = omega arith
released_if true arrow n f s e is low (inl h) below =
    absurd (omega (arith, ltb-true n (ends_at arrow f) is, ends_least arrow f))
released_if true arrow n f s e is low (inr h) below =
    omega (arith, below h, completed_ends f e (omega (arith, ltb-true n (ends_at arrow f) is, ends_least arrow f)) low)

-- what a symbol releases is open to no more than before
released_ends : (arrow : Bool) (n : ℕ) (s : OpenForms) (e : Form) → IsOrderly s → least_power s ≤ free → ends (released arrow n s e).tree ≤ ends e
released_ends arrow n [] e whole low = omega arith
released_ends arrow n (f ∷ s) e whole low =
    released_if (nat_lt n (ends_at arrow f)) arrow n f s e refl low whole.0 (released_ends arrow n s (completed f e) whole.1)

released_step : (f : OpenForm) (s : OpenForms) (e : Form) (x : Continuation) → strength_of x < ends_at (is_arrow x) f → goes_on e (f ∷ s) x ≡ goes_on (completed f e) s x
released_step f s e x h =
    ap (λ b. continued x (pick b (released (is_arrow x) (strength_of x) s (completed f e)) (record { tree = e; stack = f ∷ s }))) (lt-ltb (strength_of x) (ends_at (is_arrow x) f) h)

depth_step : (f : OpenForm) (s : OpenForms) (x : Continuation) → strength_of x < ends_at (is_arrow x) f → depth_behind (f ∷ s) x ≡ depth_behind s x
depth_step f s x h = ap (λ b. depth (pick b (kept (is_arrow x) (strength_of x) s) (f ∷ s))) (lt-ltb (strength_of x) (ends_at (is_arrow x) f) h)

draw_sticks : (d : Draw) (s : OpenForms) (e : Form) → IsOrderly s → least_power s ≤ free → ends e ≤ draw_strength d → goes_on e s (draws d) ≡ None
draw_sticks d s e whole low h =
    let r = released false (draw_strength d) s e in
    let fewer : ends r.tree ≤ ends e = released_ends false (draw_strength d) s e whole low in
    ap (λ b. allowed_if b (opened_by d r.tree r.stack)) (le-ltb (draw_strength d) (ends r.tree) (omega arith))

held_sticks : (d : Draw) (f : OpenForm) (s : OpenForms) (e : Form) → least_power_at f ≤ draw_strength d → ends e ≤ draw_strength d → goes_on e (f ∷ s) (draws d) ≡ None
held_sticks d f s e near h =
    ap (continued (draws d)) (releases_none false (draw_strength d) (f ∷ s) e near)
    ∙ ap (λ b. allowed_if b (opened_by d e (f ∷ s))) (le-ltb (draw_strength d) (ends e) h)

-- the first symbol ends the form, or can go on neither inside nor behind it
pub record Completes (f : OpenForm) (e : Form) (v : List Symbol) : Type 0 where
  pub some : 0 < least_power_at f
  pub arrow : is_arrow (head_continuation v) ≡ true → ends_at true f ≡ least_power_at f
  pub inner : least_power_at f ≤ head_strength v → ends e ≤ head_strength v
  pub outer : least_power_at f ≤ head_strength v → ends (completed f e) ≤ head_strength v

arrow_ends : (x : Continuation) (f : OpenForm) → (is_arrow x ≡ true → ends_at true f ≡ least_power_at f) → ends_at (is_arrow x) f ≡ least_power_at f
arrow_ends (closes ender.DoubleArrow) f h = h refl
arrow_ends (closes _) f h = refl
arrow_ends (draws d) f h = refl
arrow_ends neither f h = refl

both_stick : (x : Continuation) (f : OpenForm) (s : OpenForms) (e : Form) → IsOrderly s → least_power s ≤ free → 0 < least_power_at f → least_power_at f ≤ strength_of x → ends e ≤ strength_of x → ends (completed f e) ≤ strength_of x
    → (goes_on e (f ∷ s) x ≡ None) × (goes_on (completed f e) s x ≡ None)
both_stick (draws d) f s e whole low some near a b = (held_sticks d f s e near a, draw_sticks d s (completed f e) whole low b)
both_stick (closes c) f s e whole low some near a b = absurd (omega arith)
both_stick neither f s e whole low some near a b = absurd (omega arith)

completes_if : (b : Bool) (n : ℕ) (f : OpenForm) (s : OpenForms) (e : Form) (t : Symbol) (w : List Symbol) → nat_lt (strength_of (continuation t)) (least_power_at f) ≡ b → IsOrderly s → least_power s ≤ free → Completes f e (t ∷ w)
    → walk n (holds e (f ∷ s)) (t ∷ w) ≡ walk n (holds (completed f e) s) (t ∷ w)
completes_if true n f s e t w is whole low c =
    let x = continuation t in
    let less : strength_of (continuation t) < ends_at (is_arrow (continuation t)) f = omega (arith, arrow_ends (continuation t) f c.arrow, ltb-true (strength_of (continuation t)) (least_power_at f) is) in
    ap (λ o. stepped o (nat_lt n (depth_behind (f ∷ s) (continuation t))) (λ y. walk n y w) (outcome (halt (holds e (f ∷ s)) (t ∷ w))) (t ∷ w)) (released_step f s e (continuation t) less)
    ∙ ap (λ d. stepped (goes_on (completed f e) s (continuation t)) (nat_lt n d) (λ y. walk n y w) (outcome (halt (holds e (f ∷ s)) (t ∷ w))) (t ∷ w)) (depth_step f s (continuation t) less)
    ∙ ap (λ r. stepped (goes_on (completed f e) s (continuation t)) (nat_lt n (depth_behind s (continuation t))) (λ y. walk n y w) (outcome r) (t ∷ w)) (halt_completed f s e (t ∷ w) c.some)
completes_if false n f s e t w is whole low c =
    let near : least_power_at f ≤ strength_of (continuation t) = omega (arith, ltb-false (strength_of (continuation t)) (least_power_at f) is) in
    let p = both_stick (continuation t) f s e whole low c.some near (c.inner near) (c.outer near) in
    sticks n (holds e (f ∷ s)) t w p.0 ∙ ap outcome (halt_completed f s e (t ∷ w) c.some) ∙ sym (sticks n (holds (completed f e) s) t w p.1)

completes : (n : ℕ) (f : OpenForm) (s : OpenForms) (e : Form) (v : List Symbol) → IsOrderly s → least_power s ≤ free → Completes f e v → walk n (holds e (f ∷ s)) v ≡ walk n (holds (completed f e) s) v
completes n f s e [] whole low c = ap outcome (halt_completed f s e [] c.some)
completes n f s e (t ∷ w) whole low c = completes_if (nat_lt (strength_of (continuation t)) (least_power_at f)) n f s e t w refl whole low c

rests_on : (least edge n : ℕ) → (n < least) ⊎ (edge ≤ n) → least ≤ n → edge ≤ n
rests_on least edge n (inl h) g = absurd (omega arith)
rests_on least edge n (inr h) g = h

-- an operator and what is in it
pub finish : {room least : ℕ} (f : OpenForm) (e : Form) (v : List Symbol) → least ≤ free → 0 < least_power_at f → least_power_at f ≤ free → (is_arrow (head_continuation v) ≡ true → ends_at true f ≡ least_power_at f)
    → Rests (least_power_at f) (ends e) v → Leads room least (λ s. holds e (f ∷ s)) v (λ s. holds (completed f e) s) v
finish f e v low some most arrow rests = record {
  same = λ n s whole near is. completes n f s e v whole (omega arith) (record {
    some = some;
    arrow = arrow;
    inner = rests_on (least_power_at f) (ends e) (head_strength v) rests;
    outer = λ g. omega (arith, rests_on (least_power_at f) (ends e) (head_strength v) rests g, completed_ends f e some most);
  });
}

-- an operand behind `instanceof`
pub finish_instance : {room least : ℕ} (l e : Form) (v : List Symbol) → least ≤ free → Rests operand_level (ends e) v → Leads room least (λ s. holds e (instance_of_open l ∷ s)) v (λ s. holds (instance_of l e) s) v
finish_instance l e v low rests = record {
  same = λ n s whole near is. completes n (instance_of_open l) s e v whole (omega arith) (record {
    some = omega arith;
    arrow = λ g. refl;
    inner = rests_on operand_level (ends e) (head_strength v) rests;
    outer = λ g. omega arith;
  });
}

-- ---- symbols that draw

pub weaken : {room least higher : ℕ} {from to : OpenForms → State} {w v : List Symbol} → least ≤ higher → Leads room higher from w to v → Leads room least from w to v
weaken h r = record { same = λ n s whole near is. r.same n s whole (omega arith) is }

pub weaken_halts : {too_deep : Bool} {room least higher : ℕ} {from : OpenForms → State} {w v : List Symbol} → least ≤ higher → Halts too_deep room higher from w v → Halts too_deep room least from w v
weaken_halts h r = record { same = λ n s whole near is. r.same n s whole (omega arith) is }

pub behind_draw : (d : Draw) (s : OpenForms) (x : Continuation) → x ≡ draws d → least_power s ≤ draw_strength d → depth_behind s x ≡ depth s
behind_draw d s x is near = ap (depth_behind s) is ∙ ap depth (kept_all false (draw_strength d) s (omega (arith, kept_power s)))

goes_draw : (d : Draw) (e : Form) (s : OpenForms) (x : Continuation) → x ≡ draws d → least_power s ≤ draw_strength d → draw_strength d < ends e → goes_on e s x ≡ Some (opened_by d e s)
goes_draw d e s x is near low = ap (goes_on e s) is ∙ goes_on_draws d e s near low

-- an operator
pub draw : {room least : ℕ} {x w : List Symbol} (t : Symbol) (d : Draw) (e : Form) → x ≡ t ∷ w → continuation t ≡ draws d → least ≤ draw_strength d → draw_strength d < ends e → 1 ≤ room
    → Leads room least (λ s. holds e s) x (λ s. opened_by d e s) w
draw t d e is drawing near low deep =
    move t is (λ s g. goes_draw d e s (continuation t) drawing (omega arith) low) (λ n s g at. omega (arith, behind_draw d s (continuation t) drawing (omega arith)))

after_goes : (b : Bool) (d : Draw) (e : Form) (s : OpenForms) (t : Symbol) → continuation t ≡ draws d → operand_level < draw_strength d → draw_strength d < ends e
    → (advance (after_by b e s) t ≡ Some (opened_by d e s)) × (depth_at (after_by b e s) t ≡ depth s)
after_goes false d e s t is tight low =
    (goes_draw d e s (continuation t) is (omega (arith, least_power_most s)) low, behind_draw d s (continuation t) is (omega (arith, least_power_most s)))
after_goes true d e [] t is tight low = (goes_draw d e [] (continuation t) is (omega arith) low, behind_draw d [] (continuation t) is (omega arith))
after_goes true d e (instance_of_open l ∷ s) t is tight low = (
  ap (λ x. pick (nat_lt operand_level (strength_of x)) (goes_on e (instance_of_open l ∷ s) x) None) is
      ∙ ap (λ b. pick b (goes_on e (instance_of_open l ∷ s) (draws d)) None) (lt-ltb operand_level (draw_strength d) tight)
      ∙ goes_on_draws d e (instance_of_open l ∷ s) (omega arith) low,
  refl,
)
after_goes true d e (f ∷ s) t is tight low =
    (goes_draw d e (f ∷ s) (continuation t) is (omega (arith, least_power_most (f ∷ s))) low, behind_draw d (f ∷ s) (continuation t) is (omega (arith, least_power_most (f ∷ s))))

-- the first symbol of a suffix
pub suffix : {room : ℕ} {x w : List Symbol} (t : Symbol) (d : Draw) (e : Form) → x ≡ t ∷ w → continuation t ≡ draws d → operand_level < draw_strength d → draw_strength d < ends e → 1 ≤ room
    → Leads room top (λ s. after e s) x (λ s. opened_by d e s) w
suffix t d e is drawing tight low deep =
    move t is (λ s g. (after_goes (is_call e) d e s t drawing tight low).0) (λ n s g at. omega (arith, (after_goes (is_call e) d e s t drawing tight low).1))

-- an operand where operators may stand
pub settle : {room least : ℕ} (e : Form) (v : List Symbol) → least ≤ free → Leads room least (λ s. after e s) v (λ s. holds e s) v
settle e v low = record { same = λ n s whole near is. ap (λ m. walk n m v) (after_low e s (omega arith)) }

call_sticks : (n : ℕ) (e : Form) (s : OpenForms) (l : Form) (v : List Symbol) → is_call e ≡ true → head_strength v < suc operand_level → walk n (after e (instance_of_open l ∷ s)) v ≡ short v
call_sticks n e s l v is low = ap (λ b. walk n (after_by b e (instance_of_open l ∷ s)) v) is ∙ held n e (instance_of_open l ∷ s) v low
  where
    held : (n : ℕ) (e : Form) (s : OpenForms) (v : List Symbol) → head_strength v < suc operand_level → walk n (holds_call e s) v ≡ short v
    held n e s [] low = refl
    held n e s (t ∷ w) low = sticks n (holds_call e s) t w (ap (λ b. pick b (goes_on e s (continuation t)) None) (le-ltb operand_level (strength_of (continuation t)) (omega arith)))

-- a call behind `instanceof`
pub call_halts : {room least : ℕ} (l e : Form) (v : List Symbol) → is_call e ≡ true → head_strength v < suc operand_level → Halts false room least (λ s. after e (instance_of_open l ∷ s)) v v
call_halts l e v is low = record { same = λ n s whole near at. call_sticks n e s l v is low }
