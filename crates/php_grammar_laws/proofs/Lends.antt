-- A machine that lends its symbols to another one.
use Rattle.std.proofs.Common.{◌≡◌, ℕ, ◌+◌, Bool, true, false, Option, Some, None, List, [], ◌∷◌, ◌++◌, refl, sym, ◌∙◌, ap, subst, arith, ltb-true, ltb-false, lt-ltb, le-ltb}
use Rattle.std.specs.Prelude.{nat_lt}
use Rattle.php_ast.specs.Symbol.{Symbol}
use Rattle.php_grammar.specs.Run.{either, if_some, ReadingOf, reading, if_nothing, if_whole, whole_before}
use Rattle.php_grammar.specs.TooDeep.{depth_inside}
use Rattle.php_grammar.specs.expression.Machine.{State, halt}
use Rattle.php_grammar_laws.specs.Walks.{OutcomeOf, whole, short, outcome_by, outcome, stepped, walk_of, halt_expression, taken_on, past, resumed}
use Rattle.php_grammar.proofs.Inside.{Alike, halts_alike}
use Rattle.php_grammar_laws.proofs.Stops.{LeavesUnread}

-- ---- the law

-- How a machine lends: its states, what it does with a whole inner tree and the symbol behind it, and how many constructs
-- it has open around the inner machine. Where it stops behind a whole inner tree is `stuck`.
pub record Lends {M A N B : Type 0} (inner : M → Symbol → Option M) (nested : M → Symbol → ℕ) (halts : M → List Symbol → ReadingOf A) (step : N → Symbol → Option N) (depth : N → Symbol → ℕ) (stop : N → List Symbol → ReadingOf B)
    (on : M → N) (ended : A → Symbol → Option N) (k : ℕ) (stuck : A → List Symbol → OutcomeOf B) : Type 0 where
  pub steps : (m : M) (t : Symbol) (w : List Symbol) → step (on m) t ≡ either (if_some (inner m t) (λ n. Some (on n))) (if_some (if_whole (halts m (t ∷ w))) (λ a. ended a t))
  pub counts : (m : M) (t : Symbol) → depth (on m) t ≡ depth_inside (inner m t) (nested m t) k
  pub stops : (m : M) (w : List Symbol) → outcome (stop (on m) w) ≡ resumed stuck (outcome (halts m w))
  pub leaves : LeavesUnread M A halts

abbrev behind : {A N B : Type 0} → (N → Symbol → Option N) → (N → Symbol → ℕ) → (N → List Symbol → ReadingOf B) → (A → Symbol → Option N) → ℕ → (A → List Symbol → OutcomeOf B) → A → List Symbol → OutcomeOf B
behind step depth stop ended n stuck a = past (ended a) (walk_of step depth stop n) (stuck a)

pub deeper_by : (b : Bool) (n k d : ℕ) → nat_lt n d ≡ b → nat_lt (n + k) (d + k) ≡ b
deeper_by true n k d h = lt-ltb (n + k) (d + k) (omega (arith, ltb-true n d h))
deeper_by false n k d h = le-ltb (n + k) (d + k) (omega (arith, ltb-false n d h))

end_by : {A B : Type 0} (missing : List Symbol) (a : A) (u : List Symbol) (stuck go : A → List Symbol → OutcomeOf B) → u ≡ [] → ((x : A) → go x [] ≡ stuck x []) → resumed stuck (outcome_by missing a u) ≡ resumed go (outcome_by missing a u)
end_by [] a u stuck go is same = ap (stuck a) is ∙ sym (same a) ∙ ap (go a) (sym is)
end_by (t ∷ missing) a u stuck go is same = refl

-- where the outer machine takes the symbol or not
ended_by : {N B : Type 0} (o : Option N) (b : Bool) (go : N → OutcomeOf B) (halted stuck : OutcomeOf B) (w : List Symbol) → b ≡ false → halted ≡ stuck → stepped o b go halted w ≡ taken_on o go stuck
ended_by None b go halted stuck w low is = is
ended_by (Some n) true go halted stuck w low is = cc
ended_by (Some n) false go halted stuck w low is = refl

whole_by : {A N B : Type 0} (missing : List Symbol) (a : A) (u : List Symbol) (t : Symbol) (w : List Symbol) (ended : A → Symbol → Option N) (b : Bool) (go : N → List Symbol → OutcomeOf B) (halted : OutcomeOf B)
    (stuck : A → List Symbol → OutcomeOf B) → u ≡ t ∷ w → b ≡ false → halted ≡ resumed stuck (outcome_by missing a u)
    → stepped (if_some (if_nothing missing a) (λ x. ended x t)) b (λ n. go n w) halted (t ∷ w) ≡ resumed (λ x. past (ended x) go (stuck x)) (outcome_by missing a u)
whole_by [] a u t w ended b go halted stuck is low stops =
    ended_by (ended a t) b (λ n. go n w) halted (stuck a (t ∷ w)) (t ∷ w) low (stops ∙ ap (stuck a) is) ∙ ap (past (ended a) go (stuck a)) (sym is)
whole_by (x ∷ missing) a u t w ended b go halted stuck is low stops = stops

not_under : (n k : ℕ) → nat_lt (n + k) k ≡ false
not_under n k = le-ltb (n + k) k (omega arith)

lends_by : {M A N B : Type 0} (inner : M → Symbol → Option M) (nested : M → Symbol → ℕ) (halts : M → List Symbol → ReadingOf A) (step : N → Symbol → Option N) (depth : N → Symbol → ℕ) (stop : N → List Symbol → ReadingOf B)
    (on : M → N) (ended : A → Symbol → Option N) (k : ℕ) (stuck : A → List Symbol → OutcomeOf B) → Lends inner nested halts step depth stop on ended k stuck
    → (n : ℕ) (m : M) (t : Symbol) (w : List Symbol) (o : Option M) (b : Bool) → nat_lt n (nested m t) ≡ b
    → ((x : M) → walk_of step depth stop (n + k) (on x) w ≡ resumed (behind step depth stop ended (n + k) stuck) (walk_of inner nested halts n x w))
    → stepped (either (if_some o (λ x. Some (on x))) (if_some (if_whole (halts m (t ∷ w))) (λ a. ended a t))) (nat_lt (n + k) (depth_inside o (nested m t) k))
    (λ x. walk_of step depth stop (n + k) x w) (outcome (stop (on m) (t ∷ w))) (t ∷ w)
    ≡ resumed (behind step depth stop ended (n + k) stuck) (stepped o b (λ x. walk_of inner nested halts n x w) (outcome (halts m (t ∷ w))) (t ∷ w))
lends_by inner nested halts step depth stop on ended k stuck r n m t w None b is next =
    whole_by (halts m (t ∷ w)).missing (halts m (t ∷ w)).tree (halts m (t ∷ w)).unread t w ended (nat_lt (n + k) k) (walk_of step depth stop (n + k)) (outcome (stop (on m) (t ∷ w))) stuck
    (r.leaves m (t ∷ w)) (not_under n k) (r.stops m (t ∷ w))
lends_by inner nested halts step depth stop on ended k stuck r n m t w (Some x) true is next =
    ap (λ c. stepped (Some (on x)) c (λ y. walk_of step depth stop (n + k) y w) (outcome (stop (on m) (t ∷ w))) (t ∷ w)) (deeper_by true n k (nested m t) is)
lends_by inner nested halts step depth stop on ended k stuck r n m t w (Some x) false is next =
    ap (λ c. stepped (Some (on x)) c (λ y. walk_of step depth stop (n + k) y w) (outcome (stop (on m) (t ∷ w))) (t ∷ w)) (deeper_by false n k (nested m t) is) ∙ next x

pub lends : {M A N B : Type 0} (inner : M → Symbol → Option M) (nested : M → Symbol → ℕ) (halts : M → List Symbol → ReadingOf A) (step : N → Symbol → Option N) (depth : N → Symbol → ℕ) (stop : N → List Symbol → ReadingOf B)
    (on : M → N) (ended : A → Symbol → Option N) (k : ℕ) (stuck : A → List Symbol → OutcomeOf B) → Lends inner nested halts step depth stop on ended k stuck
    → (n : ℕ) (m : M) (w : List Symbol) → walk_of step depth stop (n + k) (on m) w ≡ resumed (λ a. past (ended a) (walk_of step depth stop (n + k)) (stuck a)) (walk_of inner nested halts n m w)
lends inner nested halts step depth stop on ended k stuck r n m [] =
    r.stops m [] ∙ end_by (halts m []).missing (halts m []).tree (halts m []).unread stuck (behind step depth stop ended (n + k) stuck) (r.leaves m []) (λ x. refl)
lends inner nested halts step depth stop on ended k stuck r n m (t ∷ w) =
    ap (λ o. stepped o (nat_lt (n + k) (depth (on m) t)) (λ x. walk_of step depth stop (n + k) x w) (outcome (stop (on m) (t ∷ w))) (t ∷ w)) (r.steps m t w)
    ∙ ap (λ d. stepped (either (if_some (inner m t) (λ x. Some (on x))) (if_some (if_whole (halts m (t ∷ w))) (λ a. ended a t))) (nat_lt (n + k) d)
    (λ x. walk_of step depth stop (n + k) x w) (outcome (stop (on m) (t ∷ w))) (t ∷ w)) (r.counts m t)
    ∙ lends_by inner nested halts step depth stop on ended k stuck r n m t w (inner m t) (nat_lt n (nested m t)) refl (λ x. lends inner nested halts step depth stop on ended k stuck r n x w)

-- likewise where that nesting is given
pub lends_at : {M A N B : Type 0} (inner : M → Symbol → Option M) (nested : M → Symbol → ℕ) (halts : M → List Symbol → ReadingOf A) (step : N → Symbol → Option N) (depth : N → Symbol → ℕ) (stop : N → List Symbol → ReadingOf B)
    (on : M → N) (ended : A → Symbol → Option N) (k : ℕ) (stuck : A → List Symbol → OutcomeOf B) → Lends inner nested halts step depth stop on ended k stuck
    → (n top : ℕ) (m : M) (w : List Symbol) → top ≡ n + k → walk_of step depth stop top (on m) w ≡ resumed (λ a. past (ended a) (walk_of step depth stop top) (stuck a)) (walk_of inner nested halts n m w)
lends_at inner nested halts step depth stop on ended k stuck r n top m w is =
    subst (λ z. walk_of step depth stop z (on m) w ≡ resumed (λ a. past (ended a) (walk_of step depth stop z) (stuck a)) (walk_of inner nested halts n m w)) (sym is)
    (lends inner nested halts step depth stop on ended k stuck r n m w)

-- ---- where machines stop

abbrev pub IsSome : List Symbol → Type 0
IsSome [] = ⊥
IsSome (t ∷ w) = Unit {0}

pub some_behind : (v w : List Symbol) → IsSome w → IsSome (v ++ w)
some_behind [] w h = h
some_behind (t ∷ v) w h = tt

short_by : {B : Type 0} (missing : List Symbol) (b : B) (w : List Symbol) → IsSome missing → outcome_by missing b w ≡ short w
short_by [] b w h = absurd h
short_by (t ∷ missing) b w h = refl

all_short : {A B : Type 0} (missing : List Symbol) (a : A) (u : List Symbol) → resumed {A = A} {B = B} (λ x. short) (outcome_by missing a u) ≡ short u
all_short [] a u = refl
all_short (t ∷ missing) a u = refl

-- with more that is missing
pub stops_short : {A B : Type 0} (r : ReadingOf A) (missing : List Symbol) (b : B) (w : List Symbol) → IsSome missing → r.unread ≡ w → outcome (reading b missing w) ≡ resumed {A = A} {B = B} (λ x. short) (outcome r)
stops_short r missing b w some is = short_by missing b w some ∙ ap short (sym is) ∙ sym (all_short r.missing r.tree r.unread)

-- with nothing more
pub stops_whole : {A B : Type 0} (f : A → B) (missing : List Symbol) (a : A) (u w : List Symbol) → u ≡ w → outcome_by (missing ++ []) (f a) w ≡ resumed (λ x. whole (f x)) (outcome_by missing a u)
stops_whole f [] a u w is = ap (whole (f a)) (sym is)
stops_whole f (t ∷ missing) a u w is = ap short (sym is)

-- ---- whole in front of a symbol, whatever stands behind that

pub whole_alike : (m : State) (t : Symbol) (v : List Symbol) → if_whole (halt_expression m (t ∷ v)) ≡ whole_before m t
whole_alike m t v =
    let same : Alike (halt m (t ∷ v)) (halt m (t ∷ [])) = halts_alike m t v in
    ap (λ e. if_nothing (halt m (t ∷ v)).missing e) same.tree ∙ ap (λ u. if_nothing u (halt m (t ∷ [])).tree) same.missing
