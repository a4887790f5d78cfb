-- How a machine moves, where nesting is limited.
use Rattle.std.proofs.Common.{◌≡◌, ◌≤◌, ◌<◌, ℕ, Bool, true, false, Option, Some, None, List, [], ◌∷◌, refl, sym, ◌∙◌, ap, arith}
use Rattle.std.specs.Prelude.{nat_lt}
use Rattle.std.proofs.lemmas.Bool.{lt-ltb, le-ltb}
use Rattle.php_token.specs.Token.{Token}
use Rattle.php_ast.specs.Symbol.{Symbol}
use Rattle.php_grammar.specs.Run.{ReadingOf}
use Rattle.php_reader.specs.declared.fail.Stop.{Stop}
use Rattle.php_reader.specs.declared.fail.Stop.TheVariants.{Syntax, TooDeep, NoMemory}
use Rattle.php_grammar_laws.specs.Walks.{OutcomeOf, short, deep, outcome, stepped, walk_of, taken_on, past, resumed}
use Rattle.php_parse_member.specs.Walk.{Leads, Halts, stopped}
use Rattle.php_parse_member.specs.Answer.{Fails}

-- ---- one symbol

pub go : {M A : Type 0} (step : M → Symbol → Option M) (depth : M → Symbol → ℕ) (stop : M → List Symbol → ReadingOf A) (n : ℕ) (m to : M) (t : Symbol) (w : List Symbol)
    → step m t ≡ Some to → depth m t ≤ n → walk_of step depth stop n m (t ∷ w) ≡ walk_of step depth stop n to w
go step depth stop n m to t w is shallow =
    ap (λ o. stepped o (nat_lt n (depth m t)) (λ x. walk_of step depth stop n x w) (outcome (stop m (t ∷ w))) (t ∷ w)) is
    ∙ ap (λ b. stepped (Some to) b (λ x. walk_of step depth stop n x w) (outcome (stop m (t ∷ w))) (t ∷ w)) (le-ltb n (depth m t) shallow)

pub sinks : {M A : Type 0} (step : M → Symbol → Option M) (depth : M → Symbol → ℕ) (stop : M → List Symbol → ReadingOf A) (n : ℕ) (m to : M) (t : Symbol) (w : List Symbol)
    → step m t ≡ Some to → n < depth m t → walk_of step depth stop n m (t ∷ w) ≡ deep (t ∷ w)
sinks step depth stop n m to t w is below =
    ap (λ o. stepped o (nat_lt n (depth m t)) (λ x. walk_of step depth stop n x w) (outcome (stop m (t ∷ w))) (t ∷ w)) is
    ∙ ap (λ b. stepped (Some to) b (λ x. walk_of step depth stop n x w) (outcome (stop m (t ∷ w))) (t ∷ w)) (lt-ltb n (depth m t) below)

pub sticks : {M A : Type 0} (step : M → Symbol → Option M) (depth : M → Symbol → ℕ) (stop : M → List Symbol → ReadingOf A) (n : ℕ) (m : M) (t : Symbol) (w : List Symbol)
    → step m t ≡ None → walk_of step depth stop n m (t ∷ w) ≡ outcome (stop m (t ∷ w))
sticks step depth stop n m t w is = ap (λ o. stepped o (nat_lt n (depth m t)) (λ x. walk_of step depth stop n x w) (outcome (stop m (t ∷ w))) (t ∷ w)) is

-- Two states of which a symbol makes the same, inside as many constructs.
pub alike : {M A : Type 0} (step : M → Symbol → Option M) (depth : M → Symbol → ℕ) (stop : M → List Symbol → ReadingOf A) (n : ℕ) (a b : M) (t : Symbol) (w : List Symbol)
    → step a t ≡ step b t → depth a t ≡ depth b t → outcome (stop a (t ∷ w)) ≡ outcome (stop b (t ∷ w)) → walk_of step depth stop n a (t ∷ w) ≡ walk_of step depth stop n b (t ∷ w)
alike step depth stop n a b t w steps depths stops =
    ap (λ o. stepped o (nat_lt n (depth a t)) (λ x. walk_of step depth stop n x w) (outcome (stop a (t ∷ w))) (t ∷ w)) steps
    ∙ ap (λ d. stepped (step b t) (nat_lt n d) (λ x. walk_of step depth stop n x w) (outcome (stop a (t ∷ w))) (t ∷ w)) depths
    ∙ ap (λ h. stepped (step b t) (nat_lt n (depth b t)) (λ x. walk_of step depth stop n x w) h (t ∷ w)) stops

-- ---- behind what an inner machine has read

past_by : {M A : Type 0} (o : Option M) (b : Bool) (f : M → OutcomeOf A) (halted : OutcomeOf A) (t : Symbol) (w : List Symbol) → b ≡ false → halted ≡ short (t ∷ w)
    → taken_on o f (short (t ∷ w)) ≡ stepped o b f halted (t ∷ w)
past_by None b f halted t w low is = sym is
past_by (Some m) true f halted t w low is = cc
past_by (Some m) false f halted t w low is = refl

-- A state that does with each symbol what is done behind an inner tree, and in which something is missing.
pub past_same : {M A : Type 0} (step : M → Symbol → Option M) (depth : M → Symbol → ℕ) (stop : M → List Symbol → ReadingOf A) (n : ℕ) (m : M) (v : List Symbol)
    → ((t : Symbol) → depth m t ≤ n) → ((u : List Symbol) → outcome (stop m u) ≡ short u) → past (λ t. step m t) (walk_of step depth stop n) short v ≡ walk_of step depth stop n m v
past_same step depth stop n m [] low lacks = sym (lacks [])
past_same step depth stop n m (t ∷ w) low lacks =
    past_by (step m t) (nat_lt n (depth m t)) (λ x. walk_of step depth stop n x w) (outcome (stop m (t ∷ w))) t w (le-ltb n (depth m t) (low t)) (lacks (t ∷ w))

pub past_on : {N B : Type 0} (ended : Symbol → Option N) (f : N → List Symbol → OutcomeOf B) (to : N) (t : Symbol) (x v : List Symbol) → x ≡ t ∷ v → ended t ≡ Some to → past ended f short x ≡ f to v
past_on ended f to t x v is on = ap (past ended f short) is ∙ ap (λ o. taken_on o (λ n. f n v) (short (t ∷ v))) on

abbrev pub NoneEnds : {N : Type 0} → (Symbol → Option N) → List Symbol → Type 0
NoneEnds ended [] = Unit {0}
NoneEnds ended (t ∷ v) = ended t ≡ None

pub past_stuck : {N B : Type 0} (ended : Symbol → Option N) (f : N → List Symbol → OutcomeOf B) (x : List Symbol) → NoneEnds ended x → past ended f short x ≡ short x
past_stuck ended f [] h = refl
past_stuck ended f (t ∷ v) h = ap (λ o. taken_on o (λ n. f n v) (short (t ∷ v))) h

-- ---- chains

pub leads : {M A : Type 0} {walk : ℕ → M → List Symbol → OutcomeOf A} {room : ℕ} {from to : M} {w v u : List Symbol} (mid : M) → Leads walk room from w mid v → Leads walk room mid v to u → Leads walk room from w to u
leads mid a b = record { same = λ n is. a.same n is ∙ b.same n is }

pub leads_halts : {M A : Type 0} {walk : ℕ → M → List Symbol → OutcomeOf A} {too_deep : Bool} {room : ℕ} {from : M} {w v u : List Symbol} (mid : M)
    → Leads walk room from w mid v → Halts walk too_deep room mid v u → Halts walk too_deep room from w u
leads_halts mid a b = record { same = λ n is. a.same n is ∙ b.same n is }

-- a failure behind what was read
pub later : {M A : Type 0} {walk : ℕ → M → List Symbol → OutcomeOf A} {room : ℕ} {from : M} {x w : List Symbol} (tokens : List Token) (at start : ℕ) (mid : M) (e : Stop) → at ≤ start
    → Leads walk room from x mid w → Fails walk room mid w tokens start e → Fails walk room from x tokens at e
later tokens at start mid (Syntax k) ahead a r = record { halts = leads_halts mid a r.halts; ahead = omega (arith, r.ahead); within = r.within }
later tokens at start mid (TooDeep k) ahead a r = record { halts = leads_halts mid a r.halts; ahead = omega (arith, r.ahead); within = r.within }
later tokens at start mid NoMemory ahead a r = tt

-- ---- an inner failure

pub resumed_stopped : {A B : Type 0} (too_deep : Bool) (f : A → List Symbol → OutcomeOf B) (o : OutcomeOf A) (v : List Symbol) → o ≡ stopped too_deep v → resumed f o ≡ stopped too_deep v
resumed_stopped true f o v is = ap (resumed f) is
resumed_stopped false f o v is = ap (resumed f) is
