-- How the machine of statements moves, where nesting is limited.
use Rattle.std.proofs.Common.{◌≡◌, ◌≤◌, ◌<◌, ℕ, suc, ◌+◌, Bool, true, false, Some, None, List, [], ◌∷◌, ◌++◌, refl, sym, ◌∙◌, ap, arith}
use Rattle.std.specs.Prelude.{nat_lt}
use Rattle.std.proofs.lemmas.Bool.{lt-ltb, le-ltb}
use Rattle.php_ast.specs.Symbol.{Symbol}
use Rattle.php_grammar.specs.expression.Machine.{pick}
use Rattle.php_grammar.specs.statement.Role.{Fixed, right_paren, is_fixed}
use Rattle.php_grammar.specs.statement.Forms.{Around, StatementState, due, past_block}
use Rattle.php_ast.specs.statement.Tree.{no_catch, and_catch}
use Rattle.php_grammar.specs.statement.Machine.{due_rest, advance_statement}
use Rattle.php_grammar.specs.statement.Depth.{statement_depth, fixed_depth, around, statement_depth_at}
use Rattle.php_grammar.specs.statement.Reading.{halt_statement}
use Rattle.php_reader.specs.Seen.{test}
use Rattle.php_grammar_laws.specs.Walks.{short, deep, outcome_by, outcome, stepped, walk_statement}
use Rattle.php_parse_simple.specs.Walk.{Leads, Halts}

-- ---- one symbol

pub moves : (n : ℕ) (m to : StatementState) (t : Symbol) (w : List Symbol) → advance_statement m t ≡ Some to → statement_depth_at m t ≤ n → walk_statement n m (t ∷ w) ≡ walk_statement n to w
moves n m to t w is shallow =
    ap (λ o. stepped o (nat_lt n (statement_depth_at m t)) (λ x. walk_statement n x w) (outcome (halt_statement m (t ∷ w))) (t ∷ w)) is
    ∙ ap (λ b. stepped (Some to) b (λ x. walk_statement n x w) (outcome (halt_statement m (t ∷ w))) (t ∷ w)) (le-ltb n (statement_depth_at m t) shallow)

pub sinks : (n : ℕ) (m to : StatementState) (t : Symbol) (w : List Symbol) → advance_statement m t ≡ Some to → n < statement_depth_at m t → walk_statement n m (t ∷ w) ≡ deep (t ∷ w)
sinks n m to t w is under =
    ap (λ o. stepped o (nat_lt n (statement_depth_at m t)) (λ x. walk_statement n x w) (outcome (halt_statement m (t ∷ w))) (t ∷ w)) is
    ∙ ap (λ b. stepped (Some to) b (λ x. walk_statement n x w) (outcome (halt_statement m (t ∷ w))) (t ∷ w)) (lt-ltb n (statement_depth_at m t) under)

pub sticks : (n : ℕ) (m : StatementState) (t : Symbol) (w : List Symbol) → advance_statement m t ≡ None → walk_statement n m (t ∷ w) ≡ outcome (halt_statement m (t ∷ w))
sticks n m t w is = ap (λ o. stepped o (nat_lt n (statement_depth_at m t)) (λ x. walk_statement n x w) (outcome (halt_statement m (t ∷ w))) (t ∷ w)) is

-- two states that take the same symbol alike, and halt alike
pub alike : (n : ℕ) (m other : StatementState) (t : Symbol) (w : List Symbol) → advance_statement m t ≡ advance_statement other t → statement_depth_at m t ≡ statement_depth_at other t
    → outcome (halt_statement m (t ∷ w)) ≡ outcome (halt_statement other (t ∷ w)) → walk_statement n m (t ∷ w) ≡ walk_statement n other (t ∷ w)
alike n m other t w step depth halted =
    ap (λ o. stepped o (nat_lt n (statement_depth_at m t)) (λ x. walk_statement n x w) (outcome (halt_statement m (t ∷ w))) (t ∷ w)) step
    ∙ ap (λ d. stepped (advance_statement other t) (nat_lt n d) (λ x. walk_statement n x w) (outcome (halt_statement m (t ∷ w))) (t ∷ w)) depth
    ∙ ap (λ h. stepped (advance_statement other t) (nat_lt n (statement_depth_at other t)) (λ x. walk_statement n x w) h (t ∷ w)) halted

-- ---- chains

pub leads : {depth : Around → ℕ} {room : ℕ} {from to : Around → StatementState} {w v u : List Symbol} (mid : Around → StatementState)
    → Leads depth room from w mid v → Leads depth room mid v to u → Leads depth room from w to u
leads mid a b = record { same = λ n o is. a.same n o is ∙ b.same n o is }

pub leads_halts : {too_deep : Bool} {depth : Around → ℕ} {room : ℕ} {from : Around → StatementState} {w v u : List Symbol} (mid : Around → StatementState)
    → Leads depth room from w mid v → Halts too_deep depth room mid v u → Halts too_deep depth room from w u
leads_halts mid a b = record { same = λ n o is. a.same n o is ∙ b.same n o is }

pub stays : {depth : Around → ℕ} {room : ℕ} {from : Around → StatementState} {w : List Symbol} → Leads depth room from w from w
stays = record { same = λ n o is. refl }

-- one symbol among all of them
pub move : {room : ℕ} {from to : Around → StatementState} {x w : List Symbol} (t : Symbol) → x ≡ t ∷ w
    → ((o : Around) → advance_statement (from o) t ≡ Some (to o)) → ((n : ℕ) (o : Around) → statement_depth o + room ≡ suc n → statement_depth_at (from o) t ≤ n)
    → Leads statement_depth room from x to w
move {room} {from} {to} {x} {w} t is on shallow =
    record { same = λ n o at. ap (walk_statement n (from o)) is ∙ moves n (from o) (to o) t w (on o) (shallow n o at) }

-- one that is nested too deep
pub sink : {room : ℕ} {from to : Around → StatementState} {x w : List Symbol} (t : Symbol) → x ≡ t ∷ w
    → ((o : Around) → advance_statement (from o) t ≡ Some (to o)) → ((n : ℕ) (o : Around) → statement_depth o + room ≡ suc n → n < statement_depth_at (from o) t)
    → Halts true statement_depth room from x x
sink {room} {from} {to} {x} {w} t is on under = record {
  same = λ n o at. ap (walk_statement n (from o)) is ∙ sinks n (from o) (to o) t w (on o) (under n o at) ∙ ap deep (sym is);
}

-- ---- what is missing

-- some symbols
abbrev pub Some_of : List Symbol → Type 0
Some_of [] = ⊥
Some_of (t ∷ w) = Unit {0}

pub lacks_by : {A : Type 0} (missing : List Symbol) (a : A) (w : List Symbol) → Some_of missing → outcome_by missing a w ≡ short w
lacks_by [] a w h = absurd h
lacks_by (t ∷ missing) a w h = refl

pub some_behind : (xs ys : List Symbol) → Some_of ys → Some_of (xs ++ ys)
some_behind [] ys h = h
some_behind (x ∷ xs) ys h = tt

pub unread : (m : StatementState) (w : List Symbol) → (halt_statement m w).unread ≡ w
unread (due xs m) w = unread m w
unread (past_block body no_catch o) w = refl
unread (past_block body (and_catch catches classes variable ss) o) w = refl
unread _ w = refl

-- ---- fixed tokens

pub due_lacks : (n : ℕ) (x : Fixed) (xs : List Fixed) (m : StatementState) (w : List Symbol) → test (is_fixed x) w ≡ false → walk_statement n (due (x ∷ xs) m) w ≡ short w
due_lacks n x xs m [] h = ap short (unread m [])
due_lacks n x xs m (t ∷ w) h = sticks n (due (x ∷ xs) m) t w (ap (λ b. pick b (Some (due_rest xs m)) None) h) ∙ ap short (unread m (t ∷ w))

pub due_halts : {room : ℕ} {w : List Symbol} (x : Fixed) (xs : List Fixed) (m : Around → StatementState) → test (is_fixed x) w ≡ false → Halts false statement_depth room (λ o. due (x ∷ xs) (m o)) w w
due_halts {room} {w} x xs m h = record { same = λ n o at. due_lacks n x xs (m o) w h }

fixed_low : (x : Fixed) (xs : List Fixed) (d : ℕ) → fixed_depth (x ∷ xs) d ≤ 1 + d
fixed_low right_paren xs d = omega arith
fixed_low _ xs d = omega arith

-- a fixed token where two levels are left
pub due_inside : {room : ℕ} {x w : List Symbol} (f : Fixed) (xs : List Fixed) (m : Around → StatementState) (t : Symbol) → x ≡ t ∷ w → is_fixed f t ≡ true → ((o : Around) → around (m o) ≡ o) → 2 ≤ room
    → Leads statement_depth room (λ o. due (f ∷ xs) (m o)) x (λ o. due_rest xs (m o)) w
due_inside f xs m t is fits same roomy =
    move t is (λ o. ap (λ b. pick b (Some (due_rest xs (m o))) None) fits)
    (λ n o at. omega (arith, fixed_low f xs (statement_depth (around (m o))), ap statement_depth (same o)))

-- that stands outside
pub due_outside : {room : ℕ} {x w : List Symbol} (f : Fixed) (xs : List Fixed) (m : Around → StatementState) (t : Symbol) → x ≡ t ∷ w → is_fixed f t ≡ true → ((o : Around) → around (m o) ≡ o)
    → ((d : ℕ) → fixed_depth (f ∷ xs) d ≡ d) → 1 ≤ room
    → Leads statement_depth room (λ o. due (f ∷ xs) (m o)) x (λ o. due_rest xs (m o)) w
due_outside f xs m t is fits same outside roomy =
    move t is (λ o. ap (λ b. pick b (Some (due_rest xs (m o))) None) fits)
    (λ n o at. omega (arith, outside (statement_depth (around (m o))), ap statement_depth (same o)))

-- `)` where one level is left
pub paren_sinks : {x w : List Symbol} (xs : List Fixed) (m : Around → StatementState) (t : Symbol) → x ≡ t ∷ w → is_fixed right_paren t ≡ true → ((o : Around) → around (m o) ≡ o)
    → Halts true statement_depth 1 (λ o. due (right_paren ∷ xs) (m o)) x x
paren_sinks xs m t is fits same =
    sink t is (λ o. ap (λ b. pick b (Some (due_rest xs (m o))) None) fits) (λ n o at. omega (arith, ap statement_depth (same o)))
