-- From the walk of a machine to what it says of the symbols.
use Rattle.std.proofs.Common.{◌≡◌, ◌≤◌, ◌<◌, ◌⊎◌, inl, inr, ℕ, suc, ◌+◌, Bool, true, false, Option, Some, None, List, [], ◌∷◌, ◌++◌, take, length, refl, sym, ◌∙◌, ap, subst, arith, append_assoc, length-append, ltb-true, ltb-false, lt-ltb, le-ltb}
use Rattle.std.proofs.Math.Seq.{take-append_seam}
use Rattle.std.specs.Prelude.{nat_lt}
use Rattle.php_ast.specs.Symbol.{Symbol}
use Rattle.php_grammar.specs.Run.{ReadingOf, or_halted, run_of}
use Rattle.php_grammar.specs.TooDeep.{taken, depths_taken, nesting_limit, one_further, first_above, deeper, first_too_deep}
use Rattle.php_grammar.specs.expression.Machine.{pick}
use Rattle.php_grammar_laws.specs.Walks.{OutcomeOf, deep, outcome_by, outcome, stepped, walk_of}
use Rattle.php_grammar_laws.specs.Ends.{NoFurther, EndsAs}
use Rattle.php_grammar_laws.proofs.Stops.{LeavesUnread}
use Rattle.php_grammar_laws.proofs.Begins.{Begins}

-- ---- the first number above a limit

abbrev Under : ℕ → List ℕ → Type 0
Under n [] = Unit {0}
Under n (d ∷ ds) = (d ≤ n) × Under n ds

none_above : (n d : ℕ) (ds : List ℕ) → n + d ≡ nesting_limit → Under n ds → first_too_deep d ds ≡ None
none_above n d [] sum h = refl
none_above n d (x ∷ ds) sum h =
    ap (λ b. pick b (Some 0) (one_further (first_above nesting_limit (deeper d ds)))) (le-ltb nesting_limit (d + x) (omega (arith, sum, h.0))) ∙ ap one_further (none_above n d ds sum h.1)

first_is : (n d x : ℕ) (ds rest : List ℕ) → n + d ≡ nesting_limit → Under n ds → n < x → first_too_deep d (ds ++ x ∷ rest) ≡ Some (length ds)
first_is n d x [] rest sum h above = ap (λ b. pick b (Some 0) (one_further (first_above nesting_limit (deeper d rest)))) (lt-ltb nesting_limit (d + x) (omega (arith, sum, above)))
first_is n d x (y ∷ ds) rest sum h above =
    ap (λ b. pick b (Some 0) (one_further (first_above nesting_limit (deeper d (ds ++ x ∷ rest))))) (le-ltb nesting_limit (d + y) (omega (arith, sum, h.0)))
    ∙ ap one_further (first_is n d x ds rest sum h.1 above)

behind_none : {A : Type 0} (xs : List A) → xs ++ [] ≡ xs
behind_none [] = refl
behind_none (x ∷ xs) = ap (λ ys. x ∷ ys) (behind_none xs)

-- ---- the way of a walk

-- Some symbols are read from one state to another, whatever follows, and none of them is nested deeper than n.
record Trail {M A : Type 0} (step : M → Symbol → Option M) (depth : M → Symbol → ℕ) (stop : M → List Symbol → ReadingOf A) (n : ℕ) (m : M) (front : List Symbol) (to : M) : Type 0 where
  depths : List ℕ
  count : length depths ≡ length front
  under : Under n depths
  leads : (z : List Symbol) → run_of step stop m (front ++ z) ≡ run_of step stop to z
  counts : (z : List Symbol) → depths_taken step depth m (front ++ z) ≡ depths ++ depths_taken step depth to z

-- what stops it in a state, in front of symbols
abbrev Stuck : {M A : Type 0} → (M → Symbol → Option M) → (M → Symbol → ℕ) → (M → List Symbol → ReadingOf A) → ℕ → M → List Symbol → OutcomeOf A → Type 0
Stuck step depth stop n to [] o = o ≡ outcome (stop to [])
Stuck {M} step depth stop n to (t ∷ v) o = ((step to t ≡ None) × (o ≡ outcome (stop to (t ∷ v)))) ⊎ ((x : M) × (step to t ≡ Some x) × (n < depth to t) × (o ≡ deep (t ∷ v)))

record Way {M A : Type 0} (step : M → Symbol → Option M) (depth : M → Symbol → ℕ) (stop : M → List Symbol → ReadingOf A) (n : ℕ) (m : M) (w : List Symbol) (o : OutcomeOf A) : Type 0 where
  front : List Symbol
  to : M
  left : List Symbol
  split : w ≡ front ++ left
  trail : Trail step depth stop n m front to
  stuck : Stuck step depth stop n to left o

no_trail : {M A : Type 0} (step : M → Symbol → Option M) (depth : M → Symbol → ℕ) (stop : M → List Symbol → ReadingOf A) (n : ℕ) (m : M) → Trail step depth stop n m [] m
no_trail step depth stop n m = record { depths = []; count = refl; under = tt; leads = λ z. refl; counts = λ z. refl }

one_step : {M A : Type 0} (step : M → Symbol → Option M) (depth : M → Symbol → ℕ) (stop : M → List Symbol → ReadingOf A) (n : ℕ) (m x : M) (t : Symbol) (front : List Symbol) (to : M)
    → step m t ≡ Some x → depth m t ≤ n → Trail step depth stop n x front to → Trail step depth stop n m (t ∷ front) to
one_step step depth stop n m x t front to is low r = record {
  depths = depth m t ∷ r.depths;
  count = ap (λ k. suc k) r.count;
  under = (low, r.under);
  leads = λ z. ap (λ o. or_halted o (λ y. run_of step stop y (front ++ z)) (stop m (t ∷ (front ++ z)))) is ∙ r.leads z;
  counts = λ z. ap (λ o. taken o (depth m t) (λ y. depths_taken step depth y (front ++ z))) is ∙ ap (λ ds. depth m t ∷ ds) (r.counts z);
}

way_by : {M A : Type 0} (step : M → Symbol → Option M) (depth : M → Symbol → ℕ) (stop : M → List Symbol → ReadingOf A) (o : Option M) (b : Bool) (n : ℕ) (m : M) (t : Symbol) (w : List Symbol)
    → step m t ≡ o → nat_lt n (depth m t) ≡ b → ((x : M) → Way step depth stop n x w (walk_of step depth stop n x w))
    → Way step depth stop n m (t ∷ w) (stepped o b (λ x. walk_of step depth stop n x w) (outcome (stop m (t ∷ w))) (t ∷ w))
way_by step depth stop None b n m t w is at below = record { front = []; to = m; left = t ∷ w; split = refl; trail = no_trail step depth stop n m; stuck = inl (is, refl) }
way_by step depth stop (Some x) true n m t w is at below =
    record { front = []; to = m; left = t ∷ w; split = refl; trail = no_trail step depth stop n m; stuck = inr (x, is, ltb-true n (depth m t) at, refl) }
way_by step depth stop (Some x) false n m t w is at below =
    let r = below x in
    record {
      front = t ∷ r.front;
      to = r.to;
      left = r.left;
      split = ap (λ v. t ∷ v) r.split;
      trail = one_step step depth stop n m x t r.front r.to is (ltb-false n (depth m t) at) r.trail;
      stuck = r.stuck;
    }

way : {M A : Type 0} (step : M → Symbol → Option M) (depth : M → Symbol → ℕ) (stop : M → List Symbol → ReadingOf A) (n : ℕ) (m : M) (w : List Symbol) → Way step depth stop n m w (walk_of step depth stop n m w)
way step depth stop n m [] = record { front = []; to = m; left = []; split = refl; trail = no_trail step depth stop n m; stuck = refl }
way step depth stop n m (t ∷ w) = way_by step depth stop (step m t) (nat_lt n (depth m t)) n m t w refl refl (λ x. way step depth stop n x w)

-- ---- a machine with its laws

-- What is known of a machine: its laws, said of the trees that it reads.
pub record Known {M A : Type 0} (step : M → Symbol → Option M) (depth : M → Symbol → ℕ) (stop : M → List Symbol → ReadingOf A) (first : M) (good : A → List Symbol → Type 0) (begins : List Symbol → Type 0)
    (nests : A → List ℕ) : Type 0 where
  pub leaves : LeavesUnread M A stop
  pub alike : (m : M) (w : List Symbol) → (stop m w).missing ≡ (stop m []).missing
  pub reads : (w : List Symbol) → Begins good (λ v. v) w (run_of step stop first w)
  pub back : (a : A) (w : List Symbol) → good a w → run_of step stop first w ≡ record { tree = a; missing = []; unread = [] }
  pub nested : (a : A) (w : List Symbol) → good a w → depths_taken step depth first w ≡ nests a
  pub begun : (a : A) (w rest : List Symbol) → good a (w ++ rest) → begins w
  pub stops : (w front : List Symbol) (t : Symbol) (v : List Symbol) → w ≡ front ++ t ∷ v → (run_of step stop first w).unread ≡ t ∷ v → begins (front ++ t ∷ []) → ⊥

-- how the machine halts behind a trail
record Halted {M A : Type 0} (step : M → Symbol → Option M) (stop : M → List Symbol → ReadingOf A) (first to : M) (w front left : List Symbol) : Type 0 where
  split : w ≡ front ++ left
  run : run_of step stop first w ≡ stop to left

same_end : (v w u : List Symbol) → v ++ u ≡ w ++ u → v ≡ w
same_end [] [] u h = refl
same_end [] (t ∷ w) u h = absurd (omega (arith, ap length h, length-append w u))
same_end (t ∷ v) [] u h = absurd (omega (arith, ap length h, length-append v u))
same_end (t ∷ v) (x ∷ w) u h = let first : t ≡ x = cc in let rest : v ++ u ≡ w ++ u = cc in ap (λ y. y ∷ v) first ∙ ap (λ ys. x ∷ ys) (same_end v w u rest)

-- the reading of the whole, as it begins
begun_front : {M A : Type 0} (step : M → Symbol → Option M) (stop : M → List Symbol → ReadingOf A) (first to : M) (good : A → List Symbol → Type 0) (w front left : List Symbol) → LeavesUnread M A stop
    → Halted step stop first to w front left → Begins good (λ v. v) w (run_of step stop first w) → good (stop to left).tree (front ++ (stop to left).missing)
begun_front step stop first to good w front left leaves h b =
    let unread : (run_of step stop first w).unread ≡ left = ap (λ r. r.unread) h.run ∙ leaves to left in
    let fronts : b.done ≡ front = same_end b.done front left (ap (λ u. b.done ++ u) (sym unread) ∙ sym b.whole ∙ h.split) in
    subst (λ r. good r.tree (front ++ r.missing)) h.run (subst (λ x. good (run_of step stop first w).tree (x ++ (run_of step stop first w).missing)) fronts b.spelled)

further : {M A : Type 0} (step : M → Symbol → Option M) (depth : M → Symbol → ℕ) (stop : M → List Symbol → ReadingOf A) (first to : M) (good : A → List Symbol → Type 0) (begins : List Symbol → Type 0) (nests : A → List ℕ)
    → Known step depth stop first good begins nests → (w front left : List Symbol) → Halted step stop first to w front left → NoFurther begins front left
further step depth stop first to good begins nests k w front left h t u is b =
    k.stops w front t u (h.split ∙ ap (λ v. front ++ v) is) (ap (λ r. r.unread) h.run ∙ k.leaves to left ∙ is) b

halts_by : {M A : Type 0} (step : M → Symbol → Option M) (depth : M → Symbol → ℕ) (stop : M → List Symbol → ReadingOf A) (first to : M) (good : A → List Symbol → Type 0) (begins : List Symbol → Type 0) (nests : A → List ℕ)
    → Known step depth stop first good begins nests → (n d : ℕ) (w front left : List Symbol) (missing : List Symbol) (a : A) → n + d ≡ nesting_limit → Trail step depth stop n first front to → Halted step stop first to w front left
    → (stop to left).missing ≡ missing → (stop to left).tree ≡ a → EndsAs good begins nests d w (outcome_by missing a left)
halts_by step depth stop first to good begins nests k n d w front left [] a sum trail h none tree =
    let g : good (stop to left).tree (front ++ (stop to left).missing) = begun_front step stop first to good w front left k.leaves h (k.reads w) in
    let spelled : good a front = subst (λ x. good x front) tree (subst (λ u. good (stop to left).tree u) (ap (λ v. front ++ v) none ∙ behind_none front) g) in
    record {
      front = front;
      split = h.split;
      spelled = spelled;
      no_further = further step depth stop first to good begins nests k w front left h;
      shallow = ap (first_too_deep d) (sym (k.nested a front spelled) ∙ ap (depths_taken step depth first) (sym (behind_none front)) ∙ trail.counts [] ∙ behind_none trail.depths)
          ∙ none_above n d trail.depths sum trail.under;
    }
halts_by step depth stop first to good begins nests k n d w front left (x ∷ missing) a sum trail h some tree =
    let g : good (stop to left).tree (front ++ (stop to left).missing) = begun_front step stop first to good w front left k.leaves h (k.reads w) in
    record {
      front = front;
      split = h.split;
      begun = k.begun (stop to left).tree front (stop to left).missing g;
      unspelled = λ e spelled.
          let nothing : (stop to []).missing ≡ [] = ap (λ r. r.missing) (sym (trail.leads []) ∙ ap (run_of step stop first) (behind_none front) ∙ k.back e front spelled) in
          let both : x ∷ missing ≡ [] = sym some ∙ k.alike to left ∙ nothing in cc;
      no_further = further step depth stop first to good begins nests k w front left h;
      shallow = λ e more spelled.
          ap (first_too_deep d)
          (ap (take (length front)) (sym (k.nested e (front ++ more) spelled) ∙ trail.counts more) ∙ ap (λ i. take i (trail.depths ++ depths_taken step depth to more)) (sym trail.count)
          ∙ take-append_seam trail.depths (depths_taken step depth to more))
          ∙ none_above n d trail.depths sum trail.under;
    }

-- halting leaves what is unread
halts_here : {M A : Type 0} (step : M → Symbol → Option M) (depth : M → Symbol → ℕ) (stop : M → List Symbol → ReadingOf A) (first to : M) (good : A → List Symbol → Type 0) (begins : List Symbol → Type 0) (nests : A → List ℕ)
    → Known step depth stop first good begins nests → (n d : ℕ) (w front left : List Symbol) (o : OutcomeOf A) → n + d ≡ nesting_limit → Trail step depth stop n first front to → Halted step stop first to w front left
    → o ≡ outcome (stop to left) → EndsAs good begins nests d w o
halts_here step depth stop first to good begins nests k n d w front left o sum trail h is =
    subst (EndsAs good begins nests d w) (sym (is ∙ ap (outcome_by (stop to left).missing (stop to left).tree) (k.leaves to left)))
    (halts_by step depth stop first to good begins nests k n d w front left (stop to left).missing (stop to left).tree sum trail h refl refl)

-- a symbol that is too deep
sinks_here : {M A : Type 0} (step : M → Symbol → Option M) (depth : M → Symbol → ℕ) (stop : M → List Symbol → ReadingOf A) (first to x : M) (good : A → List Symbol → Type 0) (begins : List Symbol → Type 0) (nests : A → List ℕ)
    → Known step depth stop first good begins nests → (n d : ℕ) (w front : List Symbol) (t : Symbol) (v : List Symbol) (o : OutcomeOf A) → n + d ≡ nesting_limit → Trail step depth stop n first front to → w ≡ front ++ t ∷ v
    → step to t ≡ Some x → n < depth to t → o ≡ deep (t ∷ v) → EndsAs good begins nests d w o
sinks_here step depth stop first to x good begins nests k n d w front t v o sum trail split goes above is =
    let more : List Symbol = front ++ t ∷ [] in
    let run : run_of step stop first more ≡ stop x [] = trail.leads (t ∷ []) ∙ ap (λ y. or_halted y (λ z. run_of step stop z []) (stop to (t ∷ []))) goes in
    let g : good (stop x []).tree (more ++ (stop x []).missing) =
    begun_front step stop first x good more more [] k.leaves (record { split = sym (behind_none more); run = run }) (k.reads more) in
    subst (EndsAs good begins nests d w) (sym is)
    (record {
      front = front;
      token = t;
      rest = v;
      here = refl;
      split = split;
      begun = k.begun (stop x []).tree more (stop x []).missing g;
      sinks = λ e rest spelled.
          ap (first_too_deep d)
          (sym (k.nested e (more ++ rest) spelled) ∙ ap (depths_taken step depth first) (append_assoc front (t ∷ []) rest) ∙ trail.counts (t ∷ rest)
          ∙ ap (λ y. trail.depths ++ taken y (depth to t) (λ z. depths_taken step depth z rest)) goes)
          ∙ first_is n d (depth to t) trail.depths (depths_taken step depth x rest) sum trail.under above ∙ ap (λ i. Some i) trail.count;
    })

ends_by : {M A : Type 0} (step : M → Symbol → Option M) (depth : M → Symbol → ℕ) (stop : M → List Symbol → ReadingOf A) (first : M) (good : A → List Symbol → Type 0) (begins : List Symbol → Type 0) (nests : A → List ℕ)
    → Known step depth stop first good begins nests → (n d : ℕ) (w front left : List Symbol) (to : M) (o : OutcomeOf A) → n + d ≡ nesting_limit → w ≡ front ++ left → Trail step depth stop n first front to
    → Stuck step depth stop n to left o → EndsAs good begins nests d w o
ends_by step depth stop first good begins nests k n d w front [] to o sum split trail is =
    halts_here step depth stop first to good begins nests k n d w front [] o sum trail (record { split = split; run = ap (run_of step stop first) split ∙ trail.leads [] }) is
ends_by step depth stop first good begins nests k n d w front (t ∷ v) to o sum split trail (inl h) =
    halts_here step depth stop first to good begins nests k n d w front (t ∷ v) o sum trail
    (record { split = split; run = ap (run_of step stop first) split ∙ trail.leads (t ∷ v) ∙ ap (λ y. or_halted y (λ z. run_of step stop z v) (stop to (t ∷ v))) h.0 }) h.1
ends_by step depth stop first good begins nests k n d w front (t ∷ v) to o sum split trail (inr h) =
    sinks_here step depth stop first to h.0 good begins nests k n d w front t v o sum trail split h.1 h.2 h.3

pub walk_ends : {M A : Type 0} (step : M → Symbol → Option M) (depth : M → Symbol → ℕ) (stop : M → List Symbol → ReadingOf A) (first : M) (good : A → List Symbol → Type 0) (begins : List Symbol → Type 0) (nests : A → List ℕ)
    → Known step depth stop first good begins nests → (n d : ℕ) (w : List Symbol) → n + d ≡ nesting_limit → EndsAs good begins nests d w (walk_of step depth stop n first w)
walk_ends step depth stop first good begins nests k n d w sum =
    let r : Way step depth stop n first w (walk_of step depth stop n first w) = way step depth stop n first w in
    ends_by step depth stop first good begins nests k n d w r.front r.left r.to (walk_of step depth stop n first w) sum r.split r.trail r.stuck
