-- From walks to readings and the nesting that they count.
use Rattle.std.proofs.Common.{◌≡◌, ◌≢◌, ◌≤◌, ◌<◌, ◌⊎◌, inl, inr, ℕ, suc, Bool, true, false, Option, Some, None, List, [], ◌∷◌, ◌++◌, length, refl, ◌∙◌, ap, ltb-true, ltb-false}
use Rattle.std.specs.Prelude.{nat_lt}
use Rattle.php_ast.specs.Symbol.{Symbol}
use Rattle.php_grammar.specs.expression.Machine.{Form, OpenForms, State, past_static, past_yield, instance_of_open, advance, halt, halt_yield, is_last, missing_end, or_halt, read_from, Reading}
use Rattle.php_grammar.specs.expression.Depth.{depth_at, depths_read, noting}
use Rattle.php_parse_operands.specs.Walk.{Outcome, whole, short, deep, outcome_of, outcome, stepped, walk}

abbrev pub AllAtMost : ℕ → List ℕ → Type 0
AllAtMost n [] = Unit {0}
AllAtMost n (d ∷ ds) = (d ≤ n) × AllAtMost n ds

-- Some symbols are read from one state to another, whatever follows, and none of them is nested deeper than n.
pub record Reads (n : ℕ) (m : State) (done : List Symbol) (to : State) : Type 0 where
  pub depths : List ℕ
  pub count : length depths ≡ length done
  pub shallow : AllAtMost n depths
  pub leads : (z : List Symbol) → read_from m (done ++ z) ≡ read_from to z
  pub counts : (z : List Symbol) → depths_read m (done ++ z) ≡ depths ++ depths_read to z

-- what stops a walk in a state, in front of symbols
abbrev pub EndsIn : ℕ → State → List Symbol → Outcome → Type 0
EndsIn n to [] o = o ≡ outcome (halt to [])
EndsIn n to (t ∷ v) o = ((advance to t ≡ None) × (o ≡ outcome (halt to (t ∷ v)))) ⊎ ((x : State) × (advance to t ≡ Some x) × (n < depth_at to t) × (o ≡ deep (t ∷ v)))

pub record Walks (n : ℕ) (m : State) (w : List Symbol) (o : Outcome) : Type 0 where
  pub done : List Symbol
  pub to : State
  pub left : List Symbol
  pub split : w ≡ done ++ left
  pub reads : Reads n m done to
  pub ends : EndsIn n to left o

reads_none : (n : ℕ) (m : State) → Reads n m [] m
reads_none n m = record { depths = []; count = refl; shallow = tt; leads = λ z. refl; counts = λ z. refl }

reads_more : (n : ℕ) (m x : State) (t : Symbol) (done : List Symbol) (to : State) → advance m t ≡ Some x → depth_at m t ≤ n → Reads n x done to → Reads n m (t ∷ done) to
reads_more n m x t done to is low r = record {
  depths = depth_at m t ∷ r.depths;
  count = ap (λ k. suc k) r.count;
  shallow = (low, r.shallow);
  leads = λ z. ap (λ o. or_halt o (λ y. read_from y (done ++ z)) (halt m (t ∷ (done ++ z)))) is ∙ r.leads z;
  counts = λ z. ap (λ o. noting o (depth_at m t) (λ y. depths_read y (done ++ z))) is ∙ ap (λ ds. depth_at m t ∷ ds) (r.counts z);
}

walks_by : (o : Option State) (b : Bool) (n : ℕ) (m : State) (t : Symbol) (w : List Symbol) → advance m t ≡ o → nat_lt n (depth_at m t) ≡ b → ((x : State) → Walks n x w (walk n x w))
    → Walks n m (t ∷ w) (stepped o b (λ x. walk n x w) (outcome (halt m (t ∷ w))) (t ∷ w))
walks_by None b n m t w is deep_is below = record { done = []; to = m; left = t ∷ w; split = refl; reads = reads_none n m; ends = inl (is, refl) }
walks_by (Some x) true n m t w is deep_is below = record { done = []; to = m; left = t ∷ w; split = refl; reads = reads_none n m; ends = inr (x, is, ltb-true n (depth_at m t) deep_is, refl) }
walks_by (Some x) false n m t w is deep_is below =
    let r = below x in
    record { done = t ∷ r.done; to = r.to; left = r.left; split = ap (λ v. t ∷ v) r.split; reads = reads_more n m x t r.done r.to is (ltb-false n (depth_at m t) deep_is) r.reads; ends = r.ends }

pub walks : (n : ℕ) (m : State) (w : List Symbol) → Walks n m w (walk n m w)
walks n m [] = record { done = []; to = m; left = []; split = refl; reads = reads_none n m; ends = refl }
walks n m (t ∷ w) = walks_by (advance m t) (nat_lt n (depth_at m t)) n m t w refl refl (λ x. walks n x w)

-- ---- where a reading halts, nothing of what is left is read

unread_yield : (b : Bool) (s : OpenForms) (w : List Symbol) → (halt_yield b s w).unread ≡ w
unread_yield true s w = refl
unread_yield false s w = refl

pub halt_unread : (m : State) (w : List Symbol) → (halt m w).unread ≡ w
halt_unread (past_static (instance_of_open l ∷ s)) w = refl
halt_unread (past_yield s) w = unread_yield (is_last w (missing_end s)) s w
halt_unread _ w = refl

outcome_whole_by : (missing : List Symbol) (tree f : Form) (unread y : List Symbol) → outcome_of missing tree unread ≡ whole f y → (missing ≡ []) × (tree ≡ f) × (unread ≡ y)
outcome_whole_by [] tree f unread y h = (refl, cc, cc)
outcome_whole_by (t ∷ missing) tree f unread y h = absurd (cc)

outcome_short_by : (missing : List Symbol) (tree : Form) (unread y : List Symbol) → outcome_of missing tree unread ≡ short y → (missing ≢ []) × (unread ≡ y)
outcome_short_by [] tree unread y h = absurd (cc)
outcome_short_by (t ∷ missing) tree unread y h = ((λ e. cc), cc)

pub outcome_whole : (r : Reading) (f : Form) (y : List Symbol) → outcome r ≡ whole f y → (r.missing ≡ []) × (r.tree ≡ f) × (r.unread ≡ y)
outcome_whole r f y h = outcome_whole_by r.missing r.tree f r.unread y h

pub outcome_short : (r : Reading) (y : List Symbol) → outcome r ≡ short y → (r.missing ≢ []) × (r.unread ≡ y)
outcome_short r y h = outcome_short_by r.missing r.tree r.unread y h
