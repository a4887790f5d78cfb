-- From walks to what has been read, and the nesting that was counted.
use Rattle.std.proofs.Common.{◌≡◌, ◌≢◌, ◌≤◌, ◌<◌, ◌⊎◌, inl, inr, ℕ, suc, Bool, true, false, Option, Some, None, List, [], ◌∷◌, ◌++◌, length, refl, sym, ◌∙◌, ap, subst, ltb-true, ltb-false}
use Rattle.std.specs.Prelude.{nat_lt}
use Rattle.php_ast.specs.Symbol.{Symbol}
use Rattle.php_ast.specs.declaration.Tree.{Signature}
use Rattle.php_grammar.specs.Run.{ReadingOf, or_halted, run_of}
use Rattle.php_grammar.specs.TooDeep.{taken, depths_taken}
use Rattle.php_grammar.specs.expression.Machine.{Nothing}
use Rattle.php_grammar.specs.declaration.SignatureMachine.{SignatureState, advance_signature, halt_signature}
use Rattle.php_grammar.specs.declaration.Depth.{signature_depth_at}
use Rattle.php_parse_expression.proofs.Walked.{AllAtMost}
use Rattle.php_grammar_laws.specs.Walks.{OutcomeOf, whole, short, deep, outcome_by, outcome, stepped, walk_signature}
use Rattle.php_parse_signature.proofs.Begun.{Begun, BegunIf, begun_on}

abbrev pub run : SignatureState → List Symbol → ReadingOf (Signature Nothing)
run = run_of advance_signature halt_signature

abbrev pub depths : SignatureState → List Symbol → List ℕ
depths = depths_taken advance_signature signature_depth_at

-- Some symbols are read from one state to another, whatever follows, and none of them is nested deeper than n.
pub record Reads (n : ℕ) (m : SignatureState) (done : List Symbol) (to : SignatureState) : Type 0 where
  pub nesting : List ℕ
  pub count : length nesting ≡ length done
  pub shallow : AllAtMost n nesting
  pub leads : (z : List Symbol) → run m (done ++ z) ≡ run to z
  pub counts : (z : List Symbol) → depths m (done ++ z) ≡ nesting ++ depths to z
  pub begins : (f : List Symbol → List Symbol) → Begun m f → Begun to (λ z. f (done ++ z))

-- what stops a walk in a state, in front of symbols
abbrev pub EndsIn : ℕ → SignatureState → List Symbol → OutcomeOf (Signature Nothing) → Type 0
EndsIn n to [] o = o ≡ outcome (halt_signature to [])
EndsIn n to (t ∷ v) o =
    ((advance_signature to t ≡ None) × (o ≡ outcome (halt_signature to (t ∷ v))))
    ⊎ ((x : SignatureState) × (advance_signature to t ≡ Some x) × (n < signature_depth_at to t) × (o ≡ deep (t ∷ v)))

pub record Walks (n : ℕ) (m : SignatureState) (w : List Symbol) (o : OutcomeOf (Signature Nothing)) : Type 0 where
  pub done : List Symbol
  pub to : SignatureState
  pub left : List Symbol
  pub split : w ≡ done ++ left
  pub reads : Reads n m done to
  pub ends : EndsIn n to left o

reads_none : (n : ℕ) (m : SignatureState) → Reads n m [] m
reads_none n m = record { nesting = []; count = refl; shallow = tt; leads = λ z. refl; counts = λ z. refl; begins = λ f b. b }

pub begun_next : (o : Option SignatureState) (x : SignatureState) (f : List Symbol → List Symbol) → o ≡ Some x → BegunIf o f → Begun x f
begun_next (Some y) x f is b = let same : y ≡ x = cc in subst (λ m. Begun m f) same b
begun_next None x f is b = cc

reads_more : (n : ℕ) (m x : SignatureState) (t : Symbol) (done : List Symbol) (to : SignatureState) → advance_signature m t ≡ Some x → signature_depth_at m t ≤ n → Reads n x done to → Reads n m (t ∷ done) to
reads_more n m x t done to is low r = record {
  nesting = signature_depth_at m t ∷ r.nesting;
  count = ap (λ k. suc k) r.count;
  shallow = (low, r.shallow);
  leads = λ z. ap (λ o. or_halted o (λ y. run y (done ++ z)) (halt_signature m (t ∷ (done ++ z)))) is ∙ r.leads z;
  counts = λ z. ap (λ o. taken o (signature_depth_at m t) (λ y. depths y (done ++ z))) is ∙ ap (λ ds. signature_depth_at m t ∷ ds) (r.counts z);
  begins = λ f b. r.begins (λ z. f (t ∷ z)) (begun_next (advance_signature m t) x (λ z. f (t ∷ z)) is (begun_on m t f b));
}

walks_by : (o : Option SignatureState) (b : Bool) (n : ℕ) (m : SignatureState) (t : Symbol) (w : List Symbol) → advance_signature m t ≡ o → nat_lt n (signature_depth_at m t) ≡ b
    → ((x : SignatureState) → Walks n x w (walk_signature n x w)) → Walks n m (t ∷ w) (stepped o b (λ x. walk_signature n x w) (outcome (halt_signature m (t ∷ w))) (t ∷ w))
walks_by None b n m t w is deep_is next = record { done = []; to = m; left = t ∷ w; split = refl; reads = reads_none n m; ends = inl (is, refl) }
walks_by (Some x) true n m t w is deep_is next =
    record { done = []; to = m; left = t ∷ w; split = refl; reads = reads_none n m; ends = inr (x, is, ltb-true n (signature_depth_at m t) deep_is, refl) }
walks_by (Some x) false n m t w is deep_is next =
    let r = next x in
    record {
      done = t ∷ r.done;
      to = r.to;
      left = r.left;
      split = ap (λ v. t ∷ v) r.split;
      reads = reads_more n m x t r.done r.to is (ltb-false n (signature_depth_at m t) deep_is) r.reads;
      ends = r.ends;
    }

pub walks : (n : ℕ) (m : SignatureState) (w : List Symbol) → Walks n m w (walk_signature n m w)
walks n m [] = record { done = []; to = m; left = []; split = refl; reads = reads_none n m; ends = refl }
walks n m (t ∷ w) = walks_by (advance_signature m t) (nat_lt n (signature_depth_at m t)) n m t w refl refl (λ x. walks n x w)

-- ---- where a walk ends

whole_by : (missing : List Symbol) (tree s : Signature Nothing) (unread y : List Symbol) → outcome_by missing tree unread ≡ whole s y → (missing ≡ []) × (tree ≡ s) × (unread ≡ y)
whole_by [] tree s unread y h = (refl, cc, cc)
whole_by (t ∷ missing) tree s unread y h = absurd (cc)

short_by : (missing : List Symbol) (tree : Signature Nothing) (unread y : List Symbol) → outcome_by missing tree unread ≡ short y → (missing ≢ []) × (unread ≡ y)
short_by [] tree unread y h = absurd (cc)
short_by (t ∷ missing) tree unread y h = ((λ e. cc), cc)

not_deep : (missing : List Symbol) (tree : Signature Nothing) (unread y : List Symbol) → deep y ≡ outcome_by missing tree unread → ⊥
not_deep [] tree unread y h = cc
not_deep (t ∷ missing) tree unread y h = cc

-- the reading halts there, and counts nothing more
pub record Halted (to : SignatureState) (left : List Symbol) : Type 0 where
  pub same : run to left ≡ halt_signature to left
  pub none : depths to left ≡ []

halted_none : (to : SignatureState) (t : Symbol) (v : List Symbol) → advance_signature to t ≡ None → Halted to (t ∷ v)
halted_none to t v is = record {
  same = ap (λ o. or_halted o (λ y. run y v) (halt_signature to (t ∷ v))) is;
  none = ap (λ o. taken o (signature_depth_at to t) (λ y. depths y v)) is;
}

pub record EndsWhole (to : SignatureState) (left : List Symbol) (s : Signature Nothing) (y : List Symbol) : Type 0 where
  pub stuck : (t : Symbol) (v : List Symbol) → left ≡ t ∷ v → advance_signature to t ≡ None
  pub missing : (halt_signature to left).missing ≡ []
  pub tree : (halt_signature to left).tree ≡ s
  pub unread : (halt_signature to left).unread ≡ y

pub ends_whole : (n : ℕ) (to : SignatureState) (left : List Symbol) (s : Signature Nothing) (y : List Symbol) → EndsIn n to left (whole s y) → EndsWhole to left s y
ends_whole n to [] s y h =
    let p = whole_by (halt_signature to []).missing (halt_signature to []).tree s (halt_signature to []).unread y (sym h) in
    record { stuck = λ t v is. cc; missing = p.0; tree = p.1; unread = p.2 }
ends_whole n to (t ∷ v) s y (inl g) =
    let p = whole_by (halt_signature to (t ∷ v)).missing (halt_signature to (t ∷ v)).tree s (halt_signature to (t ∷ v)).unread y (sym g.1) in
    record { stuck = λ x u is. let same : t ≡ x = cc in ap (advance_signature to) (sym same) ∙ g.0; missing = p.0; tree = p.1; unread = p.2 }
ends_whole n to (t ∷ v) s y (inr g) = let e : whole s y ≡ deep (t ∷ v) = g.3 in absurd (cc)

pub record EndsShort (to : SignatureState) (left y : List Symbol) : Type 0 where
  pub stuck : (t : Symbol) (v : List Symbol) → left ≡ t ∷ v → advance_signature to t ≡ None
  pub missing : (halt_signature to left).missing ≢ []
  pub unread : (halt_signature to left).unread ≡ y

pub ends_short : (n : ℕ) (to : SignatureState) (left y : List Symbol) → EndsIn n to left (short y) → EndsShort to left y
ends_short n to [] y h =
    let p = short_by (halt_signature to []).missing (halt_signature to []).tree (halt_signature to []).unread y (sym h) in
    record { stuck = λ t v is. cc; missing = p.0; unread = p.1 }
ends_short n to (t ∷ v) y (inl g) =
    let p = short_by (halt_signature to (t ∷ v)).missing (halt_signature to (t ∷ v)).tree (halt_signature to (t ∷ v)).unread y (sym g.1) in
    record { stuck = λ x u is. let same : t ≡ x = cc in ap (advance_signature to) (sym same) ∙ g.0; missing = p.0; unread = p.1 }
ends_short n to (t ∷ v) y (inr g) = let e : short y ≡ deep (t ∷ v) = g.3 in absurd (cc)

pub record EndsDeep (n : ℕ) (to : SignatureState) (left y : List Symbol) : Type 0 where
  pub token : Symbol
  pub more : List Symbol
  pub is : y ≡ token ∷ more
  pub left_is : left ≡ y
  pub next : SignatureState
  pub goes : advance_signature to token ≡ Some next
  pub under : n < signature_depth_at to token

pub ends_deep : (n : ℕ) (to : SignatureState) (left y : List Symbol) → EndsIn n to left (deep y) → EndsDeep n to left y
ends_deep n to [] y h = absurd (not_deep (halt_signature to []).missing (halt_signature to []).tree (halt_signature to []).unread y h)
ends_deep n to (t ∷ v) y (inl g) = absurd (not_deep (halt_signature to (t ∷ v)).missing (halt_signature to (t ∷ v)).tree (halt_signature to (t ∷ v)).unread y g.1)
ends_deep n to (t ∷ v) y (inr g) =
    let e : y ≡ t ∷ v = cc (g.3) in
    record { token = t; more = v; is = e; left_is = sym e; next = g.0; goes = g.1; under = g.2 }
