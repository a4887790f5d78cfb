-- Why runs end, and why none is stuck.
use Rattle.std.specs.Prelude.{◌≡◌, ◌≢◌, ℕ, suc, ◌+◌, ◌<◌, List, [], ◌∷◌, length}
use Rattle.php_machine.specs.Moves.{Move, Next, Again, Enter, Ask, Inside, Leave, Park, Wake, End, Wrong, Proceed, Complete, Make, Truth, Yes, No, NoValue, Rules, Stuck}
use Rattle.php_machine.specs.Control.{Fetch, Silent, Act, Branch, Control, Kept}
use Rattle.std.specs.Prelude.{Option, Some, None}
use Rattle.php_machine.specs.Machine.{Rest, step}
use Rattle.php_machine.specs.Same.{IsOver}

module _ {A D W E C : Type 0} (rules : Rules A D W E) (control : Control A W C) where
  -- each step is the last one, or what follows it weighs less
  abbrev pub Falls : (D → List C → List (Kept C) → Type 0) → (D → List C → List (Kept C) → ℕ) → Type 0
  Falls Inv weight = (rest : Rest D E C) (ns : List ℕ) (d : D) (cs : List C) (kept : List (Kept C)) → Inv d cs kept
      → ((ms : List ℕ) (e : D) (bs : List C) (held : List (Kept C)) → Inv e bs held → weight e bs held < weight d cs kept → IsOver (rest ms e bs held))
      → IsOver (step rules control rest ns d cs kept)

  -- no step is stuck, and what follows it has the invariant again
  abbrev pub Keeps : (D → List C → List (Kept C) → Type 0) → Type 0
  Keeps Inv = (rest : Rest D E C) (ns : List ℕ) (d : D) (cs : List C) (kept : List (Kept C)) → Inv d cs kept
      → ((ms : List ℕ) (e : D) (bs : List C) (held : List (Kept C)) → Inv e bs held → rest ms e bs held ≢ Stuck)
      → step rules control rest ns d cs kept ≢ Stuck

-- weights by frames

-- what the frames weigh; each one's weight goes by the number of those below it
abbrev pub stack_weight : {C : Type 0} → (ℕ → C → ℕ) → List C → ℕ
stack_weight weigh [] = 0
stack_weight weigh (c ∷ cs) = weigh (length cs) c + stack_weight weigh cs

abbrev pub kept_weight : {C : Type 0} → (C → ℕ) → List (Kept C) → ℕ
kept_weight weigh_kept [] = 0
kept_weight weigh_kept (k ∷ ks) = weigh_kept k.control + kept_weight weigh_kept ks

-- what data, frames and kept frames weigh together
abbrev pub total_weight : {D C : Type 0} → (D → ℕ) → (ℕ → C → ℕ) → (C → ℕ) → D → List C → List (Kept C) → ℕ
total_weight weigh_data weigh weigh_kept d cs kept = weigh_data d + (stack_weight weigh cs + kept_weight weigh_kept kept)

-- the data has so many frames
abbrev pub HasFrames : {D C : Type 0} → (D → ℕ) → D → List C → List (Kept C) → Type 0
HasFrames depth d cs kept = depth d ≡ length cs

module _ {A D W E C : Type 0} (rules : Rules A D W E) (control : Control A W C) (depth : D → ℕ) (weigh_data : D → ℕ) (weigh : ℕ → C → ℕ) (weigh_kept : C → ℕ) where
  -- a move of a frame over i others leaves less than there was of the data and the frame
  abbrev pub Lowers : ℕ → ℕ → C → C → Move D E → Type 0
  Lowers have i here next (Next d) = (depth d ≡ suc i) × (weigh_data d + weigh i next < have)
  Lowers have i here next (Again d) = (depth d ≡ suc i) × (weigh_data d + weigh i here < have)
  Lowers have i here next (Enter f is_free at) = (n : ℕ) → (depth (at n) ≡ suc (suc i)) × (weigh_data (at n) + (weigh i next + weigh (suc i) (control.start f)) < have)
  Lowers have i here next (Ask f is_free at) = (n : ℕ) → (depth (at n) ≡ suc (suc i)) × (weigh_data (at n) + (weigh i here + weigh (suc i) (control.start f)) < have)
  Lowers have i here next (Inside f d) = (depth d ≡ suc i) × (weigh_data d + weigh i (control.inside f here) < have)
  Lowers have i here next (Leave d) = (depth d ≡ i) × (weigh_data d < have)
  Lowers have i here next (Park g d) = (depth d ≡ i) × (weigh_data d + weigh_kept next < have)
  Lowers have i here next (Wake g d) = (depth d ≡ suc (suc i)) × ((c : C) → weigh_data d + (weigh i next + weigh (suc i) c) < have + weigh_kept c)
  Lowers have i here next (End e d) = Unit {0}
  Lowers have i here next Wrong = Unit {0}

  abbrev pub LowersTruth : ℕ → ℕ → C → C → Truth D → Type 0
  LowersTruth have i a b (Yes d) = (depth d ≡ suc i) × (weigh_data d + weigh i a < have)
  LowersTruth have i a b (No d) = (depth d ≡ suc i) × (weigh_data d + weigh i b < have)
  LowersTruth have i a b NoValue = Unit {0}

  abbrev pub LowersFetch : D → ℕ → C → Fetch A C → Type 0
  LowersFetch d i c (Silent next) = weigh i next < weigh i c
  LowersFetch d i c (Act x next) = Lowers (weigh_data d + weigh i c) i c next (rules.effect x d)
  LowersFetch d i c (Branch a b) = LowersTruth (weigh_data d + weigh i c) i a b (rules.truth d)

  abbrev pub LowersServe : D → ℕ → C → Option C → Type 0
  LowersServe d i c (Some a) = (depth (rules.landed d) ≡ suc i) × (weigh_data (rules.landed d) + weigh i a < weigh_data d + weigh i c)
  LowersServe d i c None = Lowers (weigh_data d + weigh i c) i c c (rules.unserved d)

  -- each step of a frame over i others lowers the weight
  pub record FallsByFrames : Type 0 where
    pub fetches : (d : D) (i : ℕ) (c : C) → depth d ≡ suc i → rules.plan d ≡ Proceed → LowersFetch d i c (control.fetch c)
    pub serves : (d : D) (i : ℕ) (c : C) (why : W) → depth d ≡ suc i → rules.plan d ≡ Complete why → LowersServe d i c (control.serve why c)
    pub makes : (d : D) (i : ℕ) (c : C) (mv : Move D E) → depth d ≡ suc i → rules.plan d ≡ Make mv → Lowers (weigh_data d + weigh i c) i c c mv
