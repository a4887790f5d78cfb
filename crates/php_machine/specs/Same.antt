-- When two kinds of control have the same runs.
use Rattle.std.specs.Prelude.{◌≡◌, ℕ, zero, suc, List, Option, Some, None}
use Rattle.php_machine.specs.Moves.{Rules, Outcome, Ended, Stuck, Unnumbered, Unfinished}
use Rattle.php_machine.specs.Control.{Fetch, Silent, Act, Branch, Control}
use Rattle.php_machine.specs.Machine.{runs}

-- from here the control comes there in so many silent steps
abbrev pub Comes : {A W C : Type 0} → Control A W C → ℕ → C → C → Type 0
Comes control zero here there = here ≡ there
Comes {A} {W} {C} control (suc n) here there = (next : C) × (control.fetch here ≡ Silent next) × Comes control n next there

module _ {A C B : Type 0} (R : C → B → Type 0) where
  -- both do the same, and go on at related controls; silence is left out
  abbrev pub SameFetch : Fetch A C → Fetch A B → Type 0
  SameFetch (Act x c) (Act y b) = (x ≡ y) × R c b
  SameFetch (Branch c e) (Branch b f) = R c b × R e f
  SameFetch _ _ = ⊥

-- both serve it, at related controls, or neither does
abbrev pub SameServe : {C B : Type 0} → (C → B → Type 0) → Option C → Option B → Type 0
SameServe R None None = Unit {0}
SameServe R (Some c) (Some b) = R c b
SameServe R _ _ = ⊥

module _ {A W C B : Type 0} (first : Control A W C) (second : Control A W B) (R : C → B → Type 0) where
  -- after some silent steps of each, two controls are related and do the same
  pub record Meet (c : C) (b : B) : Type 0 where
    pub silent_first : ℕ
    pub silent_second : ℕ
    pub there : C
    pub here : B
    pub first_comes : Comes first silent_first c there
    pub second_comes : Comes second silent_second b here
    pub related : R there here
    pub same : SameFetch R (first.fetch there) (second.fetch here)

  -- related controls go on as related controls
  pub record Agree : Type 0 where
    pub starts : (f : ℕ) → R (first.start f) (second.start f)
    pub insides : (f : ℕ) (c : C) (b : B) → R c b → R (first.inside f c) (second.inside f b)
    pub fetches : (c : C) (b : B) → R c b → Meet c b
    pub serves : (why : W) (c : C) (b : B) → R c b → SameServe R (first.serve why c) (second.serve why b)

-- no more steps are needed
abbrev pub IsOver : {D E : Type 0} → Outcome D E → Type 0
IsOver (Ended e d) = Unit {0}
IsOver Stuck = Unit {0}
IsOver Unnumbered = Unit {0}
IsOver Unfinished = ⊥

module _ {A D W E C B : Type 0} (rules : Rules A D W E) (first : Control A W C) (second : Control A W B) where
  -- from any data, under any numbers for the frames, each run of either is over as one of the other is
  pub record SameRuns : Type 0 where
    pub there : (ns : List ℕ) (d : D) (o : Outcome D E) → IsOver o → (n : ℕ) → runs rules first n ns d ≡ o → (m : ℕ) × (runs rules second m ns d ≡ o)
    pub back : (ns : List ℕ) (d : D) (o : Outcome D E) → IsOver o → (n : ℕ) → runs rules second n ns d ≡ o → (m : ℕ) × (runs rules first m ns d ≡ o)
