-- Runs that may take more steps of a counted kind than others.
use Rattle.std.specs.Prelude.{◌≡◌, ℕ, Bool, List}
use Rattle.std.proofs.Common.{◌⊎◌}
use Rattle.php_machine.specs.Moves.{Move, Next, Again, Enter, Ask, Inside, Leave, Park, Wake, End, Wrong, Plan, Proceed, Complete, Make, Truth, Yes, No, NoValue, Rules}
use Rattle.php_machine.specs.Outputs.{Begins}

-- the same move, and the second one's data may go on for longer
abbrev pub SameMove : {D E : Type 0} → (D → D → Type 0) → Move D E → Move D E → Type 0
SameMove {D} More (Next d) mv = (e : D) × (mv ≡ Next e) × More d e
SameMove {D} More (Again d) mv = (e : D) × (mv ≡ Again e) × More d e
SameMove {D} More (Enter f is_free at) mv =
    (is_free_too : ℕ → Bool) × (at_too : ℕ → D) × (mv ≡ Enter f is_free_too at_too) × ((n : ℕ) → is_free n ≡ is_free_too n) × ((n : ℕ) → More (at n) (at_too n))
SameMove {D} More (Ask f is_free at) mv =
    (is_free_too : ℕ → Bool) × (at_too : ℕ → D) × (mv ≡ Ask f is_free_too at_too) × ((n : ℕ) → is_free n ≡ is_free_too n) × ((n : ℕ) → More (at n) (at_too n))
SameMove {D} More (Inside f d) mv = (e : D) × (mv ≡ Inside f e) × More d e
SameMove {D} More (Leave d) mv = (e : D) × (mv ≡ Leave e) × More d e
SameMove {D} More (Park g d) mv = (e : D) × (mv ≡ Park g e) × More d e
SameMove {D} More (Wake g d) mv = (e : D) × (mv ≡ Wake g e) × More d e
SameMove {D} More (End w d) mv = (e : D) × (mv ≡ End w e) × More d e
SameMove {D} More Wrong mv = mv ≡ Wrong

abbrev pub SamePlan : {D W E : Type 0} → (D → D → Type 0) → Plan D W E → Plan D W E → Type 0
SamePlan More Proceed plan = plan ≡ Proceed
SamePlan More (Complete why) plan = plan ≡ Complete why
SamePlan {D} {W} {E} More (Make mv) plan = (too : Move D E) × (plan ≡ Make too) × SameMove More mv too

abbrev pub SameTruth : {D : Type 0} → (D → D → Type 0) → Truth D → Truth D → Type 0
SameTruth {D} More (Yes d) truth = (e : D) × (truth ≡ Yes e) × More d e
SameTruth {D} More (No d) truth = (e : D) × (truth ≡ No e) × More d e
SameTruth {D} More NoValue truth = truth ≡ NoValue

-- the move ends the run because nothing more was allowed, with no other output than this begins with
abbrev pub Cuts : {D E : Type 0} → E → (D → List ℕ) → Move D E → List ℕ → Type 0
Cuts {D} cut out mv ys = (d : D) × (mv ≡ End cut d) × Begins (out d) ys

-- data that may go on for longer has the same output and goes on in the same way, until the other is cut
pub record Allows {A D W E : Type 0} (rules : Rules A D W E) (out : D → List ℕ) (cut : E) (More : D → D → Type 0) : Type 0 where
  pub outputs : (d e : D) → More d e → out d ≡ out e
  pub effect : (a : A) (d e : D) → More d e → Cuts cut out (rules.effect a d) (out e) ⊎ SameMove More (rules.effect a d) (rules.effect a e)
  pub plan : (d e : D) → More d e → SamePlan More (rules.plan d) (rules.plan e)
  pub truth : (d e : D) → More d e → SameTruth More (rules.truth d) (rules.truth e)
  pub landed : (d e : D) → More d e → More (rules.landed d) (rules.landed e)
  pub unserved : (d e : D) → More d e → SameMove More (rules.unserved d) (rules.unserved e)

-- a smaller allowance writes what a larger one writes first, and ends as it does unless it is cut
abbrev pub Shortened : {D E : Type 0} → (D → List ℕ) → E → (D → D → Type 0) → E → D → E → D → Type 0
Shortened out cut More w d v e = Begins (out d) (out e) × ((w ≡ cut) ⊎ ((w ≡ v) × More d e))
