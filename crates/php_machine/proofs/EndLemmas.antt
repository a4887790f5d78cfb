-- Runs end, and none is stuck.
use Rattle.std.proofs.Common.{◌≢◌, ℕ, zero, suc, ◌<◌, List, subst, sym, arith}
use Rattle.php_machine.specs.Moves.{Rules, Outcome, Ended, Stuck, Unnumbered, Unfinished}
use Rattle.php_machine.specs.Control.{Control, Kept}
use Rattle.php_machine.specs.Machine.{run}
use Rattle.php_machine.specs.Same.{IsOver}
use Rattle.php_machine.specs.Ends.{Falls, Keeps}

abbrev IsStuck : {D E : Type 0} → Outcome D E → Type 0
IsStuck Stuck = Unit {0}
IsStuck (Ended e d) = ⊥
IsStuck Unnumbered = ⊥
IsStuck Unfinished = ⊥

module _ {A D W E C : Type 0} (rules : Rules A D W E) (control : Control A W C) (Inv : D → List C → List (Kept C) → Type 0) where
  pub runs_end_lem : (weight : D → List C → List (Kept C) → ℕ) → Falls rules control Inv weight
      → (n : ℕ) (ns : List ℕ) (d : D) (cs : List C) (kept : List (Kept C)) → Inv d cs kept → weight d cs kept < n → IsOver (run rules control n ns d cs kept)
  runs_end_lem weight falls zero ns d cs kept inv lt = absurd (omega (arith, lt))
  runs_end_lem weight falls (suc n) ns d cs kept inv lt =
      falls (run rules control n) ns d cs kept inv (λ ms e bs held inv' less. runs_end_lem weight falls n ms e bs held inv' (omega (arith, lt, less)))

  pub never_stuck_lem : Keeps rules control Inv
      → (n : ℕ) (ns : List ℕ) (d : D) (cs : List C) (kept : List (Kept C)) → Inv d cs kept → run rules control n ns d cs kept ≢ Stuck
  never_stuck_lem keeps zero ns d cs kept inv = λ e. subst IsStuck (sym e) tt
  never_stuck_lem keeps (suc n) ns d cs kept inv =
      keeps (run rules control n) ns d cs kept inv (never_stuck_lem keeps n)
