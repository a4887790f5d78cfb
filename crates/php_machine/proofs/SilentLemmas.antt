-- Silent steps change nothing of how a run is over.
use Rattle.std.proofs.Common.{◌≡◌, ℕ, zero, suc, ◌<◌, List, ◌∷◌, sym, ap, ◌∙◌, subst, arith}
use Rattle.php_machine.specs.Moves.{Proceed, Rules, Outcome}
use Rattle.php_machine.specs.Control.{Silent, Control, Kept}
use Rattle.php_machine.specs.Machine.{fetched, stepped, run}
use Rattle.php_machine.specs.Same.{Comes, IsOver}

module _ {A D W E C : Type 0} (rules : Rules A D W E) (control : Control A W C) where
  -- where the newest frame proceeds, a step is what it does next
  pub proceeds : (n : ℕ) (ns : List ℕ) (d : D) (c : C) (cs : List C) (kept : List (Kept C)) → rules.plan d ≡ Proceed
      → run rules control (suc n) ns d (c ∷ cs) kept ≡ fetched rules control (run rules control n) ns (control.fetch c) d c cs kept
  proceeds n ns d c cs kept e = ap (λ pl. stepped rules control (run rules control n) ns pl d c cs kept) e

  -- a silent step leads to the next place
  pub goes_silently : (n : ℕ) (ns : List ℕ) (d : D) (c a : C) (cs : List C) (kept : List (Kept C)) → rules.plan d ≡ Proceed → control.fetch c ≡ Silent a
      → run rules control (suc n) ns d (c ∷ cs) kept ≡ run rules control n ns d (a ∷ cs) kept
  goes_silently n ns d c a cs kept e f =
      proceeds n ns d c cs kept e ∙ ap (λ g. fetched rules control (run rules control n) ns g d c cs kept) f

  -- a run that is over has gone through the silent steps, and then on
  pub past_silent : (i n : ℕ) (c a : C) (ns : List ℕ) (d : D) (cs : List C) (kept : List (Kept C)) (o : Outcome D E)
      → rules.plan d ≡ Proceed → IsOver o → Comes control i c a → run rules control n ns d (c ∷ cs) kept ≡ o
      → (m : ℕ) × (m < n) × (fetched rules control (run rules control m) ns (control.fetch a) d a cs kept ≡ o)
  past_silent i zero c a ns d cs kept o e over comes r = absurd (subst IsOver (sym r) over)
  past_silent zero (suc n) c a ns d cs kept o e over comes r =
      subst (λ x. (m : ℕ) × (m < suc n) × (fetched rules control (run rules control m) ns (control.fetch x) d x cs kept ≡ o)) comes
      (n, omega arith, sym (proceeds n ns d c cs kept e) ∙ r)
  past_silent (suc i) (suc n) c a ns d cs kept o e over comes r =
      let t = past_silent i n comes.0 a ns d cs kept o e over comes.2 (sym (goes_silently n ns d c comes.0 cs kept e comes.1) ∙ r) in
      (t.0, omega (arith, t.1), t.2)

  -- and what goes on so can begin with them
  pub with_silent : (i n : ℕ) (c a : C) (ns : List ℕ) (d : D) (cs : List C) (kept : List (Kept C)) (o : Outcome D E)
      → rules.plan d ≡ Proceed → Comes control i c a → fetched rules control (run rules control n) ns (control.fetch a) d a cs kept ≡ o
      → (m : ℕ) × (run rules control m ns d (c ∷ cs) kept ≡ o)
  with_silent zero n c a ns d cs kept o e comes r =
      (suc n, proceeds n ns d c cs kept e ∙ subst (λ x. fetched rules control (run rules control n) ns (control.fetch x) d x cs kept ≡ o) (sym comes) r)
  with_silent (suc i) n c a ns d cs kept o e comes r =
      let t = with_silent i n comes.0 a ns d cs kept o e comes.2 r in
      (suc t.0, goes_silently t.0 ns d c comes.0 cs kept e comes.1 ∙ t.1)
