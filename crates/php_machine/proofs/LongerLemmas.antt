-- More steps change nothing of a run that is over.
use Rattle.std.proofs.Common.{◌≡◌, ℕ, zero, suc, ◌≤◌, List, [], ◌∷◌, Option, Some, None, sym, ◌∙◌, subst, ⊎_elim, arith}
use Rattle.std.specs.Prelude.{Bool, true, false, cond}
use Rattle.std.proofs.lemmas.Bool.{cases_lt}
use Rattle.php_machine.specs.Moves.{Move, Next, Again, Enter, Ask, Inside, Leave, Park, Wake, End, Wrong, Plan, Proceed, Complete, Make, Truth, Yes, No, NoValue, Rules, Outcome, Unnumbered}
use Rattle.php_machine.specs.Control.{Fetch, Silent, Act, Branch, Control, Kept, Taken, take_out}
use Rattle.php_machine.specs.Machine.{Rest, begun, woken, moved, chosen, fetched, served, stepped, step, run}
use Rattle.php_machine.specs.Same.{IsOver}

module _ {A D W E C : Type 0} (rules : Rules A D W E) (control : Control A W C) where
  -- where the first is over, the second is over with the same outcome
  abbrev pub Extends : Rest D E C → Rest D E C → Type 0
  Extends f g = (ns : List ℕ) (d : D) (cs : List C) (kept : List (Kept C)) (o : Outcome D E) → IsOver o → f ns d cs kept ≡ o → g ns d cs kept ≡ o

  module _ (f g : Rest D E C) (extends : Extends f g) (o : Outcome D E) (over : IsOver o) where
    begun_if_extends : (free : Bool) (ns : List ℕ) (d : D) (cs : List C) (kept : List (Kept C)) → cond free (f ns d cs kept) Unnumbered ≡ o → cond free (g ns d cs kept) Unnumbered ≡ o
    begun_if_extends true ns d cs kept e = extends ns d cs kept o over e
    begun_if_extends false ns d cs kept e = e

    begun_extends : (ns : List ℕ) (is_free : ℕ → Bool) (at : ℕ → D) (cs : List C) (kept : List (Kept C)) → begun rules control f ns is_free at cs kept ≡ o → begun rules control g ns is_free at cs kept ≡ o
    begun_extends [] is_free at cs kept e = e
    begun_extends (n ∷ ns) is_free at cs kept e = begun_if_extends (is_free n) ns (at n) cs kept e

    woken_extends : (ns : List ℕ) (d : D) (t : Option (Taken C)) (cs : List C) → woken rules control f ns d t cs ≡ o → woken rules control g ns d t cs ≡ o
    woken_extends ns d None cs e = e
    woken_extends ns d (Some t) cs e = extends ns d (t.control ∷ cs) t.others o over e

    moved_extends : (ns : List ℕ) (move : Move D E) (here next : C) (cs : List C) (kept : List (Kept C)) → moved rules control f ns move here next cs kept ≡ o → moved rules control g ns move here next cs kept ≡ o
    moved_extends ns (Next d) here next cs kept e = extends ns d (next ∷ cs) kept o over e
    moved_extends ns (Again d) here next cs kept e = extends ns d (here ∷ cs) kept o over e
    moved_extends ns (Enter k is_free at) here next cs kept e = begun_extends ns is_free at (control.start k ∷ next ∷ cs) kept e
    moved_extends ns (Ask k is_free at) here next cs kept e = begun_extends ns is_free at (control.start k ∷ here ∷ cs) kept e
    moved_extends ns (Inside k d) here next cs kept e = extends ns d (control.inside k here ∷ cs) kept o over e
    moved_extends ns (Leave d) here next cs kept e = extends ns d cs kept o over e
    moved_extends ns (Park k d) here next cs kept e = extends ns d cs (record { object = k; control = next } ∷ kept) o over e
    moved_extends ns (Wake k d) here next cs kept e = woken_extends ns d (take_out k kept) (next ∷ cs) e
    moved_extends ns (End w d) here next cs kept e = e
    moved_extends ns Wrong here next cs kept e = e

    chosen_extends : (ns : List ℕ) (w : Truth D) (a b : C) (cs : List C) (kept : List (Kept C)) → chosen rules control f ns w a b cs kept ≡ o → chosen rules control g ns w a b cs kept ≡ o
    chosen_extends ns (Yes d) a b cs kept e = extends ns d (a ∷ cs) kept o over e
    chosen_extends ns (No d) a b cs kept e = extends ns d (b ∷ cs) kept o over e
    chosen_extends ns NoValue a b cs kept e = e

    fetched_extends : (ns : List ℕ) (x : Fetch A C) (d : D) (c : C) (cs : List C) (kept : List (Kept C)) → fetched rules control f ns x d c cs kept ≡ o → fetched rules control g ns x d c cs kept ≡ o
    fetched_extends ns (Silent a) d c cs kept e = extends ns d (a ∷ cs) kept o over e
    fetched_extends ns (Act x a) d c cs kept e = moved_extends ns (rules.effect x d) c a cs kept e
    fetched_extends ns (Branch a b) d c cs kept e = chosen_extends ns (rules.truth d) a b cs kept e

    served_extends : (ns : List ℕ) (x : Option C) (d : D) (c : C) (cs : List C) (kept : List (Kept C)) → served rules control f ns x d c cs kept ≡ o → served rules control g ns x d c cs kept ≡ o
    served_extends ns (Some a) d c cs kept e = extends ns (rules.landed d) (a ∷ cs) kept o over e
    served_extends ns None d c cs kept e = moved_extends ns (rules.unserved d) c c cs kept e

    stepped_extends : (ns : List ℕ) (plan : Plan D W E) (d : D) (c : C) (cs : List C) (kept : List (Kept C)) → stepped rules control f ns plan d c cs kept ≡ o → stepped rules control g ns plan d c cs kept ≡ o
    stepped_extends ns Proceed d c cs kept e = fetched_extends ns (control.fetch c) d c cs kept e
    stepped_extends ns (Complete why) d c cs kept e = served_extends ns (control.serve why c) d c cs kept e
    stepped_extends ns (Make move) d c cs kept e = moved_extends ns move c c cs kept e

    step_extends : (ns : List ℕ) (d : D) (cs : List C) (kept : List (Kept C)) → step rules control f ns d cs kept ≡ o → step rules control g ns d cs kept ≡ o
    step_extends ns d [] kept e = e
    step_extends ns d (c ∷ cs) kept e = stepped_extends ns (rules.plan d) d c cs kept e

  pub longer : (n m : ℕ) → n ≤ m → Extends (run rules control n) (run rules control m)
  longer zero m le ns d cs kept o over e = absurd (subst IsOver (sym e) over)
  longer (suc n) zero le ns d cs kept o over e = absurd (omega (arith, le))
  longer (suc n) (suc m) le ns d cs kept o over e = step_extends (run rules control n) (run rules control m) (longer n m (omega (arith, le))) o over ns d cs kept e

  pub one_result_lem : (n m : ℕ) (ns : List ℕ) (d : D) (cs : List C) (kept : List (Kept C)) (o u : Outcome D E) → IsOver o → IsOver u
      → run rules control n ns d cs kept ≡ o → run rules control m ns d cs kept ≡ u → o ≡ u
  one_result_lem n m ns d cs kept o u over over' e e' =
      ⊎_elim
      (λ lt. sym (longer n m (omega (arith, lt)) ns d cs kept o over e) ∙ e')
      (λ le. sym e ∙ longer m n le ns d cs kept u over' e')
      (cases_lt n m)
