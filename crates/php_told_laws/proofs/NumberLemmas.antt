-- A run that needs no number for a frame is the same whatever the numbers are.
use Rattle.std.proofs.Common.{◌≡◌, ◌≢◌, ℕ, zero, suc, List, [], ◌∷◌, Option, Some, None}
use Rattle.php_machine.specs.Moves.{Move, Next, Again, Enter, Ask, Inside, Leave, Park, Wake, End, Wrong, Plan, Proceed, Complete, Make, Truth, Yes, No, NoValue, Rules, Outcome, Unnumbered}
use Rattle.php_machine.specs.Control.{Fetch, Silent, Act, Branch, Control, Kept, Taken, take_out}
use Rattle.php_machine.specs.Machine.{Rest, woken, moved, chosen, fetched, served, stepped, step, run}

module _ {A D W E C : Type 0} (rules : Rules A D W E) (control : Control A W C) (o : Outcome D E) (numbered : Unnumbered ≢ o) (ns : List ℕ) where
  -- where the first comes to this under no numbers, the second does under these
  abbrev Follows : Rest D E C → Rest D E C → Type 0
  Follows f g = (d : D) (cs : List C) (kept : List (Kept C)) → f [] d cs kept ≡ o → g ns d cs kept ≡ o

  module _ (f g : Rest D E C) (follows : Follows f g) where
    woken_follows : (d : D) (t : Option (Taken C)) (cs : List C) → woken rules control f [] d t cs ≡ o → woken rules control g ns d t cs ≡ o
    woken_follows d None cs e = e
    woken_follows d (Some t) cs e = follows d (t.control ∷ cs) t.others e

    moved_follows : (move : Move D E) (here next : C) (cs : List C) (kept : List (Kept C)) → moved rules control f [] move here next cs kept ≡ o → moved rules control g ns move here next cs kept ≡ o
    moved_follows (Next d) here next cs kept e = follows d (next ∷ cs) kept e
    moved_follows (Again d) here next cs kept e = follows d (here ∷ cs) kept e
    moved_follows (Enter k is_free at) here next cs kept e = absurd (numbered e)
    moved_follows (Ask k is_free at) here next cs kept e = absurd (numbered e)
    moved_follows (Inside k d) here next cs kept e = follows d (control.inside k here ∷ cs) kept e
    moved_follows (Leave d) here next cs kept e = follows d cs kept e
    moved_follows (Park k d) here next cs kept e = follows d cs (record { object = k; control = next } ∷ kept) e
    moved_follows (Wake k d) here next cs kept e = woken_follows d (take_out k kept) (next ∷ cs) e
    moved_follows (End w d) here next cs kept e = e
    moved_follows Wrong here next cs kept e = e

    chosen_follows : (w : Truth D) (a b : C) (cs : List C) (kept : List (Kept C)) → chosen rules control f [] w a b cs kept ≡ o → chosen rules control g ns w a b cs kept ≡ o
    chosen_follows (Yes d) a b cs kept e = follows d (a ∷ cs) kept e
    chosen_follows (No d) a b cs kept e = follows d (b ∷ cs) kept e
    chosen_follows NoValue a b cs kept e = e

    fetched_follows : (x : Fetch A C) (d : D) (c : C) (cs : List C) (kept : List (Kept C)) → fetched rules control f [] x d c cs kept ≡ o → fetched rules control g ns x d c cs kept ≡ o
    fetched_follows (Silent a) d c cs kept e = follows d (a ∷ cs) kept e
    fetched_follows (Act x a) d c cs kept e = moved_follows (rules.effect x d) c a cs kept e
    fetched_follows (Branch a b) d c cs kept e = chosen_follows (rules.truth d) a b cs kept e

    served_follows : (x : Option C) (d : D) (c : C) (cs : List C) (kept : List (Kept C)) → served rules control f [] x d c cs kept ≡ o → served rules control g ns x d c cs kept ≡ o
    served_follows (Some a) d c cs kept e = follows (rules.landed d) (a ∷ cs) kept e
    served_follows None d c cs kept e = moved_follows (rules.unserved d) c c cs kept e

    stepped_follows : (plan : Plan D W E) (d : D) (c : C) (cs : List C) (kept : List (Kept C)) → stepped rules control f [] plan d c cs kept ≡ o → stepped rules control g ns plan d c cs kept ≡ o
    stepped_follows Proceed d c cs kept e = fetched_follows (control.fetch c) d c cs kept e
    stepped_follows (Complete why) d c cs kept e = served_follows (control.serve why c) d c cs kept e
    stepped_follows (Make move) d c cs kept e = moved_follows move c c cs kept e

    step_follows : Follows (step rules control f) (step rules control g)
    step_follows d [] kept e = e
    step_follows d (c ∷ cs) kept e = stepped_follows (rules.plan d) d c cs kept e

  pub run_follows : (n : ℕ) (d : D) (cs : List C) (kept : List (Kept C)) → run rules control n [] d cs kept ≡ o → run rules control n ns d cs kept ≡ o
  run_follows zero d cs kept e = e
  run_follows (suc n) d cs kept e = step_follows (run rules control n) (run rules control n) (run_follows n) d cs kept e
