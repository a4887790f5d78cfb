-- Outputs only grow.
use Rattle.std.proofs.Common.{◌≡◌, ℕ, zero, suc, List, [], ◌∷◌, ◌++◌, Option, Some, None, refl, ap, ◌∙◌}
use Rattle.std.specs.Prelude.{Bool, true, false, cond}
use Rattle.std.proofs.Common.{rules as list_rules}
use Rattle.std.proofs.lemmas.List.{append_assoc}
use Rattle.php_machine.specs.Moves.{Move, Next, Again, Enter, Ask, Inside, Leave, Park, Wake, End, Wrong, Plan, Proceed, Complete, Make, Truth, Yes, No, NoValue, Rules, Outcome, Ended, Stuck, Unnumbered, Unfinished}
use Rattle.php_machine.specs.Control.{Fetch, Silent, Act, Branch, Control, Kept, Taken, take_out}
use Rattle.php_machine.specs.Machine.{Rest, begun, woken, moved, chosen, fetched, served, stepped, run}
use Rattle.php_machine.specs.Outputs.{Begins, MoveBegins, TruthBegins, OnlyWrites}

pub Begins_refl : (xs : List ℕ) → Begins xs xs
Begins_refl xs = ([], search list_rules)

pub Begins_trans : (xs ys zs : List ℕ) → Begins xs ys → Begins ys zs → Begins xs zs
Begins_trans xs ys zs h k = (h.0 ++ k.0, k.1 ∙ ap (λ w. w ++ k.0) h.1 ∙ append_assoc xs h.0 k.0)

-- where the run has ended, its output begins with this
abbrev pub OutcomeBegins : {D E : Type 0} → (D → List ℕ) → List ℕ → Outcome D E → Type 0
OutcomeBegins out xs (Ended e d) = Begins xs (out d)
OutcomeBegins out xs Stuck = Unit {0}
OutcomeBegins out xs Unnumbered = Unit {0}
OutcomeBegins out xs Unfinished = Unit {0}

module _ {A D W E C : Type 0} (rules : Rules A D W E) (control : Control A W C) (out : D → List ℕ) where
  OutcomeBegins_trans : (xs ys : List ℕ) (o : Outcome D E) → Begins xs ys → OutcomeBegins out ys o → OutcomeBegins out xs o
  OutcomeBegins_trans xs ys (Ended e d) h k = Begins_trans xs ys (out d) h k
  OutcomeBegins_trans xs ys Stuck h k = tt
  OutcomeBegins_trans xs ys Unnumbered h k = tt
  OutcomeBegins_trans xs ys Unfinished h k = tt

  -- from any data, what comes at the end begins with what was written so far
  abbrev Writes : Rest D E C → Type 0
  Writes rest = (ns : List ℕ) (d : D) (cs : List C) (kept : List (Kept C)) → OutcomeBegins out (out d) (rest ns d cs kept)

  module _ (rest : Rest D E C) (writes : Writes rest) (xs : List ℕ) where
    on : (ns : List ℕ) (d : D) (cs : List C) (kept : List (Kept C)) → Begins xs (out d) → OutcomeBegins out xs (rest ns d cs kept)
    on ns d cs kept h = OutcomeBegins_trans xs (out d) (rest ns d cs kept) h (writes ns d cs kept)

    begun_if_writes : (free : Bool) (ns : List ℕ) (d : D) (cs : List C) (kept : List (Kept C)) → Begins xs (out d) → OutcomeBegins out xs (cond free (rest ns d cs kept) Unnumbered)
    begun_if_writes true ns d cs kept h = on ns d cs kept h
    begun_if_writes false ns d cs kept h = tt

    begun_writes : (ns : List ℕ) (is_free : ℕ → Bool) (at : ℕ → D) (cs : List C) (kept : List (Kept C)) → ((n : ℕ) → Begins xs (out (at n))) → OutcomeBegins out xs (begun rules control rest ns is_free at cs kept)
    begun_writes [] is_free at cs kept h = tt
    begun_writes (n ∷ ns) is_free at cs kept h = begun_if_writes (is_free n) ns (at n) cs kept (h n)

    woken_writes : (ns : List ℕ) (d : D) (t : Option (Taken C)) (cs : List C) → Begins xs (out d) → OutcomeBegins out xs (woken rules control rest ns d t cs)
    woken_writes ns d None cs h = tt
    woken_writes ns d (Some t) cs h = on ns d (t.control ∷ cs) t.others h

    pub moved_writes : (ns : List ℕ) (mv : Move D E) (here next : C) (cs : List C) (kept : List (Kept C)) → MoveBegins out xs mv → OutcomeBegins out xs (moved rules control rest ns mv here next cs kept)
    moved_writes ns (Next d) here next cs kept h = on ns d (next ∷ cs) kept h
    moved_writes ns (Again d) here next cs kept h = on ns d (here ∷ cs) kept h
    moved_writes ns (Enter f is_free at) here next cs kept h = begun_writes ns is_free at (control.start f ∷ next ∷ cs) kept h
    moved_writes ns (Ask f is_free at) here next cs kept h = begun_writes ns is_free at (control.start f ∷ here ∷ cs) kept h
    moved_writes ns (Inside f d) here next cs kept h = on ns d (control.inside f here ∷ cs) kept h
    moved_writes ns (Leave d) here next cs kept h = on ns d cs kept h
    moved_writes ns (Park g d) here next cs kept h = on ns d cs (record { object = g; control = next } ∷ kept) h
    moved_writes ns (Wake g d) here next cs kept h = woken_writes ns d (take_out g kept) (next ∷ cs) h
    moved_writes ns (End e d) here next cs kept h = h
    moved_writes ns Wrong here next cs kept h = tt

    chosen_writes : (ns : List ℕ) (w : Truth D) (a b : C) (cs : List C) (kept : List (Kept C)) → TruthBegins out xs w → OutcomeBegins out xs (chosen rules control rest ns w a b cs kept)
    chosen_writes ns (Yes d) a b cs kept h = on ns d (a ∷ cs) kept h
    chosen_writes ns (No d) a b cs kept h = on ns d (b ∷ cs) kept h
    chosen_writes ns NoValue a b cs kept h = tt

  module _ (only : OnlyWrites rules out) (rest : Rest D E C) (writes : Writes rest) where
    fetched_writes : (ns : List ℕ) (f : Fetch A C) (d : D) (c : C) (cs : List C) (kept : List (Kept C)) → OutcomeBegins out (out d) (fetched rules control rest ns f d c cs kept)
    fetched_writes ns (Silent a) d c cs kept = writes ns d (a ∷ cs) kept
    fetched_writes ns (Act x a) d c cs kept = moved_writes rest writes (out d) ns (rules.effect x d) c a cs kept (only.effect x d)
    fetched_writes ns (Branch a b) d c cs kept = chosen_writes rest writes (out d) ns (rules.truth d) a b cs kept (only.truth d)

    served_writes : (ns : List ℕ) (s : Option C) (d : D) (c : C) (cs : List C) (kept : List (Kept C)) → OutcomeBegins out (out d) (served rules control rest ns s d c cs kept)
    served_writes ns (Some a) d c cs kept = on rest writes (out d) ns (rules.landed d) (a ∷ cs) kept (only.landed d)
    served_writes ns None d c cs kept = moved_writes rest writes (out d) ns (rules.unserved d) c c cs kept (only.unserved d)

    stepped_writes : (ns : List ℕ) (plan : Plan D W E) (d : D) (c : C) (cs : List C) (kept : List (Kept C)) → rules.plan d ≡ plan → OutcomeBegins out (out d) (stepped rules control rest ns plan d c cs kept)
    stepped_writes ns Proceed d c cs kept p = fetched_writes ns (control.fetch c) d c cs kept
    stepped_writes ns (Complete why) d c cs kept p = served_writes ns (control.serve why c) d c cs kept
    stepped_writes ns (Make mv) d c cs kept p = moved_writes rest writes (out d) ns mv c c cs kept (only.makes d mv p)

  pub run_writes : OnlyWrites rules out → (n : ℕ) → Writes (run rules control n)
  run_writes only zero ns d cs kept = tt
  run_writes only (suc n) ns d [] kept = tt
  run_writes only (suc n) ns d (c ∷ cs) kept = stepped_writes only (run rules control n) (run_writes only n) ns (rules.plan d) d c cs kept refl
