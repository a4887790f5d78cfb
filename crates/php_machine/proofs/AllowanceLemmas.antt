-- A smaller allowance writes what a larger one writes first.
use Rattle.std.proofs.Common.{◌≡◌, ℕ, zero, suc, ◌+◌, List, [], ◌∷◌, Option, Some, None, refl, sym, ap, ◌∙◌, subst, ◌⊎◌, inl, inr, ⊎_elim, arith}
use Rattle.std.specs.Prelude.{Bool, true, false, cond}
use Rattle.php_machine.specs.Moves.{Move, Next, Again, Enter, Ask, Inside, Leave, Park, Wake, End, Wrong, Plan, Proceed, Complete, Make, Truth, Yes, No, NoValue, Rules, Outcome, Ended, Stuck, Unnumbered, Unfinished}
use Rattle.php_machine.specs.Control.{Fetch, Silent, Act, Branch, Control, Kept, Taken, take_out}
use Rattle.php_machine.specs.Machine.{begun, woken, moved, chosen, fetched, served, stepped, run}
use Rattle.php_machine.specs.Outputs.{Begins, OnlyWrites}
use Rattle.php_machine.specs.Allowance.{SameMove, SamePlan, SameTruth, Cuts, Allows, Shortened}
use Rattle.php_machine.proofs.LongerLemmas.{longer}
use Rattle.php_machine.proofs.OutputLemmas.{Begins_refl, Begins_trans, OutcomeBegins, moved_writes, run_writes}

module _ {D E : Type 0} where
  abbrev IsEnded : Outcome D E → Type 0
  IsEnded (Ended e d) = Unit {0}
  IsEnded Stuck = ⊥
  IsEnded Unnumbered = ⊥
  IsEnded Unfinished = ⊥

  abbrev ending_or : E → Outcome D E → E
  ending_or w (Ended e d) = e
  ending_or w Stuck = w
  ending_or w Unnumbered = w
  ending_or w Unfinished = w

  abbrev data_or : D → Outcome D E → D
  data_or x (Ended e d) = d
  data_or x Stuck = x
  data_or x Unnumbered = x
  data_or x Unfinished = x

  same_ending : (w v : E) (x y : D) → Ended w x ≡ Ended v y → w ≡ v
  same_ending w v x y e = ap (ending_or w) e

  same_data : (w v : E) (x y : D) → Ended w x ≡ Ended v y → x ≡ y
  same_data w v x y e = ap (data_or x) e

module _ {A D W E C : Type 0} (rules : Rules A D W E) (control : Control A W C) (out : D → List ℕ) (cut : E) (More : D → D → Type 0) (only : OnlyWrites rules out) (allows : Allows rules out cut More) where
  -- where both have ended, the first is a shorter one
  abbrev Answers : Outcome D E → Outcome D E → Type 0
  Answers o u = (w v : E) (x y : D) → o ≡ Ended w x → u ≡ Ended v y → Shortened out cut More w x v y

  no_end : (o u : Outcome D E) → (IsEnded o → ⊥) → Answers o u
  no_end o u h w v x y e f = absurd (h (subst IsEnded (sym e) tt))

  -- both at their end
  at_end : (w v : E) (x y : D) → w ≡ v → More x y → Answers (Ended w x) (Ended v y)
  at_end w v x y e more w' v' x' y' f g =
      let p = same_ending w w' x x' f in
      let q = same_ending v v' y y' g in
      let m = subst (λ a. More a y') (same_data w w' x x' f) (subst (λ b. More x b) (same_data v v' y y' g) more) in
      (subst (λ zs. Begins (out x') zs) (allows.outputs x' y' m) (Begins_refl (out x')), inr (sym p ∙ e ∙ q, m))

  -- the first one was cut, and the second one goes on to write
  at_cut : (x : D) (ys : List ℕ) (u : Outcome D E) → Begins (out x) ys → OutcomeBegins out ys u → Answers (Ended cut x) u
  at_cut x ys u h k w v x' y e f =
      (subst (λ z. Begins (out z) (out y)) (same_data cut w x x' e) (Begins_trans (out x) ys (out y) h (subst (OutcomeBegins out ys) f k)), inl (sym (same_ending cut w x x' e)))

  abbrev Shorter : ℕ → Type 0
  Shorter n = (ns : List ℕ) (d e : D) (cs : List C) (kept : List (Kept C)) → More d e → Answers (run rules control n ns d cs kept) (run rules control n ns e cs kept)

  module _ (n : ℕ) (shorter : Shorter n) where
    begun_if_shorter : (free free' : Bool) → free ≡ free' → (ns : List ℕ) (d e : D) (cs : List C) (kept : List (Kept C)) → More d e
        → Answers (cond free (run rules control n ns d cs kept) Unnumbered) (cond free' (run rules control n ns e cs kept) Unnumbered)
    begun_if_shorter true true p ns d e cs kept more = shorter ns d e cs kept more
    begun_if_shorter false f p ns d e cs kept more = no_end Unnumbered (cond f (run rules control n ns e cs kept) Unnumbered) (λ h. h)
    begun_if_shorter true false p ns d e cs kept more = absurd cc

    begun_shorter : (ns : List ℕ) (is_free is_free' : ℕ → Bool) (at at' : ℕ → D) (cs : List C) (kept : List (Kept C)) → ((m : ℕ) → is_free m ≡ is_free' m) → ((m : ℕ) → More (at m) (at' m))
        → Answers (begun rules control (run rules control n) ns is_free at cs kept) (begun rules control (run rules control n) ns is_free' at' cs kept)
    begun_shorter [] is_free is_free' at at' cs kept p more = no_end Unnumbered Unnumbered (λ h. h)
    begun_shorter (m ∷ ns) is_free is_free' at at' cs kept p more = begun_if_shorter (is_free m) (is_free' m) (p m) ns (at m) (at' m) cs kept (more m)

    woken_shorter : (ns : List ℕ) (d e : D) (t : Option (Taken C)) (cs : List C) → More d e
        → Answers (woken rules control (run rules control n) ns d t cs) (woken rules control (run rules control n) ns e t cs)
    woken_shorter ns d e None cs more = no_end Stuck Stuck (λ h. h)
    woken_shorter ns d e (Some t) cs more = shorter ns d e (t.control ∷ cs) t.others more

    -- what a move leads to, where another is the same one
    abbrev Go : List ℕ → Move D E → C → C → List C → List (Kept C) → Outcome D E
    Go ns mv here next cs kept = moved rules control (run rules control n) ns mv here next cs kept

    turned_to : (o : Outcome D E) (ns : List ℕ) (mv mv' : Move D E) (here next : C) (cs : List C) (kept : List (Kept C)) → mv ≡ mv' → Answers o (Go ns mv' here next cs kept) → Answers o (Go ns mv here next cs kept)
    turned_to o ns mv mv' here next cs kept e h = subst (λ m. Answers o (Go ns m here next cs kept)) (sym e) h

    moved_shorter : (ns : List ℕ) (mv mv' : Move D E) (here next : C) (cs : List C) (kept : List (Kept C)) → SameMove More mv mv' → Answers (Go ns mv here next cs kept) (Go ns mv' here next cs kept)
    moved_shorter ns (Next d) mv here next cs kept s = turned_to (run rules control n ns d (next ∷ cs) kept) ns mv (Next s.0) here next cs kept s.1 (shorter ns d s.0 (next ∷ cs) kept s.2)
    moved_shorter ns (Again d) mv here next cs kept s = turned_to (run rules control n ns d (here ∷ cs) kept) ns mv (Again s.0) here next cs kept s.1 (shorter ns d s.0 (here ∷ cs) kept s.2)
    moved_shorter ns (Enter f p at) mv here next cs kept s =
        turned_to (begun rules control (run rules control n) ns p at (control.start f ∷ next ∷ cs) kept) ns mv (Enter f s.0 s.1) here next cs kept s.2 (begun_shorter ns p s.0 at s.1 (control.start f ∷ next ∷ cs) kept s.3 s.4)
    moved_shorter ns (Ask f p at) mv here next cs kept s =
        turned_to (begun rules control (run rules control n) ns p at (control.start f ∷ here ∷ cs) kept) ns mv (Ask f s.0 s.1) here next cs kept s.2 (begun_shorter ns p s.0 at s.1 (control.start f ∷ here ∷ cs) kept s.3 s.4)
    moved_shorter ns (Inside f d) mv here next cs kept s =
        turned_to (run rules control n ns d (control.inside f here ∷ cs) kept) ns mv (Inside f s.0) here next cs kept s.1 (shorter ns d s.0 (control.inside f here ∷ cs) kept s.2)
    moved_shorter ns (Leave d) mv here next cs kept s = turned_to (run rules control n ns d cs kept) ns mv (Leave s.0) here next cs kept s.1 (shorter ns d s.0 cs kept s.2)
    moved_shorter ns (Park g d) mv here next cs kept s =
        turned_to (run rules control n ns d cs (record { object = g; control = next } ∷ kept)) ns mv (Park g s.0) here next cs kept s.1 (shorter ns d s.0 cs (record { object = g; control = next } ∷ kept) s.2)
    moved_shorter ns (Wake g d) mv here next cs kept s =
        turned_to (woken rules control (run rules control n) ns d (take_out g kept) (next ∷ cs)) ns mv (Wake g s.0) here next cs kept s.1 (woken_shorter ns d s.0 (take_out g kept) (next ∷ cs) s.2)
    moved_shorter ns (End w d) mv here next cs kept s = turned_to (Ended w d) ns mv (End w s.0) here next cs kept s.1 (at_end w w d s.0 refl s.2)
    moved_shorter ns Wrong mv here next cs kept s = no_end Stuck (Go ns mv here next cs kept) (λ h. h)

    -- an action, of which only the first one may be cut
    acted_shorter : (ns : List ℕ) (mv mv' : Move D E) (e : D) (here next : C) (cs : List C) (kept : List (Kept C)) → Cuts cut out mv (out e) ⊎ SameMove More mv mv'
        → OutcomeBegins out (out e) (Go ns mv' here next cs kept) → Answers (Go ns mv here next cs kept) (Go ns mv' here next cs kept)
    acted_shorter ns mv mv' e here next cs kept h writes =
        ⊎_elim
        (λ c. subst (λ m. Answers (Go ns m here next cs kept) (Go ns mv' here next cs kept)) (sym c.1) (at_cut c.0 (out e) (Go ns mv' here next cs kept) c.2 writes))
        (λ s. moved_shorter ns mv mv' here next cs kept s)
        h

    chosen_shorter : (ns : List ℕ) (w w' : Truth D) (a b : C) (cs : List C) (kept : List (Kept C)) → SameTruth More w w'
        → Answers (chosen rules control (run rules control n) ns w a b cs kept) (chosen rules control (run rules control n) ns w' a b cs kept)
    chosen_shorter ns (Yes d) w a b cs kept s =
        subst (λ v. Answers (run rules control n ns d (a ∷ cs) kept) (chosen rules control (run rules control n) ns v a b cs kept)) (sym s.1) (shorter ns d s.0 (a ∷ cs) kept s.2)
    chosen_shorter ns (No d) w a b cs kept s =
        subst (λ v. Answers (run rules control n ns d (b ∷ cs) kept) (chosen rules control (run rules control n) ns v a b cs kept)) (sym s.1) (shorter ns d s.0 (b ∷ cs) kept s.2)
    chosen_shorter ns NoValue w a b cs kept s = no_end Stuck (chosen rules control (run rules control n) ns w a b cs kept) (λ h. h)

    fetched_shorter : (ns : List ℕ) (f : Fetch A C) (d e : D) (c : C) (cs : List C) (kept : List (Kept C)) → More d e
        → Answers (fetched rules control (run rules control n) ns f d c cs kept) (fetched rules control (run rules control n) ns f e c cs kept)
    fetched_shorter ns (Silent a) d e c cs kept more = shorter ns d e (a ∷ cs) kept more
    fetched_shorter ns (Act x a) d e c cs kept more =
        acted_shorter ns (rules.effect x d) (rules.effect x e) e c a cs kept (allows.effect x d e more)
        (moved_writes rules control out (run rules control n) (run_writes rules control out only n) (out e) ns (rules.effect x e) c a cs kept (only.effect x e))
    fetched_shorter ns (Branch a b) d e c cs kept more = chosen_shorter ns (rules.truth d) (rules.truth e) a b cs kept (allows.truth d e more)

    served_shorter : (ns : List ℕ) (at : Option C) (d e : D) (c : C) (cs : List C) (kept : List (Kept C)) → More d e
        → Answers (served rules control (run rules control n) ns at d c cs kept) (served rules control (run rules control n) ns at e c cs kept)
    served_shorter ns (Some a) d e c cs kept more = shorter ns (rules.landed d) (rules.landed e) (a ∷ cs) kept (allows.landed d e more)
    served_shorter ns None d e c cs kept more = moved_shorter ns (rules.unserved d) (rules.unserved e) c c cs kept (allows.unserved d e more)

    abbrev By : List ℕ → Plan D W E → D → C → List C → List (Kept C) → Outcome D E
    By ns plan d c cs kept = stepped rules control (run rules control n) ns plan d c cs kept

    stepped_shorter : (ns : List ℕ) (plan plan' : Plan D W E) (d e : D) (c : C) (cs : List C) (kept : List (Kept C)) → More d e → SamePlan More plan plan'
        → Answers (By ns plan d c cs kept) (By ns plan' e c cs kept)
    stepped_shorter ns Proceed plan d e c cs kept more s =
        subst (λ p. Answers (By ns Proceed d c cs kept) (By ns p e c cs kept)) (sym s) (fetched_shorter ns (control.fetch c) d e c cs kept more)
    stepped_shorter ns (Complete why) plan d e c cs kept more s =
        subst (λ p. Answers (By ns (Complete why) d c cs kept) (By ns p e c cs kept)) (sym s) (served_shorter ns (control.serve why c) d e c cs kept more)
    stepped_shorter ns (Make mv) plan d e c cs kept more s =
        subst (λ p. Answers (By ns (Make mv) d c cs kept) (By ns p e c cs kept)) (sym s.1) (moved_shorter ns mv s.0 c c cs kept s.2)

  shorter_lem : (n : ℕ) → Shorter n
  shorter_lem zero ns d e cs kept more = no_end Unfinished Unfinished (λ h. h)
  shorter_lem (suc n) ns d e [] kept more = no_end Stuck Stuck (λ h. h)
  shorter_lem (suc n) ns d e (c ∷ cs) kept more = stepped_shorter n (shorter_lem n) ns (rules.plan d) (rules.plan e) d e c cs kept more (allows.plan d e more)

  pub smaller_allowance_lem : (n m : ℕ) (ns : List ℕ) (d e : D) (cs : List C) (kept : List (Kept C)) (w v : E) (x y : D)
      → More d e → run rules control n ns d cs kept ≡ Ended w x → run rules control m ns e cs kept ≡ Ended v y → Shortened out cut More w x v y
  smaller_allowance_lem n m ns d e cs kept w v x y more p q =
      shorter_lem (n + m) ns d e cs kept more w v x y
      (longer rules control n (n + m) (omega arith) ns d cs kept (Ended w x) tt p)
      (longer rules control m (n + m) (omega arith) ns e cs kept (Ended v y) tt q)
