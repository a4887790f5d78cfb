-- Weights by frames fall where each frame's step lowers its own.
use Rattle.std.proofs.Common.{◌≡◌, ℕ, suc, ◌+◌, ◌<◌, ◌≤◌, List, [], ◌∷◌, length, Option, Some, None, refl, arith}
use Rattle.std.specs.Prelude.{Bool, true, false, nat_eq, cond}
use Rattle.php_machine.specs.Moves.{Move, Next, Again, Enter, Ask, Inside, Leave, Park, Wake, End, Wrong, Plan, Proceed, Complete, Make, Truth, Yes, No, NoValue, Rules, Unnumbered}
use Rattle.php_machine.specs.Control.{Fetch, Silent, Act, Branch, Control, Kept, Taken, beside, take_out}
use Rattle.php_machine.specs.Machine.{Rest, begun, woken, moved, chosen, fetched, served, stepped}
use Rattle.php_machine.specs.Same.{IsOver}
use Rattle.php_machine.specs.Ends.{Falls, FallsByFrames, HasFrames, Lowers, LowersTruth, LowersFetch, LowersServe, stack_weight, kept_weight, total_weight}

-- what was taken out weighs what is missing
abbrev TakenWeighs : {C : Type 0} → (C → ℕ) → Option (Taken C) → ℕ → Type 0
TakenWeighs weigh_kept None n = Unit {0}
TakenWeighs weigh_kept (Some t) n = weigh_kept t.control + kept_weight weigh_kept t.others ≡ n

module _ {C : Type 0} (weigh_kept : C → ℕ) where
  beside_weighs : (k : Kept C) (t : Option (Taken C)) (n : ℕ) → TakenWeighs weigh_kept t n → TakenWeighs weigh_kept (beside k t) (weigh_kept k.control + n)
  beside_weighs k None n h = tt
  beside_weighs k (Some t) n h = omega (arith, h)

  cond_weighs : (b : Bool) (t u : Option (Taken C)) (n : ℕ) → TakenWeighs weigh_kept t n → TakenWeighs weigh_kept u n → TakenWeighs weigh_kept (cond b t u) n
  cond_weighs true t u n h h' = h
  cond_weighs false t u n h h' = h'

  take_out_weighs : (g : ℕ) (ks : List (Kept C)) → TakenWeighs weigh_kept (take_out g ks) (kept_weight weigh_kept ks)
  take_out_weighs g [] = tt
  take_out_weighs g (k ∷ ks) =
      cond_weighs (nat_eq g k.object) (Some (record { control = k.control; others = ks })) (beside k (take_out g ks)) (weigh_kept k.control + kept_weight weigh_kept ks) refl
      (beside_weighs k (take_out g ks) (kept_weight weigh_kept ks) (take_out_weighs g ks))

module _ {A D W E C : Type 0} (rules : Rules A D W E) (control : Control A W C) (depth : D → ℕ) (weigh_data : D → ℕ) (weigh : ℕ → C → ℕ) (weigh_kept : C → ℕ) where
  abbrev Total : D → List C → List (Kept C) → ℕ
  Total d cs kept = total_weight weigh_data weigh weigh_kept d cs kept

  -- the rest of a run is over wherever it has frames and weighs less than this
  abbrev OverBelow : Rest D E C → ℕ → Type 0
  OverBelow rest top = (ms : List ℕ) (e : D) (bs : List C) (held : List (Kept C)) → depth e ≡ length bs → Total e bs held < top → IsOver (rest ms e bs held)

  module _ (rest : Rest D E C) (top : ℕ) (over : OverBelow rest top) where
    begun_if_ends : (free : Bool) (ns : List ℕ) (d : D) (cs : List C) (kept : List (Kept C)) → depth d ≡ length cs → Total d cs kept < top → IsOver (cond free (rest ns d cs kept) Unnumbered)
    begun_if_ends true ns d cs kept e lt = over ns d cs kept e lt
    begun_if_ends false ns d cs kept e lt = tt

    begun_ends : (ns : List ℕ) (is_free : ℕ → Bool) (at : ℕ → D) (cs : List C) (kept : List (Kept C))
        → ((n : ℕ) → (depth (at n) ≡ length cs) × (Total (at n) cs kept < top)) → IsOver (begun rules control rest ns is_free at cs kept)
    begun_ends [] is_free at cs kept h = tt
    begun_ends (n ∷ ns) is_free at cs kept h = begun_if_ends (is_free n) ns (at n) cs kept (h n).0 (h n).1

    woken_ends : (ns : List ℕ) (d : D) (t : Option (Taken C)) (n have : ℕ) (next : C) (cs : List C) → TakenWeighs weigh_kept t n → depth d ≡ suc (suc (length cs))
        → ((c : C) → weigh_data d + (weigh (length cs) next + weigh (suc (length cs)) c) < have + weigh_kept c)
        → have + (stack_weight weigh cs + n) ≤ top → IsOver (woken rules control rest ns d t (next ∷ cs))
    woken_ends ns d None n have next cs h e lt le = tt
    woken_ends ns d (Some t) n have next cs h e lt le = over ns d (t.control ∷ next ∷ cs) t.others e (let less = lt t.control in omega (arith, h, less, le))

    moved_ends : (ns : List ℕ) (have : ℕ) (mv : Move D E) (here next : C) (cs : List C) (kept : List (Kept C))
        → Lowers rules control depth weigh_data weigh weigh_kept have (length cs) here next mv → have + (stack_weight weigh cs + kept_weight weigh_kept kept) ≤ top
        → IsOver (moved rules control rest ns mv here next cs kept)
    moved_ends ns have (Next d) here next cs kept h le = over ns d (next ∷ cs) kept h.0 (let less = h.1 in omega (arith, less, le))
    moved_ends ns have (Again d) here next cs kept h le = over ns d (here ∷ cs) kept h.0 (let less = h.1 in omega (arith, less, le))
    moved_ends ns have (Enter f is_free at) here next cs kept h le = begun_ends ns is_free at (control.start f ∷ next ∷ cs) kept (λ n. ((h n).0, (let less = (h n).1 in omega (arith, less, le))))
    moved_ends ns have (Ask f is_free at) here next cs kept h le = begun_ends ns is_free at (control.start f ∷ here ∷ cs) kept (λ n. ((h n).0, (let less = (h n).1 in omega (arith, less, le))))
    moved_ends ns have (Inside f d) here next cs kept h le = over ns d (control.inside f here ∷ cs) kept h.0 (let less = h.1 in omega (arith, less, le))
    moved_ends ns have (Leave d) here next cs kept h le = over ns d cs kept h.0 (let less = h.1 in omega (arith, less, le))
    moved_ends ns have (Park g d) here next cs kept h le = over ns d cs (record { object = g; control = next } ∷ kept) h.0 (let less = h.1 in omega (arith, less, le))
    moved_ends ns have (Wake g d) here next cs kept h le = woken_ends ns d (take_out g kept) (kept_weight weigh_kept kept) have next cs (take_out_weighs weigh_kept g kept) h.0 h.1 le
    moved_ends ns have (End w d) here next cs kept h le = tt
    moved_ends ns have Wrong here next cs kept h le = tt

    chosen_ends : (ns : List ℕ) (have : ℕ) (w : Truth D) (a b : C) (cs : List C) (kept : List (Kept C))
        → LowersTruth rules control depth weigh_data weigh weigh_kept have (length cs) a b w → have + (stack_weight weigh cs + kept_weight weigh_kept kept) ≤ top
        → IsOver (chosen rules control rest ns w a b cs kept)
    chosen_ends ns have (Yes d) a b cs kept h le = over ns d (a ∷ cs) kept h.0 (let less = h.1 in omega (arith, less, le))
    chosen_ends ns have (No d) a b cs kept h le = over ns d (b ∷ cs) kept h.0 (let less = h.1 in omega (arith, less, le))
    chosen_ends ns have NoValue a b cs kept h le = tt

    fetched_ends : (ns : List ℕ) (f : Fetch A C) (d : D) (c : C) (cs : List C) (kept : List (Kept C)) → depth d ≡ suc (length cs)
        → LowersFetch rules control depth weigh_data weigh weigh_kept d (length cs) c f → Total d (c ∷ cs) kept ≤ top
        → IsOver (fetched rules control rest ns f d c cs kept)
    fetched_ends ns (Silent a) d c cs kept e h le = over ns d (a ∷ cs) kept e (omega (arith, h, le))
    fetched_ends ns (Act x a) d c cs kept e h le = moved_ends ns (weigh_data d + weigh (length cs) c) (rules.effect x d) c a cs kept h (omega (arith, le))
    fetched_ends ns (Branch a b) d c cs kept e h le = chosen_ends ns (weigh_data d + weigh (length cs) c) (rules.truth d) a b cs kept h (omega (arith, le))

    served_ends : (ns : List ℕ) (s : Option C) (d : D) (c : C) (cs : List C) (kept : List (Kept C))
        → LowersServe rules control depth weigh_data weigh weigh_kept d (length cs) c s → Total d (c ∷ cs) kept ≤ top
        → IsOver (served rules control rest ns s d c cs kept)
    served_ends ns (Some a) d c cs kept h le = over ns (rules.landed d) (a ∷ cs) kept h.0 (let less = h.1 in omega (arith, less, le))
    served_ends ns None d c cs kept h le = moved_ends ns (weigh_data d + weigh (length cs) c) (rules.unserved d) c c cs kept h (omega (arith, le))

    stepped_ends : FallsByFrames rules control depth weigh_data weigh weigh_kept
        → (ns : List ℕ) (plan : Plan D W E) (d : D) (c : C) (cs : List C) (kept : List (Kept C)) → rules.plan d ≡ plan → depth d ≡ suc (length cs) → Total d (c ∷ cs) kept ≤ top
        → IsOver (stepped rules control rest ns plan d c cs kept)
    stepped_ends falls ns Proceed d c cs kept p e le = fetched_ends ns (control.fetch c) d c cs kept e (falls.fetches d (length cs) c e p) le
    stepped_ends falls ns (Complete why) d c cs kept p e le = served_ends ns (control.serve why c) d c cs kept (falls.serves d (length cs) c why e p) le
    stepped_ends falls ns (Make mv) d c cs kept p e le = moved_ends ns (weigh_data d + weigh (length cs) c) mv c c cs kept (falls.makes d (length cs) c mv e p) (omega (arith, le))

  pub falls_lem : FallsByFrames rules control depth weigh_data weigh weigh_kept → Falls rules control (HasFrames depth) Total
  falls_lem falls rest ns d [] kept inv over = tt
  falls_lem falls rest ns d (c ∷ cs) kept inv over = stepped_ends rest (Total d (c ∷ cs) kept) over falls ns (rules.plan d) d c cs kept refl inv (omega arith)
