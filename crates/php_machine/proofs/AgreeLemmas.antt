-- Controls that agree have the same runs.
use Rattle.std.proofs.Common.{◌≡◌, ℕ, zero, suc, ◌≤◌, List, [], ◌∷◌, Option, Some, None, refl, sym, ap, ◌∙◌, subst, arith}
use Rattle.std.specs.Prelude.{Bool, true, false, nat_eq, cond}
use Rattle.php_machine.specs.Moves.{Move, Next, Again, Enter, Ask, Inside, Leave, Park, Wake, End, Wrong, Plan, Proceed, Complete, Make, Truth, Yes, No, NoValue, Rules, Outcome, Unnumbered}
use Rattle.php_machine.specs.Control.{Fetch, Silent, Act, Branch, Control, Kept, Taken, beside, take_out}
use Rattle.php_machine.specs.Machine.{begun, woken, moved, chosen, fetched, served, stepped, run, runs}
use Rattle.php_machine.specs.Same.{SameFetch, SameServe, Meet, Agree, IsOver, SameRuns}
use Rattle.php_machine.proofs.SilentLemmas.{past_silent, with_silent}

-- the controls of frames, related one by one
abbrev Stacks : {C B : Type 0} → (C → B → Type 0) → List C → List B → Type 0
Stacks R [] [] = Unit {0}
Stacks R (c ∷ cs) (b ∷ bs) = R c b × Stacks R cs bs
Stacks R _ _ = ⊥

-- kept controls, related one by one and kept for the same objects
abbrev SameKept : {C B : Type 0} → (C → B → Type 0) → List (Kept C) → List (Kept B) → Type 0
SameKept R [] [] = Unit {0}
SameKept R (k ∷ ks) (l ∷ ls) = (k.object ≡ l.object) × R k.control l.control × SameKept R ks ls
SameKept R _ _ = ⊥

abbrev SameTaken : {C B : Type 0} → (C → B → Type 0) → Option (Taken C) → Option (Taken B) → Type 0
SameTaken R None None = Unit {0}
SameTaken R (Some t) (Some u) = R t.control u.control × SameKept R t.others u.others
SameTaken R _ _ = ⊥

module _ {C B : Type 0} (R : C → B → Type 0) where
  beside-same : (k : Kept C) (l : Kept B) (t : Option (Taken C)) (u : Option (Taken B)) → k.object ≡ l.object → R k.control l.control → SameTaken R t u → SameTaken R (beside k t) (beside l u)
  beside-same k l None None e r s = tt
  beside-same k l (Some t) (Some u) e r s = (s.0, (e, r, s.1))
  beside-same k l None (Some u) e r s = absurd s
  beside-same k l (Some t) None e r s = absurd s

  cond-same : (b : Bool) (t t' : Option (Taken C)) (u u' : Option (Taken B)) → SameTaken R t u → SameTaken R t' u' → SameTaken R (cond b t t') (cond b u u')
  cond-same true t t' u u' h h' = h
  cond-same false t t' u u' h h' = h'

  take_out-same : (g : ℕ) (ks : List (Kept C)) (ls : List (Kept B)) → SameKept R ks ls → SameTaken R (take_out g ks) (take_out g ls)
  take_out-same g [] [] h = tt
  take_out-same g (k ∷ ks) (l ∷ ls) h =
      let here = cond-same (nat_eq g k.object) (Some (record { control = k.control; others = ks })) (beside k (take_out g ks)) (Some (record { control = l.control; others = ls })) (beside l (take_out g ls)) (h.1, h.2) (beside-same k l (take_out g ks) (take_out g ls) h.0 h.1 (take_out-same g ks ls h.2)) in
      subst (λ n. SameTaken R (take_out g (k ∷ ks)) (cond (nat_eq g n) (Some (record { control = l.control; others = ls })) (beside l (take_out g ls)))) h.0 here
  take_out-same g [] (l ∷ ls) h = absurd h
  take_out-same g (k ∷ ks) [] h = absurd h

module _ {A D W E C B : Type 0} (rules : Rules A D W E) (first : Control A W C) (second : Control A W B) (R : C → B → Type 0) (agree : Agree first second R) where
  -- what the first machine comes to in n steps more, the second one comes to as well
  abbrev Follows : ℕ → Type 0
  Follows n = (ns : List ℕ) (d : D) (cs : List C) (p : List (Kept C)) (bs : List B) (q : List (Kept B)) (o : Outcome D E) → IsOver o → Stacks R cs bs → SameKept R p q
      → run rules first n ns d cs p ≡ o → (m : ℕ) × (run rules second m ns d bs q ≡ o)

  module _ (n : ℕ) (follows : Follows n) (o : Outcome D E) (over : IsOver o) where
    begun_if : (free : Bool) (ns : List ℕ) (d : D) (cs : List C) (p : List (Kept C)) (bs : List B) (q : List (Kept B)) → Stacks R cs bs → SameKept R p q
        → cond free (run rules first n ns d cs p) Unnumbered ≡ o → (m : ℕ) × (cond free (run rules second m ns d bs q) Unnumbered ≡ o)
    begun_if true ns d cs p bs q s t e = follows ns d cs p bs q o over s t e
    begun_if false ns d cs p bs q s t e = (0, e)

    begun-same : (ns : List ℕ) (is_free : ℕ → Bool) (at : ℕ → D) (cs : List C) (p : List (Kept C)) (bs : List B) (q : List (Kept B)) → Stacks R cs bs → SameKept R p q
        → begun rules first (run rules first n) ns is_free at cs p ≡ o → (m : ℕ) × (begun rules second (run rules second m) ns is_free at bs q ≡ o)
    begun-same [] is_free at cs p bs q s t e = (0, e)
    begun-same (x ∷ ns) is_free at cs p bs q s t e = begun_if (is_free x) ns (at x) cs p bs q s t e

    woken-same : (ns : List ℕ) (d : D) (u : Option (Taken C)) (v : Option (Taken B)) (cs : List C) (bs : List B) → SameTaken R u v → Stacks R cs bs
        → woken rules first (run rules first n) ns d u cs ≡ o → (m : ℕ) × (woken rules second (run rules second m) ns d v bs ≡ o)
    woken-same ns d None None cs bs r s e = (0, e)
    woken-same ns d (Some u) (Some v) cs bs r s e = follows ns d (u.control ∷ cs) u.others (v.control ∷ bs) v.others o over (r.0, s) r.1 e
    woken-same ns d None (Some v) cs bs r s e = absurd r
    woken-same ns d (Some u) None cs bs r s e = absurd r

    moved-same : (ns : List ℕ) (move : Move D E) (c c' : C) (b b' : B) (cs : List C) (p : List (Kept C)) (bs : List B) (q : List (Kept B)) → R c b → R c' b' → Stacks R cs bs → SameKept R p q
        → moved rules first (run rules first n) ns move c c' cs p ≡ o → (m : ℕ) × (moved rules second (run rules second m) ns move b b' bs q ≡ o)
    moved-same ns (Next d) c c' b b' cs p bs q r r' s t e = follows ns d (c' ∷ cs) p (b' ∷ bs) q o over (r', s) t e
    moved-same ns (Again d) c c' b b' cs p bs q r r' s t e = follows ns d (c ∷ cs) p (b ∷ bs) q o over (r, s) t e
    moved-same ns (Enter f is_free at) c c' b b' cs p bs q r r' s t e = begun-same ns is_free at (first.start f ∷ c' ∷ cs) p (second.start f ∷ b' ∷ bs) q (agree.starts f, (r', s)) t e
    moved-same ns (Ask f is_free at) c c' b b' cs p bs q r r' s t e = begun-same ns is_free at (first.start f ∷ c ∷ cs) p (second.start f ∷ b ∷ bs) q (agree.starts f, (r, s)) t e
    moved-same ns (Inside f d) c c' b b' cs p bs q r r' s t e = follows ns d (first.inside f c ∷ cs) p (second.inside f b ∷ bs) q o over (agree.insides f c b r, s) t e
    moved-same ns (Leave d) c c' b b' cs p bs q r r' s t e = follows ns d cs p bs q o over s t e
    moved-same ns (Park g d) c c' b b' cs p bs q r r' s t e = follows ns d cs (record { object = g; control = c' } ∷ p) bs (record { object = g; control = b' } ∷ q) o over s (refl, r', t) e
    moved-same ns (Wake g d) c c' b b' cs p bs q r r' s t e = woken-same ns d (take_out g p) (take_out g q) (c' ∷ cs) (b' ∷ bs) (take_out-same R g p q t) (r', s) e
    moved-same ns (End w d) c c' b b' cs p bs q r r' s t e = (0, e)
    moved-same ns Wrong c c' b b' cs p bs q r r' s t e = (0, e)

    chosen-same : (ns : List ℕ) (w : Truth D) (c c' : C) (b b' : B) (cs : List C) (p : List (Kept C)) (bs : List B) (q : List (Kept B)) → R c b → R c' b' → Stacks R cs bs → SameKept R p q
        → chosen rules first (run rules first n) ns w c c' cs p ≡ o → (m : ℕ) × (chosen rules second (run rules second m) ns w b b' bs q ≡ o)
    chosen-same ns (Yes d) c c' b b' cs p bs q r r' s t e = follows ns d (c ∷ cs) p (b ∷ bs) q o over (r, s) t e
    chosen-same ns (No d) c c' b b' cs p bs q r r' s t e = follows ns d (c' ∷ cs) p (b' ∷ bs) q o over (r', s) t e
    chosen-same ns NoValue c c' b b' cs p bs q r r' s t e = (0, e)

    fetched-same : (ns : List ℕ) (f : Fetch A C) (g : Fetch A B) (d : D) (c : C) (b : B) (cs : List C) (p : List (Kept C)) (bs : List B) (q : List (Kept B)) → SameFetch R f g → R c b → Stacks R cs bs → SameKept R p q
        → fetched rules first (run rules first n) ns f d c cs p ≡ o → (m : ℕ) × (fetched rules second (run rules second m) ns g d b bs q ≡ o)
    fetched-same ns (Act x c') (Act y b') d c b cs p bs q h r s t e =
        let w = moved-same ns (rules.effect x d) c c' b b' cs p bs q r h.1 s t e in
        (w.0, ap (λ z. moved rules second (run rules second w.0) ns (rules.effect z d) b b' bs q) (sym h.0) ∙ w.1)
    fetched-same ns (Branch c' c'') (Branch b' b'') d c b cs p bs q h r s t e = chosen-same ns (rules.truth d) c' c'' b' b'' cs p bs q h.0 h.1 s t e
    fetched-same ns (Act x c') (Branch b' b'') d c b cs p bs q h r s t e = absurd h
    fetched-same ns (Act x c') (Silent b') d c b cs p bs q h r s t e = absurd h
    fetched-same ns (Branch c' c'') (Act y b') d c b cs p bs q h r s t e = absurd h
    fetched-same ns (Branch c' c'') (Silent b') d c b cs p bs q h r s t e = absurd h
    fetched-same ns (Silent c') g d c b cs p bs q h r s t e = absurd h

    served-same : (ns : List ℕ) (f : Option C) (g : Option B) (d : D) (c : C) (b : B) (cs : List C) (p : List (Kept C)) (bs : List B) (q : List (Kept B)) → SameServe R f g → R c b → Stacks R cs bs → SameKept R p q
        → served rules first (run rules first n) ns f d c cs p ≡ o → (m : ℕ) × (served rules second (run rules second m) ns g d b bs q ≡ o)
    served-same ns (Some c') (Some b') d c b cs p bs q h r s t e = follows ns (rules.landed d) (c' ∷ cs) p (b' ∷ bs) q o over (h, s) t e
    served-same ns None None d c b cs p bs q h r s t e = moved-same ns (rules.unserved d) c c b b cs p bs q r r s t e
    served-same ns (Some c') None d c b cs p bs q h r s t e = absurd h
    served-same ns None (Some b') d c b cs p bs q h r s t e = absurd h

  -- one step of the first machine, and all that follows it
  step-same : (top : ℕ) → ((n : ℕ) → n ≤ top → Follows n) → (n : ℕ) → n ≤ top → (plan : Plan D W E) (ns : List ℕ) (d : D) → rules.plan d ≡ plan
      → (c : C) (b : B) (cs : List C) (p : List (Kept C)) (bs : List B) (q : List (Kept B)) (o : Outcome D E) → IsOver o → R c b → Stacks R cs bs → SameKept R p q
      → run rules first (suc n) ns d (c ∷ cs) p ≡ o → (m : ℕ) × (run rules second m ns d (b ∷ bs) q ≡ o)
  step-same top ih n le Proceed ns d pe c b cs p bs q o over r s t e =
      let meet = agree.fetches c b r in
      let u = past_silent rules first meet.silent_first (suc n) c meet.there ns d cs p o pe over meet.first_comes e in
      let v = fetched-same u.0 (ih u.0 (omega (arith, le, u.1))) o over ns (first.fetch meet.there) (second.fetch meet.here) d meet.there meet.here cs p bs q meet.same meet.related s t u.2 in
      with_silent rules second meet.silent_second v.0 b meet.here ns d bs q o pe meet.second_comes v.1
  step-same top ih n le (Complete why) ns d pe c b cs p bs q o over r s t e =
      let e' = sym (ap (λ pl. stepped rules first (run rules first n) ns pl d c cs p) pe) ∙ e in
      let v = served-same n (ih n le) o over ns (first.serve why c) (second.serve why b) d c b cs p bs q (agree.serves why c b r) r s t e' in
      (suc v.0, ap (λ pl. stepped rules second (run rules second v.0) ns pl d b bs q) pe ∙ v.1)
  step-same top ih n le (Make move) ns d pe c b cs p bs q o over r s t e =
      let e' = sym (ap (λ pl. stepped rules first (run rules first n) ns pl d c cs p) pe) ∙ e in
      let v = moved-same n (ih n le) o over ns move c c b b cs p bs q r r s t e' in
      (suc v.0, ap (λ pl. stepped rules second (run rules second v.0) ns pl d b bs q) pe ∙ v.1)

  follows_up_to : (top n : ℕ) → n ≤ top → Follows n
  follows_up_to top zero le ns d cs p bs q o over s t e = absurd (subst IsOver (sym e) over)
  follows_up_to zero (suc n) le ns d cs p bs q o over s t e = absurd (omega (arith, le))
  follows_up_to (suc top) (suc n) le ns d [] p [] q o over s t e = (1, e)
  follows_up_to (suc top) (suc n) le ns d (c ∷ cs) p (b ∷ bs) q o over s t e =
      step-same top (follows_up_to top) n (omega (arith, le)) (rules.plan d) ns d refl c b cs p bs q o over s.0 s.1 t e
  follows_up_to (suc top) (suc n) le ns d [] p (b ∷ bs) q o over s t e = absurd s
  follows_up_to (suc top) (suc n) le ns d (c ∷ cs) p [] q o over s t e = absurd s

  pub runs_follow : (ns : List ℕ) (d : D) (o : Outcome D E) → IsOver o → (n : ℕ) → runs rules first n ns d ≡ o → (m : ℕ) × (runs rules second m ns d ≡ o)
  runs_follow ns d o over n e = follows_up_to n n (omega arith) ns d (first.start 0 ∷ []) [] (second.start 0 ∷ []) [] o over (agree.starts 0, tt) tt e

module _ {A W C B : Type 0} (first : Control A W C) (second : Control A W B) (R : C → B → Type 0) (agree : Agree first second R) where
  abbrev Turned : B → C → Type 0
  Turned b c = R c b

  turned_fetch : (f : Fetch A C) (g : Fetch A B) → SameFetch R f g → SameFetch Turned g f
  turned_fetch (Act x c) (Act y b) h = (sym h.0, h.1)
  turned_fetch (Branch c e) (Branch b f) h = h
  turned_fetch (Act x c) (Branch b f) h = absurd h
  turned_fetch (Act x c) (Silent b) h = absurd h
  turned_fetch (Branch c e) (Act y b) h = absurd h
  turned_fetch (Branch c e) (Silent b) h = absurd h
  turned_fetch (Silent c) g h = absurd h

  turned_serve : (f : Option C) (g : Option B) → SameServe R f g → SameServe Turned g f
  turned_serve None None h = h
  turned_serve (Some c) (Some b) h = h
  turned_serve (Some c) None h = absurd h
  turned_serve None (Some b) h = absurd h

  turned_meet : (c : C) (b : B) → Meet first second R c b → Meet second first Turned b c
  turned_meet c b meet = record {
    silent_first = meet.silent_second;
    silent_second = meet.silent_first;
    there = meet.here;
    here = meet.there;
    first_comes = meet.second_comes;
    second_comes = meet.first_comes;
    related = meet.related;
    same = turned_fetch (first.fetch meet.there) (second.fetch meet.here) meet.same;
  }

  -- agreement is symmetric
  pub turned : Agree second first Turned
  turned = record {
    starts = agree.starts;
    insides = λ f b c r. agree.insides f c b r;
    fetches = λ b c r. turned_meet c b (agree.fetches c b r);
    serves = λ why b c r. turned_serve (first.serve why c) (second.serve why b) (agree.serves why c b r);
  }

  -- so they have the same runs, under any rules
  pub same_runs_lem : {D E : Type 0} → (rules : Rules A D W E) → SameRuns rules first second
  same_runs_lem rules = record {
    there = runs_follow rules first second R agree;
    back = runs_follow rules second first Turned turned;
  }
