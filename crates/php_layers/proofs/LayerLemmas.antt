-- Where places in functions agree, the controls that are made of them do.
use Rattle.std.proofs.Common.{◌≡◌, ℕ, zero, suc, List, [], ◌∷◌, Option, Some, None, refl, sym, ap, subst}
use Rattle.php_machine.specs.Control.{Fetch, Silent, Act, Branch, Control}
use Rattle.php_machine.specs.Same.{Comes, SameFetch, SameServe, Meet, Agree}
use Rattle.php_layers.specs.Layers.{Layer, fetched_over, served_over, layered, serve_layers}
use Rattle.php_layers.specs.AgreeLayers.{ComesIn, SameLeft, MeetIn, AgreeIn, EachRelated}

-- silent steps, one after the other
abbrev ComesAtAll : {A W C : Type 0} → Control A W C → C → C → Type 0
ComesAtAll control here there = (n : ℕ) × Comes control n here there

comes_further : {A W C : Type 0} (control : Control A W C) (n m : ℕ) (a b c : C) → Comes control n a b → Comes control m b c → ComesAtAll control a c
comes_further control zero m a b c h k = (m, subst (λ x. Comes control m x c) (sym h) k)
comes_further control (suc n) m a b c h k =
    let rest = comes_further control n m h.0 b c h.2 k in
    (suc rest.0, (h.0, h.1, rest.1))

module _ {A W L : Type 0} (end : A) (layer : Layer A W L) where
  comes_over : (n : ℕ) (l there : L) (ls : List L) → ComesIn layer n l there → Comes (layered end layer) n (l ∷ ls) (there ∷ ls)
  comes_over zero l there ls h = ap (λ x. x ∷ ls) h
  comes_over (suc n) l there ls h = (h.0 ∷ ls, ap (λ o. fetched_over end o l ls) h.1, comes_over n h.0 there ls h.2)

  -- and then one more, to where the function below goes on
  comes_below : (n : ℕ) (l there m : L) (ms bs : List L) (k : ℕ) → ComesIn layer n l there → layer.fetch there ≡ None
      → Comes (layered end layer) k (m ∷ ms) bs → ComesAtAll (layered end layer) (l ∷ m ∷ ms) bs
  comes_below n l there m ms bs k h none below =
      comes_further (layered end layer) n (suc k) (l ∷ m ∷ ms) (there ∷ m ∷ ms) bs (comes_over n l there (m ∷ ms) h)
      (m ∷ ms, ap (λ o. fetched_over end o there (m ∷ ms)) none, below)

module _ {A W L M : Type 0} (end : A) (first : Layer A W L) (second : Layer A W M) (R : L → M → Type 0) where
  abbrev MeetAll : List L → List M → Type 0
  MeetAll = Meet (layered end first) (layered end second) (EachRelated R)

  -- where something of the newest functions is left
  meet_newest : (l : L) (m : M) (ls : List L) (ms : List M) (w : MeetIn first second R l m)
      → SameFetch (EachRelated R) (fetched_over end (first.fetch w.there) w.there ls) (fetched_over end (second.fetch w.here) w.here ms)
      → EachRelated R ls ms → MeetAll (l ∷ ls) (m ∷ ms)
  meet_newest l m ls ms w same rest = record {
    silent_first = w.silent_first;
    silent_second = w.silent_second;
    there = w.there ∷ ls;
    here = w.here ∷ ms;
    first_comes = comes_over end first w.silent_first l w.there ls w.first_comes;
    second_comes = comes_over end second w.silent_second m w.here ms w.second_comes;
    related = (w.related, rest);
    same = same;
  }

  same_over : (f : Fetch A L) (g : Fetch A M) (l : L) (m : M) (ls : List L) (ms : List M) → SameFetch R f g → EachRelated R ls ms
      → SameFetch (EachRelated R) (fetched_over end (Some f) l ls) (fetched_over end (Some g) m ms)
  same_over (Act x a) (Act y b) l m ls ms same rest = (same.0, (same.1, rest))
  same_over (Branch a c) (Branch b d) l m ls ms same rest = ((same.0, rest), (same.1, rest))
  same_over (Silent a) g l m ls ms same rest = absurd same
  same_over (Act x a) (Silent b) l m ls ms same rest = absurd same
  same_over (Act x a) (Branch b d) l m ls ms same rest = absurd same
  same_over (Branch a c) (Silent b) l m ls ms same rest = absurd same
  same_over (Branch a c) (Act y b) l m ls ms same rest = absurd same

  -- where nothing is left of them
  meet_below : (l : L) (m : M) (ls : List L) (ms : List M) (w : MeetIn first second R l m) → first.fetch w.there ≡ None → second.fetch w.here ≡ None
      → EachRelated R ls ms → MeetAll ls ms → MeetAll (l ∷ ls) (m ∷ ms)
  meet_below l m [] [] w e g rest below =
      meet_newest l m [] [] w
      (subst (λ o. SameFetch (EachRelated R) (fetched_over end o w.there []) (fetched_over end (second.fetch w.here) w.here [])) (sym e)
      (subst (λ o. SameFetch (EachRelated R) (Act end (w.there ∷ [])) (fetched_over end o w.here [])) (sym g) (refl, (w.related, tt))))
      tt
  meet_below l m (x ∷ xs) (y ∷ ys) w e g rest below =
      let there = comes_below end first w.silent_first l w.there x xs below.there below.silent_first w.first_comes e below.first_comes in
      let here = comes_below end second w.silent_second m w.here y ys below.here below.silent_second w.second_comes g below.second_comes in
      record {
        silent_first = there.0;
        silent_second = here.0;
        there = below.there;
        here = below.here;
        first_comes = there.1;
        second_comes = here.1;
        related = below.related;
        same = below.same;
      }
  meet_below l m [] (y ∷ ys) w e g rest below = absurd rest
  meet_below l m (x ∷ xs) [] w e g rest below = absurd rest

  meet_by : (l : L) (m : M) (ls : List L) (ms : List M) (w : MeetIn first second R l m) (o : Option (Fetch A L)) (u : Option (Fetch A M))
      → first.fetch w.there ≡ o → second.fetch w.here ≡ u → SameLeft R o u → EachRelated R ls ms → MeetAll ls ms → MeetAll (l ∷ ls) (m ∷ ms)
  meet_by l m ls ms w None None e g same rest below = meet_below l m ls ms w e g rest below
  meet_by l m ls ms w (Some f) (Some h) e g same rest below =
      meet_newest l m ls ms w
      (subst (λ o. SameFetch (EachRelated R) (fetched_over end o w.there ls) (fetched_over end (second.fetch w.here) w.here ms)) (sym e)
      (subst (λ o. SameFetch (EachRelated R) (fetched_over end (Some f) w.there ls) (fetched_over end o w.here ms)) (sym g) (same_over f h w.there w.here ls ms same rest)))
      rest
  meet_by l m ls ms w None (Some h) e g same rest below = absurd same
  meet_by l m ls ms w (Some f) None e g same rest below = absurd same

  module _ (agree : AgreeIn first second R) where
    meets : (ls : List L) (ms : List M) → EachRelated R ls ms → MeetAll ls ms
    meets [] [] r = record {
      silent_first = 0;
      silent_second = 0;
      there = [];
      here = [];
      first_comes = refl;
      second_comes = refl;
      related = tt;
      same = (refl, tt);
    }
    meets (l ∷ ls) (m ∷ ms) r =
        let w = agree.fetches l m r.0 in
        meet_by l m ls ms w (first.fetch w.there) (second.fetch w.here) refl refl w.same r.1 (meets ls ms r.1)
    meets [] (m ∷ ms) r = absurd r
    meets (l ∷ ls) [] r = absurd r

    served : (o : Option L) (u : Option M) (ls : List L) (ms : List M) (p : Option (List L)) (q : Option (List M))
        → SameServe R o u → EachRelated R ls ms → SameServe (EachRelated R) p q → SameServe (EachRelated R) (served_over o ls p) (served_over u ms q)
    served None None ls ms p q same rest below = below
    served (Some a) (Some b) ls ms p q same rest below = (same, rest)
    served None (Some b) ls ms p q same rest below = absurd same
    served (Some a) None ls ms p q same rest below = absurd same

    serves : (why : W) (ls : List L) (ms : List M) → EachRelated R ls ms → SameServe (EachRelated R) (serve_layers first why ls) (serve_layers second why ms)
    serves why [] [] r = tt
    serves why (l ∷ ls) (m ∷ ms) r = served (first.serve why l) (second.serve why m) ls ms _ _ (agree.serves why l m r.0) r.1 (serves why ls ms r.1)
    serves why [] (m ∷ ms) r = absurd r
    serves why (l ∷ ls) [] r = absurd r

    pub layers_agree : Agree (layered end first) (layered end second) (EachRelated R)
    layers_agree = record {
      starts = λ f. (agree.starts f, tt);
      insides = λ f ls ms r. (agree.starts f, r);
      fetches = meets;
      serves = serves;
    }
