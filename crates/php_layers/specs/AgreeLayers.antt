-- When places in functions of two kinds agree.
use Rattle.std.specs.Prelude.{◌≡◌, ℕ, zero, suc, List, [], ◌∷◌, Option, Some, None}
use Rattle.php_machine.specs.Control.{Fetch, Silent}
use Rattle.php_machine.specs.Same.{SameFetch, SameServe}
use Rattle.php_layers.specs.Layers.{Layer}

-- from here the place comes there in so many silent steps
abbrev pub ComesIn : {A W L : Type 0} → Layer A W L → ℕ → L → L → Type 0
ComesIn layer zero here there = here ≡ there
ComesIn {A} {W} {L} layer (suc n) here there = (next : L) × (layer.fetch here ≡ Some (Silent next)) × ComesIn layer n next there

-- nothing is left of both, or both do the same
abbrev pub SameLeft : {A L M : Type 0} → (L → M → Type 0) → Option (Fetch A L) → Option (Fetch A M) → Type 0
SameLeft R None None = Unit {0}
SameLeft R (Some f) (Some g) = SameFetch R f g
SameLeft R _ _ = ⊥

module _ {A W L M : Type 0} (first : Layer A W L) (second : Layer A W M) (R : L → M → Type 0) where
  -- after some silent steps of each, two places are related and do the same
  pub record MeetIn (l : L) (m : M) : Type 0 where
    pub silent_first : ℕ
    pub silent_second : ℕ
    pub there : L
    pub here : M
    pub first_comes : ComesIn first silent_first l there
    pub second_comes : ComesIn second silent_second m here
    pub related : R there here
    pub same : SameLeft R (first.fetch there) (second.fetch here)

  -- related places go on as related places
  pub record AgreeIn : Type 0 where
    pub starts : (f : ℕ) → R (first.start f) (second.start f)
    pub fetches : (l : L) (m : M) → R l m → MeetIn l m
    pub serves : (why : W) (l : L) (m : M) → R l m → SameServe R (first.serve why l) (second.serve why m)

-- lists of related places
abbrev pub EachRelated : {L M : Type 0} → (L → M → Type 0) → List L → List M → Type 0
EachRelated R [] [] = Unit {0}
EachRelated R (l ∷ ls) (m ∷ ms) = R l m × EachRelated R ls ms
EachRelated R _ _ = ⊥
