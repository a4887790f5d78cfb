-- Slots that are packed in place: each live one changes places with the first hole.
use Rattle.std.proofs.Common.{◌≡◌, ◌<◌, ◌≤◌, ℕ, ◌+◌, zero, suc, List, [], ◌∷◌, ◌++◌, length, take, drop, refl, sym, ◌∙◌, ap, arith, append_assoc, append-nil, length-append, add-one}
use Rattle.std.specs.Prelude.{Bool, true, false, cond, filter, slice_index_or, slice_set, is_some}
use Rattle.std.specs.List.{swap}
use Rattle.php_array.specs.Slot.{Slot, Hole, Live}
use Rattle.php_array.specs.Slots.{is_live, stored_in, stored_at}

module _ {T : Type 0} where
  -- of the slots up to a place the live ones stand in front, and holes behind them
  pub record IsPackedTo (old new : List (Slot T)) (kept place : ℕ) : Type 0 where
    pub holes : List (Slot T)
    pub none_live : filter is_live holes ≡ []
    pub split : new ≡ filter is_live (take place old) ++ (holes ++ drop place old)
    pub kept_is : kept ≡ length (filter is_live (take place old))
    pub place_is : kept + length holes ≡ place

  filter-append : (xs ys : List (Slot T)) → filter is_live (xs ++ ys) ≡ filter is_live xs ++ filter is_live ys
  filter-append [] ys = refl
  filter-append (Hole n ∷ xs) ys = filter-append xs ys
  filter-append (Live e ∷ xs) ys = ap (λ (zs : List (Slot T)). Live e ∷ zs) (filter-append xs ys)

  is_live-stored : (s : Slot T) → is_some (stored_in s) ≡ is_live s
  is_live-stored (Hole n) = refl
  is_live-stored (Live e) = refl

  get-middle : (xs : List (Slot T)) (s d : Slot T) (ys : List (Slot T)) → slice_index_or (xs ++ s ∷ ys) (length xs) d ≡ s
  get-middle [] s d ys = refl
  get-middle (x ∷ xs) s d ys = get-middle xs s d ys

  set-middle : (xs : List (Slot T)) (s h : Slot T) (ys : List (Slot T)) → slice_set (xs ++ s ∷ ys) (length xs) h ≡ xs ++ h ∷ ys
  set-middle [] s h ys = refl
  set-middle (x ∷ xs) s h ys = ap (λ (zs : List (Slot T)). x ∷ zs) (set-middle xs s h ys)

  stored-middle : (xs : List (Slot T)) (s : Slot T) (ys : List (Slot T)) → stored_at (length xs) (xs ++ s ∷ ys) ≡ stored_in s
  stored-middle [] s ys = refl
  stored-middle (x ∷ xs) s ys = stored-middle xs s ys

  -- the first hole goes behind the other holes
  abbrev turned : List (Slot T) → List (Slot T)
  turned [] = []
  turned (h ∷ hs) = hs ++ h ∷ []

  swap-here : (d : Slot T) (holes rest : List (Slot T)) (s : Slot T) (n : ℕ) → n ≡ length holes → slice_set (slice_set (holes ++ s ∷ rest) 0 (slice_index_or (holes ++ s ∷ rest) n d)) n (slice_index_or (holes ++ s ∷ rest) 0 d) ≡ s ∷ (turned holes ++ rest)
  swap-here d [] rest s zero is = refl
  swap-here d [] rest s (suc n) is = absurd (omega arith)
  swap-here d (h ∷ holes) rest s zero is = absurd (omega arith)
  swap-here d (h ∷ holes) rest s (suc n) is =
      let same : n ≡ length holes = omega arith in
      ap (λ m. slice_index_or (holes ++ s ∷ rest) m d ∷ slice_set (holes ++ s ∷ rest) m h) same
      ∙ ap (λ (x : Slot T). x ∷ slice_set (holes ++ s ∷ rest) (length holes) h) (get-middle holes s d rest)
      ∙ ap (λ (xs : List (Slot T)). s ∷ xs) (set-middle holes s h rest ∙ sym (append_assoc holes (h ∷ []) rest))

  swap-behind : (d : Slot T) (front holes rest : List (Slot T)) (s : Slot T) (i j : ℕ) → i ≡ length front → j ≡ length front + length holes → slice_set (slice_set (front ++ (holes ++ s ∷ rest)) i (slice_index_or (front ++ (holes ++ s ∷ rest)) j d)) j (slice_index_or (front ++ (holes ++ s ∷ rest)) i d) ≡ front ++ s ∷ (turned holes ++ rest)
  swap-behind d [] holes rest s zero j i_is j_is = swap-here d holes rest s j (omega arith)
  swap-behind d [] holes rest s (suc i) j i_is j_is = absurd (omega arith)
  swap-behind d (x ∷ front) holes rest s zero j i_is j_is = absurd (omega arith)
  swap-behind d (x ∷ front) holes rest s (suc i) zero i_is j_is = absurd (omega arith)
  swap-behind d (x ∷ front) holes rest s (suc i) (suc j) i_is j_is =
      ap (λ (xs : List (Slot T)). x ∷ xs) (swap-behind d front holes rest s i j (omega arith) (omega arith))

  -- `swap` reads its default of the list's head
  swap-some : (xs front holes rest : List (Slot T)) (s : Slot T) (i j : ℕ) → xs ≡ front ++ (holes ++ s ∷ rest) → i ≡ length front → j ≡ length front + length holes → swap xs i j ≡ front ++ s ∷ (turned holes ++ rest)
  swap-some [] front holes rest s i j split i_is j_is = absurd (omega (arith, ap length split, length-append front (holes ++ s ∷ rest), length-append holes (s ∷ rest)))
  swap-some (d ∷ xs) front holes rest s i j split i_is j_is =
      ap (λ (ys : List (Slot T)). slice_set (slice_set ys i (slice_index_or ys j d)) j (slice_index_or ys i d)) split
      ∙ swap-behind d front holes rest s i j i_is j_is

  take-next : (n : ℕ) (old : List (Slot T)) → n < length old → (s : Slot T) × ((take (suc n) old ≡ take n old ++ s ∷ []) × (drop n old ≡ s ∷ drop (suc n) old))
  take-next n [] within = absurd (omega arith)
  take-next zero (s ∷ old) within = (s, (refl, refl))
  take-next (suc n) (x ∷ old) within =
      let r = take-next n old (omega arith) in
      (r.0, (ap (λ (xs : List (Slot T)). x ∷ xs) r.1.0, r.1.1))

  filter-one : (s : Slot T) (b : Bool) → is_live s ≡ b → filter is_live (s ∷ []) ≡ cond b (s ∷ []) []
  filter-one (Hole n) true is = cc
  filter-one (Hole n) false is = refl
  filter-one (Live e) true is = refl
  filter-one (Live e) false is = cc

  turned-none_live : (holes : List (Slot T)) → filter is_live holes ≡ [] → filter is_live (turned holes) ≡ []
  turned-none_live [] none = refl
  turned-none_live (Hole n ∷ holes) none = filter-append holes (Hole n ∷ []) ∙ ap (λ (xs : List (Slot T)). xs ++ []) none
  turned-none_live (Live e ∷ holes) none = cc

  length-turned : (holes : List (Slot T)) → length (turned holes) ≡ length holes
  length-turned [] = refl
  length-turned (h ∷ holes) = omega (arith, length-append holes (h ∷ []))

  pub packed-start : (old : List (Slot T)) → IsPackedTo old old 0 0
  packed-start old = record { holes = []; none_live = refl; split = refl; kept_is = refl; place_is = refl }

  module _ (old new : List (Slot T)) (kept place : ℕ) (packed : IsPackedTo old new kept place) (within : place < length old) where
    next : (s : Slot T) × ((take (suc place) old ≡ take place old ++ s ∷ []) × (drop place old ≡ s ∷ drop (suc place) old))
    next = take-next place old within

    here : new ≡ filter is_live (take place old) ++ (packed.holes ++ next.0 ∷ drop (suc place) old)
    here = packed.split ∙ ap (λ (xs : List (Slot T)). filter is_live (take place old) ++ (packed.holes ++ xs)) next.1.1

    front_len : length (filter is_live (take place old) ++ packed.holes) ≡ place
    front_len = (let kept_is = packed.kept_is in let place_is = packed.place_is in omega (arith, length-append (filter is_live (take place old)) packed.holes))

    here_live : is_some (stored_at place new) ≡ is_live next.0
    here_live =
        ap (λ (xs : List (Slot T)). is_some (stored_at place xs)) (here ∙ sym (append_assoc (filter is_live (take place old)) packed.holes (next.0 ∷ drop (suc place) old)))
        ∙ ap (λ n. is_some (stored_at n ((filter is_live (take place old) ++ packed.holes) ++ next.0 ∷ drop (suc place) old))) (sym front_len)
        ∙ ap is_some (stored-middle (filter is_live (take place old) ++ packed.holes) next.0 (drop (suc place) old))
        ∙ is_live-stored next.0

    taken : (b : Bool) → is_some (stored_at place new) ≡ b → filter is_live (take (suc place) old) ≡ filter is_live (take place old) ++ cond b (next.0 ∷ []) []
    taken b live =
        ap (filter is_live) next.1.0
        ∙ filter-append (take place old) (next.0 ∷ [])
        ∙ ap (λ (xs : List (Slot T)). filter is_live (take place old) ++ xs) (filter-one next.0 b (sym here_live ∙ live))

    -- a live slot goes to the others
    pub packed-live : (after : List (Slot T)) → is_some (stored_at place new) ≡ true → after ≡ swap new kept place → IsPackedTo old after (kept + 1) (place + 1)
    packed-live after live swapped =
        let swapped_is = swap-some new (filter is_live (take place old)) packed.holes (drop (suc place) old) next.0 kept place here packed.kept_is (let kept_is = packed.kept_is in let place_is = packed.place_is in omega arith) in
        let more = taken true live in
        record {
          holes = turned packed.holes;
          none_live = turned-none_live packed.holes packed.none_live;
          split =
              swapped
              ∙ swapped_is
              ∙ sym (append_assoc (filter is_live (take place old)) (next.0 ∷ []) (turned packed.holes ++ drop (suc place) old))
              ∙ ap (λ (xs : List (Slot T)). xs ++ (turned packed.holes ++ drop (suc place) old)) (sym more)
              ∙ ap (λ n. filter is_live (take n old) ++ (turned packed.holes ++ drop n old)) (sym (add-one place));
          kept_is =
              (let kept_is = packed.kept_is in omega (arith, ap length more, length-append (filter is_live (take place old)) (next.0 ∷ [])))
              ∙ ap (λ n. length (filter is_live (take n old))) (sym (add-one place));
          place_is = (let place_is = packed.place_is in omega (arith, length-turned packed.holes));
        }

    -- a hole stays behind them
    pub packed-hole : is_some (stored_at place new) ≡ false → IsPackedTo old new kept (place + 1)
    packed-hole hole =
        let more = taken false hole ∙ append-nil (filter is_live (take place old)) in
        record {
          holes = packed.holes ++ next.0 ∷ [];
          none_live = filter-append packed.holes (next.0 ∷ []) ∙ ap (λ (xs : List (Slot T)). xs ++ filter is_live (next.0 ∷ [])) packed.none_live ∙ filter-one next.0 false (sym here_live ∙ hole);
          split =
              here
              ∙ ap (λ (xs : List (Slot T)). filter is_live (take place old) ++ xs) (sym (append_assoc packed.holes (next.0 ∷ []) (drop (suc place) old)))
              ∙ ap (λ (xs : List (Slot T)). xs ++ ((packed.holes ++ next.0 ∷ []) ++ drop (suc place) old)) (sym more)
              ∙ ap (λ n. filter is_live (take n old) ++ ((packed.holes ++ next.0 ∷ []) ++ drop n old)) (sym (add-one place));
          kept_is = packed.kept_is ∙ ap length (sym more) ∙ ap (λ n. length (filter is_live (take n old))) (sym (add-one place));
          place_is = (let place_is = packed.place_is in omega (arith, length-append packed.holes (next.0 ∷ [])));
        }

  take-front : (xs ys : List (Slot T)) (n : ℕ) → n ≡ length xs → take n (xs ++ ys) ≡ xs
  take-front [] ys zero is = refl
  take-front [] ys (suc n) is = absurd (omega arith)
  take-front (x ∷ xs) ys zero is = absurd (omega arith)
  take-front (x ∷ xs) ys (suc n) is = ap (λ (zs : List (Slot T)). x ∷ zs) (take-front xs ys n (omega arith))

  take-all : (n : ℕ) (xs : List (Slot T)) → length xs ≤ n → take n xs ≡ xs
  take-all zero [] all = refl
  take-all (suc n) [] all = refl
  take-all zero (x ∷ xs) all = absurd (omega arith)
  take-all (suc n) (x ∷ xs) all = ap (λ (zs : List (Slot T)). x ∷ zs) (take-all n xs (omega arith))

  -- at the end only the live slots are kept
  pub packed-end : (old new : List (Slot T)) (kept place : ℕ) → IsPackedTo old new kept place → length old ≤ place → take kept new ≡ filter is_live old
  packed-end old new kept place packed all =
      ap (take kept) packed.split
      ∙ take-front (filter is_live (take place old)) (packed.holes ++ drop place old) kept packed.kept_is
      ∙ ap (filter is_live) (take-all place old all)
