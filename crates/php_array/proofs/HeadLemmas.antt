-- Slots that are kept as heads and values.
use Rattle.std.proofs.Common.{◌≡◌, ◌<◌, ◌≤◌, ℕ, ◌+◌, zero, suc, List, [], ◌∷◌, ◌++◌, length, take, drop, refl, sym, ◌∙◌, ap, arith, Some, None, length-append}
use Rattle.std.specs.Prelude.{Option, option_map, option_to_list, slice_index_or, slice_set, IsSome, is_some}
use Rattle.std.specs.List.{swap}
use Rattle.php_entries.specs.Listing.{Entry}
use Rattle.php_array.specs.Slot.{Slot, Hole, Live, slot_of}
use Rattle.php_array.specs.Slots.{serial_of, stored_in, stored_at, serial_at, vacated, with_value_at}
use Rattle.php_array.specs.Heads.{slots_of}
use Rattle.php_array.specs.declared.slots.Head.{Head}
use Rattle.php_array.proofs.PlaceLemmas.{stored_at-get, serial_at-get}

length-front : {A : Type 0} (xs ys : List A) (x : A) → xs ≡ ys ++ x ∷ [] → length xs ≡ length ys + 1
length-front xs ys x split = omega (arith, ap length split, length-append ys (x ∷ []))

module _ {T : Type 0} where
  abbrev pub head_slot : Head → Option T → Slot T
  head_slot h w = slot_of h.serial h.key w

  pub length-slots_of : (hs : List Head) (vs : List (Option T)) → length hs ≡ length vs → length (slots_of hs vs) ≡ length vs
  length-slots_of [] vs same = same
  length-slots_of (h ∷ hs) [] same = refl
  length-slots_of (h ∷ hs) (w ∷ vs) same = ap (λ n. suc n) (length-slots_of hs vs (omega arith))

  pub slots_of-none : (hs : List Head) → slots_of {T = T} hs [] ≡ []
  slots_of-none [] = refl
  slots_of-none (h ∷ hs) = refl

  -- the slot at a place is made of the head and the value there
  pub slots_of-get : (i : ℕ) (hs : List Head) (vs : List (Option T)) (h : Head) (w : Option T) → length hs ≡ length vs → slice_index_or (slots_of hs vs) i (head_slot h w) ≡ head_slot (slice_index_or hs i h) (slice_index_or vs i w)
  slots_of-get i [] [] h w same = refl
  slots_of-get i [] (v ∷ vs) h w same = absurd (omega arith)
  slots_of-get i (x ∷ hs) [] h w same = absurd (omega arith)
  slots_of-get zero (x ∷ hs) (v ∷ vs) h w same = refl
  slots_of-get (suc i) (x ∷ hs) (v ∷ vs) h w same = slots_of-get i hs vs h w (omega arith)

  pub slots_of-set : (i : ℕ) (hs : List Head) (vs : List (Option T)) (h : Head) (w : Option T) → slots_of (slice_set hs i h) (slice_set vs i w) ≡ slice_set (slots_of hs vs) i (head_slot h w)
  slots_of-set i [] vs h w = refl
  slots_of-set zero (x ∷ hs) [] h w = refl
  slots_of-set (suc i) (x ∷ hs) [] h w = refl
  slots_of-set zero (x ∷ hs) (v ∷ vs) h w = refl
  slots_of-set (suc i) (x ∷ hs) (v ∷ vs) h w = ap (λ (ss : List (Slot T)). head_slot x v ∷ ss) (slots_of-set i hs vs h w)

  -- what is stored at a place
  pub stored-parts : (i : ℕ) (hs : List Head) (vs : List (Option T)) (h : Head) (w : Option T) → length hs ≡ length vs → i < length vs → h ≡ slice_index_or hs i h → w ≡ slice_index_or vs i w → stored_at i (slots_of hs vs) ≡ stored_in (head_slot h w)
  stored-parts i hs vs h w same within is_h is_w =
      stored_at-get i (slots_of hs vs) (head_slot h w) (let len = length-slots_of hs vs same in omega arith)
      ∙ ap stored_in (slots_of-get i hs vs h w same)
      ∙ ap (λ (x : Head). stored_in (head_slot x (slice_index_or vs i w))) (sym is_h)
      ∙ ap (λ (x : Option T). stored_in (head_slot h x)) (sym is_w)

  pub serial-part : (i : ℕ) (hs : List Head) (vs : List (Option T)) (h : Head) → length hs ≡ length vs → i < length (slots_of hs vs) → h ≡ slice_index_or hs i h → serial_at i (slots_of hs vs) ≡ h.serial
  serial-part i [] vs h same within is = absurd (omega arith)
  serial-part i (x ∷ hs) [] h same within is = absurd (omega arith)
  serial-part zero (x ∷ hs) (None ∷ vs) h same within is = ap (λ (y : Head). y.serial) (sym is)
  serial-part zero (x ∷ hs) (Some v ∷ vs) h same within is = ap (λ (y : Head). y.serial) (sym is)
  serial-part (suc i) (x ∷ hs) (w ∷ vs) h same within is = serial-part i hs vs h (omega arith) (omega arith) is

  pub value-part : (i : ℕ) (hs : List Head) (vs : List (Option T)) (w : Option T) → length hs ≡ length vs → i < length vs → w ≡ slice_index_or vs i w → option_map (λ (e : Entry T). e.value) (stored_at i (slots_of hs vs)) ≡ w
  value-part i hs [] w same within is = absurd (omega arith)
  value-part i [] (v ∷ vs) w same within is = absurd (omega arith)
  value-part zero (x ∷ hs) (None ∷ vs) w same within is = sym is
  value-part zero (x ∷ hs) (Some v ∷ vs) w same within is = sym is
  value-part (suc i) (x ∷ hs) (v ∷ vs) w same within is = value-part i hs vs w (omega arith) (omega arith) is

  pub value-past : (i : ℕ) (hs : List Head) (vs : List (Option T)) → length vs ≤ i → stored_at i (slots_of hs vs) ≡ None
  value-past i [] vs past = refl
  value-past i (x ∷ hs) [] past = refl
  value-past zero (x ∷ hs) (v ∷ vs) past = absurd (omega arith)
  value-past (suc i) (x ∷ hs) (v ∷ vs) past = value-past i hs vs (omega arith)

  is_some-value : (o : Option (Entry T)) → is_some (option_map (λ (e : Entry T). e.value) o) ≡ is_some o
  is_some-value None = refl
  is_some-value (Some e) = refl

  pub live-part : (i : ℕ) (hs : List Head) (vs : List (Option T)) (w : Option T) → length hs ≡ length vs → i < length vs → w ≡ slice_index_or vs i w → is_some (stored_at i (slots_of hs vs)) ≡ is_some w
  live-part i hs vs w same within is = sym (is_some-value (stored_at i (slots_of hs vs))) ∙ ap is_some (value-part i hs vs w same within is)

  -- a value that is taken out, and one that is put in its place
  pub slots_of-vacated : (i : ℕ) (hs : List Head) (vs : List (Option T)) → slots_of hs (slice_set vs i None) ≡ vacated i (slots_of hs vs)
  slots_of-vacated i [] vs = refl
  slots_of-vacated zero (x ∷ hs) [] = refl
  slots_of-vacated (suc i) (x ∷ hs) [] = refl
  slots_of-vacated zero (x ∷ hs) (None ∷ vs) = refl
  slots_of-vacated zero (x ∷ hs) (Some v ∷ vs) = refl
  slots_of-vacated (suc i) (x ∷ hs) (w ∷ vs) = ap (λ (ss : List (Slot T)). head_slot x w ∷ ss) (slots_of-vacated i hs vs)

  pub slots_of-value : (i : ℕ) (hs : List Head) (vs : List (Option T)) (v : T) → IsSome (stored_at i (slots_of hs vs)) → slots_of hs (slice_set vs i (Some v)) ≡ with_value_at i v (slots_of hs vs)
  slots_of-value i [] vs v some = refl
  slots_of-value zero (x ∷ hs) [] v some = refl
  slots_of-value (suc i) (x ∷ hs) [] v some = refl
  slots_of-value zero (x ∷ hs) (None ∷ vs) v some = cc
  slots_of-value zero (x ∷ hs) (Some w ∷ vs) v some = refl
  slots_of-value (suc i) (x ∷ hs) (w ∷ vs) v some = ap (λ (ss : List (Slot T)). head_slot x w ∷ ss) (slots_of-value i hs vs v some)

  -- nobody sees the key of a hole
  pub slots_of-key : (i : ℕ) (hs : List Head) (vs : List (Option T)) (h d : Head) → d ≡ slice_index_or hs i d → h.serial ≡ d.serial → stored_at i (slots_of hs vs) ≡ None → slots_of (slice_set hs i h) vs ≡ slots_of hs vs
  slots_of-key i [] vs h d is same hole = refl
  slots_of-key zero (x ∷ hs) [] h d is same hole = refl
  slots_of-key (suc i) (x ∷ hs) [] h d is same hole = refl
  slots_of-key zero (x ∷ hs) (None ∷ vs) h d is same hole = ap (λ n. Hole n ∷ slots_of hs vs) (same ∙ ap (λ (y : Head). y.serial) is)
  slots_of-key zero (x ∷ hs) (Some v ∷ vs) h d is same hole = cc
  slots_of-key (suc i) (x ∷ hs) (w ∷ vs) h d is same hole = ap (λ (ss : List (Slot T)). head_slot x w ∷ ss) (slots_of-key i hs vs h d is same hole)

  -- a further slot
  pub slots_of-push : (hs : List Head) (vs : List (Option T)) (h : Head) (w : Option T) → length hs ≡ length vs → slots_of (hs ++ h ∷ []) (vs ++ w ∷ []) ≡ slots_of hs vs ++ head_slot h w ∷ []
  slots_of-push [] [] h w same = refl
  slots_of-push [] (v ∷ vs) h w same = absurd (omega arith)
  slots_of-push (x ∷ hs) [] h w same = absurd (omega arith)
  slots_of-push (x ∷ hs) (v ∷ vs) h w same = ap (λ (ss : List (Slot T)). head_slot x v ∷ ss) (slots_of-push hs vs h w (omega arith))

  pub popped-parts : (hs left : List Head) (vs rest : List (Option T)) (h : Head) (w : Option T) → length hs ≡ length vs → hs ≡ left ++ h ∷ [] → vs ≡ rest ++ w ∷ [] → slots_of hs vs ≡ slots_of left rest ++ head_slot h w ∷ []
  popped-parts hs left vs rest h w same split_hs split_vs =
      ap (λ (xs : List Head). slots_of xs vs) split_hs
      ∙ ap (λ (xs : List (Option T)). slots_of (left ++ h ∷ []) xs) split_vs
      ∙ slots_of-push left rest h w (let len_hs = length-front hs left h split_hs in let len_vs = length-front vs rest w split_vs in omega arith)

  -- the first slots, and those behind them
  pub slots_of-take : (n : ℕ) (hs : List Head) (vs : List (Option T)) → slots_of (take n hs) (take n vs) ≡ take n (slots_of hs vs)
  slots_of-take zero hs vs = refl
  slots_of-take (suc n) [] vs = refl
  slots_of-take (suc n) (x ∷ hs) [] = refl
  slots_of-take (suc n) (x ∷ hs) (v ∷ vs) = ap (λ (ss : List (Slot T)). head_slot x v ∷ ss) (slots_of-take n hs vs)

  pub slots_of-drop : (n : ℕ) (hs : List Head) (vs : List (Option T)) → slots_of (drop n hs) (drop n vs) ≡ drop n (slots_of hs vs)
  slots_of-drop zero hs vs = refl
  slots_of-drop (suc n) [] vs = refl
  slots_of-drop (suc n) (x ∷ hs) [] = slots_of-none (drop n hs)
  slots_of-drop (suc n) (x ∷ hs) (v ∷ vs) = slots_of-drop n hs vs

  pub slots_of-swap : (hs : List Head) (vs : List (Option T)) (i j : ℕ) → length hs ≡ length vs → slots_of (swap hs i j) (swap vs i j) ≡ swap (slots_of hs vs) i j
  slots_of-swap [] [] i j same = refl
  slots_of-swap [] (v ∷ vs) i j same = absurd (omega arith)
  slots_of-swap (x ∷ hs) [] i j same = absurd (omega arith)
  slots_of-swap (x ∷ hs) (v ∷ vs) i j same =
      let ss = slots_of (x ∷ hs) (v ∷ vs) in
      slots_of-set j (slice_set (x ∷ hs) i (slice_index_or (x ∷ hs) j x)) (slice_set (v ∷ vs) i (slice_index_or (v ∷ vs) j v)) (slice_index_or (x ∷ hs) i x) (slice_index_or (v ∷ vs) i v)
      ∙ ap (λ (xs : List (Slot T)). slice_set xs j (head_slot (slice_index_or (x ∷ hs) i x) (slice_index_or (v ∷ vs) i v))) (slots_of-set i (x ∷ hs) (v ∷ vs) (slice_index_or (x ∷ hs) j x) (slice_index_or (v ∷ vs) j v))
      ∙ ap (λ (s : Slot T). slice_set (slice_set ss i (head_slot (slice_index_or (x ∷ hs) j x) (slice_index_or (v ∷ vs) j v))) j s) (sym (slots_of-get i (x ∷ hs) (v ∷ vs) x v same))
      ∙ ap (λ (s : Slot T). slice_set (slice_set ss i s) j (slice_index_or ss i (head_slot x v))) (sym (slots_of-get j (x ∷ hs) (v ∷ vs) x v same))

  -- an entry is there where its value is
  pub stored-of_value : (o : Option (Entry T)) (v : T) → Some v ≡ option_map (λ (e : Entry T). e.value) o → IsSome o
  stored-of_value None v is = cc
  stored-of_value (Some e) v is = refl

  pub none-of_value : (o : Option (Entry T)) → None ≡ option_map (λ (e : Entry T). e.value) o → None ≡ o
  none-of_value None is = refl
  none-of_value (Some e) is = cc

  pub entry-parts : (i : ℕ) (hs : List Head) (vs : List (Option T)) (h : Head) (v : T) → h ≡ slice_index_or hs i h → Some v ≡ option_map (λ (e : Entry T). e.value) (stored_at i (slots_of hs vs)) → Some (record { serial = h.serial; key = h.key; value = v }) ≡ stored_at i (slots_of hs vs)
  entry-parts i [] vs h v is_h is_v = cc
  entry-parts zero (x ∷ hs) [] h v is_h is_v = cc
  entry-parts (suc i) (x ∷ hs) [] h v is_h is_v = cc
  entry-parts zero (x ∷ hs) (None ∷ vs) h v is_h is_v = cc
  entry-parts zero (x ∷ hs) (Some w ∷ vs) h v is_h is_v =
      let same : v ≡ w = cc in
      λ t. Some (record { serial = (is_h t).serial; key = (is_h t).key; value = same t })
  entry-parts (suc i) (x ∷ hs) (w ∷ vs) h v is_h is_v = entry-parts i hs vs h v is_h is_v
