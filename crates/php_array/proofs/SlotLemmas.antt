-- What slots hold, before and after a change of one of them.
use Rattle.std.proofs.Common.{◌≡◌, ◌<◌, ◌≤◌, inl, inr, ℕ, zero, suc, ◌+◌, List, [], ◌∷◌, ◌++◌, length, take, drop, refl, sym, ◌∙◌, ap, subst, arith, Some, None, append-nil}
use Rattle.std.specs.Prelude.{Bool, true, false, cond, Option, option_map, is_some, find, IfNone, IfSome}
use Rattle.std.proofs.lemmas.Bool.{cases_Bool}
use Rattle.php_value.specs.declared.key.Key.{Key}
use Rattle.php_entries.specs.Keys.{key_eq}
use Rattle.php_entries.specs.Listing.{Entry}
use Rattle.php_entries.specs.Changes.{with_value, without_key}
use Rattle.php_entries.specs.Soundness.{HasNoKey, AreKeysDistinct}
use Rattle.php_entries.proofs.KeyLemmas.{key_eq-true, key_eq-self, key_eq-sym_false}
use Rattle.php_array.specs.Slots.{serial_of, stored_in, stored_at, serial_at, entries_in, place_of, vacated, revalued, with_value_at, DoSerialsRise, AreHoles, HoldsSame}
use Rattle.php_array.specs.Slot.{Slot, Hole, Live, slot_of}

suc_some : (o : Option ℕ) (i : ℕ) → option_map (λ i. suc i) o ≡ Some i → (j : ℕ) × (o ≡ Some j) × (i ≡ suc j)
suc_some None i e = cc
suc_some (Some j) i e = (j, refl, cc)

suc_none : (o : Option ℕ) → option_map (λ i. suc i) o ≡ None → o ≡ None
suc_none None e = refl
suc_none (Some i) e = cc

suc_cond : (b : Bool) (o p : Option ℕ) → option_map (λ i. suc i) (cond b o p) ≡ cond b (option_map (λ i. suc i) o) (option_map (λ i. suc i) p)
suc_cond true o p = refl
suc_cond false o p = refl

zero_some : (i : ℕ) → Some 0 ≡ Some i → 0 ≡ i
zero_some i e = cc

module _ {T : Type 0} where
  pub entries_in-append : (xs ys : List (Slot T)) → entries_in (xs ++ ys) ≡ entries_in xs ++ entries_in ys
  entries_in-append [] ys = refl
  entries_in-append (Hole n ∷ xs) ys = entries_in-append xs ys
  entries_in-append (Live e ∷ xs) ys = ap (λ (es : List (Entry T)). e ∷ es) (entries_in-append xs ys)

  -- where a key's slot is not the first, it is one further than in the rest
  place_behind : (k : Key) (e : Entry T) (ss : List (Slot T)) → key_eq k e.key ≡ false → place_of k (Live e ∷ ss) ≡ option_map (λ i. suc i) (place_of k ss)
  place_behind k e ss apart = ap (λ (b : Bool). cond b (Some 0) (option_map (λ i. suc i) (place_of k ss))) apart

  place_first : (k : Key) (e : Entry T) (ss : List (Slot T)) → key_eq k e.key ≡ true → place_of k (Live e ∷ ss) ≡ Some 0
  place_first k e ss same = ap (λ (b : Bool). cond b (Some 0) (option_map (λ i. suc i) (place_of k ss))) same

  -- at a key's place an entry with this key is stored
  pub place_of-stored : (k : Key) (ss : List (Slot T)) (i : ℕ) → place_of k ss ≡ Some i → (e : Entry T) × (stored_at i ss ≡ Some e) × (e.key ≡ k)
  place_of-stored k [] i is = cc
  place_of-stored k (Hole n ∷ ss) i is =
      let j = suc_some (place_of k ss) i is in
      let r = place_of-stored k ss j.0 j.1 in
      (r.0, ap (λ m. stored_at m (Hole n ∷ ss)) j.2 ∙ r.1, r.2)
  place_of-stored k (Live e ∷ ss) i is =
      elim (cases_Bool (key_eq k e.key)) [
        | inl same ↦ (
            let zero_is = zero_some i (sym (place_first k e ss same) ∙ is) in
            (e, ap (λ m. stored_at m (Live e ∷ ss)) (sym zero_is), sym (key_eq-true k e.key same)))
        | inr apart ↦ (
            let j = suc_some (place_of k ss) i (sym (place_behind k e ss apart) ∙ is) in
            let r = place_of-stored k ss j.0 j.1 in
            (r.0, ap (λ m. stored_at m (Live e ∷ ss)) j.2 ∙ r.1, r.2))
      ]

  -- a key that no slot has
  pub place_of-none : (k : Key) (ss : List (Slot T)) → place_of k ss ≡ None → find (λ (e : Entry T). key_eq k e.key) (entries_in ss) ≡ None
  place_of-none k [] none = refl
  place_of-none k (Hole n ∷ ss) none = place_of-none k ss (suc_none (place_of k ss) none)
  place_of-none k (Live e ∷ ss) none =
      elim (cases_Bool (key_eq k e.key)) [
        | inl same ↦ (let bad = sym (place_first k e ss same) ∙ none in cc)
        | inr apart ↦
            ap (λ (b : Bool). cond b (Some e) (find (λ (x : Entry T). key_eq k x.key) (entries_in ss))) apart
            ∙ place_of-none k ss (suc_none (place_of k ss) (sym (place_behind k e ss apart) ∙ none))
      ]

  pub place_of-no_key : (k : Key) (ss : List (Slot T)) → HasNoKey k (entries_in ss) → place_of k ss ≡ None
  place_of-no_key k [] none = refl
  place_of-no_key k (Hole n ∷ ss) none = ap (option_map (λ i. suc i)) (place_of-no_key k ss none)
  place_of-no_key k (Live e ∷ ss) none = place_behind k e ss none.0 ∙ ap (option_map (λ i. suc i)) (place_of-no_key k ss none.1)

  pub without_key-none : (k : Key) (es : List (Entry T)) → find (λ e. key_eq k e.key) es ≡ None → without_key k es ≡ es
  without_key-none k [] none = refl
  without_key-none k (e ∷ es) none =
      elim (cases_Bool (key_eq k e.key)) [
        | inl same ↦ (let bad = ap (λ (b : Bool). cond b (Some e) (find (λ (x : Entry T). key_eq k x.key) es)) (sym same) ∙ none in cc)
        | inr apart ↦
            ap (λ (b : Bool). cond b es (e ∷ without_key k es)) apart
            ∙ ap (λ (rest : List (Entry T)). e ∷ rest) (without_key-none k es (ap (λ (b : Bool). cond b (Some e) (find (λ (x : Entry T). key_eq k x.key) es)) (sym apart) ∙ none))
      ]

  -- the entry of a key is the one that is stored at its place
  pub place_of-find : (k : Key) (ss : List (Slot T)) (i : ℕ) (e : Entry T) → place_of k ss ≡ Some i → stored_at i ss ≡ Some e → find (λ (x : Entry T). key_eq k x.key) (entries_in ss) ≡ Some e
  place_of-find k [] i e is there = cc
  place_of-find k (Hole n ∷ ss) i e is there =
      let j = suc_some (place_of k ss) i is in
      place_of-find k ss j.0 e j.1 (ap (λ m. stored_at m (Hole n ∷ ss)) (sym j.2) ∙ there)
  place_of-find k (Live x ∷ ss) i e is there =
      elim (cases_Bool (key_eq k x.key)) [
        | inl same ↦ (
            let zero_is = zero_some i (sym (place_first k x ss same) ∙ is) in
            let here : Some x ≡ Some e = ap (λ m. stored_at m (Live x ∷ ss)) zero_is ∙ there in
            let is_e : x ≡ e = cc in
            ap (λ (b : Bool). cond b (Some x) (find (λ (y : Entry T). key_eq k y.key) (entries_in ss))) same ∙ ap (λ (y : Entry T). Some y) is_e)
        | inr apart ↦ (
            let j = suc_some (place_of k ss) i (sym (place_behind k x ss apart) ∙ is) in
            ap (λ (b : Bool). cond b (Some x) (find (λ (y : Entry T). key_eq k y.key) (entries_in ss))) apart
            ∙ place_of-find k ss j.0 e j.1 (ap (λ m. stored_at m (Live x ∷ ss)) (sym j.2) ∙ there))
      ]

  -- an entry that is stored at a place has that place
  pub stored-place_of : (ss : List (Slot T)) (i : ℕ) (e : Entry T) → AreKeysDistinct (entries_in ss) → stored_at i ss ≡ Some e → place_of e.key ss ≡ Some i
  stored-place_of [] i e distinct there = cc
  stored-place_of (Hole n ∷ ss) zero e distinct there = cc
  stored-place_of (Live x ∷ ss) zero e distinct there =
      let same : x ≡ e = cc in
      ap (λ (y : Entry T). place_of y.key (Live x ∷ ss)) (sym same) ∙ place_first x.key x ss (key_eq-self x.key)
  stored-place_of (Hole n ∷ ss) (suc i) e distinct there = ap (option_map (λ i. suc i)) (stored-place_of ss i e distinct there)
  stored-place_of (Live x ∷ ss) (suc i) e distinct there =
      let rest = stored-place_of ss i e distinct.1 there in
      elim (cases_Bool (key_eq e.key x.key)) [
        | inl same ↦ (
            let none = place_of-no_key x.key ss distinct.0 in
            let equal = key_eq-true e.key x.key same in
            let bad = sym rest ∙ ap (λ (q : Key). place_of q ss) equal ∙ none in
            cc)
        | inr apart ↦ place_behind e.key x ss apart ∙ ap (option_map (λ i. suc i)) rest
      ]

  -- one more slot at the end
  pub place_of-push : (q : Key) (ss : List (Slot T)) (e : Entry T) → place_of e.key ss ≡ None → place_of q (ss ++ Live e ∷ []) ≡ cond (key_eq e.key q) (Some (length ss)) (place_of q ss)
  place_of-push q [] e none =
      elim (cases_Bool (key_eq e.key q)) [
        | inl same ↦ place_first q e [] (ap (key_eq q) (key_eq-true e.key q same) ∙ key_eq-self q) ∙ sym (ap (λ (b : Bool). cond b (Some 0) None) same)
        | inr apart ↦ place_behind q e [] (key_eq-sym_false e.key q apart) ∙ sym (ap (λ (b : Bool). cond b (Some 0) None) apart)
      ]
  place_of-push q (Hole n ∷ ss) e none =
      ap (option_map (λ i. suc i)) (place_of-push q ss e (suc_none (place_of e.key ss) none)) ∙ suc_cond (key_eq e.key q) (Some (length ss)) (place_of q ss)
  place_of-push q (Live x ∷ ss) e none =
      elim (cases_Bool (key_eq e.key x.key)) [
        | inl same ↦ (let bad = sym (place_first e.key x ss same) ∙ none in cc)
        | inr apart ↦ (
            let rest = place_of-push q ss e (suc_none (place_of e.key ss) (sym (place_behind e.key x ss apart) ∙ none)) in
            elim (cases_Bool (key_eq q x.key)) [
              | inl here ↦ (
                  let other : key_eq e.key q ≡ false = ap (key_eq e.key) (key_eq-true q x.key here) ∙ apart in
                  place_first q x (ss ++ Live e ∷ []) here
                  ∙ sym (place_first q x ss here)
                  ∙ sym (ap (λ (b : Bool). cond b (Some (suc (length ss))) (place_of q (Live x ∷ ss))) other))
              | inr there ↦
                  place_behind q x (ss ++ Live e ∷ []) there
                  ∙ ap (option_map (λ i. suc i)) rest
                  ∙ suc_cond (key_eq e.key q) (Some (length ss)) (place_of q ss)
                  ∙ ap (cond (key_eq e.key q) (Some (suc (length ss)))) (sym (place_behind q x ss there))
            ])
      ]

  pub stored_at-push : (i : ℕ) (ss : List (Slot T)) (s : Slot T) → (i < length ss → stored_at i (ss ++ s ∷ []) ≡ stored_at i ss) × (stored_at (length ss) (ss ++ s ∷ []) ≡ stored_in s) × (length ss < i → stored_at i (ss ++ s ∷ []) ≡ None)
  stored_at-push zero [] s = ((λ h. absurd (omega arith)), refl, (λ h. absurd (omega arith)))
  stored_at-push (suc i) [] s = ((λ h. absurd (omega arith)), refl, (λ h. refl))
  stored_at-push zero (x ∷ ss) s = let r = stored_at-push zero ss s in ((λ h. refl), r.1, (λ h. absurd (omega arith)))
  stored_at-push (suc i) (x ∷ ss) s = let r = stored_at-push i ss s in ((λ h. r.0 (omega arith)), r.1, (λ h. r.2 (omega arith)))

  -- a slot that is emptied
  pub stored_at-vacated : (i j : ℕ) (ss : List (Slot T)) → (stored_at i (vacated i ss) ≡ None) × ((i ≡ j → ⊥) → stored_at j (vacated i ss) ≡ stored_at j ss)
  stored_at-vacated i j [] = (refl, (λ h. refl))
  stored_at-vacated zero zero (s ∷ ss) = (refl, (λ h. absurd (h refl)))
  stored_at-vacated zero (suc j) (s ∷ ss) = (refl, (λ h. refl))
  stored_at-vacated (suc i) zero (s ∷ ss) = ((stored_at-vacated i zero ss).0, (λ h. refl))
  stored_at-vacated (suc i) (suc j) (s ∷ ss) = let r = stored_at-vacated i j ss in (r.0, (λ h. r.1 (λ e. h (ap (λ n. suc n) e))))

  pub place_of-vacated : (k : Key) (ss : List (Slot T)) (i : ℕ) → AreKeysDistinct (entries_in ss) → place_of k ss ≡ Some i → (q : Key) → place_of q (vacated i ss) ≡ cond (key_eq k q) None (place_of q ss)
  place_of-vacated k [] i distinct is q = cc
  place_of-vacated k (Hole n ∷ ss) i distinct is q =
      let j = suc_some (place_of k ss) i is in
      ap (λ m. place_of q (vacated m (Hole n ∷ ss))) j.2
      ∙ ap (option_map (λ i. suc i)) (place_of-vacated k ss j.0 distinct j.1 q)
      ∙ suc_cond (key_eq k q) None (place_of q ss)
  place_of-vacated k (Live e ∷ ss) i distinct is q =
      elim (cases_Bool (key_eq k e.key)) [
        | inl same ↦ (
            let zero_is = zero_some i (sym (place_first k e ss same) ∙ is) in
            let equal : k ≡ e.key = key_eq-true k e.key same in
            ap (λ m. place_of q (vacated m (Live e ∷ ss))) (sym zero_is)
            ∙ (elim (cases_Bool (key_eq k q)) [
              | inl hq ↦ (
                  let none : place_of q ss ≡ None = ap (λ (x : Key). place_of x ss) (sym (key_eq-true k q hq) ∙ equal) ∙ place_of-no_key e.key ss distinct.0 in
                  ap (option_map (λ i. suc i)) none ∙ sym (ap (λ (b : Bool). cond b None (place_of q (Live e ∷ ss))) hq))
              | inr hq ↦ (
                  let apart : key_eq q e.key ≡ false = key_eq-sym_false e.key q (ap (λ (x : Key). key_eq x q) (sym equal) ∙ hq) in
                  sym (place_behind q e ss apart) ∙ sym (ap (λ (b : Bool). cond b None (place_of q (Live e ∷ ss))) hq))
            ]))
        | inr apart ↦ (
            let j = suc_some (place_of k ss) i (sym (place_behind k e ss apart) ∙ is) in
            let rest = place_of-vacated k ss j.0 distinct.1 j.1 q in
            ap (λ m. place_of q (vacated m (Live e ∷ ss))) j.2
            ∙ (elim (cases_Bool (key_eq q e.key)) [
              | inl here ↦ (
                  let other : key_eq k q ≡ false = ap (key_eq k) (key_eq-true q e.key here) ∙ apart in
                  place_first q e (vacated j.0 ss) here
                  ∙ sym (place_first q e ss here)
                  ∙ sym (ap (λ (b : Bool). cond b None (place_of q (Live e ∷ ss))) other))
              | inr there ↦
                  place_behind q e (vacated j.0 ss) there
                  ∙ ap (option_map (λ i. suc i)) rest
                  ∙ suc_cond (key_eq k q) None (place_of q ss)
                  ∙ ap (cond (key_eq k q) None) (sym (place_behind q e ss there))
            ]))
      ]

  pub entries_in-vacated : (k : Key) (ss : List (Slot T)) (i : ℕ) → place_of k ss ≡ Some i → entries_in (vacated i ss) ≡ without_key k (entries_in ss)
  entries_in-vacated k [] i is = cc
  entries_in-vacated k (Hole n ∷ ss) i is =
      let j = suc_some (place_of k ss) i is in
      ap (λ m. entries_in (vacated m (Hole n ∷ ss))) j.2 ∙ entries_in-vacated k ss j.0 j.1
  entries_in-vacated k (Live e ∷ ss) i is =
      elim (cases_Bool (key_eq k e.key)) [
        | inl same ↦ (
            let zero_is = zero_some i (sym (place_first k e ss same) ∙ is) in
            ap (λ m. entries_in (vacated m (Live e ∷ ss))) (sym zero_is)
            ∙ sym (ap (λ (b : Bool). cond b (entries_in ss) (e ∷ without_key k (entries_in ss))) same))
        | inr apart ↦ (
            let j = suc_some (place_of k ss) i (sym (place_behind k e ss apart) ∙ is) in
            ap (λ m. entries_in (vacated m (Live e ∷ ss))) j.2
            ∙ ap (λ (es : List (Entry T)). e ∷ es) (entries_in-vacated k ss j.0 j.1)
            ∙ sym (ap (λ (b : Bool). cond b (entries_in ss) (e ∷ without_key k (entries_in ss))) apart))
      ]

  -- one entry fewer
  pub length-vacated : (ss : List (Slot T)) (i : ℕ) (e : Entry T) → stored_at i ss ≡ Some e → length (entries_in ss) ≡ suc (length (entries_in (vacated i ss)))
  length-vacated [] i e there = cc
  length-vacated (Hole n ∷ ss) zero e there = cc
  length-vacated (Live x ∷ ss) zero e there = refl
  length-vacated (Hole n ∷ ss) (suc i) e there = length-vacated ss i e there
  length-vacated (Live x ∷ ss) (suc i) e there = ap (λ n. suc n) (length-vacated ss i e there)

  pub length_slots-vacated : (i : ℕ) (ss : List (Slot T)) → length (vacated i ss) ≡ length ss
  length_slots-vacated i [] = refl
  length_slots-vacated zero (s ∷ ss) = refl
  length_slots-vacated (suc i) (s ∷ ss) = ap (λ n. suc n) (length_slots-vacated i ss)

  pub DoSerialsRise-vacated : (i : ℕ) (from : ℕ) (ss : List (Slot T)) (to : ℕ) → DoSerialsRise from ss to → DoSerialsRise from (vacated i ss) to
  DoSerialsRise-vacated i from [] to h = tt
  DoSerialsRise-vacated zero from (s ∷ ss) to h = h
  DoSerialsRise-vacated (suc i) from (s ∷ ss) to h = (h.0, h.1, DoSerialsRise-vacated i (serial_of s) ss to h.2)

  pub AreHoles-vacated : (i n : ℕ) (ss : List (Slot T)) → AreHoles n ss → AreHoles n (vacated i ss)
  AreHoles-vacated i zero ss h = tt
  AreHoles-vacated i (suc n) [] h = tt
  AreHoles-vacated zero (suc n) (Hole m ∷ ss) h = h
  AreHoles-vacated (suc i) (suc n) (Hole m ∷ ss) h = AreHoles-vacated i n ss h
  AreHoles-vacated i (suc n) (Live e ∷ ss) h = absurd h

  -- another value at a place
  pub stored_at-with_value_at : (i j : ℕ) (v : T) (ss : List (Slot T)) → is_some (stored_at j (with_value_at i v ss)) ≡ is_some (stored_at j ss)
  stored_at-with_value_at i j v [] = refl
  stored_at-with_value_at zero zero v (Hole n ∷ ss) = refl
  stored_at-with_value_at zero zero v (Live e ∷ ss) = refl
  stored_at-with_value_at zero (suc j) v (s ∷ ss) = refl
  stored_at-with_value_at (suc i) zero v (s ∷ ss) = refl
  stored_at-with_value_at (suc i) (suc j) v (s ∷ ss) = stored_at-with_value_at i j v ss

  pub place_of-with_value_at : (q : Key) (i : ℕ) (v : T) (ss : List (Slot T)) → place_of q (with_value_at i v ss) ≡ place_of q ss
  place_of-with_value_at q i v [] = refl
  place_of-with_value_at q zero v (Hole n ∷ ss) = refl
  place_of-with_value_at q zero v (Live e ∷ ss) = refl
  place_of-with_value_at q (suc i) v (Hole n ∷ ss) = ap (option_map (λ i. suc i)) (place_of-with_value_at q i v ss)
  place_of-with_value_at q (suc i) v (Live e ∷ ss) = ap (λ (o : Option ℕ). cond (key_eq q e.key) (Some 0) (option_map (λ i. suc i) o)) (place_of-with_value_at q i v ss)

  pub entries_in-with_value_at : (k : Key) (v : T) (ss : List (Slot T)) (i : ℕ) → place_of k ss ≡ Some i → entries_in (with_value_at i v ss) ≡ with_value k v (entries_in ss)
  entries_in-with_value_at k v [] i is = cc
  entries_in-with_value_at k v (Hole n ∷ ss) i is =
      let j = suc_some (place_of k ss) i is in
      ap (λ m. entries_in (with_value_at m v (Hole n ∷ ss))) j.2 ∙ entries_in-with_value_at k v ss j.0 j.1
  entries_in-with_value_at k v (Live e ∷ ss) i is =
      elim (cases_Bool (key_eq k e.key)) [
        | inl same ↦ (
            let zero_is = zero_some i (sym (place_first k e ss same) ∙ is) in
            ap (λ m. entries_in (with_value_at m v (Live e ∷ ss))) (sym zero_is)
            ∙ sym (ap (λ (b : Bool). cond b (record e { value = v } ∷ entries_in ss) (e ∷ with_value k v (entries_in ss))) same))
        | inr apart ↦ (
            let j = suc_some (place_of k ss) i (sym (place_behind k e ss apart) ∙ is) in
            ap (λ m. entries_in (with_value_at m v (Live e ∷ ss))) j.2
            ∙ ap (λ (es : List (Entry T)). e ∷ es) (entries_in-with_value_at k v ss j.0 j.1)
            ∙ sym (ap (λ (b : Bool). cond b (record e { value = v } ∷ entries_in ss) (e ∷ with_value k v (entries_in ss))) apart))
      ]

  pub length_slots-with_value_at : (i : ℕ) (v : T) (ss : List (Slot T)) → length (with_value_at i v ss) ≡ length ss
  length_slots-with_value_at i v [] = refl
  length_slots-with_value_at zero v (s ∷ ss) = refl
  length_slots-with_value_at (suc i) v (s ∷ ss) = ap (λ n. suc n) (length_slots-with_value_at i v ss)

  pub length_entries-with_value_at : (i : ℕ) (v : T) (ss : List (Slot T)) → length (entries_in (with_value_at i v ss)) ≡ length (entries_in ss)
  length_entries-with_value_at i v [] = refl
  length_entries-with_value_at zero v (Hole n ∷ ss) = refl
  length_entries-with_value_at zero v (Live e ∷ ss) = refl
  length_entries-with_value_at (suc i) v (Hole n ∷ ss) = length_entries-with_value_at i v ss
  length_entries-with_value_at (suc i) v (Live e ∷ ss) = ap (λ n. suc n) (length_entries-with_value_at i v ss)

  revalued-serial : (v : T) (s : Slot T) → serial_of (revalued v s) ≡ serial_of s
  revalued-serial v (Hole n) = refl
  revalued-serial v (Live e) = refl

  pub DoSerialsRise-with_value_at : (i : ℕ) (v : T) (from : ℕ) (ss : List (Slot T)) (to : ℕ) → DoSerialsRise from ss to → DoSerialsRise from (with_value_at i v ss) to
  DoSerialsRise-with_value_at i v from [] to h = tt
  DoSerialsRise-with_value_at zero v from (Hole n ∷ ss) to h = h
  DoSerialsRise-with_value_at zero v from (Live e ∷ ss) to h = h
  DoSerialsRise-with_value_at (suc i) v from (s ∷ ss) to h = (h.0, h.1, DoSerialsRise-with_value_at i v (serial_of s) ss to h.2)

  pub AreHoles-with_value_at : (i n : ℕ) (v : T) (ss : List (Slot T)) → AreHoles n ss → AreHoles n (with_value_at i v ss)
  AreHoles-with_value_at i zero v ss h = tt
  AreHoles-with_value_at i (suc n) v [] h = tt
  AreHoles-with_value_at zero (suc n) v (Hole m ∷ ss) h = h
  AreHoles-with_value_at (suc i) (suc n) v (Hole m ∷ ss) h = AreHoles-with_value_at i n v ss h
  AreHoles-with_value_at i (suc n) v (Live e ∷ ss) h = absurd h

  -- a further slot keeps what holds of the others
  pub DoSerialsRise-push : (from : ℕ) (ss : List (Slot T)) (s : Slot T) (to : ℕ) → from < to → to ≤ serial_of s → DoSerialsRise from ss to → DoSerialsRise from (ss ++ s ∷ []) (serial_of s + 1)
  DoSerialsRise-push from [] s to some up h = (omega arith, omega arith, tt)
  DoSerialsRise-push from (x ∷ ss) s to some up h = (h.0, (let below : serial_of x < to = h.1 in omega arith), DoSerialsRise-push (serial_of x) ss s to h.1 up h.2)

  pub DoSerialsRise-front : (from : ℕ) (ss : List (Slot T)) (s : Slot T) (to : ℕ) → DoSerialsRise from (ss ++ s ∷ []) to → DoSerialsRise from ss to
  DoSerialsRise-front from [] s to h = tt
  DoSerialsRise-front from (x ∷ ss) s to h = (h.0, h.1, DoSerialsRise-front (serial_of x) ss s to h.2)

  pub AreHoles-push : (n : ℕ) (ss : List (Slot T)) (s : Slot T) → n ≤ length ss → AreHoles n ss → AreHoles n (ss ++ s ∷ [])
  AreHoles-push zero ss s within h = tt
  AreHoles-push (suc n) [] s within h = absurd (omega arith)
  AreHoles-push (suc n) (Hole m ∷ ss) s within h = AreHoles-push n ss s (omega arith) h
  AreHoles-push (suc n) (Live e ∷ ss) s within h = absurd h

  pub AreHoles-front : (n : ℕ) (ss : List (Slot T)) (s : Slot T) → AreHoles n (ss ++ s ∷ []) → AreHoles n ss
  AreHoles-front zero ss s h = tt
  AreHoles-front (suc n) [] s h = tt
  AreHoles-front (suc n) (Hole m ∷ ss) s h = AreHoles-front n ss s h
  AreHoles-front (suc n) (Live e ∷ ss) s h = absurd h

  pub AreHoles-fewer : (n m : ℕ) (ss : List (Slot T)) → m ≤ n → AreHoles n ss → AreHoles m ss
  AreHoles-fewer n zero ss le h = tt
  AreHoles-fewer zero (suc m) ss le h = absurd (omega arith)
  AreHoles-fewer (suc n) (suc m) [] le h = tt
  AreHoles-fewer (suc n) (suc m) (Hole k ∷ ss) le h = AreHoles-fewer n m ss (omega arith) h
  AreHoles-fewer (suc n) (suc m) (Live e ∷ ss) le h = absurd h

  entries_in-hole : (ss : List (Slot T)) (n : ℕ) → entries_in ss ≡ entries_in (ss ++ Hole n ∷ [])
  entries_in-hole [] n = refl
  entries_in-hole (Hole m ∷ ss) n = entries_in-hole ss n
  entries_in-hole (Live e ∷ ss) n = ap (λ (es : List (Entry T)). e ∷ es) (entries_in-hole ss n)

  place_of-hole : (k : Key) (ss : List (Slot T)) (n : ℕ) → place_of k ss ≡ place_of k (ss ++ Hole n ∷ [])
  place_of-hole k [] n = refl
  place_of-hole k (Hole m ∷ ss) n = ap (option_map (λ i. suc i)) (place_of-hole k ss n)
  place_of-hole k (Live e ∷ ss) n = ap (λ (o : Option ℕ). cond (key_eq k e.key) (Some 0) (option_map (λ i. suc i) o)) (place_of-hole k ss n)

  stored_at-hole : (i : ℕ) (ss : List (Slot T)) (n : ℕ) → stored_at i ss ≡ stored_at i (ss ++ Hole n ∷ [])
  stored_at-hole zero [] n = refl
  stored_at-hole (suc i) [] n = refl
  stored_at-hole zero (s ∷ ss) n = refl
  stored_at-hole (suc i) (s ∷ ss) n = stored_at-hole i ss n

  -- a hole at the end holds nothing
  pub HoldsSame-hole : (ss : List (Slot T)) (s : Slot T) → stored_in s ≡ None → HoldsSame (ss ++ s ∷ []) ss
  HoldsSame-hole ss (Hole n) none = record {
    entries = entries_in-hole ss n;
    places = λ k. place_of-hole k ss n;
    stored = λ i. stored_at-hole i ss n;
    rise = λ from to h. DoSerialsRise-front from ss (Hole n) to h;
    front = λ m h. AreHoles-front m ss (Hole n) h;
  }
  HoldsSame-hole ss (Live e) none = cc

  pub HoldsSame-refl : (ss : List (Slot T)) → HoldsSame ss ss
  HoldsSame-refl ss = record { entries = refl; places = λ k. refl; stored = λ i. refl; rise = λ from to h. h; front = λ n h. h }

  pub HoldsSame-trans : (a b c : List (Slot T)) → HoldsSame a b → HoldsSame b c → HoldsSame a c
  HoldsSame-trans a b c h k = record {
    entries = k.entries ∙ h.entries;
    places = λ q. k.places q ∙ h.places q;
    stored = λ i. k.stored i ∙ h.stored i;
    rise = λ from to r. k.rise from to (h.rise from to r);
    front = λ n r. k.front n (h.front n r);
  }

  -- the slots behind a place
  pub drop-live : (i : ℕ) (ss : List (Slot T)) (e : Entry T) → stored_at i ss ≡ Some e → entries_in (drop i ss) ≡ e ∷ entries_in (drop (suc i) ss)
  drop-live i [] e there = cc
  drop-live zero (Hole n ∷ ss) e there = cc
  drop-live zero (Live x ∷ ss) e there = let same : x ≡ e = cc in ap (λ (y : Entry T). y ∷ entries_in ss) same
  drop-live (suc i) (s ∷ ss) e there = drop-live i ss e there

  pub drop-hole : (i : ℕ) (ss : List (Slot T)) → stored_at i ss ≡ None → entries_in (drop (suc i) ss) ≡ entries_in (drop i ss)
  drop-hole zero [] none = refl
  drop-hole (suc i) [] none = refl
  drop-hole zero (Hole n ∷ ss) none = refl
  drop-hole zero (Live e ∷ ss) none = cc
  drop-hole (suc i) (s ∷ ss) none = drop-hole i ss none

  pub drop-past : (i : ℕ) (ss : List (Slot T)) → length ss ≤ i → entries_in (drop i ss) ≡ []
  drop-past zero [] h = refl
  drop-past (suc i) [] h = refl
  drop-past zero (s ∷ ss) h = absurd (omega arith)
  drop-past (suc i) (s ∷ ss) h = drop-past i ss (omega arith)

  pub AreHoles-more : (n : ℕ) (ss : List (Slot T)) → AreHoles n ss → stored_at n ss ≡ None → AreHoles (suc n) ss
  AreHoles-more zero [] h none = tt
  AreHoles-more (suc n) [] h none = tt
  AreHoles-more zero (Hole m ∷ ss) h none = tt
  AreHoles-more zero (Live e ∷ ss) h none = cc
  AreHoles-more (suc n) (Hole m ∷ ss) h none = AreHoles-more n ss h none
  AreHoles-more (suc n) (Live e ∷ ss) h none = absurd h

  -- serials rise with the places
  above : (from : ℕ) (ss : List (Slot T)) (to i : ℕ) → DoSerialsRise from ss to → i < length ss → from < serial_at i ss
  above from [] to i h within = absurd (omega arith)
  above from (s ∷ ss) to zero h within = h.0
  above from (s ∷ ss) to (suc i) h within =
      let here : from < serial_of s = h.0 in
      let rest = above (serial_of s) ss to i h.2 (omega arith) in
      omega arith

  pub serial_at-rise : (from : ℕ) (ss : List (Slot T)) (to i j : ℕ) → DoSerialsRise from ss to → i ≤ j → j < length ss → serial_at i ss ≤ serial_at j ss
  serial_at-rise from [] to i j h le within = absurd (omega arith)
  serial_at-rise from (s ∷ ss) to zero zero h le within = omega arith
  serial_at-rise from (s ∷ ss) to zero (suc j) h le within = let rest = above (serial_of s) ss to j h.2 (omega arith) in omega arith
  serial_at-rise from (s ∷ ss) to (suc i) zero h le within = absurd (omega arith)
  serial_at-rise from (s ∷ ss) to (suc i) (suc j) h le within = serial_at-rise (serial_of s) ss to i j h.2 (omega arith) (omega arith)

  -- a slot that is dropped from the end, where the last one is a hole
  pub HoldsSame-pop : (first old new : List (Slot T)) (o : Option (ℕ × Key × (Option T))) → HoldsSame first old → IfNone o ((old ≡ []) × (new ≡ [])) → IfSome o (λ r. old ≡ new ++ slot_of r.0 r.1 r.2 ∷ []) → ((front : List (Slot T)) (last : Slot T) → old ≡ front ++ last ∷ [] → stored_in last ≡ None) → HoldsSame first new
  HoldsSame-pop first old new None h none split hole = subst (λ (ss : List (Slot T)). HoldsSame first ss) (none.0 ∙ sym none.1) h
  HoldsSame-pop first old new (Some r) h none split hole =
      let s = slot_of r.0 r.1 r.2 in
      HoldsSame-trans first (new ++ s ∷ []) new (subst (λ (ss : List (Slot T)). HoldsSame first ss) split h) (HoldsSame-hole new s (hole new s split))

  pub HoldsSame-step : (first old new : List (Slot T)) (s : Slot T) → HoldsSame first old → old ≡ new ++ s ∷ [] → stored_in s ≡ None → HoldsSame first new
  HoldsSame-step first old new s h split none =
      HoldsSame-trans first (new ++ s ∷ []) new (subst (λ (ss : List (Slot T)). HoldsSame first ss) split h) (HoldsSame-hole new s none)

  -- what one slot tells of those before it and behind it
  pub serials_through : (ss : List (Slot T)) (to middle serial : ℕ) → DoSerialsRise 0 ss to → middle < length ss → serial_at middle ss ≤ serial → (i : ℕ) → i < middle + 1 → serial_at i ss ≤ serial
  serials_through ss to middle serial rise within h i below = let order = serial_at-rise 0 ss to i middle rise (omega arith) within in omega arith

  pub serials_behind : (ss : List (Slot T)) (to middle serial : ℕ) → DoSerialsRise 0 ss to → serial < serial_at middle ss → (i : ℕ) → middle ≤ i → i < length ss → serial < serial_at i ss
  serials_behind ss to middle serial rise h i above within = let order = serial_at-rise 0 ss to middle i rise above within in omega arith

  -- the slots before a place
  take-live : (i : ℕ) (ss : List (Slot T)) (e : Entry T) → stored_at i ss ≡ Some e → (take (suc i) ss ≡ take i ss ++ Live e ∷ []) × (length (take i ss) ≡ i)
  take-live i [] e there = cc
  take-live zero (Hole n ∷ ss) e there = cc
  take-live zero (Live x ∷ ss) e there = let same : x ≡ e = cc in (ap (λ (y : Entry T). Live y ∷ []) same, refl)
  take-live (suc i) (s ∷ ss) e there = let r = take-live i ss e there in (ap (λ (rest : List (Slot T)). s ∷ rest) r.0, ap (λ n. suc n) r.1)

  pub place_of-take_hole : (q : Key) (i : ℕ) (ss : List (Slot T)) → stored_at i ss ≡ None → place_of q (take (suc i) ss) ≡ place_of q (take i ss)
  place_of-take_hole q zero [] none = refl
  place_of-take_hole q (suc i) [] none = refl
  place_of-take_hole q zero (Hole n ∷ ss) none = refl
  place_of-take_hole q zero (Live e ∷ ss) none = cc
  place_of-take_hole q (suc i) (Hole n ∷ ss) none = ap (option_map (λ i. suc i)) (place_of-take_hole q i ss none)
  place_of-take_hole q (suc i) (Live e ∷ ss) none = ap (λ (o : Option ℕ). cond (key_eq q e.key) (Some 0) (option_map (λ i. suc i) o)) (place_of-take_hole q i ss none)

  place_of-before : (k : Key) (ss : List (Slot T)) (i : ℕ) → place_of k ss ≡ Some i → place_of k (take i ss) ≡ None
  place_of-before k [] i is = cc
  place_of-before k (Hole n ∷ ss) i is =
      let j = suc_some (place_of k ss) i is in
      ap (λ m. place_of k (take m (Hole n ∷ ss))) j.2 ∙ ap (option_map (λ i. suc i)) (place_of-before k ss j.0 j.1)
  place_of-before k (Live e ∷ ss) i is =
      elim (cases_Bool (key_eq k e.key)) [
        | inl same ↦ (let zero_is = zero_some i (sym (place_first k e ss same) ∙ is) in ap (λ m. place_of k (take m (Live e ∷ ss))) (sym zero_is))
        | inr apart ↦ (
            let j = suc_some (place_of k ss) i (sym (place_behind k e ss apart) ∙ is) in
            ap (λ m. place_of k (take m (Live e ∷ ss))) j.2
            ∙ place_behind k e (take j.0 ss) apart
            ∙ ap (option_map (λ i. suc i)) (place_of-before k ss j.0 j.1))
      ]

  pub place_of-take_live : (q : Key) (i : ℕ) (ss : List (Slot T)) (e : Entry T) → AreKeysDistinct (entries_in ss) → stored_at i ss ≡ Some e → place_of q (take (suc i) ss) ≡ cond (key_eq e.key q) (Some i) (place_of q (take i ss))
  place_of-take_live q i ss e distinct there =
      let split = take-live i ss e there in
      let before = place_of-before e.key ss i (stored-place_of ss i e distinct there) in
      ap (place_of q) split.0
      ∙ place_of-push q (take i ss) e before
      ∙ ap (λ n. cond (key_eq e.key q) (Some n) (place_of q (take i ss))) split.1

  -- the serials behind a place are greater than the one there
  pub serial_at-above : (from : ℕ) (ss : List (Slot T)) (to i j : ℕ) → DoSerialsRise from ss to → i < j → j < length ss → serial_at i ss < serial_at j ss
  serial_at-above from [] to i j h lt within = absurd (omega arith)
  serial_at-above from (s ∷ ss) to i zero h lt within = absurd (omega arith)
  serial_at-above from (s ∷ ss) to zero (suc j) h lt within = above (serial_of s) ss to j h.2 (omega arith)
  serial_at-above from (s ∷ ss) to (suc i) (suc j) h lt within = serial_at-above (serial_of s) ss to i j h.2 (omega arith) (omega arith)
