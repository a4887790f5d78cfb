-- What holds of the entries of an array, and of the entries after a change.
use Rattle.std.proofs.Common.{◌≡◌, inl, inr, ℕ, ◌+◌, ◌<◌, ◌≤◌, List, [], ◌∷◌, ◌++◌, length, refl, sym, ◌∙◌, ap, arith, Some, None}
use Rattle.std.specs.Prelude.{Bool, true, false, cond, find, pos}
use Rattle.std.proofs.lemmas.Bool.{cases_Bool}
use Rattle.php_value.specs.declared.key.Key.{Key}
use Rattle.php_value.specs.declared.key.Key.TheVariants.{Int}
use Rattle.php_entries.specs.Keys.{key_eq, next_key_without}
use Rattle.php_entries.specs.Listing.{Entry, last_of}
use Rattle.php_entries.specs.Changes.{with_value, without_key, without_last, entries_with}
use Rattle.php_entries.specs.Soundness.{IsKeyBelow, AreKeysBelow, HasNoKey, AreKeysDistinct, DoSerialsRise}
use Rattle.php_entries.proofs.KeyLemmas.{key_eq-sym_false, key_eq-above, IsKeyBelow-raise, IsKeyBelow-next_key_without}

module _ {T : Type 0} where
  -- a key that is not found is not there
  pub HasNoKey-find : (k : Key) (es : List (Entry T)) → find (λ e. key_eq k e.key) es ≡ None → HasNoKey k es
  HasNoKey-find k [] none = tt
  HasNoKey-find k (e ∷ es) none =
      elim (cases_Bool (key_eq k e.key)) [
        | inl same ↦ (let found : find (λ x. key_eq k x.key) (e ∷ es) ≡ Some e = rw same refl in cc)
        | inr apart ↦ (apart, HasNoKey-find k es (sym (ap (λ (b : Bool). cond b (Some e) (find (λ x. key_eq k x.key) es)) apart) ∙ none))
      ]

  pub find-HasNoKey : (k : Key) (es : List (Entry T)) → HasNoKey k es → find (λ e. key_eq k e.key) es ≡ None
  find-HasNoKey k [] h = refl
  find-HasNoKey k (e ∷ es) h = ap (λ (b : Bool). cond b (Some e) (find (λ x. key_eq k x.key) es)) h.0 ∙ find-HasNoKey k es h.1

  -- no entry has the next key
  pub HasNoKey-above : (n : ℕ) (es : List (Entry T)) → AreKeysBelow n es → HasNoKey (Int (pos n)) es
  HasNoKey-above n [] h = tt
  HasNoKey-above n (e ∷ es) h = (key_eq-above n e.key h.0, HasNoKey-above n es h.1)

  HasNoKey-push : (k : Key) (es : List (Entry T)) (e : Entry T) → HasNoKey k es → key_eq k e.key ≡ false → HasNoKey k (es ++ e ∷ [])
  HasNoKey-push k [] e h apart = (apart, tt)
  HasNoKey-push k (x ∷ es) e h apart = (h.0, HasNoKey-push k es e h.1 apart)

  HasNoKey-front : (k : Key) (es : List (Entry T)) (e : Entry T) → HasNoKey k (es ++ e ∷ []) → HasNoKey k es × (key_eq k e.key ≡ false)
  HasNoKey-front k [] e h = (tt, h.0)
  HasNoKey-front k (x ∷ es) e h = let r = HasNoKey-front k es e h.1 in ((h.0, r.0), r.1)

  pub AreKeysDistinct-push : (es : List (Entry T)) (e : Entry T) → AreKeysDistinct es → HasNoKey e.key es → AreKeysDistinct (es ++ e ∷ [])
  AreKeysDistinct-push [] e h none = (tt, tt)
  AreKeysDistinct-push (x ∷ es) e h none = (HasNoKey-push x.key es e h.0 (key_eq-sym_false e.key x.key none.0), AreKeysDistinct-push es e h.1 none.1)

  pub AreKeysDistinct-front : (es : List (Entry T)) (e : Entry T) → AreKeysDistinct (es ++ e ∷ []) → AreKeysDistinct es × HasNoKey e.key es
  AreKeysDistinct-front [] e h = (tt, tt)
  AreKeysDistinct-front (x ∷ es) e h =
      let here = HasNoKey-front x.key es e h.0 in
      let rest = AreKeysDistinct-front es e h.1 in
      ((here.0, rest.0), (key_eq-sym_false x.key e.key here.1, rest.1))

  pub AreKeysBelow-raise : (n m : ℕ) (es : List (Entry T)) → n ≤ m → AreKeysBelow n es → AreKeysBelow m es
  AreKeysBelow-raise n m [] up h = tt
  AreKeysBelow-raise n m (e ∷ es) up h = (IsKeyBelow-raise e.key n m up h.0, AreKeysBelow-raise n m es up h.1)

  pub AreKeysBelow-push : (n : ℕ) (es : List (Entry T)) (e : Entry T) → AreKeysBelow n es → IsKeyBelow n e.key → AreKeysBelow n (es ++ e ∷ [])
  AreKeysBelow-push n [] e h below = (below, tt)
  AreKeysBelow-push n (x ∷ es) e h below = (h.0, AreKeysBelow-push n es e h.1 below)

  pub AreKeysBelow-front : (n : ℕ) (es : List (Entry T)) (e : Entry T) → AreKeysBelow n (es ++ e ∷ []) → AreKeysBelow n es
  AreKeysBelow-front n [] e h = tt
  AreKeysBelow-front n (x ∷ es) e h = (h.0, AreKeysBelow-front n es e h.1)

  pub AreKeysBelow-without : (k : Key) (next : ℕ) (es : List (Entry T)) → HasNoKey k es → AreKeysBelow next es → AreKeysBelow (next_key_without k next) es
  AreKeysBelow-without k next [] none h = tt
  AreKeysBelow-without k next (e ∷ es) none h = (IsKeyBelow-next_key_without k e.key next none.0 h.0, AreKeysBelow-without k next es none.1 h.1)

  pub DoSerialsRise-push : (from : ℕ) (es : List (Entry T)) (e : Entry T) (to : ℕ) → from < to → to ≤ e.serial → DoSerialsRise from es to → DoSerialsRise from (es ++ e ∷ []) (e.serial + 1)
  DoSerialsRise-push from [] e to some up h = (omega arith, omega arith, tt)
  DoSerialsRise-push from (x ∷ es) e to some up h = (h.0, (let below : x.serial < to = h.1 in omega arith), DoSerialsRise-push x.serial es e to h.1 up h.2)

  pub DoSerialsRise-front : (from : ℕ) (es : List (Entry T)) (e : Entry T) (to : ℕ) → DoSerialsRise from (es ++ e ∷ []) to → DoSerialsRise from es to
  DoSerialsRise-front from [] e to h = tt
  DoSerialsRise-front from (x ∷ es) e to h = (h.0, h.1, DoSerialsRise-front x.serial es e to h.2)

  -- rising from a lower bound
  pub DoSerialsRise-lower : (from lower : ℕ) (es : List (Entry T)) (to : ℕ) → lower ≤ from → DoSerialsRise from es to → DoSerialsRise lower es to
  DoSerialsRise-lower from lower [] to down h = tt
  DoSerialsRise-lower from lower (e ∷ es) to down h = ((let up : from < e.serial = h.0 in omega arith), h.1, h.2)

  -- all entries but the last, and the last
  pub last_of-split : (es : List (Entry T)) (e : Entry T) → last_of es ≡ Some e → es ≡ without_last es ++ e ∷ []
  last_of-split [] e is = cc
  last_of-split (x ∷ []) e is = let same : x ≡ e = cc in ap (λ (y : Entry T). y ∷ []) same
  last_of-split (x ∷ f ∷ es) e is = ap (λ (rest : List (Entry T)). x ∷ rest) (last_of-split (f ∷ es) e is)

  pub last_of-push : (es : List (Entry T)) (e : Entry T) → (last_of (es ++ e ∷ []) ≡ Some e) × (without_last (es ++ e ∷ []) ≡ es)
  last_of-push [] e = (refl, refl)
  last_of-push (x ∷ []) e = (refl, refl)
  last_of-push (x ∷ f ∷ es) e = let r = last_of-push (f ∷ es) e in (r.0, ap (λ (rest : List (Entry T)). x ∷ rest) r.1)

  -- another value under a key changes no key and no serial
  HasNoKey-with_value : (q k : Key) (v : T) (es : List (Entry T)) → HasNoKey q es → HasNoKey q (with_value k v es)
  HasNoKey-with_value q k v [] h = tt
  HasNoKey-with_value q k v (e ∷ es) h =
      elim (key_eq k e.key) as (λ b. HasNoKey q (cond b (record e { value = v } ∷ es) (e ∷ with_value k v es))) [
        | true ↦ h
        | false ↦ (h.0, HasNoKey-with_value q k v es h.1)
      ]

  pub AreKeysDistinct-with_value : (k : Key) (v : T) (es : List (Entry T)) → AreKeysDistinct es → AreKeysDistinct (with_value k v es)
  AreKeysDistinct-with_value k v [] h = tt
  AreKeysDistinct-with_value k v (e ∷ es) h =
      elim (key_eq k e.key) as (λ b. AreKeysDistinct (cond b (record e { value = v } ∷ es) (e ∷ with_value k v es))) [
        | true ↦ h
        | false ↦ (HasNoKey-with_value e.key k v es h.0, AreKeysDistinct-with_value k v es h.1)
      ]

  pub AreKeysBelow-with_value : (n : ℕ) (k : Key) (v : T) (es : List (Entry T)) → AreKeysBelow n es → AreKeysBelow n (with_value k v es)
  AreKeysBelow-with_value n k v [] h = tt
  AreKeysBelow-with_value n k v (e ∷ es) h =
      elim (key_eq k e.key) as (λ b. AreKeysBelow n (cond b (record e { value = v } ∷ es) (e ∷ with_value k v es))) [
        | true ↦ h
        | false ↦ (h.0, AreKeysBelow-with_value n k v es h.1)
      ]

  pub DoSerialsRise-with_value : (from : ℕ) (k : Key) (v : T) (es : List (Entry T)) (to : ℕ) → DoSerialsRise from es to → DoSerialsRise from (with_value k v es) to
  DoSerialsRise-with_value from k v [] to h = tt
  DoSerialsRise-with_value from k v (e ∷ es) to h =
      elim (key_eq k e.key) as (λ b. DoSerialsRise from (cond b (record e { value = v } ∷ es) (e ∷ with_value k v es)) to) [
        | true ↦ h
        | false ↦ (h.0, h.1, DoSerialsRise-with_value e.serial k v es to h.2)
      ]

  pub length-with_value : (k : Key) (v : T) (es : List (Entry T)) → length (with_value k v es) ≡ length es
  length-with_value k v [] = refl
  length-with_value k v (e ∷ es) =
      elim (key_eq k e.key) as (λ b. length (cond b (record e { value = v } ∷ es) (e ∷ with_value k v es)) ≡ length (e ∷ es)) [
        | true ↦ refl
        | false ↦ (let rest = length-with_value k v es in omega arith)
      ]

  -- the entries without a key
  HasNoKey-without_key : (q k : Key) (es : List (Entry T)) → HasNoKey q es → HasNoKey q (without_key k es)
  HasNoKey-without_key q k [] h = tt
  HasNoKey-without_key q k (e ∷ es) h =
      elim (key_eq k e.key) as (λ b. HasNoKey q (cond b es (e ∷ without_key k es))) [
        | true ↦ h.1
        | false ↦ (h.0, HasNoKey-without_key q k es h.1)
      ]

  pub AreKeysDistinct-without_key : (k : Key) (es : List (Entry T)) → AreKeysDistinct es → AreKeysDistinct (without_key k es)
  AreKeysDistinct-without_key k [] h = tt
  AreKeysDistinct-without_key k (e ∷ es) h =
      elim (key_eq k e.key) as (λ b. AreKeysDistinct (cond b es (e ∷ without_key k es))) [
        | true ↦ h.1
        | false ↦ (HasNoKey-without_key e.key k es h.0, AreKeysDistinct-without_key k es h.1)
      ]

  pub AreKeysBelow-without_key : (n : ℕ) (k : Key) (es : List (Entry T)) → AreKeysBelow n es → AreKeysBelow n (without_key k es)
  AreKeysBelow-without_key n k [] h = tt
  AreKeysBelow-without_key n k (e ∷ es) h =
      elim (key_eq k e.key) as (λ b. AreKeysBelow n (cond b es (e ∷ without_key k es))) [
        | true ↦ h.1
        | false ↦ (h.0, AreKeysBelow-without_key n k es h.1)
      ]

  pub DoSerialsRise-without_key : (from : ℕ) (k : Key) (es : List (Entry T)) (to : ℕ) → DoSerialsRise from es to → DoSerialsRise from (without_key k es) to
  DoSerialsRise-without_key from k [] to h = tt
  DoSerialsRise-without_key from k (e ∷ es) to h =
      elim (key_eq k e.key) as (λ b. DoSerialsRise from (cond b es (e ∷ without_key k es)) to) [
        | true ↦ DoSerialsRise-lower e.serial from es to (let up : from < e.serial = h.0 in omega arith) h.2
        | false ↦ (h.0, h.1, DoSerialsRise-without_key e.serial k es to h.2)
      ]

  pub length-without_key : (k : Key) (es : List (Entry T)) → length (without_key k es) ≤ length es
  length-without_key k [] = omega arith
  length-without_key k (e ∷ es) =
      let rest = length-without_key k es in
      elim (key_eq k e.key) as (λ b. length (cond b es (e ∷ without_key k es)) ≤ length (e ∷ es)) [
        | true ↦ omega arith
        | false ↦ omega arith
      ]

module _ {T U : Type 0} where
  -- entries with other values
  HasNoKey-entries_with : (k : Key) (es : List (Entry T)) (vs : List U) → HasNoKey k es → HasNoKey k (entries_with es vs)
  HasNoKey-entries_with k [] vs h = tt
  HasNoKey-entries_with k (e ∷ es) [] h = tt
  HasNoKey-entries_with k (e ∷ es) (v ∷ vs) h = (h.0, HasNoKey-entries_with k es vs h.1)

  pub AreKeysDistinct-entries_with : (es : List (Entry T)) (vs : List U) → AreKeysDistinct es → AreKeysDistinct (entries_with es vs)
  AreKeysDistinct-entries_with [] vs h = tt
  AreKeysDistinct-entries_with (e ∷ es) [] h = tt
  AreKeysDistinct-entries_with (e ∷ es) (v ∷ vs) h = (HasNoKey-entries_with e.key es vs h.0, AreKeysDistinct-entries_with es vs h.1)

  pub AreKeysBelow-entries_with : (n : ℕ) (es : List (Entry T)) (vs : List U) → AreKeysBelow n es → AreKeysBelow n (entries_with es vs)
  AreKeysBelow-entries_with n [] vs h = tt
  AreKeysBelow-entries_with n (e ∷ es) [] h = tt
  AreKeysBelow-entries_with n (e ∷ es) (v ∷ vs) h = (h.0, AreKeysBelow-entries_with n es vs h.1)

  pub DoSerialsRise-entries_with : (from : ℕ) (es : List (Entry T)) (vs : List U) (to : ℕ) → DoSerialsRise from es to → DoSerialsRise from (entries_with es vs) to
  DoSerialsRise-entries_with from [] vs to h = tt
  DoSerialsRise-entries_with from (e ∷ es) [] to h = tt
  DoSerialsRise-entries_with from (e ∷ es) (v ∷ vs) to h = (h.0, h.1, DoSerialsRise-entries_with e.serial es vs to h.2)

  pub length-entries_with : (es : List (Entry T)) (vs : List U) → length (entries_with es vs) ≤ length es
  length-entries_with [] vs = omega arith
  length-entries_with (e ∷ es) [] = omega arith
  length-entries_with (e ∷ es) (v ∷ vs) = let rest = length-entries_with es vs in omega arith
