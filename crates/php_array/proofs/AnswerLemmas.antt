-- What the calls on an array hand back.
use Rattle.std.proofs.Common.{◌≡◌, ◌<◌, ◌≤◌, inl, inr, ℕ, zero, suc, List, [], ◌∷◌, length, drop, refl, sym, ◌∙◌, ap, arith, Some, None}
use Rattle.std.specs.Prelude.{Bool, cond, Option, option_map, find, nat_lt, max}
use Rattle.std.proofs.lemmas.Bool.{cases_lt, lt-ltb, le-ltb}
use Rattle.php_value.specs.declared.key.Key.{Key}
use Rattle.php_entries.specs.Listing.{Entry, Listing, entry_at, value_at, entry_after}
use Rattle.php_array.specs.Kept.{listing_of}
use Rattle.php_array.specs.Slots.{stored_at, serial_at, entries_in, AreHoles}
use Rattle.php_array.specs.Slot.{Slot, Hole, Live}
use Rattle.php_array.proofs.RepackLemmas.{drop-entries}

-- a key without a value has no entry
pub entry_at-no_value : {T : Type 0} (l : Listing T) (k : Key) → value_at l k ≡ None → entry_at l k ≡ None
entry_at-no_value {T} l k none = by (entry_at l k) none
  where
    by : (o : Option (Entry T)) → option_map (λ (e : Entry T). e.value) o ≡ None → o ≡ None
    by None h = refl
    by (Some e) h = cc

module _ {T : Type 0} where
  -- entries of slots with no greater serial are passed over
  find-through : (serial n : ℕ) (ss : List (Slot T)) → ((i : ℕ) → i < n → serial_at i ss ≤ serial) → find (λ (e : Entry T). nat_lt serial e.serial) (entries_in ss) ≡ find (λ (e : Entry T). nat_lt serial e.serial) (entries_in (drop n ss))
  find-through serial zero ss h = refl
  find-through serial (suc n) [] h = refl
  find-through serial (suc n) (Hole m ∷ ss) h = find-through serial n ss (λ i below. h (suc i) (omega arith))
  find-through serial (suc n) (Live e ∷ ss) h =
      let low : e.serial ≤ serial = h 0 (omega arith) in
      ap (λ (b : Bool). cond b (Some e) (find (λ (x : Entry T). nat_lt serial x.serial) (entries_in ss))) (le-ltb serial e.serial low)
      ∙ find-through serial n ss (λ i below. h (suc i) (omega arith))

  stored-serial : (i : ℕ) (ss : List (Slot T)) (e : Entry T) → stored_at i ss ≡ Some e → (serial_at i ss ≡ e.serial) × (i < length ss)
  stored-serial i [] e there = cc
  stored-serial zero (Hole m ∷ ss) e there = cc
  stored-serial zero (Live x ∷ ss) e there = let same : x ≡ e = cc in (ap (λ (y : Entry T). y.serial) same, omega arith)
  stored-serial (suc i) (s ∷ ss) e there = let r = stored-serial i ss e there in (r.0, (let below = r.1 in omega arith))

  module _ (l : Listing T) (ss : List (Slot T)) (next_key next_serial : ℕ) (view : listing_of ss next_key next_serial ≡ l) (serial through first place : ℕ) (low : (i : ℕ) → i < through → serial_at i ss ≤ serial) (holes : AreHoles first ss) (from : place ≡ max through first) where
    -- the search begins behind what has no greater serial and behind the holes in front
    search-from : find (λ (e : Entry T). nat_lt serial e.serial) (entries_in ss) ≡ find (λ (e : Entry T). nat_lt serial e.serial) (entries_in (drop place ss))
    search-from =
        elim (cases_lt through first) [
          | inl before ↦ (
              let is : place ≡ first = omega arith in
              ap (find (λ (e : Entry T). nat_lt serial e.serial)) (sym (drop-entries first ss holes))
              ∙ ap (λ n. find (λ (e : Entry T). nat_lt serial e.serial) (entries_in (drop n ss))) (sym is))
          | inr behind ↦ (
              let is : place ≡ through = omega arith in
              find-through serial through ss low
              ∙ ap (λ n. find (λ (e : Entry T). nat_lt serial e.serial) (entries_in (drop n ss))) (sym is))
        ]

    pub entry_after-none : entries_in (drop place ss) ≡ [] → entry_after l serial ≡ None
    entry_after-none none =
        ap (λ (m : Listing T). entry_after m serial) (sym view)
        ∙ search-from
        ∙ ap (find (λ (e : Entry T). nat_lt serial e.serial)) none

    pub entry_after-some : (high : (i : ℕ) → through ≤ i → i < length ss → serial < serial_at i ss) → (at : ℕ) (e : Entry T) (rest : List (Entry T)) → place ≤ at → stored_at at ss ≡ Some e → entries_in (drop place ss) ≡ e ∷ rest → entry_after l serial ≡ Some e
    entry_after-some high at e rest behind there entries =
        let is = stored-serial at ss e there in
        let above : serial < serial_at at ss = high at (omega arith) is.1 in
        let greater : serial < e.serial = (let same = is.0 in omega arith) in
        ap (λ (m : Listing T). entry_after m serial) (sym view)
        ∙ search-from
        ∙ ap (find (λ (x : Entry T). nat_lt serial x.serial)) entries
        ∙ ap (λ (b : Bool). cond b (Some e) (find (λ (x : Entry T). nat_lt serial x.serial) rest)) (lt-ltb serial e.serial greater)
