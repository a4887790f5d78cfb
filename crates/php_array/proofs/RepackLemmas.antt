-- Slots that are packed anew.
use Rattle.std.proofs.Common.{◌≡◌, ◌<◌, ◌≤◌, inl, inr, ℕ, zero, suc, ◌+◌, ◌-◌, List, [], ◌∷◌, length, drop, refl, sym, ◌∙◌, ap, subst, arith, Some, None}
use Rattle.std.specs.Prelude.{Bool, true, false, cond, Option, option_map, is_some, filter, nat_le, pos, negsuc}
use Rattle.std.proofs.lemmas.Bool.{cases_Bool, leb-true, leb-false, le-leb, lt-leb}
use Rattle.php_value.specs.declared.key.Key.{Key}
use Rattle.php_value.specs.declared.key.Key.TheVariants.{Int, Str}
use Rattle.php_entries.specs.Keys.{key_eq}
use Rattle.php_entries.specs.Listing.{Entry}
use Rattle.php_entries.specs.Soundness.{AreKeysDistinct}
use Rattle.php_array.specs.Index.{IsIndexed}
use Rattle.php_array.specs.Kept.{IsStored, IsRepacked}
use Rattle.php_array.specs.Slots.{serial_of, is_live, stored_at, entries_in, place_of, live_place, DoSerialsRise, AreHoles, HoldsSame}
use Rattle.php_array.specs.declared.key_index.KeyIndex.{KeyIndex}
use Rattle.php_array.specs.declared.key_index.KeyIndex.TheVariants.{Packed}
use Rattle.php_array.specs.Slot.{Slot, Hole, Live}
use Rattle.php_array.proofs.IndexLemmas.{IsIndexed-HoldsSame}

is_some-map : (o : Option ℕ) → is_some (option_map (λ i. suc i) o) ≡ is_some o
is_some-map None = refl
is_some-map (Some i) = refl

is_some-first : (b : Bool) (o : Option ℕ) → is_some (cond b (Some 0) (option_map (λ i. suc i) o)) ≡ cond b true (is_some o)
is_some-first true o = refl
is_some-first false o = is_some-map o

no_suc_map : (o : Option ℕ) → None ≡ option_map (λ i. suc i) o → o ≡ None
no_suc_map None e = refl
no_suc_map (Some i) e = cc

suc_map : (o : Option ℕ) (i : ℕ) → Some (suc i) ≡ option_map (λ i. suc i) o → o ≡ Some i
suc_map None i e = cc
suc_map (Some j) i e = cc

module _ {T : Type 0} where
  -- without the holes
  pub live-entries : (ss : List (Slot T)) → entries_in (filter is_live ss) ≡ entries_in ss
  live-entries [] = refl
  live-entries (Hole n ∷ ss) = live-entries ss
  live-entries (Live e ∷ ss) = ap (λ (es : List (Entry T)). e ∷ es) (live-entries ss)

  pub live-place : (k : Key) (ss : List (Slot T)) → is_some (place_of k (filter is_live ss)) ≡ is_some (place_of k ss)
  live-place k [] = refl
  live-place k (Hole n ∷ ss) = live-place k ss ∙ sym (is_some-map (place_of k ss))
  live-place k (Live e ∷ ss) =
      is_some-first (key_eq k e.key) (place_of k (filter is_live ss))
      ∙ ap (cond (key_eq k e.key) true) (live-place k ss)
      ∙ sym (is_some-first (key_eq k e.key) (place_of k ss))

  rise-lower : (from lower : ℕ) (ss : List (Slot T)) (to : ℕ) → lower ≤ from → DoSerialsRise from ss to → DoSerialsRise lower ss to
  rise-lower from lower [] to down h = tt
  rise-lower from lower (s ∷ ss) to down h = ((let up : from < serial_of s = h.0 in omega arith), h.1, h.2)

  pub live-rise : (from : ℕ) (ss : List (Slot T)) (to : ℕ) → DoSerialsRise from ss to → DoSerialsRise from (filter is_live ss) to
  live-rise from [] to h = tt
  live-rise from (Hole n ∷ ss) to h = live-rise from ss to (rise-lower n from ss to (let up : from < n = h.0 in omega arith) h.2)
  live-rise from (Live e ∷ ss) to h = (h.0, h.1, live-rise e.serial ss to h.2)

  pub repacked-live : (old : List (Slot T)) (index : KeyIndex) → IsIndexed index (filter is_live old) → IsRepacked old (filter is_live old) index 0
  repacked-live old index h = record {
    entries = live-entries old;
    rise = λ to r. live-rise 0 old to r;
    indexed = h;
    front = tt;
    front_within = omega arith;
  }

  -- without the holes in front
  pub drop-entries : (n : ℕ) (ss : List (Slot T)) → AreHoles n ss → entries_in (drop n ss) ≡ entries_in ss
  drop-entries zero ss h = refl
  drop-entries (suc n) [] h = refl
  drop-entries (suc n) (Hole m ∷ ss) h = drop-entries n ss h
  drop-entries (suc n) (Live e ∷ ss) h = absurd h

  drop-rise : (n from : ℕ) (ss : List (Slot T)) (to : ℕ) → DoSerialsRise from ss to → DoSerialsRise from (drop n ss) to
  drop-rise zero from ss to h = h
  drop-rise (suc n) from [] to h = tt
  drop-rise (suc n) from (s ∷ ss) to h = drop-rise n from ss to (rise-lower (serial_of s) from ss to (let up : from < serial_of s = h.0 in omega arith) h.2)

  -- where the first slot is a hole, the places behind it tell the same keys with the next first key
  shift_one : (first m : ℕ) (ss : List (Slot T)) → IsIndexed (Packed first) (Hole m ∷ ss) → IsIndexed (Packed (suc first)) ss
  shift_one first m ss h (Int (pos k)) =
      elim (cases_Bool (nat_le first k)) [
        | inl le ↦ (
            let above : first ≤ k = leb-true first k le in
            let here : live_place (Some (k - first)) (Hole m ∷ ss) ≡ option_map (λ i. suc i) (place_of (Int (pos k)) ss) =
            sym (ap (λ (b : Bool). live_place (cond b (Some (k - first)) None) (Hole m ∷ ss)) le) ∙ h (Int (pos k)) in
            by_distance (k - first) refl above here)
        | inr gt ↦ (
            let below : k < first = leb-false first k gt in
            let none : place_of (Int (pos k)) ss ≡ None =
            no_suc_map (place_of (Int (pos k)) ss) (sym (ap (λ (b : Bool). live_place (cond b (Some (k - first)) None) (Hole m ∷ ss)) gt) ∙ h (Int (pos k))) in
            ap (λ (b : Bool). live_place (cond b (Some (k - suc first)) None) ss) (lt-leb (suc first) k (omega arith)) ∙ sym none)
      ]
    where
      by_distance : (d : ℕ) → k - first ≡ d → first ≤ k → live_place (Some (k - first)) (Hole m ∷ ss) ≡ option_map (λ i. suc i) (place_of (Int (pos k)) ss) → live_place (cond (nat_le (suc first) k) (Some (k - suc first)) None) ss ≡ place_of (Int (pos k)) ss
      by_distance zero is above here =
          let none : place_of (Int (pos k)) ss ≡ None = no_suc_map (place_of (Int (pos k)) ss) (sym (ap (λ n. live_place (Some n) (Hole m ∷ ss)) is) ∙ here) in
          ap (λ (b : Bool). live_place (cond b (Some (k - suc first)) None) ss) (lt-leb (suc first) k (omega arith)) ∙ sym none
      by_distance (suc d) is above here =
          let next : k - suc first ≡ d = omega arith in
          let at : live_place (Some (suc d)) (Hole m ∷ ss) ≡ option_map (λ i. suc i) (place_of (Int (pos k)) ss) = sym (ap (λ n. live_place (Some n) (Hole m ∷ ss)) is) ∙ here in
          ap (λ (b : Bool). live_place (cond b (Some (k - suc first)) None) ss) (le-leb (suc first) k (omega arith))
          ∙ ap (λ n. live_place (Some n) ss) next
          ∙ elim (cases_Bool (is_some (stored_at d ss))) [
            | inl there ↦
                ap (λ (b : Bool). cond b (Some d) None) there
                ∙ sym (suc_map (place_of (Int (pos k)) ss) d (sym (ap (λ (b : Bool). cond b (Some (suc d)) None) there) ∙ at))
            | inr none ↦
                ap (λ (b : Bool). cond b (Some d) None) none
                ∙ sym (no_suc_map (place_of (Int (pos k)) ss) (sym (ap (λ (b : Bool). cond b (Some (suc d)) None) none) ∙ at))
          ]
  shift_one first m ss h (Int (negsuc k)) = sym (no_suc_map (place_of (Int (negsuc k)) ss) (h (Int (negsuc k))))
  shift_one first m ss h (Str s) = sym (no_suc_map (place_of (Str s) ss) (h (Str s)))

  shift : (n first : ℕ) (ss : List (Slot T)) → AreHoles n ss → n ≤ length ss → IsIndexed (Packed first) ss → IsIndexed (Packed (first + n)) (drop n ss)
  shift zero first ss h within is = subst (λ m. IsIndexed (Packed m) ss) (omega arith) is
  shift (suc n) first [] h within is = absurd (omega arith)
  shift (suc n) first (Hole m ∷ ss) h within is = subst (λ k. IsIndexed (Packed k) (drop n ss)) (omega arith) (shift n (suc first) ss h (omega arith) (shift_one first m ss is))
  shift (suc n) first (Live e ∷ ss) h within is = absurd h

  pub repacked-front : (n first : ℕ) (ss : List (Slot T)) → AreHoles n ss → n ≤ length ss → IsIndexed (Packed first) ss → IsRepacked ss (drop n ss) (Packed (first + n)) 0
  repacked-front n first ss h within is = record {
    entries = drop-entries n ss h;
    rise = λ to r. drop-rise n 0 ss to r;
    indexed = shift n first ss h within is;
    front = tt;
    front_within = omega arith;
  }

  -- packing in two steps
  pub repacked-trans : (a b c : List (Slot T)) (i j : KeyIndex) (n m : ℕ) → IsRepacked a b i n → IsRepacked b c j m → IsRepacked a c j m
  repacked-trans a b c i j n m h k = record {
    entries = k.entries ∙ h.entries;
    rise = λ to r. k.rise to (h.rise to r);
    indexed = k.indexed;
    front = k.front;
    front_within = k.front_within;
  }

  pub repacked-same : (old new : List (Slot T)) (index : KeyIndex) (first : ℕ) → HoldsSame old new → IsIndexed index old → AreHoles first new → first ≤ length new → IsRepacked old new index first
  repacked-same old new index first same h front within = record {
    entries = same.entries;
    rise = λ to r. same.rise 0 to r;
    indexed = IsIndexed-HoldsSame index old new same h;
    front = front;
    front_within = within;
  }

  -- what is packed anew can be packed anew again
  pub stored-repacked : (old new : List (Slot T)) (index : KeyIndex) (first : ℕ) → AreKeysDistinct (entries_in old) → IsRepacked old new index first → IsStored index new first
  stored-repacked old new index first distinct h = record {
    distinct = subst (λ (es : List (Entry T)). AreKeysDistinct es) (sym h.entries) distinct;
    indexed = h.indexed;
    front = h.front;
    front_within = h.front_within;
  }
