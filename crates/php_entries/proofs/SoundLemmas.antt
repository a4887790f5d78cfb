-- Each change leads from a sound array to a sound array.
use Rattle.std.proofs.Common.{◌≡◌, ℕ, ◌<◌, List, [], ◌∷◌, length, refl, ap, arith, Some, None, length-append}
use Rattle.std.specs.Prelude.{Bool, true, false, ◌||◌, Option, nat_le, pos}
use Rattle.std.proofs.lemmas.Bool.{leb-false}
use Rattle.php_value.specs.declared.key.Key.{Key}
use Rattle.php_value.specs.declared.key.Key.TheVariants.{Int}
use Rattle.php_entries.specs.Keys.{next_key_above}
use Rattle.php_entries.specs.Listing.{Entry, Listing, no_entries, entry_at, last_of, is_full, is_at_limit, ENTRY_LIMIT, SERIAL_LIMIT, KEY_LIMIT}
use Rattle.php_entries.specs.Changes.{with_entry, with_value, value_set, entry_added, value_appended, set_value, append_value, remove_key, popped, pop_entry, with_values, without_last}
use Rattle.php_entries.specs.Soundness.{IsKeyBelow, IsSound, KeepsSound}
use Rattle.php_entries.proofs.KeyLemmas.{IsKeyBelow-next_key_above, next_key_above-up, next_key_above-within, next_key_without-down}
use Rattle.php_entries.proofs.ListLemmas as list

-- what it means that a number is not at its limit
or-false_both : (a b : Bool) → (a || b) ≡ false → (a ≡ false) × (b ≡ false)
or-false_both true b h = cc
or-false_both false b h = (refl, h)

below_limits : (count serial : ℕ) → (nat_le ENTRY_LIMIT count || nat_le SERIAL_LIMIT serial) ≡ false → (count < ENTRY_LIMIT) × (serial < SERIAL_LIMIT)
below_limits count serial room =
    let both = or-false_both (nat_le ENTRY_LIMIT count) (nat_le SERIAL_LIMIT serial) room in
    (leb-false ENTRY_LIMIT count both.0, leb-false SERIAL_LIMIT serial both.1)

module _ {T : Type 0} where
  pub no_entries-sound : IsSound (no_entries {T = T})
  no_entries-sound = record {
    keys_distinct = tt;
    keys_below = tt;
    serials_rise = tt;
    some_serial = omega arith;
    next_key_within = omega arith;
    next_serial_within = omega arith;
    count_within = omega arith;
  }

  pub with_entry-sound : (l : Listing T) (k : Key) (v : T) → IsSound l → entry_at l k ≡ None → IsKeyBelow KEY_LIMIT k → is_at_limit l ≡ false → IsSound (with_entry l k v)
  with_entry-sound l k v s none within room =
      let e : Entry T = record { serial = l.next_serial; key = k; value = v } in
      let next = next_key_above k l.next_key in
      let limits = below_limits (length l.entries) l.next_serial room in
      let missing = list.HasNoKey-find k l.entries none in
      record {
        keys_distinct = list.AreKeysDistinct-push l.entries e s.keys_distinct missing;
        keys_below = list.AreKeysBelow-push next l.entries e (list.AreKeysBelow-raise l.next_key next l.entries (next_key_above-up k l.next_key) s.keys_below) (IsKeyBelow-next_key_above k l.next_key);
        serials_rise = list.DoSerialsRise-push 0 l.entries e l.next_serial s.some_serial (omega arith) s.serials_rise;
        some_serial = omega arith;
        next_key_within = next_key_above-within k l.next_key KEY_LIMIT s.next_key_within within;
        next_serial_within = (let room' = limits.1 in omega arith);
        count_within = (let room' = limits.0 in omega (arith, length-append l.entries (e ∷ [])));
      }

  entry_added-sound : (b : Bool) (l : Listing T) (k : Key) (v : T) → IsSound l → entry_at l k ≡ None → IsKeyBelow KEY_LIMIT k → is_at_limit l ≡ b → KeepsSound (entry_added b l k v)
  entry_added-sound true l k v s none within room = tt
  entry_added-sound false l k v s none within room = with_entry-sound l k v s none within room

  pub with_value-sound : (l : Listing T) (k : Key) (v : T) → IsSound l → IsSound (record l { entries = with_value k v l.entries })
  with_value-sound l k v s = record {
    keys_distinct = list.AreKeysDistinct-with_value k v l.entries s.keys_distinct;
    keys_below = list.AreKeysBelow-with_value l.next_key k v l.entries s.keys_below;
    serials_rise = list.DoSerialsRise-with_value 0 k v l.entries l.next_serial s.serials_rise;
    some_serial = s.some_serial;
    next_key_within = s.next_key_within;
    next_serial_within = s.next_serial_within;
    count_within = (let bound = s.count_within in omega (arith, list.length-with_value k v l.entries));
  }

  value_set-sound : (o : Option (Entry T)) (l : Listing T) (k : Key) (v : T) → IsSound l → entry_at l k ≡ o → IsKeyBelow KEY_LIMIT k → KeepsSound (value_set o l k v)
  value_set-sound (Some e) l k v s is within = with_value-sound l k v s
  value_set-sound None l k v s is within = entry_added-sound (is_at_limit l) l k v s is within refl

  pub set_value-sound : (l : Listing T) (k : Key) (v : T) → IsSound l → IsKeyBelow KEY_LIMIT k → KeepsSound (set_value l k v)
  unfolding set_value
  set_value-sound l k v s within = value_set-sound (entry_at l k) l k v s refl within

  -- the next key is the key of no entry
  pub next_key-absent : (l : Listing T) → IsSound l → entry_at l (Int (pos l.next_key)) ≡ None
  next_key-absent l s = list.find-HasNoKey (Int (pos l.next_key)) l.entries (list.HasNoKey-above l.next_key l.entries s.keys_below)

  value_appended-sound : (b : Bool) (l : Listing T) (v : T) → IsSound l → is_full l ≡ b → KeepsSound (value_appended b l v)
  value_appended-sound true l v s full = tt
  value_appended-sound false l v s full = entry_added-sound (is_at_limit l) l (Int (pos l.next_key)) v s (next_key-absent l s) (leb-false KEY_LIMIT l.next_key full) refl

  pub append_value-sound : (l : Listing T) (v : T) → IsSound l → KeepsSound (append_value l v)
  unfolding append_value
  append_value-sound l v s = value_appended-sound (is_full l) l v s refl

  pub remove_key-sound : (l : Listing T) (k : Key) → IsSound l → IsSound (remove_key l k)
  unfolding remove_key
  remove_key-sound l k s = record {
    keys_distinct = list.AreKeysDistinct-without_key k l.entries s.keys_distinct;
    keys_below = list.AreKeysBelow-without_key l.next_key k l.entries s.keys_below;
    serials_rise = list.DoSerialsRise-without_key 0 k l.entries l.next_serial s.serials_rise;
    some_serial = s.some_serial;
    next_key_within = s.next_key_within;
    next_serial_within = s.next_serial_within;
    count_within = (let bound = s.count_within in omega (arith, list.length-without_key k l.entries));
  }

  popped-sound : (o : Option (Entry T)) (l : Listing T) → IsSound l → last_of l.entries ≡ o → IsSound (popped o l)
  popped-sound None l s is = s
  popped-sound (Some e) l s is =
      let front = without_last l.entries in
      let split = list.last_of-split l.entries e is in
      let distinct = list.AreKeysDistinct-front front e (rw split at s.keys_distinct) in
      let below = list.AreKeysBelow-front l.next_key front e (rw split at s.keys_below) in
      record {
        keys_distinct = distinct.0;
        keys_below = list.AreKeysBelow-without e.key l.next_key front distinct.1 below;
        serials_rise = list.DoSerialsRise-front 0 front e l.next_serial (rw split at s.serials_rise);
        some_serial = s.some_serial;
        next_key_within = (let bound = s.next_key_within in omega (arith, next_key_without-down e.key l.next_key));
        next_serial_within = s.next_serial_within;
        count_within = (let bound = s.count_within in omega (arith, ap length split, length-append front (e ∷ [])));
      }

  pub pop_entry-sound : (l : Listing T) → IsSound l → IsSound (pop_entry l)
  unfolding pop_entry
  pop_entry-sound l s = popped-sound (last_of l.entries) l s refl

module _ {T U : Type 0} where
  pub with_values-sound : (l : Listing T) (vs : List U) → IsSound l → IsSound (with_values l vs)
  unfolding with_values
  with_values-sound l vs s = record {
    keys_distinct = list.AreKeysDistinct-entries_with l.entries vs s.keys_distinct;
    keys_below = list.AreKeysBelow-entries_with l.next_key l.entries vs s.keys_below;
    serials_rise = list.DoSerialsRise-entries_with 0 l.entries vs l.next_serial s.serials_rise;
    some_serial = s.some_serial;
    next_key_within = s.next_key_within;
    next_serial_within = s.next_serial_within;
    count_within = (let bound = s.count_within in omega (arith, list.length-entries_with l.entries vs));
  }
