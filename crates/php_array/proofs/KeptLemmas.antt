-- What the parts of an array keep through a change.
use Rattle.std.proofs.Common.{◌≡◌, ◌<◌, ◌≤◌, ℕ, suc, ◌+◌, ◌-◌, List, [], ◌∷◌, ◌++◌, length, sym, ◌∙◌, ap, subst, arith, Some, None, length-append}
use Rattle.std.specs.Prelude.{true, Option, option_map, find, is_some}
use Rattle.php_value.specs.declared.key.Key.{Key}
use Rattle.php_entries.specs.Keys.{key_eq, next_key_above, next_key_without}
use Rattle.php_entries.specs.Listing.{Entry, Listing, entry_at, value_at, last_of, ENTRY_LIMIT, SERIAL_LIMIT, KEY_LIMIT}
use Rattle.php_entries.specs.Changes.{Grown, with_value, with_value_under, without_key, without_last, set_value, remove_key, popped, pop_entry}
use Rattle.php_entries.specs.Soundness.{IsSound, IsKeyBelow, HasNoKey, AreKeysDistinct}
use Rattle.php_entries.proofs.ChangeLemmas.{set_value-there}
use Rattle.php_entries.proofs.KeyLemmas.{IsKeyBelow-next_key_above, next_key_above-up, next_key_above-within}
use Rattle.php_entries.proofs.ListLemmas as list
use Rattle.php_entries.proofs.SoundLemmas.{with_value-sound, remove_key-sound, pop_entry-sound}
use Rattle.php_array.specs.Answers.{key_and_value, with_serial}
use Rattle.php_array.specs.Index.{ForgetsKey, IsIndexed}
use Rattle.php_array.specs.Kept.{listing_of, IsKept, IsRepacked}
use Rattle.php_array.specs.Slots.{entries_in, place_of, stored_at, vacated, with_value_at, AreHoles, HoldsSame}
use Rattle.php_array.specs.declared.key_index.KeyIndex.{KeyIndex}
use Rattle.php_array.specs.Slot.{Slot, Live}
use Rattle.php_array.proofs.IndexLemmas.{IsIndexed-same, IsIndexed-vacated, IsIndexed-popped, IsIndexed-HoldsSame}
use Rattle.php_array.proofs.SlotLemmas as slot

module _ {T : Type 0} (index : KeyIndex) (ss : List (Slot T)) (first count next_key next_serial : ℕ) (kept : IsKept index ss first count next_key next_serial) where
  -- another value at the place of a key
  pub kept-with_value : (k : Key) (i : ℕ) (v : T) → place_of k ss ≡ Some i → IsKept index (with_value_at i v ss) first count next_key next_serial
  kept-with_value k i v place =
      let entries = slot.entries_in-with_value_at k v ss i place in
      record {
        sound = subst (λ (es : List (Entry T)). IsSound (record { entries = es; next_key = next_key; next_serial = next_serial })) (sym entries) (with_value-sound (listing_of ss next_key next_serial) k v kept.sound);
        indexed = IsIndexed-same index ss (with_value_at i v ss) (λ j. slot.stored_at-with_value_at i j v ss) (λ q. slot.place_of-with_value_at q i v ss) kept.indexed;
        rise = slot.DoSerialsRise-with_value_at i v 0 ss next_serial kept.rise;
        front = slot.AreHoles-with_value_at i first v ss kept.front;
        front_within = (let within = kept.front_within in omega (arith, slot.length_slots-with_value_at i v ss));
        counted = kept.counted ∙ sym (slot.length_entries-with_value_at i v ss);
      }

module _ {T : Type 0} (l : Listing T) (ss : List (Slot T)) (next_key next_serial : ℕ) (view : listing_of ss next_key next_serial ≡ l) (k : Key) where
  -- the entry of a key, by its place
  pub entry_at-place : (i : ℕ) (e : Entry T) → place_of k ss ≡ Some i → stored_at i ss ≡ Some e → entry_at l k ≡ Some e
  entry_at-place i e place there = ap (λ (m : Listing T). entry_at m k) (sym view) ∙ slot.place_of-find k ss i e place there

  pub entry_at-missing : place_of k ss ≡ None → entry_at l k ≡ None
  entry_at-missing none = ap (λ (m : Listing T). entry_at m k) (sym view) ∙ slot.place_of-none k ss none

  pub value_at-missing : place_of k ss ≡ None → value_at l k ≡ None
  value_at-missing none = ap (option_map (λ (e : Entry T). e.value)) (entry_at-missing none)

  pub value_at-place : (i : ℕ) (v : T) → place_of k ss ≡ Some i → option_map (λ (e : Entry T). e.value) (stored_at i ss) ≡ Some v → value_at l k ≡ Some v
  value_at-place i v place value =
      let there = slot.place_of-stored k ss i place in
      ap (option_map (λ (e : Entry T). e.value)) (entry_at-place i there.0 place there.1)
      ∙ sym (ap (option_map (λ (e : Entry T). e.value)) there.1)
      ∙ value

  pub set_value-place : (i : ℕ) (v : T) → place_of k ss ≡ Some i → set_value l k v ≡ Grown (listing_of (with_value_at i v ss) next_key next_serial)
  set_value-place i v place =
      let there = slot.place_of-stored k ss i place in
      set_value-there l v k there.0 (entry_at-place i there.0 place there.1)
      ∙ ap (λ (m : Listing T). Grown (record m { entries = with_value k v m.entries })) (sym view)
      ∙ ap (λ (es : List (Entry T)). Grown (record { entries = es; next_key = next_key; next_serial = next_serial })) (sym (slot.entries_in-with_value_at k v ss i place))

  -- a value that is written at a key's place is the value under the key
  pub written-place : (i : ℕ) (v : T) → place_of k ss ≡ Some i → listing_of (with_value_at i v ss) next_key next_serial ≡ with_value_under l k v
  written-place i v place =
      ap (λ (es : List (Entry T)). record { entries = es; next_key = next_key; next_serial = next_serial }) (slot.entries_in-with_value_at k v ss i place)
      ∙ ap (λ (m : Listing T). with_value_under m k v) view

  -- and setting the key does the same
  pub set_value-written : (i : ℕ) (v : T) → place_of k ss ≡ Some i → set_value l k v ≡ Grown (with_value_under l k v)
  set_value-written i v place =
      let there = slot.place_of-stored k ss i place in
      set_value-there l v k there.0 (entry_at-place i there.0 place there.1)

pub is_some-place : {T : Type 0} (k : Key) (ss : List (Slot T)) (i : ℕ) → place_of k ss ≡ Some i → is_some (stored_at i ss) ≡ true
is_some-place k ss i place = ap is_some (slot.place_of-stored k ss i place).1

-- an entry that is taken out of its place
module _ {T : Type 0} (index forgot : KeyIndex) (ss : List (Slot T)) (first count next_key next_serial : ℕ) (kept : IsKept index ss first count next_key next_serial) (k : Key) (i : ℕ) (place : place_of k ss ≡ Some i) (forgets : ForgetsKey index forgot k) where
  removed-entries : entries_in (vacated i ss) ≡ without_key k (entries_in ss)
  removed-entries = slot.entries_in-vacated k ss i place

  pub removed-distinct : AreKeysDistinct (entries_in (vacated i ss))
  removed-distinct = subst (λ (es : List (Entry T)). AreKeysDistinct es) (sym removed-entries) (list.AreKeysDistinct-without_key k (entries_in ss) kept.sound.keys_distinct)

  pub removed-indexed : IsIndexed forgot (vacated i ss)
  removed-indexed = IsIndexed-vacated index forgot k i ss forgets kept.sound.keys_distinct place kept.indexed

  pub removed-front : AreHoles first (vacated i ss)
  removed-front = slot.AreHoles-vacated i first ss kept.front

  pub removed-count : count ≡ suc (length (entries_in (vacated i ss)))
  removed-count = let there = slot.place_of-stored k ss i place in kept.counted ∙ slot.length-vacated ss i there.0 there.1

  module _ (new : List (Slot T)) (new_index : KeyIndex) (new_first : ℕ) (packed : IsRepacked (vacated i ss) new new_index new_first) where
    removed-sound : IsSound (listing_of new next_key next_serial)
    unfolding remove_key
    removed-sound =
        subst (λ (es : List (Entry T)). IsSound (record { entries = es; next_key = next_key; next_serial = next_serial })) (sym (packed.entries ∙ removed-entries))
        (remove_key-sound (listing_of ss next_key next_serial) k kept.sound)

    pub removed-kept : IsKept new_index new new_first (count - 1) next_key next_serial
    removed-kept = record {
      sound = removed-sound;
      indexed = packed.indexed;
      rise = packed.rise next_serial (slot.DoSerialsRise-vacated i 0 ss next_serial kept.rise);
      front = packed.front;
      front_within = packed.front_within;
      counted = (let before = removed-count in let same = ap length packed.entries in omega arith);
    }

    pub removed-after : (l : Listing T) → listing_of ss next_key next_serial ≡ l → listing_of new next_key next_serial ≡ remove_key l k
    unfolding remove_key
    removed-after l view =
        ap (λ (es : List (Entry T)). record { entries = es; next_key = next_key; next_serial = next_serial }) (packed.entries ∙ removed-entries)
        ∙ ap (λ (m : Listing T). remove_key m k) view

-- a key that no entry has
pub remove_key-missing : {T : Type 0} (l : Listing T) (k : Key) → entry_at l k ≡ None → l ≡ remove_key l k
unfolding remove_key
remove_key-missing l k none = ap (λ (es : List (Entry _)). record l { entries = es }) (sym (slot.without_key-none k l.entries none))

-- the last entry that is taken out
module _ {T : Type 0} (index forgot : KeyIndex) (ss left : List (Slot T)) (e : Entry T) (first count next_key next_serial : ℕ) (kept : IsKept index ss first count next_key next_serial) (same : HoldsSame ss (left ++ Live e ∷ [])) where
  popped-entries : entries_in ss ≡ entries_in left ++ e ∷ []
  popped-entries = sym same.entries ∙ slot.entries_in-append left (Live e ∷ [])

  all-distinct : AreKeysDistinct (entries_in left ++ e ∷ [])
  all-distinct = subst (λ (es : List (Entry T)). AreKeysDistinct es) popped-entries kept.sound.keys_distinct

  pub popped-distinct : AreKeysDistinct (entries_in left)
  popped-distinct = (list.AreKeysDistinct-front (entries_in left) e all-distinct).0

  pub popped-indexed : ForgetsKey index forgot e.key → IsIndexed forgot left
  popped-indexed forgets =
      IsIndexed-popped index forgot e left forgets
      (subst (λ (es : List (Entry T)). AreKeysDistinct es) (sym (slot.entries_in-append left (Live e ∷ []))) all-distinct)
      (IsIndexed-HoldsSame index ss (left ++ Live e ∷ []) same kept.indexed)

  pub popped-front : AreHoles first left
  popped-front = slot.AreHoles-front first left (Live e) (same.front first kept.front)

  pub popped-count : count ≡ suc (length (entries_in left))
  popped-count = (let sum = kept.counted ∙ ap length popped-entries in omega (arith, length-append (entries_in left) (e ∷ [])))

  popped-last : last_of (entries_in ss) ≡ Some e
  popped-last = ap last_of popped-entries ∙ (list.last_of-push (entries_in left) e).0

  popped-rest : without_last (entries_in ss) ≡ entries_in left
  popped-rest = ap without_last popped-entries ∙ (list.last_of-push (entries_in left) e).1

  pub popped-entry : (l : Listing T) → listing_of ss next_key next_serial ≡ l → Some (e.key, e.value) ≡ option_map key_and_value (last_of l.entries)
  popped-entry l view = sym (ap (λ (m : Listing T). option_map key_and_value (last_of m.entries)) (sym view) ∙ ap (option_map key_and_value) popped-last)

  popped-pop : pop_entry (listing_of ss next_key next_serial) ≡ record { entries = entries_in left; next_key = next_key_without e.key next_key; next_serial = next_serial }
  unfolding pop_entry
  popped-pop =
      ap (λ (o : Option (Entry T)). popped o (listing_of ss next_key next_serial)) popped-last
      ∙ ap (λ (es : List (Entry T)). record { entries = es; next_key = next_key_without e.key next_key; next_serial = next_serial }) popped-rest

  module _ (new : List (Slot T)) (new_index : KeyIndex) (new_first : ℕ) (packed : IsRepacked left new new_index new_first) (after : ℕ) (lowered : after ≡ next_key_without e.key next_key) where
    popped-new : listing_of new after next_serial ≡ pop_entry (listing_of ss next_key next_serial)
    popped-new =
        ap (λ (es : List (Entry T)). record { entries = es; next_key = after; next_serial = next_serial }) packed.entries
        ∙ ap (λ n. record { entries = entries_in left; next_key = n; next_serial = next_serial }) lowered
        ∙ sym popped-pop

    pub popped-after : (l : Listing T) → listing_of ss next_key next_serial ≡ l → listing_of new after next_serial ≡ pop_entry l
    popped-after l view = popped-new ∙ ap pop_entry view

    pub popped-kept : IsKept new_index new new_first (count - 1) after next_serial
    popped-kept = record {
      sound = subst (λ (m : Listing T). IsSound m) (sym popped-new) (pop_entry-sound (listing_of ss next_key next_serial) kept.sound);
      indexed = packed.indexed;
      rise = packed.rise next_serial (slot.DoSerialsRise-front 0 left (Live e) next_serial (same.rise 0 next_serial kept.rise));
      front = packed.front;
      front_within = packed.front_within;
      counted = (let before = popped-count in let same_count = ap length packed.entries in omega arith);
    }

-- an array without entries is popped in vain
pub pop_entry-empty : {T : Type 0} (l : Listing T) → l.entries ≡ [] → l ≡ pop_entry l
unfolding pop_entry
pop_entry-empty l none = ap (λ (es : List (Entry _)). popped (last_of es) l) (sym none)

-- an entry that is added
module _ {T : Type 0} (index : KeyIndex) (ss : List (Slot T)) (first count next_key next_serial : ℕ) (kept : IsKept index ss first count next_key next_serial) (l : Listing T) (view : listing_of ss next_key next_serial ≡ l) (k : Key) (none : entry_at l k ≡ None) (room : List (Slot T)) (room_index : KeyIndex) (room_first : ℕ) (packed : IsRepacked ss room room_index room_first) where
  added-missing : HasNoKey k (entries_in room)
  added-missing =
      list.HasNoKey-find k (entries_in room)
      (ap (λ (es : List (Entry T)). find (λ (x : Entry T). key_eq k x.key) es) packed.entries ∙ ap (λ (m : Listing T). entry_at m k) view ∙ none)

  pub added-absent : place_of k room ≡ None
  added-absent = slot.place_of-no_key k room added-missing

  module _ (v : T) (serial next : ℕ) (later : l.next_serial ≤ serial) (within : serial < SERIAL_LIMIT) (few : length l.entries < ENTRY_LIMIT) (fits : IsKeyBelow KEY_LIMIT k) (raised : next ≡ next_key_above k next_key) where
    abbrev added : Entry T
    added = record { serial = serial; key = k; value = v }

    added-entries : entries_in (room ++ Live added ∷ []) ≡ entries_in ss ++ added ∷ []
    added-entries = slot.entries_in-append room (Live added ∷ []) ∙ ap (λ (es : List (Entry T)). es ++ added ∷ []) packed.entries

    pub added-after : listing_of (room ++ Live added ∷ []) next (serial + 1) ≡ with_serial l serial k v
    added-after =
        ap (λ (es : List (Entry T)). record { entries = es; next_key = next; next_serial = serial + 1 }) added-entries
        ∙ ap (λ n. record { entries = entries_in ss ++ added ∷ []; next_key = n; next_serial = serial + 1 }) raised
        ∙ ap (λ (m : Listing T). with_serial m serial k v) view

    added-up : next_serial ≤ serial
    added-up = (let same = ap (λ (m : Listing T). m.next_serial) view in omega arith)

    added-sound : IsSound (with_serial (listing_of ss next_key next_serial) serial k v)
    added-sound =
        let es = entries_in ss in
        let s = kept.sound in
        let missing = subst (λ (xs : List (Entry T)). HasNoKey k xs) packed.entries added-missing in
        record {
          keys_distinct = list.AreKeysDistinct-push es added s.keys_distinct missing;
          keys_below = list.AreKeysBelow-push (next_key_above k next_key) es added (list.AreKeysBelow-raise next_key (next_key_above k next_key) es (next_key_above-up k next_key) s.keys_below) (IsKeyBelow-next_key_above k next_key);
          serials_rise = list.DoSerialsRise-push 0 es added next_serial s.some_serial added-up s.serials_rise;
          some_serial = omega arith;
          next_key_within = next_key_above-within k next_key KEY_LIMIT s.next_key_within fits;
          next_serial_within = omega arith;
          count_within = (let same = ap (λ (m : Listing T). length m.entries) view in omega (arith, length-append es (added ∷ [])));
        }

    pub added-kept : (new_index : KeyIndex) → IsIndexed new_index (room ++ Live added ∷ []) → IsKept new_index (room ++ Live added ∷ []) room_first (count + 1) next (serial + 1)
    added-kept new_index indexed = record {
      sound = subst (λ (m : Listing T). IsSound m) (ap (λ (m : Listing T). with_serial m serial k v) view ∙ sym added-after) added-sound;
      indexed = indexed;
      rise = slot.DoSerialsRise-push 0 room (Live added) next_serial kept.sound.some_serial added-up (packed.rise next_serial kept.rise);
      front = slot.AreHoles-push room_first room (Live added) packed.front_within packed.front;
      front_within = (let before = packed.front_within in omega (arith, length-append room (Live added ∷ [])));
      counted = (let before = kept.counted in let after = ap length added-entries in omega (arith, length-append (entries_in ss) (added ∷ [])));
    }
