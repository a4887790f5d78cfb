-- An array that is copied entry by entry, with other values.
use Rattle.std.proofs.Common.{◌≡◌, ◌<◌, ◌≤◌, ℕ, zero, suc, List, [], ◌∷◌, ◌++◌, length, drop, refl, sym, ◌∙◌, ap, subst, arith, length-append, append_assoc, append-nil}
use Rattle.std.specs.Prelude.{false}
use Rattle.php_value.specs.declared.key.Key.{Key}
use Rattle.php_entries.specs.Keys.{key_eq}
use Rattle.php_entries.specs.Listing.{Entry, Listing}
use Rattle.php_entries.specs.Changes.{entries_with, with_values}
use Rattle.php_entries.specs.Soundness.{HasNoKey, AreKeysDistinct, IsSound}
use Rattle.php_entries.specs.Soundness as sound
use Rattle.php_entries.proofs.KeyLemmas.{key_eq-sym_false}
use Rattle.php_entries.proofs.SoundLemmas.{with_values-sound}
use Rattle.php_array.specs.Kept.{listing_of, IsKept}
use Rattle.php_array.specs.Slots.{serial_of, entries_in, DoSerialsRise}
use Rattle.php_array.specs.declared.key_index.KeyIndex.{KeyIndex}
use Rattle.php_array.specs.Slot.{Slot}

module _ {T : Type 0} where
  -- the entry behind the first ones
  pub drop-next : (n : ℕ) (es : List (Entry T)) (e : Entry T) (rest : List (Entry T)) → drop n es ≡ e ∷ rest → (drop (suc n) es ≡ rest) × (n < length es)
  drop-next zero [] e rest is = cc
  drop-next (suc n) [] e rest is = cc
  drop-next zero (x ∷ es) e rest is = ((let same : es ≡ rest = cc in same), omega arith)
  drop-next (suc n) (x ∷ es) e rest is = let r = drop-next n es e rest is in (r.0, (let below = r.1 in omega arith))

  entries_with-none : (es : List (Entry T)) → entries_with {T = T} {U = T} es [] ≡ []
  entries_with-none [] = refl
  entries_with-none (e ∷ es) = refl

  pub entries_with-push : (es : List (Entry T)) (vs : List T) (v : T) (e : Entry T) (rest : List (Entry T)) → drop (length vs) es ≡ e ∷ rest → entries_with es (vs ++ v ∷ []) ≡ entries_with es vs ++ record { serial = e.serial; key = e.key; value = v } ∷ []
  entries_with-push [] [] v e rest is = cc
  entries_with-push [] (w ∷ vs) v e rest is = cc
  entries_with-push (x ∷ es) [] v e rest is =
      let same : x ≡ e = cc in
      ap (λ (tail : List (Entry T)). record { serial = x.serial; key = x.key; value = v } ∷ tail) (entries_with-none es)
      ∙ ap (λ (y : Entry T). record { serial = y.serial; key = y.key; value = v } ∷ []) same
  entries_with-push (x ∷ es) (w ∷ vs) v e rest is =
      ap (λ (tail : List (Entry T)). record { serial = x.serial; key = x.key; value = w } ∷ tail) (entries_with-push es vs v e rest is)

  pub length-entries_with : (es : List (Entry T)) (vs : List T) → length vs ≤ length es → length (entries_with es vs) ≡ length vs
  length-entries_with [] [] h = refl
  length-entries_with [] (v ∷ vs) h = absurd (omega arith)
  length-entries_with (e ∷ es) [] h = refl
  length-entries_with (e ∷ es) (v ∷ vs) h = ap (λ n. suc n) (length-entries_with es vs (omega arith))

  HasNoKey-at : (k : Key) (n : ℕ) (es : List (Entry T)) (e : Entry T) (rest : List (Entry T)) → HasNoKey k es → drop n es ≡ e ∷ rest → key_eq k e.key ≡ false
  HasNoKey-at k zero [] e rest h is = cc
  HasNoKey-at k (suc n) [] e rest h is = cc
  HasNoKey-at k zero (x ∷ es) e rest h is = let same : x ≡ e = cc in ap (λ (y : Entry T). key_eq k y.key) (sym same) ∙ h.0
  HasNoKey-at k (suc n) (x ∷ es) e rest h is = HasNoKey-at k n es e rest h.1 is

  -- the key of the next entry isn't copied yet
  pub copied-absent : (es : List (Entry T)) (vs : List T) (e : Entry T) (rest : List (Entry T)) → AreKeysDistinct es → drop (length vs) es ≡ e ∷ rest → HasNoKey e.key (entries_with es vs)
  copied-absent [] vs e rest distinct is = tt
  copied-absent (x ∷ es) [] e rest distinct is = tt
  copied-absent (x ∷ es) (v ∷ vs) e rest distinct is =
      (key_eq-sym_false x.key e.key (HasNoKey-at x.key (length vs) es e rest distinct.0 is), copied-absent es vs e rest distinct.1 is)

  rise-to : (from : ℕ) (ss : List (Slot T)) (to higher : ℕ) → to ≤ higher → DoSerialsRise from ss to → DoSerialsRise from ss higher
  rise-to from [] to higher up h = tt
  rise-to from (s ∷ ss) to higher up h = (h.0, (let below : serial_of s < to = h.1 in omega arith), rise-to (serial_of s) ss to higher up h.2)

  -- the copy with the next key and the next serial of the array that was copied
  pub copied-kept : (index : KeyIndex) (ss : List (Slot T)) (first count key serial next_key next_serial : ℕ) (l : Listing T) (vs : List T) → IsKept index ss first count key serial → IsSound l → entries_in ss ≡ entries_with l.entries vs → serial ≤ next_serial → l.next_key ≡ next_key → l.next_serial ≡ next_serial → IsKept index ss first count next_key next_serial
  unfolding with_values
  copied-kept index ss first count key serial next_key next_serial l vs kept sound entries up same_key same_serial = record {
    sound = subst (λ (m : Listing T). IsSound m) (λ i. record { entries = sym entries i; next_key = same_key i; next_serial = same_serial i }) (with_values-sound l vs sound);
    indexed = kept.indexed;
    rise = rise-to 0 ss serial next_serial up kept.rise;
    front = kept.front;
    front_within = kept.front_within;
    counted = kept.counted;
  }

  pub copied-after : (ss : List (Slot T)) (next_key next_serial : ℕ) (l : Listing T) (vs : List T) → entries_in ss ≡ entries_with l.entries vs → l.next_key ≡ next_key → l.next_serial ≡ next_serial → listing_of ss next_key next_serial ≡ with_values l vs
  unfolding with_values
  copied-after ss next_key next_serial l vs entries same_key same_serial = λ i. record { entries = entries i; next_key = sym same_key i; next_serial = sym same_serial i }

  pub length-drop_none : (n : ℕ) (es : List (Entry T)) → drop n es ≡ [] → length es ≤ n
  length-drop_none zero [] h = omega arith
  length-drop_none (suc n) [] h = omega arith
  length-drop_none zero (e ∷ es) h = cc
  length-drop_none (suc n) (e ∷ es) h = let rest = length-drop_none n es h in omega arith

  pub length-taken : (taken left rest values : List T) (v : T) → taken ++ left ≡ values → left ≡ v ∷ rest → length taken < length values
  length-taken taken left rest values v split is = omega (arith, ap length split, length-append taken left, ap length is)

  pub push-taken : (taken left rest values : List T) (v : T) → taken ++ left ≡ values → left ≡ v ∷ rest → (taken ++ v ∷ []) ++ rest ≡ values
  push-taken taken left rest values v split is = append_assoc taken (v ∷ []) rest ∙ ap (λ (xs : List T). taken ++ xs) (sym is) ∙ split

  pub all-taken : (taken left values : List T) → taken ++ left ≡ values → length left ≡ 0 → taken ≡ values
  all-taken taken [] values split none = sym (append-nil taken) ∙ split
  all-taken taken (v ∷ left) values split none = absurd (omega arith)

  pub length-push : (taken : List T) (v : T) → length (taken ++ v ∷ []) ≡ suc (length taken)
  length-push taken v = omega (arith, length-append taken (v ∷ []))

  -- what stands behind the next entry
  pub rise-next : (from to : ℕ) (es : List (Entry T)) (vs : List T) (v : T) (e : Entry T) (rest : List (Entry T)) → drop (length vs) es ≡ e ∷ rest → sound.DoSerialsRise from (drop (length vs) es) to → (e.serial < to) × sound.DoSerialsRise e.serial (drop (length (vs ++ v ∷ [])) es) to
  rise-next from to es vs v e rest is rises =
      let here : sound.DoSerialsRise from (e ∷ rest) to = subst (λ (xs : List (Entry T)). sound.DoSerialsRise from xs to) is rises in
      let behind : rest ≡ drop (length (vs ++ v ∷ [])) es = sym (drop-next (length vs) es e rest is).0 ∙ ap (λ n. drop n es) (sym (length-push vs v)) in
      (here.1, subst (λ (xs : List (Entry T)). sound.DoSerialsRise e.serial xs to) behind here.2)

  pub drop-push : (es : List (Entry T)) (vs : List T) (v : T) (e : Entry T) (rest : List (Entry T)) → drop (length vs) es ≡ e ∷ rest → rest ≡ drop (length (vs ++ v ∷ [])) es
  drop-push es vs v e rest is = sym (drop-next (length vs) es e rest is).0 ∙ ap (λ n. drop n es) (sym (length-push vs v))

  pub entries_with-no_values : (es : List (Entry T)) → [] ≡ entries_with {T = T} {U = T} es []
  entries_with-no_values es = sym (entries_with-none es)
