-- Copies, writes, removals, releases and the operations on objects leave each part of a memory as it
-- should be.
use Rattle.std.proofs.Common.{◌≡◌, ℕ, zero, suc, ◌<◌, List, [], ◌∷◌, ◌++◌, length, refl, sym, ◌∙◌, ap, subst, arith, cond}
use Rattle.std.specs.Prelude.{Bool, true, false, Option, Some, None, unwrap_or, pos, negsuc}
use Rattle.std.proofs.lemmas.Bool.{leb-false}
use Rattle.php_value.specs.declared.key.Key.{Key}
use Rattle.php_value.specs.declared.key.Key.TheVariants.{Int, Str}
use Rattle.php_entries.specs.Keys.{key_eq}
use Rattle.php_entries.specs.Listing.{Entry, Listing, entry_at, last_of, is_full, is_at_limit, KEY_LIMIT}
use Rattle.php_entries.specs.Changes.{Growth, Grown, Full as NoKeyLeft, Limit as NoEntryLeft, with_value, without_key, without_last, entry_added, value_set, value_appended, set_value, append_value, popped as popped_entry, remove_key, pop_entry, with_values, entries_with}
use Rattle.php_entries.specs.Soundness.{IsSound as IsSoundListing, KeepsSound, IsKeyBelow}
use Rattle.php_entries.proofs.SoundLemmas.{no_entries-sound, set_value-sound, append_value-sound, remove_key-sound, pop_entry-sound, with_values-sound}
use Rattle.php_memdef.specs.declared.place.Step.{Step}
use Rattle.php_memdef.specs.declared.place.Step.TheVariants.{At, Push}
use Rattle.php_memdef.specs.declared.place.Place.{Place}
use Rattle.php_memdef.specs.Numbered.{Numbered, numbered, with_next}
use Rattle.php_memdef.specs.Contents.{Content, null, truth, int, text, array, object, Item, value, link, Scope, Property, Mem, content_of, scope_of, no_scope}
use Rattle.php_memdef.specs.Copies.{Copy, Copier, copied_store_if, copied_store, copied_entries, copied_deep, copier_of, copied, copied_properties}
use Rattle.php_memdef.specs.Holders.{is_shared}
use Rattle.php_memdef.specs.Places.{Spot, content_at, elements_of, elements_to_write, step_set, find_place}
use Rattle.php_memdef.specs.Temporaries.{pushed, rest_of, popped, top_of, top, pushed_copy, copy_of_spot, copy, settled, settle}
use Rattle.php_memdef.specs.Sound.{IsKeyWithin, AreKeysWithin, IsSoundContent, IsFormed}
use Rattle.php_memdef.specs.Conditions.{HasRoom, CanCopy}
use Rattle.php_memdef_laws.proofs.NumberedLemmas.{numbered-with_same, with_next-numbered, all-with}
use Rattle.php_memdef_laws.proofs.Formed.Parts.{some_same, scope-sound, content-sound, content_at-sound, with_stores-formed, pushed-formed, popped-formed, let_fall-formed}

-- every content that is there is sound
abbrev pub AllSound : Numbered Content → Type 0
AllSound xs = (s : ℕ) (c : Content) → numbered xs s ≡ Some c → IsSoundContent c

next-sound : (xs : Numbered Content) → AllSound xs → (c : Content) → IsSoundContent c → AllSound (with_next xs c)
next-sound xs all c h s d e = all-with IsSoundContent xs (length xs) (Some c) (λ x q. some_same IsSoundContent c x q h) all s d (ap (λ ys. numbered ys s) (sym (with_next-numbered xs c)) ∙ e)

pub record CopySound (c : Copy Content) : Type 0 where
  pub stores : AllSound c.stores
  pub made : IsSoundContent c.made

-- the same entries but for their values
pub record EntriesSound (es : List (Entry ℕ)) (c : Copy (List (Entry ℕ))) : Type 0 where
  pub stores : AllSound c.stores
  pub values : List ℕ
  pub same : c.made ≡ entries_with es values
  pub within : AreKeysWithin c.made

abbrev CopierSound : Copier → Type 0
CopierSound f = (xs : Numbered Content) → AllSound xs → (c : Content) → IsSoundContent c → CopySound (f xs c)

with_values-is : (t : Listing ℕ) (vs : List ℕ) → with_values t vs ≡ record t { entries = entries_with t.entries vs }
unfolding with_values
with_values-is t vs = refl

module _ (m : Mem) (formed : IsFormed m) where
  store_if-sound : (f : Copier) → CopierSound f → (b : Bool) (xs : Numbered Content) → AllSound xs → (s : ℕ) → AllSound (copied_store_if b f m xs s).stores
  store_if-sound f h true xs all s = all
  store_if-sound f h false xs all s = let p = h xs all (content_of m s) (content-sound m formed s) in next-sound (f xs (content_of m s)).stores p.stores (f xs (content_of m s)).made p.made

  entries-sound : (f : Copier) → CopierSound f → (es : List (Entry ℕ)) → AreKeysWithin es → (xs : Numbered Content) → AllSound xs → EntriesSound es (copied_entries f m xs es)
  entries-sound f h [] k xs all = record { stores = all; values = []; same = refl; within = tt }
  entries-sound f h (e ∷ es) k xs all =
      let first = copied_store f m xs e.value in
      let rest = entries-sound f h es k.1 first.stores (store_if-sound f h (is_shared m e.value) xs all e.value) in
      record { stores = rest.stores; values = first.made ∷ rest.values; same = ap (λ fs. record { serial = e.serial; key = e.key; value = first.made } ∷ fs) rest.same; within = (k.0, rest.within) }

  deep-sound : (n : ℕ) → CopierSound (copied_deep n m)
  deep-sound zero xs all c h = record { stores = all; made = h }
  deep-sound (suc n) xs all null h = record { stores = all; made = h }
  deep-sound (suc n) xs all (truth b) h = record { stores = all; made = h }
  deep-sound (suc n) xs all (int i) h = record { stores = all; made = h }
  deep-sound (suc n) xs all (text bytes) h = record { stores = all; made = h }
  deep-sound (suc n) xs all (object k) h = record { stores = all; made = h }
  deep-sound (suc n) xs all (array t) h =
      let p = entries-sound (copied_deep n m) (deep-sound n) t.entries h.1 xs all in
      let e : with_values t p.values ≡ record t { entries = (copied_entries (copied_deep n m) m xs t.entries).made } = with_values-is t p.values ∙ ap (λ es. record t { entries = es }) (sym p.same) in
      record { stores = p.stores; made = (subst IsSoundListing e (with_values-sound t p.values h.0), p.within) }

  properties-sound : (f : Copier) → CopierSound f → (ps : List Property) (xs : Numbered Content) → AllSound xs → AllSound (copied_properties f m xs ps).stores
  properties-sound f h [] xs all = all
  properties-sound f h (p ∷ ps) xs all = properties-sound f h ps (copied_store f m xs p.store).stores (store_if-sound f h (is_shared m p.store) xs all p.store)

  pub clone-sound : (ps : List Property) → AllSound (copied_properties (copier_of m) m m.stores ps).stores
  clone-sound ps = properties-sound (copier_of m) (deep-sound _) ps m.stores formed.contents

  pub copied-sound : (c : Content) → IsSoundContent c → CopySound (copied m c)
  unfolding copied
  copied-sound c h = deep-sound _ m.stores formed.contents c h

  pushed_copy-formed : (b : ℕ) (c : Content) → IsSoundContent c → HasRoom m b → IsFormed (pushed_copy m b c)
  pushed_copy-formed b c h room = let p = copied-sound c h in pushed-formed (record m { stores = (copied m c).stores }) (with_stores-formed m formed (copied m c).stores p.stores) b (value (copied m c).made) p.made room

  copy_of_spot-formed : (o : Option Spot) (b : ℕ) → HasRoom m b → IsFormed (copy_of_spot o m b).0
  copy_of_spot-formed None b room = formed
  copy_of_spot-formed (Some spot) b room = pushed_copy-formed b (content_at m spot) (content_at-sound m formed spot) room

  pub copy-formed : (b : ℕ) (p : Place) → CanCopy b p m → IsFormed (copy m b p).0
  unfolding copy
  copy-formed b p can = copy_of_spot-formed (find_place m p) b can.room

pub room_behind : (m : Mem) (b : ℕ) → IsFormed m → (i : Item) (rest : List Item) → (scope_of m b).temps ≡ i ∷ rest → HasRoom (popped m b) b
room_behind m b formed i rest e =
    let f = scope_of m b in
    let within = (scope-sound m formed b).temps_within in
    let same : scope_of (popped m b) b ≡ record f { temps = rest_of f.temps } = ap (λ o. unwrap_or o no_scope) (numbered-with_same m.blocks b (Some (record f { temps = rest_of f.temps }))) in
    let count : length f.temps ≡ suc (length rest) = ap length e in
    let left : length (rest_of f.temps) ≡ length rest = ap (λ is. length (rest_of is)) e in
    subst (λ (x : Scope). length x.temps < x.room) (sym same) (omega (arith, within, count, left))

settled-formed : (m : Mem) → IsFormed m → (i : Item) (b : ℕ) → ((s : ℕ) → i ≡ link s → HasRoom (popped m b) b) → IsFormed (settled i m b)
settled-formed m formed (value c) b room = formed
settled-formed m formed (link s) b room =
    let x = copied m (content_of m s) in
    let p = copied-sound m formed (content_of m s) (content-sound m formed s) in
    let m' : Mem = record m { stores = x.stores } in
    let f = popped-formed m' (with_stores-formed m formed x.stores p.stores) b in
    let_fall-formed (pushed (popped m' b) b (value x.made)) (pushed-formed (popped m' b) f b (value x.made) p.made (room s refl)) b (link s) tt

first_of_top : (is : List Item) (s : ℕ) → top_of is ≡ link s → (i : Item) × ((rest : List Item) × (is ≡ i ∷ rest))
first_of_top [] s e = absurd (no e)
  where
    no : value null ≡ link s → ⊥
    no e = cc
first_of_top (i ∷ rest) s e = (i, (rest, refl))

module _ (m : Mem) (formed : IsFormed m) where
  pub settle-formed : (b : ℕ) → IsFormed (settle m b)
  unfolding settle
  settle-formed b = settled-formed m formed (top m b) b (λ s e. let p = first_of_top (scope_of m b).temps s e in room_behind m b formed p.0 p.1.0 p.1.1)

-- arrays that grow or shrink

abbrev GrowthWithin : Growth ℕ → Type 0
GrowthWithin (Grown t) = AreKeysWithin t.entries
GrowthWithin NoKeyLeft = Unit {0}
GrowthWithin NoEntryLeft = Unit {0}

within_added : (es : List (Entry ℕ)) (e : Entry ℕ) → AreKeysWithin es → IsKeyWithin e.key → AreKeysWithin (es ++ e ∷ [])
within_added [] e h k = (k, tt)
within_added (d ∷ es) e h k = (h.0, within_added es e h.1 k)

entries_by_choice : (P : List (Entry ℕ) → Type 0) (b : Bool) (es fs : List (Entry ℕ)) → P es → P fs → P (cond b es fs)
entries_by_choice P true es fs h k = h
entries_by_choice P false es fs h k = k

within_with : (k : Key) (s : ℕ) (es : List (Entry ℕ)) → AreKeysWithin es → AreKeysWithin (with_value k s es)
within_with k s [] h = tt
within_with k s (e ∷ es) h = entries_by_choice AreKeysWithin (key_eq k e.key) (record e { value = s } ∷ es) (e ∷ with_value k s es) h (h.0, within_with k s es h.1)

within_without : (k : Key) (es : List (Entry ℕ)) → AreKeysWithin es → AreKeysWithin (without_key k es)
within_without k [] h = tt
within_without k (e ∷ es) h = entries_by_choice AreKeysWithin (key_eq k e.key) es (e ∷ without_key k es) h.1 (h.0, within_without k es h.1)

within_before_last : (es : List (Entry ℕ)) → AreKeysWithin es → AreKeysWithin (without_last es)
within_before_last [] h = tt
within_before_last (e ∷ []) h = tt
within_before_last (e ∷ f ∷ es) h = (h.0, within_before_last (f ∷ es) h.1)

entry_added-within : (b : Bool) (t : Listing ℕ) (k : Key) (s : ℕ) → AreKeysWithin t.entries → IsKeyWithin k → GrowthWithin (entry_added b t k s)
entry_added-within true t k s h within = tt
entry_added-within false t k s h within = within_added t.entries _ h within

value_set-within : (o : Option (Entry ℕ)) (t : Listing ℕ) (k : Key) (s : ℕ) → AreKeysWithin t.entries → IsKeyWithin k → GrowthWithin (value_set o t k s)
value_set-within (Some e) t k s h within = within_with k s t.entries h
value_set-within None t k s h within = entry_added-within (is_at_limit t) t k s h within

value_appended-within : (b : Bool) (t : Listing ℕ) (s : ℕ) → is_full t ≡ b → AreKeysWithin t.entries → GrowthWithin (value_appended b t s)
value_appended-within true t s e h = tt
value_appended-within false t s e h = entry_added-within (is_at_limit t) t _ s h (record { sfits = leb-false KEY_LIMIT t.next_key e })

key_below : (k : Key) → IsKeyWithin k → IsKeyBelow KEY_LIMIT k
key_below (Int (pos n)) h = h.sfits
key_below (Int (negsuc n)) h = tt
key_below (Str bytes) h = tt

abbrev pub IsStepFit : Step → Type 0
IsStepFit (At k) = IsKeyWithin k
IsStepFit Push = Unit {0}

step_set-within : (t : Listing ℕ) (step : Step) (s : ℕ) → AreKeysWithin t.entries → IsStepFit step → GrowthWithin (step_set t step s)
unfolding set_value append_value
step_set-within t (At k) s h fit = value_set-within (entry_at t k) t k s h fit
step_set-within t Push s h fit = value_appended-within (is_full t) t s refl h

step_set-keeps : (t : Listing ℕ) (step : Step) (s : ℕ) → IsSoundListing t → IsStepFit step → KeepsSound (step_set t step s)
step_set-keeps t (At k) s h fit = set_value-sound t k s h (key_below k fit)
step_set-keeps t Push s h fit = append_value-sound t s h

abbrev pub GrowthSound : Growth ℕ → Type 0
GrowthSound (Grown t) = IsSoundContent (array t)
GrowthSound NoKeyLeft = Unit {0}
GrowthSound NoEntryLeft = Unit {0}

growth_sound : (g : Growth ℕ) → KeepsSound g → GrowthWithin g → GrowthSound g
growth_sound (Grown t) h k = (h, k)
growth_sound NoKeyLeft h k = tt
growth_sound NoEntryLeft h k = tt

pub step_set-sound : (t : Listing ℕ) (step : Step) (s : ℕ) → IsSoundContent (array t) → IsStepFit step → GrowthSound (step_set t step s)
step_set-sound t step s h fit = growth_sound (step_set t step s) (step_set-keeps t step s h.0 fit) (step_set-within t step s h.1 fit)

pub remove-sound : (t : Listing ℕ) (k : Key) → IsSoundContent (array t) → IsSoundContent (array (remove_key t k))
unfolding remove_key
remove-sound t k h = (remove_key-sound t k h.0, within_without k t.entries h.1)

popped-within : (o : Option (Entry ℕ)) (t : Listing ℕ) → AreKeysWithin t.entries → AreKeysWithin (popped_entry o t).entries
popped-within None t h = h
popped-within (Some e) t h = within_before_last t.entries h

pub pop-sound : (t : Listing ℕ) → IsSoundContent (array t) → IsSoundContent (array (pop_entry t))
unfolding pop_entry
pop-sound t h = (pop_entry-sound t h.0, popped-within (last_of t.entries) t h.1)

abbrev pub ElementsSound : Option (Listing ℕ) → Type 0
ElementsSound None = Unit {0}
ElementsSound (Some t) = IsSoundContent (array t)

pub elements-sound : (c : Content) → IsSoundContent c → ElementsSound (elements_of c)
elements-sound null h = tt
elements-sound (truth b) h = tt
elements-sound (int i) h = tt
elements-sound (text bytes) h = tt
elements-sound (array t) h = h
elements-sound (object k) h = tt

pub written_elements-sound : (c : Content) → IsSoundContent c → ElementsSound (elements_to_write c)
written_elements-sound null h = (no_entries-sound, tt)
written_elements-sound (truth b) h = tt
written_elements-sound (int i) h = tt
written_elements-sound (text bytes) h = tt
written_elements-sound (array t) h = h
written_elements-sound (object k) h = tt
