-- What stands under a place, and what may be looked at there.
use Rattle.std.proofs.Common.{◌≡◌, inl, inr, ℕ, zero, suc, ◌^◌, ◌<◌, ◌≤◌, refl, sym, ◌∙◌, ap, List, [], ◌∷◌, ◌++◌, Option, Some, None, arith, subst}
use Rattle.std.specs.Prelude.{Bool, nat_lt, nat_eq, cond, option_map, find, unwrap_or}
use Rattle.std.proofs.lemmas.Bool.{cases_Bool, eq-eqb}
use Rattle.php_value.specs.declared.key.Key.{Key}
use Rattle.php_entries.specs.Listing.{Entry, Listing, entry_at, value_at}
use Rattle.php_memdef.specs.declared.place.Step.{Step}
use Rattle.php_memdef.specs.declared.place.Step.TheVariants.{At, Push}
use Rattle.php_memdef.specs.declared.place.Place.{Place}
use Rattle.php_memdef.specs.Numbered.{Numbered, numbered, total, weight_if}
use Rattle.php_memdef.specs.Contents.{Content, null, truth, int, text, array, object, Item, value, link, Scope, Mem, content_of, no_scope}
use Rattle.php_memdef.specs.Holders.{times, handles_of_content, handles_of_items, handles_of_scope, object_holders}
use Rattle.php_memdef.specs.Places.{Spot, stored, standing, stored_if, step_store_if, entry_store, elements_of, nth_item, content_if, content_at, next_spot, spot_along, base_spot, find_place}
use Rattle.php_memdef.specs.Views.{content_if_found, found, elements_if_found, entry_if_later, later_entry}
use Rattle.php_memdef.specs.Sound.{IsKeyWithin, IsSoundContent, AreSoundItems, IsSound}
use Rattle.php_memdef.specs.Conditions.{IsPlace, IsObject, AreStepsWithin}
use Rattle.php_memdef.specs.Meanings.{SomeMeant, EachMeant}
use Rattle.php_compare.specs.Places.{or_null}
use Rattle.php_lib.specs.Comparing.{under, CanCompare, CanCompareObjects}
use Rattle.php_lib.proofs.WalkLemmas.{key_within, is_above, is_below, serial_and_key}

-- what stands under a key

along_snoc : (m : Mem) (o : Option Spot) (path : List Step) (step : Step) → spot_along m o (path ++ step ∷ []) ≡ next_spot m (spot_along m o path) step
along_snoc m o [] step = refl
along_snoc m o (x ∷ path) step = along_snoc m (next_spot m o x) path step

entry_shown : (m : Mem) (o : Option (Entry ℕ)) → content_if_found m (stored_if (entry_store o)) ≡ option_map (content_of m) (option_map (λ (e : Entry ℕ). e.value) o)
entry_shown m None = refl
entry_shown m (Some e) = refl

under_spot : (m : Mem) (o : Option Spot) (k : Key) (t : Listing ℕ) → content_if_found m o ≡ Some (array t) → content_if_found m (next_spot m o (At k)) ≡ option_map (content_of m) (value_at t k)
under_spot m None k t e = absurd (let no : ⊥ = cc in no)
under_spot m (Some spot) k t e =
    let there : content_at m spot ≡ array t = cc in
    ap (λ (c : Content). content_if_found m (stored_if (step_store_if (elements_of c) (At k)))) there ∙ entry_shown m (entry_at t k)

pub found_under : (m : Mem) (p : Place) (k : Key) (t : Listing ℕ) → found m p ≡ Some (array t) → found m (under p k) ≡ option_map (content_of m) (value_at t k)
unfolding find_place
found_under m p k t e = ap (content_if_found m) (along_snoc m (base_spot m p.base) p.path (At k)) ∙ under_spot m (spot_along m (base_spot m p.base) p.path) k t e

-- what stands at a place of a sound memory is sound

nth_sound : (is : List Item) (n : ℕ) → AreSoundItems is → IsSoundContent (content_if (nth_item is n))
nth_sound [] n h = tt
nth_sound (value c ∷ is) zero h = h.0
nth_sound (link s ∷ is) zero h = tt
nth_sound (value c ∷ is) (suc n) h = nth_sound is n h.1
nth_sound (link s ∷ is) (suc n) h = nth_sound is n h

store_sound : (m : Mem) (s : ℕ) (o : Option Content) → numbered m.stores s ≡ o → IsSound m → IsSoundContent (unwrap_or o null)
store_sound m s None e sound = tt
store_sound m s (Some c) e sound = sound.formed.contents s c e

temp_sound : (m : Mem) (b n : ℕ) (o : Option Scope) → numbered m.blocks b ≡ o → IsSound m → IsSoundContent (content_if (nth_item (unwrap_or o no_scope).temps n))
temp_sound m b n None e sound = tt
temp_sound m b n (Some f) e sound = nth_sound f.temps n (sound.formed.scopes b f e).temps

spot_sound : (m : Mem) (spot : Spot) → IsSound m → IsSoundContent (content_at m spot)
spot_sound m (stored s) sound = store_sound m s (numbered m.stores s) refl sound
spot_sound m (standing b n) sound = temp_sound m b n (numbered m.blocks b) refl sound

found_spot_sound : (m : Mem) (o : Option Spot) (c : Content) → content_if_found m o ≡ Some c → IsSound m → IsSoundContent c
found_spot_sound m None c e sound = absurd (let no : ⊥ = cc in no)
found_spot_sound m (Some spot) c e sound = let there : content_at m spot ≡ c = cc in subst IsSoundContent there (spot_sound m spot sound)

pub found_sound : (m : Mem) (p : Place) (c : Content) → found m p ≡ Some c → IsSound m → IsSoundContent c
found_sound m p c e sound = found_spot_sound m (find_place m p) c e sound

-- an object whose handle stands at a place is there

abbrev one_if : Bool → ℕ
one_if b = cond b 1 0

module _ (h : ℕ) where
  handle_in_items : (is : List Item) (n : ℕ) → content_if (nth_item is n) ≡ object h → 0 < times h (handles_of_items is)
  handle_in_items [] n e = absurd (let no : ⊥ = cc in no)
  handle_in_items (value c ∷ is) zero e = rw e (counted is)
    where
      counted : (is : List Item) → 0 < times h (h ∷ handles_of_items is)
      counted is = let self : one_if (nat_eq h h) ≡ 1 = ap one_if (eq-eqb h h refl) in omega (arith, self)
  handle_in_items (link s ∷ is) zero e = absurd (let no : ⊥ = cc in no)
  handle_in_items (value c ∷ is) (suc n) e = more (handles_of_content c) (handles_of_items is) (handle_in_items is n e)
    where
      more : (xs ys : List ℕ) → 0 < times h ys → 0 < times h (xs ++ ys)
      more [] ys d = d
      more (x ∷ xs) ys d = let rest = more xs ys d in omega (arith, rest)
  handle_in_items (link s ∷ is) (suc n) e = handle_in_items is n e

  handle_in_scope : (f : Scope) (n : ℕ) → content_if (nth_item f.temps n) ≡ object h → 0 < times h (handles_of_scope f)
  handle_in_scope f n e = front (handles_of_items f.temps) (handles_of_items f.falling) (handle_in_items f.temps n e)
    where
      front : (xs ys : List ℕ) → 0 < times h xs → 0 < times h (xs ++ ys)
      front [] ys d = absurd (omega (arith, d))
      front (x ∷ xs) ys d = elim (cases_Bool (nat_eq h x)) [
        | inl t ↦ (let here : one_if (nat_eq h x) ≡ 1 = ap one_if t in omega (arith, here))
        | inr t ↦ (let here : one_if (nat_eq h x) ≡ 0 = ap one_if t in let rest : 0 < times h (xs ++ ys) = front xs ys (omega (arith, here, d)) in omega (arith, rest))
      ]

  part_of_total : {X : Type 0} (weight : X → ℕ) (xs : Numbered X) (n : ℕ) (x : X) → numbered xs n ≡ Some x → weight x ≤ total weight xs
  part_of_total weight [] n x e = absurd (let no : ⊥ = cc in no)
  part_of_total weight (y ∷ xs) zero x e = let same : weight_if weight y ≡ weight x = ap (weight_if weight) e in omega (arith, same)
  part_of_total weight (y ∷ xs) (suc n) x e = let rest = part_of_total weight xs n x e in omega (arith, rest)

  stored_handle : (m : Mem) (s : ℕ) (o : Option Content) → numbered m.stores s ≡ o → unwrap_or o null ≡ object h → 0 < object_holders m h
  unfolding object_holders
  stored_handle m s None e d = absurd (let no : ⊥ = cc in no)
  stored_handle m s (Some c) e d =
      let part = part_of_total (λ (x : Content). times h (handles_of_content x)) m.stores s c e in
      let one : times h (handles_of_content c) ≡ times h (h ∷ []) = ap (λ (x : Content). times h (handles_of_content x)) d in
      let self : one_if (nat_eq h h) ≡ 1 = ap one_if (eq-eqb h h refl) in
      omega (arith, part, one, self)

  standing_handle : (m : Mem) (b n : ℕ) (o : Option Scope) → numbered m.blocks b ≡ o → content_if (nth_item (unwrap_or o no_scope).temps n) ≡ object h → 0 < object_holders m h
  unfolding object_holders
  standing_handle m b n None e d = absurd (let no : ⊥ = cc in no)
  standing_handle m b n (Some f) e d =
      let part = part_of_total (λ (x : Scope). times h (handles_of_scope x)) m.blocks b f e in
      let some = handle_in_scope f n d in
      omega (arith, part, some)

  spot_handle : (m : Mem) (spot : Spot) → content_at m spot ≡ object h → 0 < object_holders m h
  spot_handle m (stored s) e = stored_handle m s (numbered m.stores s) refl e
  spot_handle m (standing b n) e = standing_handle m b n (numbered m.blocks b) refl e

  handle_at : (m : Mem) (o : Option Spot) → or_null (content_if_found m o) ≡ object h → 0 < object_holders m h
  handle_at m None e = absurd (let no : ⊥ = cc in no)
  handle_at m (Some spot) e = spot_handle m spot e

  pub object_there : (m : Mem) (p : Place) → IsSound m → or_null (found m p) ≡ object h → IsObject m h
  object_there m p sound e = sound.held.objects_live h (handle_at m (find_place m p) e)

-- the next key of a walk leads to a place

steps_snoc : (path : List Step) (k : Key) → AreStepsWithin path → IsKeyWithin k → AreStepsWithin (path ++ At k ∷ [])
steps_snoc [] k h w = (w, tt)
steps_snoc (At x ∷ path) k h w = (h.0, steps_snoc path k h.1 w)
steps_snoc (Push ∷ path) k h w = steps_snoc path k h w

place_under : (m : Mem) (p : Place) (k : Key) → IsPlace m p → IsKeyWithin k → IsPlace m (under p k)
place_under m p k h w = (h.0, steps_snoc p.path k h.1 w)

later_of_entries : (es : Option (Entry ℕ)) (next : ℕ) (k : Key) → option_map serial_and_key es ≡ Some (next, k) → (e : Entry ℕ) × (es ≡ Some e) × (e.serial ≡ next) × (e.key ≡ k)
later_of_entries None next k h = absurd (let no : ⊥ = cc in no)
later_of_entries (Some e) next k h =
    let pair : (e.serial, e.key) ≡ (next, k) = cc in
    (e, refl, ap (λ (p : ℕ × Key). p.0) pair, ap (λ (p : ℕ × Key). p.1) pair)

key_of_content : (m : Mem) (c : Content) (serial next : ℕ) (k : Key) → IsSoundContent c → entry_if_later (elements_of c) serial ≡ Some (next, k) → IsKeyWithin k × (serial < next) × (next < 2 ^ 64)
key_of_content m null serial next k sound h = absurd (let no : ⊥ = cc in no)
key_of_content m (truth b) serial next k sound h = absurd (let no : ⊥ = cc in no)
key_of_content m (int i) serial next k sound h = absurd (let no : ⊥ = cc in no)
key_of_content m (text bytes) serial next k sound h = absurd (let no : ⊥ = cc in no)
key_of_content m (object g) serial next k sound h = absurd (let no : ⊥ = cc in no)
key_of_content m (array t) serial next k sound h =
    let e = later_of_entries (find (λ (g : Entry ℕ). nat_lt serial g.serial) t.entries) next k h in (
      subst IsKeyWithin e.3 (key_within serial t.entries e.0 sound.1 e.1),
      subst (λ (n : ℕ). serial < n) e.2 (is_above serial t.entries e.0 e.1),
      (let below : e.0.serial < t.next_serial = is_below 0 serial t.entries t.next_serial e.0 sound.0.serials_rise e.1 in let limit = sound.0.next_serial_within in let same : e.0.serial ≡ next = e.2 in omega (arith, below, limit, same)),
    )

key_of_found : (m : Mem) (o : Option Content) (serial next : ℕ) (k : Key) → ((c : Content) → o ≡ Some c → IsSoundContent c) → entry_if_later (elements_if_found o) serial ≡ Some (next, k) → IsKeyWithin k × (serial < next) × (next < 2 ^ 64)
key_of_found m None serial next k sound h = absurd (let no : ⊥ = cc in no)
key_of_found m (Some c) serial next k sound h = key_of_content m c serial next k (sound c refl) h

pub key_of_later : (m : Mem) (p : Place) (serial next : ℕ) (k : Key) → IsSound m → later_entry m p serial ≡ Some (next, k) → IsKeyWithin k × (serial < next) × (next < 2 ^ 64)
key_of_later m p serial next k sound h = key_of_found m (found m p) serial next k (λ c e. found_sound m p c e sound) h

pub can_go_on : (Means : Mem → Type 0) (p q left right : Place) (serial next : ℕ) (k : Key) → SomeMeant Means (CanCompare p q) → EachMeant Means (λ m. later_entry m p serial ≡ Some (next, k)) → left ≡ under p k → right ≡ under q k → SomeMeant Means (CanCompare left right)
can_go_on Means p q left right serial next k can later e f =
    let m : Mem = can.0 in
    let within = (key_of_later m p serial next k can.2.sound (later m can.1)).0 in (
      m,
      can.1,
      record {
        sound = can.2.sound;
        left = subst (IsPlace m) (sym e) (place_under m p k can.2.left within);
        right = subst (IsPlace m) (sym f) (place_under m q k can.2.right within);
      },
    )

pub objects_can : (Means : Mem → Type 0) (p q : Place) (g h : ℕ) → SomeMeant Means (CanCompare p q) → EachMeant Means (λ m. (or_null (found m p) ≡ object g) × (or_null (found m q) ≡ object h)) → SomeMeant Means (CanCompareObjects g h)
objects_can Means p q g h can are =
    let m : Mem = can.0 in (
      m,
      can.1,
      record {
        sound = can.2.sound;
        left = object_there g m p can.2.sound (are m can.1).0;
        right = object_there h m q can.2.sound (are m can.1).1;
      },
    )
