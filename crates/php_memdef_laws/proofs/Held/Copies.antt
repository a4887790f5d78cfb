-- Copies keep what is there held, and so do the operations that make objects and leave blocks.
use Rattle.std.proofs.Common.{◌≡◌, ◌≢◌, ℕ, zero, suc, ◌+◌, ◌<◌, ◌≤◌, List, [], ◌∷◌, length, refl, sym, ◌∙◌, ap, subst, arith, ◌⊎◌, inl, inr, cond}
use Rattle.std.specs.Prelude.{Bool, true, false, nat_le, Option, Some, None, IsSome, is_some, unwrap_or}
use Rattle.std.proofs.lemmas.Bool.Decides.{eqb_tells}
use Rattle.php_entries.specs.Listing.{Entry}
use Rattle.php_memdef.specs.declared.place.Place.{Place}
use Rattle.php_memdef.specs.Numbered.{Numbered, numbered, with_numbered, with_next, weight_if, total, live_count}
use Rattle.php_memdef.specs.Contents.{Content, null, truth, int, text, array, object, Item, value, link, Property, Scope, Object, Mem, no_scope, content_of, scope_of, object_of}
use Rattle.php_memdef.specs.Holders.{times, stores_of_entries, stores_of_content, stores_of_item, stores_of_items, stores_of_variables, stores_of_properties, stores_of_object, stores_of_scope, is_shared, holders, handles_of_content, handles_of_items, handles_of_scope, object_holders}
use Rattle.php_memdef.specs.Copies.{Copier, copied_store_if, copied_store, copied_entries, copied_deep, copier_of, copied, copied_properties}
use Rattle.php_memdef.specs.Places.{Spot, stored, standing, nth_item, content_if, content_at, find_place}
use Rattle.php_memdef.specs.Temporaries.{pushed, popped, top_of, top, let_fall, leave, pushed_copy, copy_of_spot, copy, settled, settle}
use Rattle.php_memdef.specs.Objects.{OBJECT_LIMIT, with_new_object, new_object, object_made, make_object, clone_made, clone_of_top, clone_object}
use Rattle.php_memdef.specs.Sound.{IsLive, IsHeld, IsFormed}
use Rattle.php_memdef.specs.Conditions.{IsObject, CanLeave, CanClone}
use Rattle.php_memdef_laws.proofs.NumberedLemmas.{numbered-with_same, numbered-with_other, numbered-length, with_next-numbered, total-with, live-with}
use Rattle.php_memdef_laws.proofs.Closed.Releases.{weight-within}
use Rattle.php_memdef_laws.proofs.Held.Parts.{held_after, same_there, weight_of_scope, handles_of_item, times-self, item_handles, scope_times, scope_handles, holders-pushed, handles-pushed, holders-popped, handles-popped, holders-let_fall, handles-let_fall}

-- how often contents name a store, an object

abbrev names_in : ℕ → Numbered Content → ℕ
names_in x = total (λ c. times x (stores_of_content c))

abbrev handles_in : ℕ → Numbered Content → ℕ
handles_in x = total (λ c. times x (handles_of_content c))

next_total : (w : Content → ℕ) (xs : Numbered Content) (c : Content) → total w (with_next xs c) ≡ total w xs + w c
next_total w xs c =
    let a : total w (with_next xs c) ≡ total w (with_numbered xs (length xs) (Some c)) = ap (total w) (with_next-numbered xs c) in
    let b : weight_if w (numbered xs (length xs)) ≡ 0 = ap (weight_if w) (numbered-length xs) in
    omega (arith, a, b, total-with w xs (length xs) (Some c))

module _ (m : Mem) where
  -- a content names only objects that have a holder
  abbrev Known : Content → Type 0
  Known c = (h : ℕ) → object_holders m h ≡ 0 → times h (handles_of_content c) ≡ 0

  stores_within : (x : ℕ) → names_in x m.stores ≤ holders m x
  unfolding holders
  stores_within x = omega arith

  known_there : (s : ℕ) → Known (content_of m s)
  unfolding object_holders
  known_there s h e = by_cases (numbered m.stores s) refl
    where
      by_cases : (o : Option Content) → numbered m.stores s ≡ o → times h (handles_of_content (unwrap_or o null)) ≡ 0
      by_cases None d = refl
      by_cases (Some c) d = omega (arith, e, weight-within (λ c. times h (handles_of_content c)) m.stores s c d)

  -- what a copy of something that names these stores leaves of the stores
  record Copied (xs ys : Numbered Content) (names : List ℕ) : Type 0 where
    stores : (s : ℕ) → IsSome (numbered ys s) → IsSome (numbered xs s) ⊎ (0 < times s names + names_in s ys)
    more : (s : ℕ) → names_in s xs ≤ names_in s ys
    handles : (h : ℕ) → object_holders m h ≡ 0 → handles_in h ys ≡ handles_in h xs
    more_handles : (h : ℕ) → handles_in h xs ≤ handles_in h ys

  nothing_new : (xs : Numbered Content) (names : List ℕ) → Copied xs xs names
  nothing_new xs names = record { stores = λ s h. inl h; more = λ s. omega arith; handles = λ h e. refl; more_handles = λ h. omega arith }

  next_copied : (xs ys : Numbered Content) (c : Content) → Known c → Copied xs ys (stores_of_content c) → Copied xs (with_next ys c) (length ys ∷ [])
  next_copied xs ys c known k = record {
    stores = λ s live. elim (eqb_tells s (length ys)) [
      | inl e ↦ inr (let one : 0 < times s (length ys ∷ []) = subst (λ (j : ℕ). 0 < times s (j ∷ [])) e.1 (times-self s []) in omega (arith, one))
      | inr e ↦ elim (k.stores s (ap is_some (sym (numbered-with_other ys (length ys) s (Some c) e.1) ∙ ap (λ zs. numbered zs s) (sym (with_next-numbered ys c))) ∙ live)) [
        | inl was ↦ inl was
        | inr some ↦ inr (omega (arith, some, next_total (λ c. times s (stores_of_content c)) ys c))
      ]
    ];
    more = λ s. omega (arith, k.more s, next_total (λ c. times s (stores_of_content c)) ys c);
    handles = λ h e. omega (arith, k.handles h e, known h e, next_total (λ c. times h (handles_of_content c)) ys c);
    more_handles = λ h. omega (arith, k.more_handles h, next_total (λ c. times h (handles_of_content c)) ys c);
  }

  abbrev CopiesHeld : Copier → Type 0
  CopiesHeld f = (xs : Numbered Content) (c : Content) → Known c → Copied xs (f xs c).stores (stores_of_content (f xs c).made) × Known (f xs c).made

  joined : (xs ys zs : Numbered Content) (s : ℕ) (names : List ℕ) → Copied xs ys (s ∷ []) → Copied ys zs names → Copied xs zs (s ∷ names)
  joined xs ys zs s names a b = record {
    stores = λ x live. elim (b.stores x live) [
      | inl was ↦ elim (a.stores x was) [
        | inl first ↦ inl first
        | inr some ↦ inr (omega (arith, some, b.more x))
      ]
      | inr some ↦ inr (omega (arith, some))
    ];
    more = λ x. omega (arith, a.more x, b.more x);
    handles = λ h e. b.handles h e ∙ a.handles h e;
    more_handles = λ h. omega (arith, a.more_handles h, b.more_handles h);
  }

  module _ (f : Copier) (copies : CopiesHeld f) where
    copied_store_if-held : (shared : Bool) (xs : Numbered Content) (s : ℕ) → Copied xs (copied_store_if shared f m xs s).stores ((copied_store_if shared f m xs s).made ∷ [])
    copied_store_if-held true xs s = nothing_new xs (s ∷ [])
    copied_store_if-held false xs s =
        let k = copies xs (content_of m s) (known_there s) in
        next_copied xs (f xs (content_of m s)).stores (f xs (content_of m s)).made k.1 k.0

    copied_entries-held : (xs : Numbered Content) (es : List (Entry ℕ)) → Copied xs (copied_entries f m xs es).stores (stores_of_entries (copied_entries f m xs es).made)
    copied_entries-held xs [] = nothing_new xs []
    copied_entries-held xs (e ∷ es) =
        let first = copied_store f m xs e.value in
        let rest = copied_entries f m first.stores es in
        joined xs first.stores rest.stores first.made (stores_of_entries rest.made) (copied_store_if-held (is_shared m e.value) xs e.value) (copied_entries-held first.stores es)

    copied_properties-held : (xs : Numbered Content) (ps : List Property) → Copied xs (copied_properties f m xs ps).stores (stores_of_properties (copied_properties f m xs ps).made)
    copied_properties-held xs [] = nothing_new xs []
    copied_properties-held xs (p ∷ ps) =
        let first = copied_store f m xs p.store in
        let rest = copied_properties f m first.stores ps in
        joined xs first.stores rest.stores first.made (stores_of_properties rest.made) (copied_store_if-held (is_shared m p.store) xs p.store) (copied_properties-held first.stores ps)

  copied_deep-held : (n : ℕ) → CopiesHeld (copied_deep n m)
  copied_deep-held zero xs c known = (nothing_new xs (stores_of_content c), known)
  copied_deep-held (suc n) xs null known = (nothing_new xs [], known)
  copied_deep-held (suc n) xs (truth b) known = (nothing_new xs [], known)
  copied_deep-held (suc n) xs (int i) known = (nothing_new xs [], known)
  copied_deep-held (suc n) xs (text bytes) known = (nothing_new xs [], known)
  copied_deep-held (suc n) xs (array t) known = (copied_entries-held (copied_deep n m) (copied_deep-held n) xs t.entries, λ h e. refl)
  copied_deep-held (suc n) xs (object h) known = (nothing_new xs [], known)

  copied-held : (c : Content) → Known c → Copied m.stores (copied m c).stores (stores_of_content (copied m c).made) × Known (copied m c).made
  unfolding copied
  copied-held c known = copied_deep-held (live_count m.stores) m.stores c known

  -- the memory with other stores
  names-with_stores : (ys : Numbered Content) (x : ℕ) → holders (record m { stores = ys }) x + names_in x m.stores ≡ holders m x + names_in x ys
  unfolding holders
  names-with_stores ys x = omega arith

  handles-with_stores : (ys : Numbered Content) (x : ℕ) → object_holders (record m { stores = ys }) x + handles_in x m.stores ≡ object_holders m x + handles_in x ys
  unfolding object_holders
  handles-with_stores ys x = omega arith

  known_in : (is : List Item) (k h : ℕ) → times h (handles_of_items is) ≡ 0 → times h (handles_of_content (content_if (nth_item is k))) ≡ 0
  known_in [] k h e = refl
  known_in (value c ∷ is) zero h e = omega (arith, e, item_handles h (value c) is)
  known_in (link s ∷ is) zero h e = refl
  known_in (i ∷ is) (suc k) h e = known_in is k h (omega (arith, e, item_handles h i is))

  known_block : (b h : ℕ) → object_holders m h ≡ 0 → times h (handles_of_scope (scope_of m b)) ≡ 0
  unfolding object_holders
  known_block b h e = by_cases (numbered m.blocks b) refl
    where
      by_cases : (o : Option Scope) → numbered m.blocks b ≡ o → times h (handles_of_scope (unwrap_or o no_scope)) ≡ 0
      by_cases None d = refl
      by_cases (Some f) d = omega (arith, e, weight-within (λ f. times h (handles_of_scope f)) m.blocks b f d)

  known_at : (spot : Spot) → Known (content_at m spot)
  known_at (stored s) = known_there s
  known_at (standing b k) = λ h e. known_in (scope_of m b).temps k h (omega (arith, scope_handles m h (scope_of m b), known_block b h e))

  module _ (held : IsHeld m) (ys : Numbered Content) (names : List ℕ) (k : Copied m.stores ys names) where
    -- where each name of the copy is held
    stores_held : (n : Mem) → ((s : ℕ) → IsLive n s → IsSome (numbered ys s)) → ((s : ℕ) → holders m s + names_in s ys + times s names ≤ holders n s + names_in s m.stores) → (s : ℕ) → IsLive n s → 0 < holders n s
    stores_held n there count s live = elim (k.stores s (there s live)) [
      | inl was ↦ (let a : 0 < holders m s = held.stores s was in omega (arith, a, count s, k.more s))
      | inr some ↦ omega (arith, some, count s, stores_within s)
    ]

    with_copy : (c : Content) → Known c → (n : Mem) → ((s : ℕ) → IsLive n s → IsSome (numbered ys s)) → ((s : ℕ) → holders m s + names_in s ys + times s names ≤ holders n s + names_in s m.stores) → ((h : ℕ) → IsObject n h → IsObject m h) → ((h : ℕ) → IsObject m h → IsObject n h) → ((h : ℕ) → object_holders n h + handles_in h m.stores ≡ object_holders m h + handles_in h ys + times h (handles_of_content c)) → IsHeld n
    with_copy c known n there count objects stay handles = record {
      stores = stores_held n there count;
      objects_live = λ h some. by_count h (object_holders m h) refl some;
      objects_held = λ h live. (let was : 0 < object_holders m h = held.objects_held h (objects h live) in omega (arith, was, handles h, k.more_handles h));
    }
      where
        by_count : (h x : ℕ) → object_holders m h ≡ x → 0 < object_holders n h → IsObject n h
        by_count h zero e some = absurd (omega (arith, e, some, handles h, k.handles h e, known h e))
        by_count h (suc x) e some = stay h (held.objects_live h (omega (arith, e)))

module _ (m : Mem) (held : IsHeld m) where
  pushed_copy-held : (b : ℕ) (c : Content) → Known m c → IsHeld (pushed_copy m b c)
  pushed_copy-held b c known =
      let ys = (copied m c).stores in
      let made = (copied m c).made in
      let m' : Mem = record m { stores = ys } in
      let k = copied-held m c known in
      with_copy m held ys (stores_of_content made) k.0 made k.1 (pushed m' b (value made)) (λ s h. h)
      (λ s. omega (arith, holders-pushed m' s b (value made), names-with_stores m ys s)) (λ h e. e) (λ h e. e)
      (λ h. omega (arith, handles-pushed m' h b (value made), handles-with_stores m ys h))

  copy_of_spot-held : (b : ℕ) (o : Option Spot) → IsHeld (copy_of_spot o m b).0
  copy_of_spot-held b None = held
  copy_of_spot-held b (Some spot) = pushed_copy-held b (content_at m spot) (known_at m spot)

  pub copy-held : (b : ℕ) (p : Place) → IsHeld (copy m b p).0
  unfolding copy
  copy-held b p = copy_of_spot-held b (find_place m p)

  settled-held : (b : ℕ) (i : Item) → top m b ≡ i → IsHeld (settled i m b)
  settled-held b (value c) e = held
  settled-held b (link s) e =
      let c = content_of m s in
      let ys = (copied m c).stores in
      let made = (copied m c).made in
      let m' : Mem = record m { stores = ys } in
      let k = copied-held m c (known_there m s) in
      let n = pushed (popped m' b) b (value made) in
      let names : (x : ℕ) → times x (stores_of_item (top m b)) ≡ times x (s ∷ []) = λ x. ap (λ j. times x (stores_of_item j)) e in
      let handles : (x : ℕ) → times x (handles_of_item (top m b)) ≡ 0 = λ x. ap (λ j. times x (handles_of_item j)) e in
      with_copy m held ys (stores_of_content made) k.0 made k.1 (let_fall n b (link s)) (λ x h. h)
      (λ x. omega (arith, holders-let_fall n x b (link s), holders-pushed (popped m' b) x b (value made), holders-popped m' x b, names x, names-with_stores m ys x)) (λ h d. d) (λ h d. d)
      (λ x. omega (arith, handles-let_fall n x b (link s), handles-pushed (popped m' b) x b (value made), handles-popped m' x b, handles x, handles-with_stores m ys x))

  pub settle-held : (b : ℕ) → IsHeld (settle m b)
  unfolding settle
  settle-held b = settled-held b (top m b) refl

  -- an empty block that goes

  names-left : (b x : ℕ) → holders (record m { blocks = with_numbered m.blocks b None }) x + times x (stores_of_scope (scope_of m b)) ≡ holders m x
  unfolding holders
  names-left b x = omega (arith, total-with (λ f. times x (stores_of_scope f)) m.blocks b None, weight_of_scope (λ f. times x (stores_of_scope f)) (numbered m.blocks b) refl)

  handles-left : (b x : ℕ) → object_holders (record m { blocks = with_numbered m.blocks b None }) x + times x (handles_of_scope (scope_of m b)) ≡ object_holders m x
  unfolding object_holders
  handles-left b x = omega (arith, total-with (λ f. times x (handles_of_scope f)) m.blocks b None, weight_of_scope (λ f. times x (handles_of_scope f)) (numbered m.blocks b) refl)

  pub leave-held : (b : ℕ) → CanLeave b m → IsHeld (leave m b)
  unfolding leave
  leave-held b can =
      let f = scope_of m b in
      let n : Mem = record m { blocks = with_numbered m.blocks b None } in
      let names : (x : ℕ) → times x (stores_of_scope f) ≡ 0 = λ x. (
      let v : times x (stores_of_variables f.variables) ≡ 0 = ap (λ vs. times x (stores_of_variables vs)) can.no_variables in
      let t : times x (stores_of_items f.temps) ≡ 0 = ap (λ is. times x (stores_of_items is)) can.no_temps in
      let l : times x (stores_of_items f.falling) ≡ 0 = ap (λ is. times x (stores_of_items is)) can.no_falling in
      omega (arith, v, t, l, scope_times m x f)) in
      let handles : (x : ℕ) → times x (handles_of_scope f) ≡ 0 = λ x. (
      let t : times x (handles_of_items f.temps) ≡ 0 = ap (λ is. times x (handles_of_items is)) can.no_temps in
      let l : times x (handles_of_items f.falling) ≡ 0 = ap (λ is. times x (handles_of_items is)) can.no_falling in
      omega (arith, t, l, scope_handles m x f)) in
      held_after m n held (same_there m n (λ s h. h) (λ x. omega (arith, names-left b x, names x)) (λ h e. e) (λ h e. e) (λ x. omega (arith, handles-left b x, handles x)))

-- a new object

free_number : (m : Mem) → IsFormed m → numbered m.objects m.next_object ≡ None
free_number m formed = by_cases (numbered m.objects m.next_object) refl
  where
    by_cases : (o : Option Object) → numbered m.objects m.next_object ≡ o → o ≡ None
    by_cases None e = refl
    by_cases (Some x) e = absurd (let h : m.next_object < m.next_object = formed.object_numbers m.next_object (ap is_some e) in omega (arith, h))

module _ (m : Mem) (free : numbered m.objects m.next_object ≡ None) (o : Object) where
  names-with_new_object : (x : ℕ) → holders (with_new_object m o) x ≡ holders m x + times x (stores_of_object o)
  unfolding holders
  names-with_new_object x =
      let none : weight_if (λ (y : Object). times x (stores_of_object y)) (numbered m.objects m.next_object) ≡ 0 = ap (weight_if (λ (y : Object). times x (stores_of_object y))) free in
      omega (arith, none, total-with (λ y. times x (stores_of_object y)) m.objects m.next_object (Some o))

  handles-with_new_object : (x : ℕ) → object_holders (with_new_object m o) x ≡ object_holders m x
  unfolding object_holders
  handles-with_new_object x = refl

  new_there : IsObject (with_new_object m o) m.next_object
  new_there = ap is_some (numbered-with_same m.objects m.next_object (Some o))

  before_new : (h : ℕ) → h ≢ m.next_object → IsObject (with_new_object m o) h → IsObject m h
  before_new h d e = ap is_some (sym (numbered-with_other m.objects m.next_object h (Some o) d)) ∙ e

module _ (m : Mem) (held : IsHeld m) (formed : IsFormed m) where
  object_made-held : (full : Bool) (b class : ℕ) (finishing : Bool) → IsHeld (object_made full m b class finishing).0
  object_made-held true b class finishing = held
  object_made-held false b class finishing =
      let o = new_object class finishing in
      let free = free_number m formed in
      let n' = with_new_object m o in
      let i : Item = value (object m.next_object) in
      let n = pushed n' b i in
      let names : (x : ℕ) → holders n x ≡ holders m x = λ x. omega (arith, holders-pushed n' x b i, names-with_new_object m free o x) in
      let handles : (x : ℕ) → object_holders n x ≡ object_holders m x + times x (m.next_object ∷ []) = λ x. omega (arith, handles-pushed n' x b i, handles-with_new_object m free o x) in
      held_after m n held (record {
        stores = λ s e. inl e;
        more = λ s e. omega (arith, names s);
        objects = λ h e. elim (eqb_tells h m.next_object) [
          | inl d ↦ inr (let one : 0 < times h (m.next_object ∷ []) = subst (λ (j : ℕ). 0 < times h (j ∷ [])) d.1 (times-self h []) in omega (arith, one, handles h))
          | inr d ↦ inl (before_new m free o h d.1 e)
        ];
        more_handles = λ h e. omega (arith, handles h);
        handles = λ h some. elim (eqb_tells h m.next_object) [
          | inl d ↦ inr (subst (λ (j : ℕ). IsObject n j) (sym d.1) (new_there m free o))
          | inr d ↦ inl (let none : times h (m.next_object ∷ []) ≡ 0 = ap (λ c. cond c 1 0 + 0) d.0 in omega (arith, none, some, handles h))
        ];
        objects_stay = λ h e some. live-with m.objects m.next_object o h e;
      })

  pub make_object-held : (b class : ℕ) (finishing : Bool) → IsHeld (make_object m b class finishing).0
  unfolding make_object
  make_object-held b class finishing = object_made-held (nat_le OBJECT_LIMIT m.next_object) b class finishing

  clone_made-held : (full : Bool) (b h : ℕ) → top m b ≡ value (object h) → IsHeld (clone_made full m b h).0
  clone_made-held true b h e = held
  clone_made-held false b h e =
      let ps = (object_of m h).properties in
      let copied = copied_properties (copier_of m) m m.stores ps in
      let ys = copied.stores in
      let m' : Mem = record m { stores = ys } in
      let o : Object = record (object_of m h) { properties = copied.made; spent = false; frame = None } in
      let free = free_number m formed in
      let n' = with_new_object m' o in
      let i : Item = value (object m.next_object) in
      let last : Item = value (object h) in
      let p = popped n' b in
      let q = pushed p b i in
      let n = let_fall q b last in
      let k = copied_properties-held m (copier_of m) (copied_deep-held m (live_count m.stores)) m.stores ps in
      let top_names : (x : ℕ) → times x (stores_of_item (top m b)) ≡ 0 = λ x. ap (λ j. times x (stores_of_item j)) e in
      let top_handles : (x : ℕ) → times x (handles_of_item (top m b)) ≡ times x (h ∷ []) = λ x. ap (λ j. times x (handles_of_item j)) e in
      let handles : (x : ℕ) → object_holders n x + handles_in x m.stores ≡ object_holders m x + handles_in x ys + times x (m.next_object ∷ []) = λ x. omega (arith, handles-let_fall q x b last, handles-pushed p x b i, handles-popped n' x b, top_handles x, handles-with_new_object m' free o x, handles-with_stores m ys x) in
      record {
        stores = stores_held m held ys (stores_of_properties copied.made) k n (λ s live. live)
            (λ x. omega (arith, holders-let_fall q x b last, holders-pushed p x b i, holders-popped n' x b, top_names x, names-with_new_object m' free o x, names-with_stores m ys x));
        objects_live = λ x some. elim (eqb_tells x m.next_object) [
          | inl d ↦ subst (λ (j : ℕ). IsObject n j) (sym d.1) (new_there m' free o)
          | inr d ↦ (let none : times x (m.next_object ∷ []) ≡ 0 = ap (λ c. cond c 1 0 + 0) d.0 in
              live-with m.objects m.next_object o x (held.objects_live x (counted k x (object_holders m x) refl (object_holders n x) some (omega (arith, none, handles x)))))
        ];
        objects_held = λ x live. elim (eqb_tells x m.next_object) [
          | inl d ↦ (let one : 0 < times x (m.next_object ∷ []) = subst (λ (j : ℕ). 0 < times x (j ∷ [])) d.1 (times-self x []) in omega (arith, one, handles x, k.more_handles x))
          | inr d ↦ (let was : 0 < object_holders m x = held.objects_held x (before_new m' free o x d.1 live) in omega (arith, was, handles x, k.more_handles x))
        ];
      }
    where
      counted : {ys : Numbered Content} {names : List ℕ} → Copied m m.stores ys names → (x w : ℕ) → object_holders m x ≡ w → (a : ℕ) → 0 < a → a + handles_in x m.stores ≡ object_holders m x + handles_in x ys → 0 < object_holders m x
      counted k x zero e a some same = absurd (omega (arith, e, some, same, k.handles x e))
      counted k x (suc w) e a some same = omega (arith, e)

  pub clone_object-held : (b : ℕ) → CanClone b m → IsHeld (clone_object m b).0
  unfolding clone_object
  clone_object-held b can =
      let e = top_is (scope_of m b).temps can.top.0 can.top.1 in
      subst (λ (i : Item). IsHeld (clone_of_top i m b).0) (sym e) (clone_made-held (nat_le OBJECT_LIMIT m.next_object) b can.top.0 e)
    where
      of_some : (i j : Item) → Some i ≡ Some j → i ≡ j
      of_some i j e = cc

      top_is : (is : List Item) (h : ℕ) → nth_item is 0 ≡ Some (value (object h)) → top_of is ≡ value (object h)
      top_is [] h e = absurd (no e)
        where
          no : None ≡ Some (value (object h)) → ⊥
          no e = cc
      top_is (i ∷ is) h e = of_some i (value (object h)) e
