-- Releases and the operations on objects leave each part of a memory as it should be.
use Rattle.std.proofs.Common.{◌≡◌, ◌≢◌, ℕ, zero, suc, ◌+◌, ◌<◌, List, [], ◌∷◌, ◌++◌, refl, sym, ◌∙◌, ap, subst, arith, inl, inr}
use Rattle.std.specs.Prelude.{Bool, true, false, ◌&&◌, not, nat_le, Option, Some, None, IsSome, is_some, unwrap_or}
use Rattle.std.proofs.lemmas.Bool.{leb-false, false≢true}
use Rattle.std.proofs.lemmas.Bool.Decides.{eqb_tells}
use Rattle.php_entries.specs.Listing.{Entry}
use Rattle.php_memdef.specs.declared.place.PropName.{PropName}
use Rattle.php_memdef.specs.Numbered.{Numbered, numbered, with_numbered}
use Rattle.php_memdef.specs.Contents.{Content, null, truth, int, text, array, object, Item, value, link, Property, Object, Mem, no_object, content_of, scope_of, object_of}
use Rattle.php_memdef.specs.Copies.{Copier, copied_store, copied_properties, copier_of}
use Rattle.php_memdef.specs.Places.{nth_item, with_object}
use Rattle.php_memdef.specs.Temporaries.{with_falling, pushed, popped, top_of, fallen}
use Rattle.php_memdef.specs.Releases.{entry_links, property_links, Turn, goes_on, stops, link_dropped, object_removed, object_released, handle_dropped, is_held, is_object_held, item_released, first_released, turn, fall_after, fall_within, turns, fall}
use Rattle.php_memdef.specs.Objects.{OBJECT_LIMIT, new_object, with_new_object, object_made, make_object, clone_made, clone_of_top, clone_object, finish, spare, attach}
use Rattle.php_memdef.specs.Sound.{AreSoundFalling, HasNoProperty, ArePropertiesDistinct, AreNamesShort, IsSoundObject, IsFormed}
use Rattle.php_memdef.specs.Conditions.{IsObject, HasRoom, CanMakeObject, CanClone, CanAttach}
use Rattle.php_memdef_laws.proofs.NumberedLemmas.{numbered-with_same, numbered-with_other, all-with}
use Rattle.php_memdef_laws.proofs.Formed.Parts.{some_same, scope-sound, object-sound, content-sound, with_stores-formed, with_store-formed, with_falling-formed, pushed-formed, popped-formed, let_fall-formed, falling_joined, fallen_sound}
use Rattle.php_memdef_laws.proofs.Formed.Copies.{clone-sound, room_behind}
use Rattle.php_memdef_laws.proofs.Formed.Writes.{object_changed-formed, with_object-formed}

entry_links_sound : (es : List (Entry ℕ)) → AreSoundFalling (entry_links es)
entry_links_sound [] = tt
entry_links_sound (e ∷ es) = entry_links_sound es

property_links_sound : (ps : List Property) → AreSoundFalling (property_links ps)
property_links_sound [] = tt
property_links_sound (p ∷ ps) = property_links_sound ps

abbrev pub TurnFormed : Turn → Type 0
TurnFormed (goes_on m) = IsFormed m
TurnFormed (stops m answer) = IsFormed m

-- an object with a frame, or whose destructor is due, is there

pub framed_there : (m : Mem) (h f : ℕ) → (object_of m h).frame ≡ Some f → IsObject m h
framed_there m h f e = by_cases (numbered m.objects h) e
  where
    by_cases : (o : Option Object) → (unwrap_or o no_object).frame ≡ Some f → IsSome o
    by_cases None e = absurd (no e)
      where
        no : None ≡ Some f → ⊥
        no e = cc
    by_cases (Some x) e = refl

pub due_there : (m : Mem) (h : ℕ) → ((object_of m h).finishing && not (object_of m h).spent) ≡ true → IsObject m h
due_there m h e = by_cases (numbered m.objects h) e
  where
    by_cases : (o : Option Object) → ((unwrap_or o no_object).finishing && not (unwrap_or o no_object).spent) ≡ true → IsSome o
    by_cases None e = absurd (false≢true e)
    by_cases (Some x) e = refl

module _ (m : Mem) (formed : IsFormed m) (b : ℕ) (rest : List Item) (sound : AreSoundFalling rest) where
  link_dropped-formed : (held : Bool) (s : ℕ) → IsFormed (link_dropped held m b rest s)
  link_dropped-formed true s = with_falling-formed m formed b rest sound
  link_dropped-formed false s =
      with_falling-formed (record m { stores = with_numbered m.stores s None }) (with_store-formed m formed s None (λ c e. absurd (nothing c e))) b (fallen (value (content_of m s)) ++ rest)
      (falling_joined (fallen (value (content_of m s))) rest (fallen_sound (value (content_of m s)) (content-sound m formed s)) sound)
    where
      nothing : (c : Content) → None ≡ Some c → ⊥
      nothing c e = cc

  gone-formed : (h : ℕ) → IsFormed (with_falling (record m { objects = with_numbered m.objects h None }) b (property_links (object_of m h).properties ++ rest))
  gone-formed h =
      with_falling-formed (record m { objects = with_numbered m.objects h None }) (object_changed-formed m formed h None (λ k e. absurd (no_frame k e)) (λ x e. absurd (nothing x e)) (λ e. absurd (false≢true e))) b (property_links (object_of m h).properties ++ rest)
      (falling_joined (property_links (object_of m h).properties) rest (property_links_sound (object_of m h).properties) sound)
    where
      no_frame : (k : ℕ) → None ≡ Some k → ⊥
      no_frame k e = cc

      nothing : (x : Object) → None ≡ Some x → ⊥
      nothing x e = cc

  object_removed-formed : (h : ℕ) (f : Option ℕ) → (object_of m h).frame ≡ f → TurnFormed (object_removed f (object_of m h) m b rest h)
  object_removed-formed h (Some f) e =
      let q = object-sound m formed h in
      with_object-formed m formed h (record (object_of m h) { frame = None }) (λ k d. absurd (no_frame k d)) (record { properties_distinct = q.properties_distinct; names_short = q.names_short }) (framed_there m h f e)
    where
      no_frame : (k : ℕ) → None ≡ Some k → ⊥
      no_frame k d = cc
  object_removed-formed h None e = gone-formed h

  object_released-formed : (h : ℕ) (due : Bool) → ((object_of m h).finishing && not (object_of m h).spent) ≡ due → TurnFormed (object_released due (object_of m h) m b rest h)
  object_released-formed h true e =
      let q = object-sound m formed h in
      with_object-formed m formed h (record (object_of m h) { spent = true }) (λ k d. d) (record { properties_distinct = q.properties_distinct; names_short = q.names_short }) (due_there m h e)
  object_released-formed h false e = object_removed-formed h (object_of m h).frame refl

  handle_dropped-formed : (h : ℕ) (held : Bool) → TurnFormed (handle_dropped held (object_of m h) m b rest h)
  handle_dropped-formed h true = with_falling-formed m formed b rest sound
  handle_dropped-formed h false = object_released-formed h ((object_of m h).finishing && not (object_of m h).spent) refl

  item_released-formed : (i : Item) → TurnFormed (item_released i m b rest)
  item_released-formed (link s) = link_dropped-formed (is_held (with_falling m b rest) s) s
  item_released-formed (value null) = with_falling-formed m formed b rest sound
  item_released-formed (value (truth x)) = with_falling-formed m formed b rest sound
  item_released-formed (value (int i)) = with_falling-formed m formed b rest sound
  item_released-formed (value (text bytes)) = with_falling-formed m formed b rest sound
  item_released-formed (value (array t)) = with_falling-formed m formed b (entry_links t.entries ++ rest) (falling_joined (entry_links t.entries) rest (entry_links_sound t.entries) sound)
  item_released-formed (value (object h)) = handle_dropped-formed h (is_object_held (with_falling m b rest) h)

rest_of_sound : (i : Item) (rest : List Item) → AreSoundFalling (i ∷ rest) → AreSoundFalling rest
rest_of_sound (value c) rest h = h.1
rest_of_sound (link s) rest h = h

pub first_released-formed : (m : Mem) → IsFormed m → (b : ℕ) (is : List Item) → AreSoundFalling is → TurnFormed (first_released is m b)
first_released-formed m formed b [] h = formed
first_released-formed m formed b (i ∷ rest) h = item_released-formed m formed b rest (rest_of_sound i rest h) i

fall_within-formed : (k : ℕ) (m : Mem) → IsFormed m → (b : ℕ) → IsFormed (fall_within k m b).0
fall_within-formed zero m formed b = formed
fall_within-formed (suc k) m formed b = after (turn m b) (first_released-formed m formed b (scope_of m b).falling (scope-sound m formed b).falling) (λ n f. fall_within-formed k n f b)
  where
    after : (t : Turn) → TurnFormed t → ((n : Mem) → IsFormed n → IsFormed (fall_within k n b).0) → IsFormed (fall_after t (λ n. fall_within k n b)).0
    after (goes_on n) f go_on = go_on n f
    after (stops n answer) f go_on = f

pub fall-formed : (m : Mem) → IsFormed m → (b : ℕ) → IsFormed (fall m b).0
unfolding fall
fall-formed m formed b = fall_within-formed (suc (turns m b)) m formed b

-- objects

module _ (m : Mem) (formed : IsFormed m) where
  marked : (h : ℕ) (x : Object) → x.frame ≡ (object_of m h).frame → x.properties ≡ (object_of m h).properties → IsObject m h → IsFormed (with_object m h x)
  marked h x frame properties live =
      let q = object-sound m formed h in
      with_object-formed m formed h x (λ k d. sym frame ∙ d) (record { properties_distinct = subst ArePropertiesDistinct (sym properties) q.properties_distinct; names_short = subst AreNamesShort (sym properties) q.names_short }) live

  pub finish-formed : (h : ℕ) → IsObject m h → IsFormed (finish m h)
  unfolding finish
  finish-formed h live = marked h (record (object_of m h) { finishing = true }) refl refl live

  pub spare-formed : (h : ℕ) → IsObject m h → IsFormed (spare m h)
  unfolding spare
  spare-formed h live = marked h (record (object_of m h) { spent = true }) refl refl live

  -- one more object, without a frame
  with_new_object-formed : (x : Object) → x.frame ≡ None → IsSoundObject x → m.next_object < OBJECT_LIMIT → IsFormed (with_new_object m x)
  with_new_object-formed x frame sound below = record {
    frames_live = λ k b e. formed.frames_live k b (before k b e);
    frames_apart = λ g k b e d. formed.frames_apart g k b (before g b e) (before k b d);
    contents = formed.contents;
    objects = all-with IsSoundObject m.objects m.next_object (Some x) (λ y e. some_same IsSoundObject x y e sound) formed.objects;
    scopes = formed.scopes;
    object_numbers = numbers;
    next_object_within = omega (arith, below);
  }
    where
      no : (b : ℕ) → None ≡ Some b → ⊥
      no b e = cc

      before : (k b : ℕ) → (object_of (with_new_object m x) k).frame ≡ Some b → (object_of m k).frame ≡ Some b
      before k b e = elim (eqb_tells k m.next_object) [
        | inl d ↦ absurd (no b (sym frame ∙ ap (λ y. (unwrap_or y no_object).frame) (sym (ap (numbered (with_numbered m.objects m.next_object (Some x))) d.1 ∙ numbered-with_same m.objects m.next_object (Some x))) ∙ e))
        | inr d ↦ ap (λ y. (unwrap_or y no_object).frame) (sym (numbered-with_other m.objects m.next_object k (Some x) d.1)) ∙ e
      ]

      numbers : (k : ℕ) → IsSome (numbered (with_numbered m.objects m.next_object (Some x)) k) → k < m.next_object + 1
      numbers k e = elim (eqb_tells k m.next_object) [
        | inl d ↦ omega (arith, d.1)
        | inr d ↦ (let h : k < m.next_object = formed.object_numbers k (ap is_some (sym (numbered-with_other m.objects m.next_object k (Some x) d.1)) ∙ e) in omega (arith, h))
      ]

object_made-formed : (m : Mem) → IsFormed m → (full : Bool) → nat_le OBJECT_LIMIT m.next_object ≡ full → (b class : ℕ) (finishing : Bool) → HasRoom m b → IsFormed (object_made full m b class finishing).0
object_made-formed m formed true e b class finishing room = formed
object_made-formed m formed false e b class finishing room =
    pushed-formed (with_new_object m (new_object class finishing)) (with_new_object-formed m formed (new_object class finishing) refl (record { properties_distinct = tt; names_short = tt }) (leb-false OBJECT_LIMIT m.next_object e)) b (value (object m.next_object)) tt room

-- a copy of properties keeps their names

same_names : (f : Copier) (m : Mem) (x : PropName) (ps : List Property) (xs : Numbered Content) → HasNoProperty x ps → HasNoProperty x (copied_properties f m xs ps).made
same_names f m x [] xs h = tt
same_names f m x (p ∷ ps) xs h = (h.0, same_names f m x ps (copied_store f m xs p.store).stores h.1)

copied_distinct : (f : Copier) (m : Mem) (ps : List Property) (xs : Numbered Content) → ArePropertiesDistinct ps → ArePropertiesDistinct (copied_properties f m xs ps).made
copied_distinct f m [] xs h = tt
copied_distinct f m (p ∷ ps) xs h = (same_names f m p.name ps (copied_store f m xs p.store).stores h.0, copied_distinct f m ps (copied_store f m xs p.store).stores h.1)

copied_short : (f : Copier) (m : Mem) (ps : List Property) (xs : Numbered Content) → AreNamesShort ps → AreNamesShort (copied_properties f m xs ps).made
copied_short f m [] xs h = tt
copied_short f m (p ∷ ps) xs h = (h.0, copied_short f m ps (copied_store f m xs p.store).stores h.1)

clone_made-formed : (m : Mem) → IsFormed m → (full : Bool) → nat_le OBJECT_LIMIT m.next_object ≡ full → (b h : ℕ) (i : Item) (rest : List Item) → (scope_of m b).temps ≡ i ∷ rest → IsFormed (clone_made full m b h).0
clone_made-formed m formed true e b h i rest t = formed
clone_made-formed m formed false e b h i rest t =
    let o = object_of m h in
    let q = object-sound m formed h in
    let x = copied_properties (copier_of m) m m.stores o.properties in
    let m' : Mem = record m { stores = x.stores } in
    let clone : Object = record o { properties = x.made; spent = false; frame = None } in
    let n = with_new_object m' clone in
    let f = with_new_object-formed m' (with_stores-formed m formed x.stores (clone-sound m formed o.properties)) clone refl
    (record { properties_distinct = copied_distinct (copier_of m) m o.properties m.stores q.properties_distinct; names_short = copied_short (copier_of m) m o.properties m.stores q.names_short }) (leb-false OBJECT_LIMIT m.next_object e) in
    let_fall-formed (pushed (popped n b) b (value (object m.next_object))) (pushed-formed (popped n b) (popped-formed n f b) b (value (object m.next_object)) tt (room_behind n b f i rest t)) b (value (object h)) tt

first_temp : (is : List Item) (h : ℕ) → nth_item is 0 ≡ Some (value (object h)) → (rest : List Item) × (is ≡ value (object h) ∷ rest)
first_temp [] h e = absurd (no e)
  where
    no : None ≡ Some (value (object h)) → ⊥
    no e = cc
first_temp (i ∷ rest) h e = (rest, ap (λ j. j ∷ rest) (same e))
  where
    same : Some i ≡ Some (value (object h)) → i ≡ value (object h)
    same e = cc

module _ (m : Mem) (formed : IsFormed m) where
  pub make_object-formed : (b class : ℕ) (finishing : Bool) → CanMakeObject b m → IsFormed (make_object m b class finishing).0
  unfolding make_object
  make_object-formed b class finishing can = object_made-formed m formed (nat_le OBJECT_LIMIT m.next_object) refl b class finishing can.room

  pub clone_object-formed : (b : ℕ) → CanClone b m → IsFormed (clone_object m b).0
  unfolding clone_object
  clone_object-formed b can =
      let p = first_temp (scope_of m b).temps can.top.0 can.top.1 in
      subst (λ (i : Item). IsFormed (clone_of_top i m b).0) (sym (ap top_of p.1)) (clone_made-formed m formed (nat_le OBJECT_LIMIT m.next_object) refl b can.top.0 (value (object can.top.0)) p.0 p.1)

  -- a frame that waits in no other object
  pub attach-formed : (h : ℕ) (f : Option ℕ) → CanAttach h f m → IsFormed (attach m h f)
  unfolding attach
  attach-formed h f can = record {
    frames_live = λ k b e. elim (eqb_tells k h) [
      | inl d ↦ can.frame_live b (sym (ap (λ y. y.frame) (here k d.1)) ∙ e)
      | inr d ↦ formed.frames_live k b (ap (λ y. y.frame) (sym (there k d.1)) ∙ e)
    ];
    frames_apart = λ g k b e d. elim (eqb_tells g h) [
      | inl p ↦ elim (eqb_tells k h) [
        | inl q ↦ p.1 ∙ sym q.1
        | inr q ↦ p.1 ∙ sym (can.frame_apart b k (sym (ap (λ y. y.frame) (here g p.1)) ∙ e) (ap (λ y. y.frame) (sym (there k q.1)) ∙ d))
      ]
      | inr p ↦ elim (eqb_tells k h) [
        | inl q ↦ can.frame_apart b g (sym (ap (λ y. y.frame) (here k q.1)) ∙ d) (ap (λ y. y.frame) (sym (there g p.1)) ∙ e) ∙ sym q.1
        | inr q ↦ formed.frames_apart g k b (ap (λ y. y.frame) (sym (there g p.1)) ∙ e) (ap (λ y. y.frame) (sym (there k q.1)) ∙ d)
      ]
    ];
    contents = formed.contents;
    objects = all-with IsSoundObject m.objects h (Some (record (object_of m h) { frame = f })) (λ y e. some_same IsSoundObject (record (object_of m h) { frame = f }) y e (let q = object-sound m formed h in record { properties_distinct = q.properties_distinct; names_short = q.names_short })) formed.objects;
    scopes = formed.scopes;
    object_numbers = λ k e. elim (eqb_tells k h) [
      | inl d ↦ subst (λ (j : ℕ). j < m.next_object) (sym d.1) (formed.object_numbers h can.object)
      | inr d ↦ formed.object_numbers k (ap is_some (sym (numbered-with_other m.objects h k (Some (record (object_of m h) { frame = f })) d.1)) ∙ e)
    ];
    next_object_within = formed.next_object_within;
  }
    where
      x : Object
      x = record (object_of m h) { frame = f }

      here : (k : ℕ) → k ≡ h → object_of (with_object m h (record (object_of m h) { frame = f })) k ≡ record (object_of m h) { frame = f }
      here k d = ap (λ j. unwrap_or (numbered (with_numbered m.objects h (Some (record (object_of m h) { frame = f }))) j) no_object) d ∙ ap (λ o. unwrap_or o no_object) (numbered-with_same m.objects h (Some (record (object_of m h) { frame = f })))

      there : (k : ℕ) → k ≢ h → object_of (with_object m h (record (object_of m h) { frame = f })) k ≡ object_of m k
      there k ne = ap (λ o. unwrap_or o no_object) (numbered-with_other m.objects h k (Some (record (object_of m h) { frame = f })) ne)
