-- Changes that leave each part of a memory as it should be.
use Rattle.std.proofs.Common.{◌≡◌, ℕ, zero, suc, ◌+◌, ◌<◌, ◌≤◌, List, [], ◌∷◌, ◌++◌, length, refl, sym, ◌∙◌, ap, subst, arith, inl, inr, cond}
use Rattle.std.specs.Prelude.{Bool, true, false, ◌&&◌, nat_eq, Option, Some, None, is_some, unwrap_or}
use Rattle.std.specs.Cmp.Lexicographic.{pointwise}
use Rattle.std.proofs.lemmas.Bool.{cases_Bool}
use Rattle.std.proofs.lemmas.Bool.Decides.{eqb_tells}
use Rattle.php_value.specs.declared.key.Key.TheVariants.{Str}
use Rattle.php_value.specs.declared.scalar.Scalar.{Scalar}
use Rattle.php_value.specs.declared.scalar.Scalar.TheVariants as scalar
use Rattle.php_entries.specs.Listing.{no_entries}
use Rattle.php_entries.proofs.KeyLemmas.{key_eq-true, key_eq-sym_false}
use Rattle.php_entries.proofs.SoundLemmas.{no_entries-sound}
use Rattle.php_memdef.specs.declared.place.Seen.{Seen}
use Rattle.php_memdef.specs.declared.place.Seen.TheVariants.{Public, Protected, Private}
use Rattle.php_memdef.specs.declared.place.PropName.{PropName}
use Rattle.php_memdef.specs.Numbered.{Numbered, numbered, with_numbered, with_next}
use Rattle.php_memdef.specs.Contents.{Content, null, truth, int, text, array, object, Item, value, link, Variable, Scope, Property, Object, Mem, no_scope, no_object, content_of, scope_of, object_of}
use Rattle.php_memdef.specs.Places.{Spot, stored, standing, nth_item, with_nth_item, content_if, content_at, with_content, with_scope, with_new_store, variable_store, property_store, seen_eq, prop_name_eq}
use Rattle.php_memdef.specs.Temporaries.{content_of_scalar, with_temps, with_falling, pushed, rest_of, popped, top_of, top, with_top, turned, turn, reserve, fallen, let_fall, enter, leave, push, push_array, push_object, pass, drop_top}
use Rattle.php_memdef.specs.Writes.{with_variable, with_property, without_variable, without_property}
use Rattle.php_memdef.specs.Sound.{IsShort, IsSoundContent, AreSoundItems, AreSoundFalling, HasNoVariable, AreVariablesDistinct, HasNoProperty, ArePropertiesDistinct, AreNamesShort, IsSoundScope, IsSoundObject, IsFormed}
use Rattle.php_memdef.specs.Conditions.{HasRoom, IsScalarWithin, CanLeave, CanPush, CanPushArray, CanPushObject, CanPass}
use Rattle.php_memdef_laws.proofs.AppendLemmas.{same_length}
use Rattle.php_memdef_laws.proofs.NumberedLemmas.{numbered-with_same, numbered-with_other, with_next-numbered, all-with, live-with}

-- tests of names are symmetric

numbers_sym : (a b : ℕ) → nat_eq a b ≡ nat_eq b a
numbers_sym a b = elim (eqb_tells a b) [
  | inl e ↦ elim (eqb_tells b a) [ inl d ↦ e.0 ∙ sym d.0 | inr d ↦ absurd (d.1 (sym e.1)) ]
  | inr e ↦ elim (eqb_tells b a) [ inl d ↦ absurd (e.1 (sym d.1)) | inr d ↦ e.0 ∙ sym d.0 ]
]

bytes_sym : (a b : List ℕ) → pointwise nat_eq a b ≡ pointwise nat_eq b a
bytes_sym a b = elim (cases_Bool (pointwise nat_eq a b)) [
  | inl e ↦ (let same : a ≡ b = of_keys (key_eq-true (Str a) (Str b) e) in ap (λ x. pointwise nat_eq x b) same ∙ ap (λ x. pointwise nat_eq b x) (sym same))
  | inr e ↦ e ∙ sym (key_eq-sym_false (Str a) (Str b) e)
]
  where
    of_keys : Str a ≡ Str b → a ≡ b
    of_keys e = cc

seen_sym : (a b : Seen) → seen_eq a b ≡ seen_eq b a
seen_sym Public Public = refl
seen_sym Public Protected = refl
seen_sym Public (Private n) = refl
seen_sym Protected Public = refl
seen_sym Protected Protected = refl
seen_sym Protected (Private n) = refl
seen_sym (Private k) Public = refl
seen_sym (Private k) Protected = refl
seen_sym (Private k) (Private n) = numbers_sym k n

pub names_sym : (p q : PropName) → prop_name_eq p q ≡ prop_name_eq q p
names_sym p q = ap (λ b. b && seen_eq p.seen q.seen) (bytes_sym p.name q.name) ∙ ap (λ b. pointwise nat_eq q.name p.name && b) (seen_sym p.seen q.seen)

-- variables and properties stay distinct

no_variable_added : (x n s : ℕ) (vs : List Variable) → nat_eq x n ≡ false → HasNoVariable x vs → HasNoVariable x (vs ++ record { name = n; store = s } ∷ [])
no_variable_added x n s [] e h = (e, tt)
no_variable_added x n s (v ∷ vs) e h = (h.0, no_variable_added x n s vs e h.1)

pub variables_added : (n s : ℕ) (vs : List Variable) → AreVariablesDistinct vs → variable_store vs n ≡ None → AreVariablesDistinct (vs ++ record { name = n; store = s } ∷ [])
variables_added n s [] h e = (tt, tt)
variables_added n s (v ∷ vs) h e = elim (cases_Bool (nat_eq n v.name)) [
  | inl t ↦ absurd (found (sym (ap (λ b. cond b (Some v.store) (variable_store vs n)) t) ∙ e))
  | inr f ↦ (no_variable_added v.name n s vs (numbers_sym v.name n ∙ f) h.0, variables_added n s vs h.1 (sym (ap (λ b. cond b (Some v.store) (variable_store vs n)) f) ∙ e))
]
  where
    found : Some v.store ≡ None → ⊥
    found d = cc

no_property_added : (x n : PropName) (s : ℕ) (ps : List Property) → prop_name_eq x n ≡ false → HasNoProperty x ps → HasNoProperty x (ps ++ record { name = n; store = s } ∷ [])
no_property_added x n s [] e h = (e, tt)
no_property_added x n s (p ∷ ps) e h = (h.0, no_property_added x n s ps e h.1)

pub properties_added : (n : PropName) (s : ℕ) (ps : List Property) → ArePropertiesDistinct ps → property_store ps n ≡ None → ArePropertiesDistinct (ps ++ record { name = n; store = s } ∷ [])
properties_added n s [] h e = (tt, tt)
properties_added n s (p ∷ ps) h e = elim (cases_Bool (prop_name_eq n p.name)) [
  | inl t ↦ absurd (found (sym (ap (λ b. cond b (Some p.store) (property_store ps n)) t) ∙ e))
  | inr f ↦ (no_property_added p.name n s ps (names_sym p.name n ∙ f) h.0, properties_added n s ps h.1 (sym (ap (λ b. cond b (Some p.store) (property_store ps n)) f) ∙ e))
]
  where
    found : Some p.store ≡ None → ⊥
    found d = cc

pub names_added : (n : PropName) (s : ℕ) (ps : List Property) → IsShort n.name → AreNamesShort ps → AreNamesShort (ps ++ record { name = n; store = s } ∷ [])
names_added n s [] e h = (e, tt)
names_added n s (p ∷ ps) e h = (h.0, names_added n s ps e h.1)

by_choice : (P : List Variable → Type 0) (b : Bool) (vs ws : List Variable) → P vs → P ws → P (cond b vs ws)
by_choice P true vs ws p q = p
by_choice P false vs ws p q = q

by_choice_of_properties : (P : List Property → Type 0) (b : Bool) (vs ws : List Property) → P vs → P ws → P (cond b vs ws)
by_choice_of_properties P true vs ws p q = p
by_choice_of_properties P false vs ws p q = q

no_variable_without : (x n : ℕ) (vs : List Variable) → HasNoVariable x vs → HasNoVariable x (without_variable n vs)
no_variable_without x n [] h = tt
no_variable_without x n (v ∷ vs) h = by_choice (HasNoVariable x) (nat_eq n v.name) vs (v ∷ without_variable n vs) h.1 (h.0, no_variable_without x n vs h.1)

pub variables_without : (n : ℕ) (vs : List Variable) → AreVariablesDistinct vs → AreVariablesDistinct (without_variable n vs)
variables_without n [] h = tt
variables_without n (v ∷ vs) h = by_choice AreVariablesDistinct (nat_eq n v.name) vs (v ∷ without_variable n vs) h.1 (no_variable_without v.name n vs h.0, variables_without n vs h.1)

no_property_without : (x n : PropName) (ps : List Property) → HasNoProperty x ps → HasNoProperty x (without_property n ps)
no_property_without x n [] h = tt
no_property_without x n (p ∷ ps) h = by_choice_of_properties (HasNoProperty x) (prop_name_eq n p.name) ps (p ∷ without_property n ps) h.1 (h.0, no_property_without x n ps h.1)

pub properties_without : (n : PropName) (ps : List Property) → ArePropertiesDistinct ps → ArePropertiesDistinct (without_property n ps)
properties_without n [] h = tt
properties_without n (p ∷ ps) h = by_choice_of_properties ArePropertiesDistinct (prop_name_eq n p.name) ps (p ∷ without_property n ps) h.1 (no_property_without p.name n ps h.0, properties_without n ps h.1)

pub names_without : (n : PropName) (ps : List Property) → AreNamesShort ps → AreNamesShort (without_property n ps)
names_without n [] h = tt
names_without n (p ∷ ps) h = by_choice_of_properties AreNamesShort (prop_name_eq n p.name) ps (p ∷ without_property n ps) h.1 (h.0, names_without n ps h.1)

no_variable_with : (x n s : ℕ) (vs : List Variable) → nat_eq x n ≡ false → HasNoVariable x vs → HasNoVariable x (with_variable n s vs)
no_variable_with x n s [] e h = (e, tt)
no_variable_with x n s (v ∷ vs) e h = by_choice (HasNoVariable x) (nat_eq n v.name) (record v { store = s } ∷ vs) (v ∷ with_variable n s vs) h (h.0, no_variable_with x n s vs e h.1)

pub variables_with : (n s : ℕ) (vs : List Variable) → AreVariablesDistinct vs → AreVariablesDistinct (with_variable n s vs)
variables_with n s [] h = (tt, tt)
variables_with n s (v ∷ vs) h = elim (cases_Bool (nat_eq n v.name)) [
  | inl t ↦ subst AreVariablesDistinct (sym (ap (λ b. cond b (record v { store = s } ∷ vs) (v ∷ with_variable n s vs)) t)) h
  | inr f ↦ subst AreVariablesDistinct (sym (ap (λ b. cond b (record v { store = s } ∷ vs) (v ∷ with_variable n s vs)) f)) (no_variable_with v.name n s vs (numbers_sym v.name n ∙ f) h.0, variables_with n s vs h.1)
]

no_property_with : (x n : PropName) (s : ℕ) (ps : List Property) → prop_name_eq x n ≡ false → HasNoProperty x ps → HasNoProperty x (with_property n s ps)
no_property_with x n s [] e h = (e, tt)
no_property_with x n s (p ∷ ps) e h = by_choice_of_properties (HasNoProperty x) (prop_name_eq n p.name) (record p { store = s } ∷ ps) (p ∷ with_property n s ps) h (h.0, no_property_with x n s ps e h.1)

pub properties_with : (n : PropName) (s : ℕ) (ps : List Property) → ArePropertiesDistinct ps → ArePropertiesDistinct (with_property n s ps)
properties_with n s [] h = (tt, tt)
properties_with n s (p ∷ ps) h = elim (cases_Bool (prop_name_eq n p.name)) [
  | inl t ↦ subst ArePropertiesDistinct (sym (ap (λ b. cond b (record p { store = s } ∷ ps) (p ∷ with_property n s ps)) t)) h
  | inr f ↦ subst ArePropertiesDistinct (sym (ap (λ b. cond b (record p { store = s } ∷ ps) (p ∷ with_property n s ps)) f)) (no_property_with p.name n s ps (names_sym p.name n ∙ f) h.0, properties_with n s ps h.1)
]

pub names_with : (n : PropName) (s : ℕ) (ps : List Property) → IsShort n.name → AreNamesShort ps → AreNamesShort (with_property n s ps)
names_with n s [] e h = (e, tt)
names_with n s (p ∷ ps) e h = by_choice_of_properties AreNamesShort (prop_name_eq n p.name) (record p { store = s } ∷ ps) (p ∷ with_property n s ps) h (h.0, names_with n s ps e h.1)

-- items

abbrev pub IsSoundItem : Item → Type 0
IsSoundItem (value c) = IsSoundContent c
IsSoundItem (link s) = Unit {0}

pub items_joined : (is js : List Item) → AreSoundItems is → AreSoundItems js → AreSoundItems (is ++ js)
items_joined [] js h k = k
items_joined (value c ∷ is) js h k = (h.0, items_joined is js h.1 k)
items_joined (link s ∷ is) js h k = items_joined is js h k

pub falling_joined : (is js : List Item) → AreSoundFalling is → AreSoundFalling js → AreSoundFalling (is ++ js)
falling_joined [] js h k = k
falling_joined (value c ∷ is) js h k = (h.0, falling_joined is js h.1 k)
falling_joined (link s ∷ is) js h k = falling_joined is js h k

pub fallen_sound : (i : Item) → IsSoundItem i → AreSoundFalling (fallen i)
fallen_sound (link s) h = tt
fallen_sound (value null) h = tt
fallen_sound (value (truth b)) h = tt
fallen_sound (value (int i)) h = tt
fallen_sound (value (text bytes)) h = tt
fallen_sound (value (array t)) h = (h, tt)
fallen_sound (value (object k)) h = (tt, tt)

one_more_sound : (i : Item) (is : List Item) → IsSoundItem i → AreSoundItems is → AreSoundItems (i ∷ is)
one_more_sound (value c) is h k = (h, k)
one_more_sound (link s) is h k = k

rest_sound : (is : List Item) → AreSoundItems is → AreSoundItems (rest_of is)
rest_sound [] h = tt
rest_sound (value c ∷ is) h = h.1
rest_sound (link s ∷ is) h = h

turned_sound : (n : ℕ) (is before : List Item) → AreSoundItems is → AreSoundItems before → AreSoundItems (turned n is before)
turned_sound zero is before h k = items_joined before is k h
turned_sound (suc n) [] before h k = k
turned_sound (suc n) (value c ∷ is) before h k = turned_sound n is (value c ∷ before) h.1 (h.0, k)
turned_sound (suc n) (link s ∷ is) before h k = turned_sound n is (link s ∷ before) h k

length_joined : (is js : List Item) → length (is ++ js) ≡ length is + length js
length_joined [] js = omega arith
length_joined (i ∷ is) js = omega (arith, length_joined is js)

turned_length : (n : ℕ) (is before : List Item) → length (turned n is before) ≡ length is + length before
turned_length zero is before = omega (arith, length_joined before is)
turned_length (suc n) [] before = omega arith
turned_length (suc n) (i ∷ is) before = omega (arith, turned_length n is (i ∷ before))

pub rest_shorter : (is : List Item) → length (rest_of is) ≤ length is
rest_shorter [] = omega arith
rest_shorter (i ∷ is) = omega arith

top_sound : (is : List Item) → AreSoundItems is → IsSoundItem (top_of is)
top_sound [] h = tt
top_sound (value c ∷ is) h = h.0
top_sound (link s ∷ is) h = tt

nth_sound : (is : List Item) (n : ℕ) → AreSoundItems is → IsSoundContent (content_if (nth_item is n))
nth_sound [] n h = tt
nth_sound (value c ∷ is) zero h = h.0
nth_sound (link s ∷ is) zero h = tt
nth_sound (value c ∷ is) (suc n) h = nth_sound is n h.1
nth_sound (link s ∷ is) (suc n) h = nth_sound is n h

with_nth_sound : (is : List Item) (n : ℕ) (c : Content) → AreSoundItems is → IsSoundContent c → AreSoundItems (with_nth_item is n (value c))
with_nth_sound [] n c h k = tt
with_nth_sound (value d ∷ is) zero c h k = (k, h.1)
with_nth_sound (link s ∷ is) zero c h k = (k, h)
with_nth_sound (value d ∷ is) (suc n) c h k = (h.0, with_nth_sound is n c h.1 k)
with_nth_sound (link s ∷ is) (suc n) c h k = with_nth_sound is n c h k

with_nth_length : (is : List Item) (n : ℕ) (j : Item) → length (with_nth_item is n j) ≡ length is
with_nth_length [] n j = refl
with_nth_length (i ∷ is) zero j = refl
with_nth_length (i ∷ is) (suc n) j = ap suc (with_nth_length is n j)

no_scope_sound : IsSoundScope no_scope
no_scope_sound = record { variables_distinct = tt; temps = tt; falling = tt; temps_within = omega arith }

no_object_sound : IsSoundObject no_object
no_object_sound = record { properties_distinct = tt; names_short = tt }

scope_if : (o : Option Scope) → ((f : Scope) → o ≡ Some f → IsSoundScope f) → IsSoundScope (unwrap_or o no_scope)
scope_if None h = no_scope_sound
scope_if (Some f) h = h f refl

object_if : (o : Option Object) → ((x : Object) → o ≡ Some x → IsSoundObject x) → IsSoundObject (unwrap_or o no_object)
object_if None h = no_object_sound
object_if (Some x) h = h x refl

content_if_sound : (o : Option Content) → ((c : Content) → o ≡ Some c → IsSoundContent c) → IsSoundContent (unwrap_or o null)
content_if_sound None h = tt
content_if_sound (Some c) h = h c refl

pub some_same : {X : Type 0} (P : X → Type 0) (x y : X) → Some x ≡ Some y → P x → P y
some_same P x y e h = let same : x ≡ y = cc in subst P same h

module _ (m : Mem) (formed : IsFormed m) where
  pub scope-sound : (b : ℕ) → IsSoundScope (scope_of m b)
  scope-sound b = scope_if (numbered m.blocks b) (formed.scopes b)

  pub object-sound : (h : ℕ) → IsSoundObject (object_of m h)
  object-sound h = object_if (numbered m.objects h) (formed.objects h)

  pub content-sound : (s : ℕ) → IsSoundContent (content_of m s)
  content-sound s = content_if_sound (numbered m.stores s) (formed.contents s)

  pub content_at-sound : (spot : Spot) → IsSoundContent (content_at m spot)
  content_at-sound (stored s) = content-sound s
  content_at-sound (standing b n) = nth_sound (scope_of m b).temps n (scope-sound b).temps

  pub with_scope-formed : (b : ℕ) (f : Scope) → IsSoundScope f → IsFormed (with_scope m b f)
  with_scope-formed b f h = record {
    frames_live = λ k c e. live-with m.blocks b f c (formed.frames_live k c e);
    frames_apart = formed.frames_apart;
    contents = formed.contents;
    objects = formed.objects;
    scopes = all-with IsSoundScope m.blocks b (Some f) (λ x e. some_same IsSoundScope f x e h) formed.scopes;
    object_numbers = formed.object_numbers;
    next_object_within = formed.next_object_within;
  }

  pub with_stores-formed : (xs : Numbered Content) → ((s : ℕ) (c : Content) → numbered xs s ≡ Some c → IsSoundContent c) → IsFormed (record m { stores = xs })
  with_stores-formed xs h = record {
    frames_live = formed.frames_live;
    frames_apart = formed.frames_apart;
    contents = h;
    objects = formed.objects;
    scopes = formed.scopes;
    object_numbers = formed.object_numbers;
    next_object_within = formed.next_object_within;
  }

  pub with_statics-formed : (xs : Numbered ℕ) → IsFormed (record m { statics = xs })
  with_statics-formed xs = record {
    frames_live = formed.frames_live;
    frames_apart = formed.frames_apart;
    contents = formed.contents;
    objects = formed.objects;
    scopes = formed.scopes;
    object_numbers = formed.object_numbers;
    next_object_within = formed.next_object_within;
  }

  pub with_store-formed : (s : ℕ) (o : Option Content) → ((c : Content) → o ≡ Some c → IsSoundContent c) → IsFormed (record m { stores = with_numbered m.stores s o })
  with_store-formed s o h = with_stores-formed (with_numbered m.stores s o) (all-with IsSoundContent m.stores s o h formed.contents)

  pub new_store-sound : (c : Content) → IsSoundContent c → (s : ℕ) (d : Content) → numbered (with_next m.stores c) s ≡ Some d → IsSoundContent d
  new_store-sound c h s d e = all-with IsSoundContent m.stores (length m.stores) (Some c) (λ x q. some_same IsSoundContent c x q h) formed.contents s d (ap (λ xs. numbered xs s) (sym (with_next-numbered m.stores c)) ∙ e)

  pub with_new_store-formed : (c : Content) → IsSoundContent c → IsFormed (with_new_store m c)
  with_new_store-formed c h = with_stores-formed (with_next m.stores c) (new_store-sound c h)

  pub with_content-formed : (spot : Spot) (c : Content) → IsSoundContent c → IsFormed (with_content m spot c)
  with_content-formed (stored s) c h = with_store-formed s (Some c) (λ x e. some_same IsSoundContent c x e h)
  with_content-formed (standing b n) c h =
      let f = scope_of m b in
      let p = scope-sound b in
      with_scope-formed b (record f { temps = with_nth_item f.temps n (value c) })
      (record { variables_distinct = p.variables_distinct; temps = with_nth_sound f.temps n c p.temps h; falling = p.falling; temps_within = omega (arith, p.temps_within, with_nth_length f.temps n (value c)) })

  pub with_temps-formed : (b : ℕ) (is : List Item) → AreSoundItems is → length is ≤ (scope_of m b).room → IsFormed (with_temps m b is)
  with_temps-formed b is h within = let p = scope-sound b in with_scope-formed b (record (scope_of m b) { temps = is }) (record { variables_distinct = p.variables_distinct; temps = h; falling = p.falling; temps_within = within })

  pub with_falling-formed : (b : ℕ) (is : List Item) → AreSoundFalling is → IsFormed (with_falling m b is)
  with_falling-formed b is h = let p = scope-sound b in with_scope-formed b (record (scope_of m b) { falling = is }) (record { variables_distinct = p.variables_distinct; temps = p.temps; falling = h; temps_within = p.temps_within })

  pub with_variables-formed : (b : ℕ) (vs : List Variable) → AreVariablesDistinct vs → IsFormed (with_scope m b (record (scope_of m b) { variables = vs }))
  with_variables-formed b vs h = let p = scope-sound b in with_scope-formed b (record (scope_of m b) { variables = vs }) (record { variables_distinct = h; temps = p.temps; falling = p.falling; temps_within = p.temps_within })

  pub pushed-formed : (b : ℕ) (i : Item) → IsSoundItem i → HasRoom m b → IsFormed (pushed m b i)
  pushed-formed b i h room = with_temps-formed b (i ∷ (scope_of m b).temps) (one_more_sound i (scope_of m b).temps h (scope-sound b).temps) (omega (arith, room))

  pub popped-formed : (b : ℕ) → IsFormed (popped m b)
  popped-formed b = let p = scope-sound b in with_temps-formed b (rest_of (scope_of m b).temps) (rest_sound (scope_of m b).temps p.temps) (omega (arith, p.temps_within, rest_shorter (scope_of m b).temps))

  pub top-sound : (b : ℕ) → IsSoundItem (top m b)
  top-sound b = top_sound (scope_of m b).temps (scope-sound b).temps

  pub let_fall-formed : (b : ℕ) (i : Item) → IsSoundItem i → IsFormed (let_fall m b i)
  let_fall-formed b i h = with_falling-formed b ((scope_of m b).falling ++ fallen i) (falling_joined (scope_of m b).falling (fallen i) (scope-sound b).falling (fallen_sound i h))

scalar_sound : (v : Scalar) → IsScalarWithin v → IsSoundContent (content_of_scalar v)
scalar_sound scalar.Null h = tt
scalar_sound (scalar.Bool b) h = tt
scalar_sound (scalar.Int i) h = h
scalar_sound (scalar.Str bytes) h = h

pub room_after_pop : (m : Mem) (b c : ℕ) → HasRoom m c → HasRoom (popped m b) c
room_after_pop m b c h = elim (eqb_tells c b) [
  | inl e ↦ (let f : scope_of (popped m b) c ≡ record (scope_of m c) { temps = rest_of (scope_of m c).temps } = ap (scope_of (popped m b)) e.1 ∙ ap (λ o. unwrap_or o no_scope) (numbered-with_same m.blocks b (Some (record (scope_of m b) { temps = rest_of (scope_of m b).temps }))) ∙ ap (λ x. record (scope_of m x) { temps = rest_of (scope_of m x).temps }) (sym e.1) in subst (λ (x : Scope). length x.temps < x.room) (sym f) (omega (arith, h, rest_shorter (scope_of m c).temps)))
  | inr e ↦ (let f : scope_of (popped m b) c ≡ scope_of m c = ap (λ o. unwrap_or o no_scope) (numbered-with_other m.blocks b c (Some (record (scope_of m b) { temps = rest_of (scope_of m b).temps })) e.1) in subst (λ (x : Scope). length x.temps < x.room) (sym f) h)
]

module _ (m : Mem) (formed : IsFormed m) where
  pub enter-formed : (b room : ℕ) → IsFormed (enter m b room)
  unfolding enter
  enter-formed b room = with_scope-formed m formed b (record no_scope { room = room }) (record { variables_distinct = tt; temps = tt; falling = tt; temps_within = omega arith })

  pub leave-formed : (b : ℕ) → CanLeave b m → IsFormed (leave m b)
  unfolding leave
  leave-formed b can = record {
    frames_live = λ k c e. ap is_some (numbered-with_other m.blocks b c None (λ d. can.no_frame k (e ∙ ap Some d))) ∙ formed.frames_live k c e;
    frames_apart = formed.frames_apart;
    contents = formed.contents;
    objects = formed.objects;
    scopes = all-with IsSoundScope m.blocks b None (λ x e. absurd (nothing x e)) formed.scopes;
    object_numbers = formed.object_numbers;
    next_object_within = formed.next_object_within;
  }
    where
      nothing : (x : Scope) → None ≡ Some x → ⊥
      nothing x e = cc

  pub push-formed : (b : ℕ) (v : Scalar) → CanPush b v m → IsFormed (push m b v)
  unfolding push
  push-formed b v can = pushed-formed m formed b (value (content_of_scalar v)) (scalar_sound v can.within) can.room

  pub push_array-formed : (b : ℕ) → CanPushArray b m → IsFormed (push_array m b)
  unfolding push_array
  push_array-formed b can = pushed-formed m formed b (value (array no_entries)) (no_entries-sound, tt) can.room

  pub push_object-formed : (b h : ℕ) → CanPushObject b h m → IsFormed (push_object m b h)
  unfolding push_object
  push_object-formed b h can = pushed-formed m formed b (value (object h)) tt can.room

  pub text_on_top-formed : (b : ℕ) (i : Item) (bytes : List ℕ) → nth_item (scope_of m b).temps 0 ≡ Some i → IsShort bytes → IsFormed (with_top m b (value (text bytes)))
  text_on_top-formed b i bytes e short =
      let p = scope-sound m formed b in
      with_temps-formed m formed b (value (text bytes) ∷ rest_of (scope_of m b).temps) (short, rest_sound (scope_of m b).temps p.temps)
      (omega (arith, p.temps_within, same_length (scope_of m b).temps i (value (text bytes)) e))

  pub turn-formed : (b n : ℕ) → IsFormed (turn m b n)
  unfolding turn
  turn-formed b n =
      let p = scope-sound m formed b in
      let is = (scope_of m b).temps in
      with_temps-formed m formed b (turned n is []) (turned_sound n is [] p.temps tt) (omega (arith, p.temps_within, turned_length n is []))

  pub reserve-formed : (b n : ℕ) → IsFormed (reserve m b n)
  unfolding reserve
  reserve-formed b n =
      let p = scope-sound m formed b in
      with_scope-formed m formed b (record (scope_of m b) { room = (scope_of m b).room + n }) (record { variables_distinct = p.variables_distinct; temps = p.temps; falling = p.falling; temps_within = omega (arith, p.temps_within) })

  pub pass-formed : (b c : ℕ) → CanPass b c m → IsFormed (pass m b c)
  unfolding pass
  pass-formed b c can = pushed-formed (popped m b) (popped-formed m formed b) c (top m b) (top-sound m formed b) (room_after_pop m b c can.room)

  pub drop_top-formed : (b : ℕ) → IsFormed (drop_top m b)
  unfolding drop_top
  drop_top-formed b = let_fall-formed (popped m b) (popped-formed m formed b) b (top m b) (top-sound m formed b)
