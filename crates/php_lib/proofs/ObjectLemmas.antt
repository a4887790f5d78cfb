-- A walk over the properties of a sound object.
use Rattle.std.proofs.Common.{◌≡◌, inl, inr, ℕ, zero, suc, ◌+◌, ◌<◌, ◌≤◌, refl, sym, ◌∙◌, ap, List, [], ◌∷◌, drop, length, Bor, Option, Some, None, Ok, Err, arith, subst}
use Rattle.std.specs.Prelude.{Bool, true, false, ◌&&◌, nat_eq, cond, option_map, is_some, unwrap_or, option_copied}
use Rattle.std.specs.Ordering.{nat_cmp}
use Rattle.std.specs.Cmp.Lexicographic.{pointwise}
use Rattle.std.specs.Cmp.{nat_cmp_is}
use Rattle.std.specs.declared.cmp.Ordering.TheVariants.{Less as Below, Equal, Greater}
use Rattle.std.proofs.lemmas.Bool.{cases_Bool, eq-eqb}
use Rattle.php_value.specs.declared.key.Key.TheVariants.{Str as TextKey}
use Rattle.php_value.specs.declared.ordering.Order.TheVariants.{Less, Same, More}
use Rattle.php_value.specs.Comparison.{order_by, order_of_bools, is_same}
use Rattle.php_entries.proofs.KeyLemmas.{key_eq-self, key_eq-sym_false}
use Rattle.php_memdef.specs.declared.place.Seen.{Seen}
use Rattle.php_memdef.specs.declared.place.Seen.TheVariants.{Public, Protected, Private}
use Rattle.php_memdef.specs.declared.place.PropName.{PropName}
use Rattle.php_memdef.specs.declared.names.Obj.{Obj}
use Rattle.php_memdef.specs.Numbered.{numbered}
use Rattle.php_memdef.specs.Contents.{Content, Property, Object, Mem, content_of, object_of, no_object}
use Rattle.php_memdef.specs.Places.{seen_eq, prop_name_eq, property_store, stored_if, find_place}
use Rattle.php_memdef.specs.Objects.{nth_property, property_name}
use Rattle.php_memdef.specs.Views.{content_if_found, found}
use Rattle.php_memdef.specs.Sound.{HasNoProperty, ArePropertiesDistinct, AreNamesShort, IsShort, IsSoundObject, IsSound}
use Rattle.php_memdef.specs.Conditions.{IsPlace}
use Rattle.php_memdef.specs.Meanings.{SomeMeant, EachMeant}
use Rattle.php_value.specs.declared.fault.Stopped.{Stopped}
use Rattle.php_value.specs.declared.ordering.Order.{Order}
use Rattle.php_memdef.specs.declared.place.Place.{Place}
use Rattle.php_compare.specs.Outcomes.{Compared, unless_same}
use Rattle.php_compare.specs.Ordering.{order_nested, order_of_pairs, property_pairs}
use Rattle.php_lib.specs.Answers.{ComesTo}
use Rattle.php_lib.proofs.OutcomeLemmas.{comes_along, stops_first, decides_first, goes_on, pair_first}
use Rattle.php_lib.specs.Comparing.{property_of, order_of_found, CanCompare, CanCompareObjects}

-- names

seen_self : (a : Seen) → seen_eq a a ≡ true
seen_self Public = refl
seen_self Protected = refl
seen_self (Private n) = eq-eqb n n refl

name_self : (p : PropName) → prop_name_eq p p ≡ true
name_self p = ap (λ (b : Bool). b && seen_eq p.seen p.seen) (key_eq-self (TextKey p.name)) ∙ seen_self p.seen

seen_apart : (a b : Seen) → seen_eq a b ≡ false → seen_eq b a ≡ false
seen_apart Public Public h = h
seen_apart Public Protected h = refl
seen_apart Public (Private n) h = refl
seen_apart Protected Public h = refl
seen_apart Protected Protected h = h
seen_apart Protected (Private n) h = refl
seen_apart (Private k) Public h = refl
seen_apart (Private k) Protected h = refl
seen_apart (Private k) (Private n) h = numbers k n h
  where
    numbers : (k n : ℕ) → nat_eq k n ≡ false → nat_eq n k ≡ false
    numbers k n h = grind arith

and_false : (b : Bool) → b && false ≡ false
and_false true = refl
and_false false = refl

name_apart : (p q : PropName) → prop_name_eq p q ≡ false → prop_name_eq q p ≡ false
name_apart p q h = elim (cases_Bool (pointwise nat_eq p.name q.name)) [
  | inl t ↦ (let seen : seen_eq p.seen q.seen ≡ false = sym (ap (λ (b : Bool). b && seen_eq p.seen q.seen) t) ∙ h in ap (λ (b : Bool). pointwise nat_eq q.name p.name && b) (seen_apart p.seen q.seen seen) ∙ and_false (pointwise nat_eq q.name p.name))
  | inr t ↦ ap (λ (b : Bool). b && seen_eq q.seen p.seen) (key_eq-sym_false (TextKey p.name) (TextKey q.name) t)
]

-- the n-th property is the one of its name, and the rest comes behind it

some_name : (p q : PropName) → Some p ≡ Some q → p ≡ q
some_name p q h = cc

no_name : (q : PropName) → None ≡ Some q → ⊥
no_name q h = cc

a_name : (q : PropName) → Some q ≡ None → ⊥
a_name q h = cc

pub record Next (ps : List Property) (n : ℕ) (name : PropName) : Type 0 where
  pub property : Property
  pub is_first : drop n ps ≡ property ∷ drop (n + 1) ps
  pub name_is : property.name ≡ name
  pub store_is : property_store ps name ≡ Some property.store
  pub short : IsShort name.name

has_no_property : (x : PropName) (ps : List Property) (n : ℕ) (name : PropName) → HasNoProperty x ps → nth_property ps n ≡ Some name → prop_name_eq x name ≡ false
has_no_property x [] n name none e = absurd (no_name name e)
has_no_property x (p ∷ ps) zero name none e = subst (λ (q : PropName). prop_name_eq x q ≡ false) (some_name p.name name e) none.0
has_no_property x (p ∷ ps) (suc n) name none e = has_no_property x ps n name none.1 e

pub next_property : (ps : List Property) (n : ℕ) (name : PropName) → ArePropertiesDistinct ps → AreNamesShort ps → nth_property ps n ≡ Some name → Next ps n name
next_property [] n name distinct short e = absurd (no_name name e)
next_property (p ∷ ps) zero name distinct short e =
    let same : p.name ≡ name = some_name p.name name e in
    record {
      property = p;
      is_first = refl;
      name_is = same;
      store_is = subst (λ (q : PropName). property_store (p ∷ ps) q ≡ Some p.store) same (ap (λ (b : Bool). cond b (Some p.store) (property_store ps p.name)) (name_self p.name));
      short = subst (λ (q : PropName). IsShort q.name) same short.0;
    }
next_property (p ∷ ps) (suc n) name distinct short e =
    let rest : Next ps n name = next_property ps n name distinct.1 short.1 e in
    let apart : prop_name_eq name p.name ≡ false = name_apart p.name name (has_no_property p.name ps n name distinct.0 e) in
    record {
      property = rest.property;
      is_first = rest.is_first ∙ ap (λ (k : ℕ). rest.property ∷ drop k (p ∷ ps)) (let step : suc (n + 1) ≡ suc n + 1 = omega arith in step);
      name_is = rest.name_is;
      store_is = ap (λ (b : Bool). cond b (Some p.store) (property_store ps name)) apart ∙ rest.store_is;
      short = rest.short;
    }

pub no_more_properties : (ps : List Property) (n : ℕ) → nth_property ps n ≡ None → drop n ps ≡ []
no_more_properties [] zero e = refl
no_more_properties [] (suc n) e = refl
no_more_properties (p ∷ ps) zero e = absurd (a_name p.name e)
no_more_properties (p ∷ ps) (suc n) e = no_more_properties ps n e

-- how many there are

-- a look at a reference tells whether its value is there
pub copied_is_some : (r : Option (Bor PropName)) (o : Option PropName) (b : Bool) → option_copied r ≡ o → b ≡ is_some r → b ≡ is_some o
copied_is_some None o b e f = f ∙ ap is_some e
copied_is_some (Some x) o b e f = f ∙ ap is_some e

pub there_is_one : (ps : List Property) (n : ℕ) → is_some (nth_property ps n) ≡ true → n < length ps
there_is_one [] n e = absurd (let no : ⊥ = cc in no)
there_is_one (p ∷ ps) zero e = omega arith
there_is_one (p ∷ ps) (suc n) e = let rest = there_is_one ps n e in omega (arith, rest)

pub there_is_none : (ps : List Property) (n : ℕ) → is_some (nth_property ps n) ≡ false → length ps ≤ n
there_is_none [] n e = omega arith
there_is_none (p ∷ ps) zero e = absurd (let no : ⊥ = cc in no)
there_is_none (p ∷ ps) (suc n) e = let rest = there_is_none ps n e in omega (arith, rest)

less_count : (x y : ℕ) → x < y → Less ≡ order_by (nat_cmp x y)
less_count x y h = ap order_by (nat_cmp_is x y Below h)

same_counts : (x y : ℕ) → x ≡ y → Same ≡ order_by (nat_cmp x y)
same_counts x y h = ap order_by (nat_cmp_is x y Equal h)

more_count : (x y : ℕ) → y < x → More ≡ order_by (nat_cmp x y)
more_count x y h = ap order_by (nat_cmp_is x y Greater h)

pub left_has_none : (ps qs : List Property) (n : ℕ) (b : Bool) → n ≤ length ps → n ≤ length qs → is_some (nth_property ps n) ≡ false → is_some (nth_property qs n) ≡ b → order_of_bools false b ≡ order_by (nat_cmp (length ps) (length qs))
left_has_none ps qs n true h k e f = let none = there_is_none ps n e in let some = there_is_one qs n f in less_count (length ps) (length qs) (omega arith)
left_has_none ps qs n false h k e f = let none = there_is_none ps n e in let none_too = there_is_none qs n f in same_counts (length ps) (length qs) (omega arith)

pub right_has_none : (ps qs : List Property) (n : ℕ) → n ≤ length qs → is_some (nth_property ps n) ≡ true → is_some (nth_property qs n) ≡ false → More ≡ order_by (nat_cmp (length ps) (length qs))
right_has_none ps qs n h e f = let some = there_is_one ps n e in let none = there_is_none qs n f in more_count (length ps) (length qs) (omega arith)

-- objects of a sound memory

object_sound : (m : Mem) (h : ℕ) (o : Option Object) → numbered m.objects h ≡ o → IsSound m → IsSoundObject (unwrap_or o no_object)
object_sound m h None e sound = record { properties_distinct = tt; names_short = tt }
object_sound m h (Some o) e sound = sound.formed.objects h o e

pub sound_object : (m : Mem) (h : ℕ) → IsSound m → IsSoundObject (object_of m h)
sound_object m h sound = object_sound m h (numbered m.objects h) refl sound

pub next_of : (m : Mem) (h n : ℕ) (name : PropName) → IsSound m → property_name m h n ≡ Some name → Next (object_of m h).properties n name
next_of m h n name sound e = let o : IsSoundObject (object_of m h) = sound_object m h sound in next_property (object_of m h).properties n name o.properties_distinct o.names_short e

store_shown : (m : Mem) (o : Option ℕ) → content_if_found m (stored_if o) ≡ option_map (content_of m) o
store_shown m None = refl
store_shown m (Some s) = refl

pub found_property : (m : Mem) (h : Obj) (name : PropName) → found m (property_of h name) ≡ option_map (content_of m) (property_store (object_of m h.0).properties name)
unfolding find_place
found_property m h name = store_shown m (property_store (object_of m h.0).properties name)

-- one turn of the walk over the properties of two objects
module _ (m : Mem) (n : ℕ) (g h : Obj) (at : ℕ) (name : PropName) (sound : IsSound m) (shown : Some name ≡ property_name m g.0 at) where
  abbrev inner : Content → Content → Compared
  inner = order_nested m n

  abbrev ps : List Property
  ps = (object_of m g.0).properties

  abbrev qs : List Property
  qs = (object_of m h.0).properties

  abbrev rest : ℕ → Compared
  rest k = order_of_pairs inner m (property_pairs (drop k ps) qs)

  module _ (pl pr : Place) (pl_is : pl ≡ property_of g name) (pr_is : pr ≡ property_of h name) (over_all : order_of_pairs inner m (property_pairs ps qs) ≡ rest at) where
    abbrev told : Compared
    told = order_of_found inner (found m pl) (found m pr)

    all : order_of_pairs inner m (property_pairs ps qs) ≡ unless_same told (rest (at + 1))
    all =
        let next : Next ps at name = next_of m g.0 at name sound (sym shown) in
        let p : Property = next.property in
        let left : Some (content_of m p.store) ≡ found m pl = sym (ap (found m) pl_is ∙ found_property m g name ∙ ap (option_map (content_of m)) next.store_is) in
        let right : option_map (content_of m) (property_store qs p.name) ≡ found m pr = sym (ap (found m) pr_is ∙ found_property m h name ∙ ap (λ (x : PropName). option_map (content_of m) (property_store qs x)) (sym next.name_is)) in
        over_all
        ∙ ap (λ (xs : List Property). order_of_pairs inner m (property_pairs xs qs)) next.is_first
        ∙ pair_first inner m p.store (property_store qs p.name) (property_pairs (drop (at + 1) ps) qs)
        ∙ λ i. unless_same (order_of_found inner (left i) (right i)) (rest (at + 1))

    pub property_decides : (o : Order) → Ok o ≡ told → is_same o ≡ false → Ok o ≡ order_of_pairs inner m (property_pairs ps qs)
    property_decides o e d = decides_first o told (rest (at + 1)) e d ∙ sym all

    pub property_stops : (s : Stopped) → ComesTo {A = Order} (Err s) told → ComesTo {A = Order} (Err s) (order_of_pairs inner m (property_pairs ps qs))
    property_stops s e = comes_along (Err s) (unless_same told (rest (at + 1))) (order_of_pairs inner m (property_pairs ps qs)) (stops_first s told (rest (at + 1)) e) (sym all)

    pub property_same : (o : Order) → Ok o ≡ told → is_same o ≡ true → order_of_pairs inner m (property_pairs ps qs) ≡ rest (at + 1)
    property_same o e d = all ∙ goes_on o told (rest (at + 1)) e d

pub can_look_at : (Means : Mem → Type 0) (g h : Obj) (n : ℕ) (name : PropName) (l r : Place) → SomeMeant Means (CanCompareObjects g.0 h.0) → EachMeant Means (λ m. Some name ≡ property_name m g.0 n) → l ≡ property_of g name → r ≡ property_of h name → SomeMeant Means (CanCompare l r)
can_look_at Means g h n name l r can shown l_is r_is =
    let m : Mem = can.0 in
    let next : Next (object_of m g.0).properties n name = next_of m g.0 n name can.2.sound (sym (shown m can.1)) in (
      m,
      can.1,
      record {
        sound = can.2.sound;
        left = subst (IsPlace m) (sym l_is) ((can.2.left, next.short), tt);
        right = subst (IsPlace m) (sym r_is) ((can.2.right, next.short), tt);
      },
    )
