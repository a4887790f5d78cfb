-- Comparison in memories that differ in the numbers of their stores alone.
use Rattle.std.proofs.Common.{◌≡◌, ℕ, zero, suc, refl, ◌∙◌, ap, List, [], ◌∷◌, length, Option, Some, None, Ok}
use Rattle.std.specs.Prelude.{Bool, true, false, nat_eq, nat_lt, cond, option_map}
use Rattle.std.specs.Ordering.{nat_cmp}
use Rattle.php_value.specs.Comparison.{order_by}
use Rattle.php_value.specs.declared.key.Key.{Key}
use Rattle.php_value.specs.declared.ordering.Order.TheVariants.{Same, Apart}
use Rattle.php_entries.specs.Keys.{key_eq}
use Rattle.php_entries.specs.Listing.{Entry, Listing, value_at, count_of, entry_at}
use Rattle.php_entries.specs.Changes.{map_entry, map_entries, map_listing}
use Rattle.php_entries.proofs.MapLemmas.{entry_at-map}
use Rattle.php_memdef.specs.declared.place.PropName.{PropName}
use Rattle.php_memdef.specs.declared.place.Place.{Place}
use Rattle.php_memdef.specs.Contents.{Content, null, truth, int, text, array, object, Property, Object, Mem, content_of, object_of}
use Rattle.php_memdef.specs.Places.{prop_name_eq, property_store}
use Rattle.php_memdef.specs.Views.{found}
use Rattle.php_memdef.specs.Alike.{map_if, renamed_content, renamed_properties, renamed_object, IsRenamed}
use Rattle.php_memdef_laws.proofs.Alike.Memories.{content_of-renamed, object_of-renamed}
use Rattle.php_memdef_laws.proofs.Alike.Views.{found-renamed}
use Rattle.php_compare.specs.Outcomes.{Compared, Identified, unless_same, and_then}
use Rattle.php_compare.specs.Ordering.{truth_of, of_bools, Pairs, element_pairs, property_pairs, order_of_pairs, order_of_parts, order_of_arrays, order_of_members, order_of_objects, order_by_rules, order_nested}
use Rattle.php_compare.specs.Identity.{same_entries, same_arrays, same_by_rules, same_nested}
use Rattle.php_compare.specs.Places.{or_null}

module _ (to : ℕ → ℕ) where
  abbrev re : Content → Content
  re c = renamed_content to c

  value_of-renamed : (o : Option (Entry ℕ)) → option_map (λ (e : Entry ℕ). e.value) (option_map (map_entry to) o) ≡ map_if to (option_map (λ (e : Entry ℕ). e.value) o)
  value_of-renamed None = refl
  value_of-renamed (Some e) = refl

  value_at-renamed : (t : Listing ℕ) (k : Key) → value_at (map_listing to t) k ≡ map_if to (value_at t k)
  value_at-renamed t k = ap (λ (o : Option (Entry ℕ)). option_map (λ (e : Entry ℕ). e.value) o) (entry_at-map to t k) ∙ value_of-renamed (entry_at t k)

  count-renamed : (es : List (Entry ℕ)) → length (map_entries to es) ≡ length es
  count-renamed [] = refl
  count-renamed (e ∷ es) = ap suc (count-renamed es)

  properties-renamed : (ps : List Property) → length (renamed_properties to ps) ≡ length ps
  properties-renamed [] = refl
  properties-renamed (p ∷ ps) = ap suc (properties-renamed ps)

  cond_map : (b : Bool) (x y : Option ℕ) → cond b (map_if to x) (map_if to y) ≡ map_if to (cond b x y)
  cond_map true x y = refl
  cond_map false x y = refl

  property_store-renamed : (ps : List Property) (name : PropName) → property_store (renamed_properties to ps) name ≡ map_if to (property_store ps name)
  property_store-renamed [] name = refl
  property_store-renamed (p ∷ ps) name =
      ap (λ (o : Option ℕ). cond (prop_name_eq name p.name) (Some (to p.store)) o) (property_store-renamed ps name)
      ∙ cond_map (prop_name_eq name p.name) (Some p.store) (property_store ps name)

  abbrev renamed_pairs : Pairs → Pairs
  renamed_pairs [] = []
  renamed_pairs ((s, o) ∷ pairs) = (to s, map_if to o) ∷ renamed_pairs pairs

  element_pairs-renamed : (es : List (Entry ℕ)) (t : Listing ℕ) → element_pairs (map_entries to es) (map_listing to t) ≡ renamed_pairs (element_pairs es t)
  element_pairs-renamed [] t = refl
  element_pairs-renamed (e ∷ es) t =
      let here = value_at-renamed t e.key in
      let rest = element_pairs-renamed es t in
      λ i. (to e.value, here i) ∷ rest i

  property_pairs-renamed : (ps qs : List Property) → property_pairs (renamed_properties to ps) (renamed_properties to qs) ≡ renamed_pairs (property_pairs ps qs)
  property_pairs-renamed [] qs = refl
  property_pairs-renamed (p ∷ ps) qs =
      let here = property_store-renamed qs p.name in
      let rest = property_pairs-renamed ps qs in
      λ i. (to p.store, here i) ∷ rest i

  truth-renamed : (t : Listing ℕ) → truth_of (array (map_listing to t)) ≡ truth_of (array t)
  truth-renamed t = ap (λ (k : ℕ). nat_lt 0 k) (count-renamed t.entries)

  or_null-renamed : (o : Option Content) → or_null (map_if (renamed_content to) o) ≡ re (or_null o)
  or_null-renamed None = refl
  or_null-renamed (Some c) = refl

module _ (to back : ℕ → ℕ) (m n : Mem) (r : IsRenamed to back m n) where
  abbrev new : Content → Content
  new c = renamed_content to c

  module _ (inner within : Content → Content → Compared) (same : (c d : Content) → within (new c) (new d) ≡ inner c d) where
    pairs-renamed : (pairs : Pairs) → order_of_pairs within n (renamed_pairs to pairs) ≡ order_of_pairs inner m pairs
    pairs-renamed [] = refl
    pairs-renamed ((s, None) ∷ pairs) = refl
    pairs-renamed ((s, Some t) ∷ pairs) =
        let left = content_of-renamed to back m n r s in
        let right = content_of-renamed to back m n r t in
        let here : within (content_of n (to s)) (content_of n (to t)) ≡ inner (content_of m s) (content_of m t) = (λ i. within (left i) (right i)) ∙ same (content_of m s) (content_of m t) in
        let rest = pairs-renamed pairs in
        λ i. unless_same (here i) (rest i)

    parts-renamed : (x y a b : ℕ) (old pairs : Pairs) → x ≡ a → y ≡ b → pairs ≡ renamed_pairs to old → order_of_parts within n x y pairs ≡ order_of_parts inner m a b old
    parts-renamed x y a b old pairs e f h =
        let rest = ap (order_of_pairs within n) h ∙ pairs-renamed old in
        λ i. unless_same (Ok (order_by (nat_cmp (e i) (f i)))) (rest i)

    arrays-renamed : (s t : Listing ℕ) → order_of_arrays within n (map_listing to s) (map_listing to t) ≡ order_of_arrays inner m s t
    arrays-renamed s t = parts-renamed (count_of (map_listing to s)) (count_of (map_listing to t)) (count_of s) (count_of t) (element_pairs s.entries t) (element_pairs (map_entries to s.entries) (map_listing to t)) (count-renamed to s.entries) (count-renamed to t.entries) (element_pairs-renamed to s.entries t)

    members-renamed : (o p : Object) → order_of_members within n (renamed_object to o) (renamed_object to p) ≡ order_of_members inner m o p
    members-renamed o p = ap (λ (x : Compared). cond (nat_eq o.class p.class) x (Ok Apart)) (parts-renamed (length (renamed_properties to o.properties)) (length (renamed_properties to p.properties)) (length o.properties) (length p.properties) (property_pairs o.properties p.properties) (property_pairs (renamed_properties to o.properties) (renamed_properties to p.properties)) (properties-renamed to o.properties) (properties-renamed to p.properties) (property_pairs-renamed to o.properties p.properties))

    objects-renamed : (g h : ℕ) → order_of_objects within n g h ≡ order_of_objects inner m g h
    objects-renamed g h =
        let left = object_of-renamed to back m n r g in
        let right = object_of-renamed to back m n r h in
        ap (λ (x : Compared). cond (nat_eq g h) (Ok Same) x) ((λ i. order_of_members within n (left i) (right i)) ∙ members-renamed (object_of m g) (object_of m h))

    rules-renamed : (c d : Content) → order_by_rules within n (new c) (new d) ≡ order_by_rules inner m c d
    rules-renamed null null = refl
    rules-renamed null (truth b) = refl
    rules-renamed null (int j) = refl
    rules-renamed null (text t) = refl
    rules-renamed null (array y) = ap (of_bools false) (truth-renamed to y)
    rules-renamed null (object h) = refl
    rules-renamed (truth a) null = refl
    rules-renamed (truth a) (truth b) = refl
    rules-renamed (truth a) (int j) = refl
    rules-renamed (truth a) (text t) = refl
    rules-renamed (truth a) (array y) = ap (of_bools a) (truth-renamed to y)
    rules-renamed (truth a) (object h) = refl
    rules-renamed (int i) null = refl
    rules-renamed (int i) (truth b) = refl
    rules-renamed (int i) (int j) = refl
    rules-renamed (int i) (text t) = refl
    rules-renamed (int i) (array y) = refl
    rules-renamed (int i) (object h) = refl
    rules-renamed (text s) null = refl
    rules-renamed (text s) (truth b) = refl
    rules-renamed (text s) (int j) = refl
    rules-renamed (text s) (text t) = refl
    rules-renamed (text s) (array y) = refl
    rules-renamed (text s) (object h) = refl
    rules-renamed (array x) null = ap (λ (v : Bool). of_bools v false) (truth-renamed to x)
    rules-renamed (array x) (truth b) = ap (λ (v : Bool). of_bools v b) (truth-renamed to x)
    rules-renamed (array x) (int j) = refl
    rules-renamed (array x) (text t) = refl
    rules-renamed (array x) (array y) = arrays-renamed x y
    rules-renamed (array x) (object h) = refl
    rules-renamed (object g) null = refl
    rules-renamed (object g) (truth b) = refl
    rules-renamed (object g) (int j) = refl
    rules-renamed (object g) (text t) = refl
    rules-renamed (object g) (array y) = refl
    rules-renamed (object g) (object h) = objects-renamed g h

  order-renamed : (k : ℕ) (c d : Content) → order_nested n k (new c) (new d) ≡ order_nested m k c d
  unfolding order_nested
  order-renamed zero c d = refl
  order-renamed (suc k) c d = rules-renamed (order_nested m k) (order_nested n k) (order-renamed k) c d

  pub order_at-renamed : (k : ℕ) (p q : Place) → order_nested n k (or_null (found n p)) (or_null (found n q)) ≡ order_nested m k (or_null (found m p)) (or_null (found m q))
  order_at-renamed k p q =
      let left = ap or_null (found-renamed to back m n r p) ∙ or_null-renamed to (found m p) in
      let right = ap or_null (found-renamed to back m n r q) ∙ or_null-renamed to (found m q) in
      (λ i. order_nested n k (left i) (right i)) ∙ order-renamed k (or_null (found m p)) (or_null (found m q))

  module _ (inner within : Content → Content → Identified) (same : (c d : Content) → within (new c) (new d) ≡ inner c d) where
    entries-renamed : (es fs : List (Entry ℕ)) → same_entries within n (map_entries to es) (map_entries to fs) ≡ same_entries inner m es fs
    entries-renamed [] [] = refl
    entries-renamed [] (f ∷ fs) = refl
    entries-renamed (e ∷ es) [] = refl
    entries-renamed (e ∷ es) (f ∷ fs) =
        let left = content_of-renamed to back m n r e.value in
        let right = content_of-renamed to back m n r f.value in
        let here : within (content_of n (to e.value)) (content_of n (to f.value)) ≡ inner (content_of m e.value) (content_of m f.value) = (λ i. within (left i) (right i)) ∙ same (content_of m e.value) (content_of m f.value) in
        let rest = entries-renamed es fs in
        λ i. and_then (Ok (key_eq e.key f.key)) (and_then (here i) (rest i))

    same_arrays-renamed : (s t : Listing ℕ) → same_arrays within n (map_listing to s) (map_listing to t) ≡ same_arrays inner m s t
    same_arrays-renamed s t =
        let left = count-renamed to s.entries in
        let right = count-renamed to t.entries in
        let rest = entries-renamed s.entries t.entries in
        λ i. and_then (Ok (nat_eq (left i) (right i))) (rest i)

    same_rules-renamed : (c d : Content) → same_by_rules within n (new c) (new d) ≡ same_by_rules inner m c d
    same_rules-renamed null null = refl
    same_rules-renamed null (truth b) = refl
    same_rules-renamed null (int j) = refl
    same_rules-renamed null (text t) = refl
    same_rules-renamed null (array y) = refl
    same_rules-renamed null (object h) = refl
    same_rules-renamed (truth a) null = refl
    same_rules-renamed (truth a) (truth b) = refl
    same_rules-renamed (truth a) (int j) = refl
    same_rules-renamed (truth a) (text t) = refl
    same_rules-renamed (truth a) (array y) = refl
    same_rules-renamed (truth a) (object h) = refl
    same_rules-renamed (int i) null = refl
    same_rules-renamed (int i) (truth b) = refl
    same_rules-renamed (int i) (int j) = refl
    same_rules-renamed (int i) (text t) = refl
    same_rules-renamed (int i) (array y) = refl
    same_rules-renamed (int i) (object h) = refl
    same_rules-renamed (text s) null = refl
    same_rules-renamed (text s) (truth b) = refl
    same_rules-renamed (text s) (int j) = refl
    same_rules-renamed (text s) (text t) = refl
    same_rules-renamed (text s) (array y) = refl
    same_rules-renamed (text s) (object h) = refl
    same_rules-renamed (array x) null = refl
    same_rules-renamed (array x) (truth b) = refl
    same_rules-renamed (array x) (int j) = refl
    same_rules-renamed (array x) (text t) = refl
    same_rules-renamed (array x) (array y) = same_arrays-renamed x y
    same_rules-renamed (array x) (object h) = refl
    same_rules-renamed (object g) null = refl
    same_rules-renamed (object g) (truth b) = refl
    same_rules-renamed (object g) (int j) = refl
    same_rules-renamed (object g) (text t) = refl
    same_rules-renamed (object g) (array y) = refl
    same_rules-renamed (object g) (object h) = refl

  same-renamed : (k : ℕ) (c d : Content) → same_nested n k (new c) (new d) ≡ same_nested m k c d
  unfolding same_nested
  same-renamed zero c d = refl
  same-renamed (suc k) c d = same_rules-renamed (same_nested m k) (same_nested n k) (same-renamed k) c d

  pub same_at-renamed : (k : ℕ) (p q : Place) → same_nested n k (or_null (found n p)) (or_null (found n q)) ≡ same_nested m k (or_null (found m p)) (or_null (found m q))
  same_at-renamed k p q =
      let left = ap or_null (found-renamed to back m n r p) ∙ or_null-renamed to (found m p) in
      let right = ap or_null (found-renamed to back m n r q) ∙ or_null-renamed to (found m q) in
      (λ i. same_nested n k (left i) (right i)) ∙ same-renamed k (or_null (found m p)) (or_null (found m q))
