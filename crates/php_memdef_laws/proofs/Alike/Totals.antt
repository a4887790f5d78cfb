-- Counts over the whole of memories that differ in the numbers of their stores.
use Rattle.std.proofs.Common.{◌≡◌, ℕ, zero, suc, ◌+◌, List, [], ◌∷◌, ◌++◌, map, length, refl, sym, ◌∙◌, ap, arith, ◌⊎◌, inl, inr, cond}
use Rattle.std.specs.Prelude.{nat_eq, nat_le, Option, Some, None}
use Rattle.std.proofs.lemmas.Bool.Decides.{eqb_tells}
use Rattle.php_entries.specs.Listing.{Entry}
use Rattle.php_entries.specs.Changes.{map_entries}
use Rattle.php_memdef.specs.Numbered.{Numbered, numbered, with_numbered, weight_if, total, live_count}
use Rattle.php_memdef.specs.Contents.{Content, null, truth, int, text, array, object, Item, value, link, Variable, Scope, Property, Mem, scope_of}
use Rattle.php_memdef.specs.Holders.{times, stores_of_entries, stores_of_content, stores_of_item, stores_of_items, stores_of_variables, stores_of_scope, stores_of_properties, stores_of_object, holders, is_shared, handles_of_content, handles_of_items, handles_of_scope, object_holders}
use Rattle.php_memdef.specs.Releases.{values_of, turns}
use Rattle.php_memdef.specs.Alike.{map_if, renamed_content, renamed_item, renamed_items, renamed_variables, renamed_scope, renamed_properties, renamed_object, IsRenamed}
use Rattle.php_memdef_laws.proofs.NumberedLemmas.{numbered-with_same, numbered-with_other, total-with}
use Rattle.php_memdef_laws.proofs.Alike.Memories.{one_to_one, scope_of-renamed}

total_nothing : {Y : Type 0} (g : Y → ℕ) (ys : Numbered Y) → ((t : ℕ) → weight_if g (numbered ys t) ≡ 0) → total g ys ≡ 0
total_nothing g [] h = refl
total_nothing g (y ∷ ys) h = let first : weight_if g y ≡ 0 = h 0 in omega (arith, first, total_nothing g ys (λ t. h (suc t)))

zero_or_suc : (s : ℕ) → (s ≡ 0) ⊎ ((k : ℕ) × (s ≡ suc k))
zero_or_suc zero = inl refl
zero_or_suc (suc k) = inr (k, refl)

-- a total doesn't change where what has weight gets other numbers, one to one
total_moved : {X Y : Type 0} (f : X → ℕ) (g : Y → ℕ) (xs : Numbered X) (ys : Numbered Y) (to : ℕ → ℕ)
    → ((s : ℕ) → weight_if g (numbered ys (to s)) ≡ weight_if f (numbered xs s))
    → ((s t : ℕ) → to s ≡ to t → s ≡ t)
    → ((t : ℕ) → (weight_if g (numbered ys t) ≡ 0) ⊎ ((s : ℕ) × (to s ≡ t)))
    → total g ys ≡ total f xs
total_moved f g [] ys to same apart onto = total_nothing g ys (λ t. elim (onto t) [ inl h ↦ h | inr p ↦ ap (λ k. weight_if g (numbered ys k)) (sym p.1) ∙ same p.0 ])
total_moved {X} {Y} f g (x ∷ xs) ys to same apart onto =
    let rest = with_numbered ys (to 0) None in
    let moved : total g rest ≡ total f xs =
    total_moved f g xs rest (λ s. to (suc s))
    (λ s. ap (weight_if g) (numbered-with_other ys (to 0) (to (suc s)) None (λ e. not_zero s (apart (suc s) 0 e))) ∙ same (suc s))
    (λ s t e. suc_apart s t (apart (suc s) (suc t) e))
    (λ t. elim (eqb_tells t (to 0)) [
      | inl e ↦ inl (ap (weight_if g) (ap (numbered rest) e.1 ∙ numbered-with_same ys (to 0) None))
      | inr e ↦ elim (onto t) [
        | inl h ↦ inl (ap (weight_if g) (numbered-with_other ys (to 0) t None e.1) ∙ h)
        | inr p ↦ elim (zero_or_suc p.0) [
          | inl z ↦ absurd (e.1 (sym p.1 ∙ ap to z))
          | inr q ↦ inr (q.0, sym (ap to q.1) ∙ p.1)
        ]
      ]
    ]) in
    let first : weight_if g (numbered ys (to 0)) ≡ weight_if f x = same 0 in
    omega (arith, moved, first, total-with g ys (to 0) None)
  where
    not_zero : (s : ℕ) → suc s ≡ 0 → ⊥
    not_zero s e = absurd (omega (arith, e))

    suc_apart : (s t : ℕ) → suc s ≡ suc t → s ≡ t
    suc_apart s t e = omega (arith, e)

weight_renamed : {X Y : Type 0} (f : X → ℕ) (g : Y → ℕ) (k : X → Y) → ((x : X) → g (k x) ≡ f x) → (o : Option X) → weight_if g (map_if k o) ≡ weight_if f o
weight_renamed f g k h None = refl
weight_renamed f g k h (Some x) = h x

-- under the same numbers
pub total_same : {X Y : Type 0} (f : X → ℕ) (g : Y → ℕ) (k : X → Y) → ((x : X) → g (k x) ≡ f x) → (xs : Numbered X) (ys : Numbered Y) → ((n : ℕ) → numbered ys n ≡ map_if k (numbered xs n)) → total g ys ≡ total f xs
total_same f g k h xs ys e = total_moved f g xs ys (λ s. s) (λ s. ap (weight_if g) (e s) ∙ weight_renamed f g k h (numbered xs s)) (λ s t p. p) (λ t. inr (t, refl))

-- the stores that are named, renamed

module _ (to : ℕ → ℕ) where
  names_append : (xs ys : List ℕ) → map to (xs ++ ys) ≡ map to xs ++ map to ys
  names_append [] ys = refl
  names_append (x ∷ xs) ys = ap (λ zs. to x ∷ zs) (names_append xs ys)

  entries_names : (es : List (Entry ℕ)) → stores_of_entries (map_entries to es) ≡ map to (stores_of_entries es)
  entries_names [] = refl
  entries_names (e ∷ es) = ap (λ xs. to e.value ∷ xs) (entries_names es)

  pub content_names : (c : Content) → stores_of_content (renamed_content to c) ≡ map to (stores_of_content c)
  content_names null = refl
  content_names (truth b) = refl
  content_names (int i) = refl
  content_names (text bytes) = refl
  content_names (array t) = entries_names t.entries
  content_names (object h) = refl

  item_names : (i : Item) → stores_of_item (renamed_item to i) ≡ map to (stores_of_item i)
  item_names (value c) = content_names c
  item_names (link s) = refl

  items_names : (is : List Item) → stores_of_items (renamed_items to is) ≡ map to (stores_of_items is)
  items_names [] = refl
  items_names (i ∷ is) = ap (λ xs. xs ++ stores_of_items (renamed_items to is)) (item_names i) ∙ ap (λ ys. map to (stores_of_item i) ++ ys) (items_names is) ∙ sym (names_append (stores_of_item i) (stores_of_items is))

  variables_names : (vs : List Variable) → stores_of_variables (renamed_variables to vs) ≡ map to (stores_of_variables vs)
  variables_names [] = refl
  variables_names (v ∷ vs) = ap (λ xs. to v.store ∷ xs) (variables_names vs)

  properties_names : (ps : List Property) → stores_of_properties (renamed_properties to ps) ≡ map to (stores_of_properties ps)
  properties_names [] = refl
  properties_names (p ∷ ps) = ap (λ xs. to p.store ∷ xs) (properties_names ps)

  scope_names : (f : Scope) → stores_of_scope (renamed_scope to f) ≡ map to (stores_of_scope f)
  scope_names f =
      let vs = stores_of_variables f.variables in
      let ts = stores_of_items f.temps in
      let fs = stores_of_items f.falling in
      ap (λ xs. xs ++ (stores_of_items (renamed_items to f.temps) ++ stores_of_items (renamed_items to f.falling))) (variables_names f.variables)
      ∙ ap (λ xs. map to vs ++ (xs ++ stores_of_items (renamed_items to f.falling))) (items_names f.temps)
      ∙ ap (λ xs. map to vs ++ (map to ts ++ xs)) (items_names f.falling)
      ∙ ap (λ xs. map to vs ++ xs) (sym (names_append ts fs))
      ∙ sym (names_append vs (ts ++ fs))

  map_length : (xs : List ℕ) → length (map to xs) ≡ length xs
  map_length [] = refl
  map_length (x ∷ xs) = ap suc (map_length xs)

same_test : (to : ℕ → ℕ) → ((s t : ℕ) → to s ≡ to t → s ≡ t) → (s x : ℕ) → nat_eq (to s) (to x) ≡ nat_eq s x
same_test to apart s x = elim (eqb_tells s x) [
  | inl e ↦ elim (eqb_tells (to s) (to x)) [ inl d ↦ d.0 ∙ sym e.0 | inr d ↦ absurd (d.1 (ap to e.1)) ]
  | inr e ↦ elim (eqb_tells (to s) (to x)) [ inl d ↦ absurd (e.1 (apart s x d.1)) | inr d ↦ d.0 ∙ sym e.0 ]
]

pub times-renamed : (to : ℕ → ℕ) → ((s t : ℕ) → to s ≡ to t → s ≡ t) → (s : ℕ) (xs : List ℕ) → times (to s) (map to xs) ≡ times s xs
times-renamed to apart s [] = refl
times-renamed to apart s (x ∷ xs) = ap (λ b. cond b 1 0 + times (to s) (map to xs)) (same_test to apart s x) ∙ ap (λ n. cond (nat_eq s x) 1 0 + n) (times-renamed to apart s xs)

-- handles and values stay

content_handles : (to : ℕ → ℕ) (c : Content) → handles_of_content (renamed_content to c) ≡ handles_of_content c
content_handles to null = refl
content_handles to (truth b) = refl
content_handles to (int i) = refl
content_handles to (text bytes) = refl
content_handles to (array t) = refl
content_handles to (object h) = refl

items_handles : (to : ℕ → ℕ) (is : List Item) → handles_of_items (renamed_items to is) ≡ handles_of_items is
items_handles to [] = refl
items_handles to (value c ∷ is) = ap (λ xs. xs ++ handles_of_items (renamed_items to is)) (content_handles to c) ∙ ap (λ xs. handles_of_content c ++ xs) (items_handles to is)
items_handles to (link s ∷ is) = items_handles to is

scope_handles : (to : ℕ → ℕ) (f : Scope) → handles_of_scope (renamed_scope to f) ≡ handles_of_scope f
scope_handles to f = ap (λ xs. xs ++ handles_of_items (renamed_items to f.falling)) (items_handles to f.temps) ∙ ap (λ xs. handles_of_items f.temps ++ xs) (items_handles to f.falling)

values_kept : (to : ℕ → ℕ) (is : List Item) → values_of (renamed_items to is) ≡ values_of is
values_kept to [] = refl
values_kept to (value c ∷ is) = ap (λ n. 1 + n) (values_kept to is)
values_kept to (link s ∷ is) = values_kept to is

module _ (to back : ℕ → ℕ) (m n : Mem) (r : IsRenamed to back m n) where
  pub stores_total : (f g : Content → ℕ) → ((c : Content) → g (renamed_content to c) ≡ f c) → total g n.stores ≡ total f m.stores
  stores_total f g h =
      total_moved f g m.stores n.stores to
      (λ s. ap (weight_if g) (r.stores s) ∙ weight_renamed f g (renamed_content to) h (numbered m.stores s))
      (one_to_one to back m n r)
      (λ t. inr (back t, r.to_back t))

  pub live_count-renamed : live_count n.stores ≡ live_count m.stores
  live_count-renamed = stores_total (λ _. 1) (λ _. 1) (λ c. refl)

  -- a store keeps its holders
  pub holders-renamed : (s : ℕ) → holders n (to s) ≡ holders m s
  unfolding holders
  holders-renamed s =
      let apart = one_to_one to back m n r in
      let named = λ (xs ys : List ℕ) (e : ys ≡ map to xs). ap (times (to s)) e ∙ times-renamed to apart s xs in
      let a : total (λ c. times (to s) (stores_of_content c)) n.stores ≡ total (λ c. times s (stores_of_content c)) m.stores = stores_total _ _ (λ c. named (stores_of_content c) _ (content_names to c)) in
      let b : total (λ o. times (to s) (stores_of_object o)) n.objects ≡ total (λ o. times s (stores_of_object o)) m.objects = total_same _ _ (renamed_object to) (λ o. named (stores_of_object o) _ (properties_names to o.properties)) m.objects n.objects r.objects in
      let c : total (λ f. times (to s) (stores_of_scope f)) n.blocks ≡ total (λ f. times s (stores_of_scope f)) m.blocks = total_same _ _ (renamed_scope to) (λ f. named (stores_of_scope f) _ (scope_names to f)) m.blocks n.blocks r.blocks in
      let d : total (λ t. times (to s) (t ∷ [])) n.statics ≡ total (λ t. times s (t ∷ [])) m.statics = total_same _ _ to (λ t. named (t ∷ []) _ refl) m.statics n.statics r.statics in
      omega (arith, a, b, c, d)

  pub is_shared-renamed : (s : ℕ) → is_shared n (to s) ≡ is_shared m s
  is_shared-renamed s = ap (nat_le 2) (holders-renamed s)

  -- an object keeps its holders
  pub object_holders-renamed : (h : ℕ) → object_holders n h ≡ object_holders m h
  unfolding object_holders
  object_holders-renamed h =
      let a : total (λ c. times h (handles_of_content c)) n.stores ≡ total (λ c. times h (handles_of_content c)) m.stores = stores_total _ _ (λ c. ap (times h) (content_handles to c)) in
      let b : total (λ f. times h (handles_of_scope f)) n.blocks ≡ total (λ f. times h (handles_of_scope f)) m.blocks = total_same _ _ (renamed_scope to) (λ f. ap (times h) (scope_handles to f)) m.blocks n.blocks r.blocks in
      omega (arith, a, b)

  -- a release has as many turns
  pub turns-renamed : (b : ℕ) → turns n b ≡ turns m b
  turns-renamed b =
      let counted = λ (xs ys : List ℕ) (e : ys ≡ map to xs). ap length e ∙ map_length to xs in
      let p : total (λ c. length (stores_of_content c)) n.stores ≡ total (λ c. length (stores_of_content c)) m.stores = stores_total _ _ (λ c. counted (stores_of_content c) _ (content_names to c)) in
      let q : total (λ o. length (stores_of_object o)) n.objects ≡ total (λ o. length (stores_of_object o)) m.objects = total_same _ _ (renamed_object to) (λ o. counted (stores_of_object o) _ (properties_names to o.properties)) m.objects n.objects r.objects in
      let u : total (λ f. length (stores_of_scope f)) n.blocks ≡ total (λ f. length (stores_of_scope f)) m.blocks = total_same _ _ (renamed_scope to) (λ f. counted (stores_of_scope f) _ (scope_names to f)) m.blocks n.blocks r.blocks in
      let v : live_count n.statics ≡ live_count m.statics = total_same _ _ to (λ t. refl) m.statics n.statics r.statics in
      let w : values_of (scope_of n b).falling ≡ values_of (scope_of m b).falling = ap (λ f. values_of f.falling) (scope_of-renamed to back m n r b) ∙ values_kept to (scope_of m b).falling in
      omega (arith, p, q, u, v, w, live_count-renamed)
