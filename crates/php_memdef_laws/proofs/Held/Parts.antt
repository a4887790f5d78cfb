-- How changes move the holders of stores and of objects.
use Rattle.std.proofs.Common.{◌≡◌, ℕ, zero, suc, ◌+◌, ◌<◌, ◌≤◌, List, [], ◌∷◌, ◌++◌, length, refl, sym, ap, arith, ◌⊎◌, inl, inr, cond}
use Rattle.std.specs.Prelude.{Option, Some, None, unwrap_or}
use Rattle.std.proofs.lemmas.Bool.Decides.{eqb_tells}
use Rattle.php_memdef.specs.Numbered.{numbered, with_numbered, with_next, weight_if, total}
use Rattle.php_memdef.specs.Contents.{Content, null, truth, int, text, array, object, Item, value, link, Variable, Scope, Object, Mem, no_scope, no_object, content_of, scope_of, object_of}
use Rattle.php_memdef.specs.Holders.{times, stores_of_content, stores_of_item, stores_of_items, stores_of_variables, stores_of_scope, stores_of_object, holders, handles_of_content, handles_of_items, handles_of_scope, object_holders}
use Rattle.php_memdef.specs.Places.{with_scope, with_new_store}
use Rattle.php_memdef.specs.Temporaries.{with_temps, with_falling, pushed, rest_of, popped, top_of, top, with_top, turned, turn, fallen, let_fall}
use Rattle.php_memdef.specs.Sound.{IsLive, IsHeld}
use Rattle.php_memdef.specs.Conditions.{IsObject}
use Rattle.php_memdef_laws.proofs.NumberedLemmas.{numbered-length, with_next-numbered, total-with}

pub times-append : (s : ℕ) (xs ys : List ℕ) → times s (xs ++ ys) ≡ times s xs + times s ys
times-append s [] ys = omega arith
times-append s (x ∷ xs) ys = omega (arith, times-append s xs ys)

pub times-self : (s : ℕ) (xs : List ℕ) → 0 < times s (s ∷ xs)
times-self s xs = elim (eqb_tells s s) [
  | inl e ↦ (let one : times s (s ∷ xs) ≡ 1 + times s xs = ap (λ b. cond b 1 0 + times s xs) e.0 in omega (arith, one))
  | inr e ↦ absurd (e.1 refl)
]

pub weight_of_scope : (w : Scope → ℕ) (o : Option Scope) → w no_scope ≡ 0 → weight_if w o ≡ w (unwrap_or o no_scope)
weight_of_scope w None h = sym h
weight_of_scope w (Some f) h = refl

pub weight_of_content : (w : Content → ℕ) (o : Option Content) → w null ≡ 0 → weight_if w o ≡ w (unwrap_or o null)
weight_of_content w None h = sym h
weight_of_content w (Some c) h = refl

pub weight_of_object : (w : Object → ℕ) (o : Option Object) → w no_object ≡ 0 → weight_if w o ≡ w (unwrap_or o no_object)
weight_of_object w None h = sym h
weight_of_object w (Some x) h = refl

module _ (m : Mem) (s : ℕ) where
  pub holders-with_scope : (b : ℕ) (f : Scope) → holders (with_scope m b f) s + times s (stores_of_scope (scope_of m b)) ≡ holders m s + times s (stores_of_scope f)
  unfolding holders
  holders-with_scope b f = omega (arith, total-with (λ f. times s (stores_of_scope f)) m.blocks b (Some f), weight_of_scope (λ f. times s (stores_of_scope f)) (numbered m.blocks b) refl)

  pub handles-with_scope : (b : ℕ) (f : Scope) → object_holders (with_scope m b f) s + times s (handles_of_scope (scope_of m b)) ≡ object_holders m s + times s (handles_of_scope f)
  unfolding object_holders
  handles-with_scope b f = omega (arith, total-with (λ f. times s (handles_of_scope f)) m.blocks b (Some f), weight_of_scope (λ f. times s (handles_of_scope f)) (numbered m.blocks b) refl)

  pub holders-with_store : (k : ℕ) (o : Option Content) → holders (record m { stores = with_numbered m.stores k o }) s + times s (stores_of_content (content_of m k)) ≡ holders m s + weight_if (λ c. times s (stores_of_content c)) o
  unfolding holders
  holders-with_store k o = omega (arith, total-with (λ c. times s (stores_of_content c)) m.stores k o, weight_of_content (λ c. times s (stores_of_content c)) (numbered m.stores k) refl)

  pub handles-with_store : (k : ℕ) (o : Option Content) → object_holders (record m { stores = with_numbered m.stores k o }) s + times s (handles_of_content (content_of m k)) ≡ object_holders m s + weight_if (λ c. times s (handles_of_content c)) o
  unfolding object_holders
  handles-with_store k o = omega (arith, total-with (λ c. times s (handles_of_content c)) m.stores k o, weight_of_content (λ c. times s (handles_of_content c)) (numbered m.stores k) refl)

  next_total : (w : Content → ℕ) (c : Content) → total w (with_next m.stores c) ≡ total w m.stores + w c
  next_total w c =
      let a : total w (with_next m.stores c) ≡ total w (with_numbered m.stores (length m.stores) (Some c)) = ap (total w) (with_next-numbered m.stores c) in
      let b : weight_if w (numbered m.stores (length m.stores)) ≡ 0 = ap (weight_if w) (numbered-length m.stores) in
      omega (arith, a, b, total-with w m.stores (length m.stores) (Some c))

  pub holders-with_new : (c : Content) → holders (with_new_store m c) s ≡ holders m s + times s (stores_of_content c)
  unfolding holders
  holders-with_new c = omega (arith, next_total (λ c. times s (stores_of_content c)) c)

  pub handles-with_new : (c : Content) → object_holders (with_new_store m c) s ≡ object_holders m s + times s (handles_of_content c)
  unfolding object_holders
  handles-with_new c = omega (arith, next_total (λ c. times s (handles_of_content c)) c)

  pub holders-with_object : (h : ℕ) (o : Option Object) → holders (record m { objects = with_numbered m.objects h o }) s + times s (stores_of_object (object_of m h)) ≡ holders m s + weight_if (λ x. times s (stores_of_object x)) o
  unfolding holders
  holders-with_object h o = omega (arith, total-with (λ x. times s (stores_of_object x)) m.objects h o, weight_of_object (λ x. times s (stores_of_object x)) (numbered m.objects h) refl)

  pub handles-with_object : (h : ℕ) (o : Option Object) → object_holders (record m { objects = with_numbered m.objects h o }) s ≡ object_holders m s
  unfolding object_holders
  handles-with_object h o = refl

  pub holders-with_static : (i : ℕ) (o : Option ℕ) → holders (record m { statics = with_numbered m.statics i o }) s + weight_if (λ t. times s (t ∷ [])) (numbered m.statics i) ≡ holders m s + weight_if (λ t. times s (t ∷ [])) o
  unfolding holders
  holders-with_static i o = omega (arith, total-with (λ t. times s (t ∷ [])) m.statics i o)

  pub handles-with_static : (i : ℕ) (o : Option ℕ) → object_holders (record m { statics = with_numbered m.statics i o }) s ≡ object_holders m s
  unfolding object_holders
  handles-with_static i o = refl

  -- the names of a scope are those of its parts
  pub scope_times : (f : Scope) → times s (stores_of_scope f) ≡ times s (stores_of_variables f.variables) + (times s (stores_of_items f.temps) + times s (stores_of_items f.falling))
  scope_times f = omega (arith, times-append s (stores_of_variables f.variables) (stores_of_items f.temps ++ stores_of_items f.falling), times-append s (stores_of_items f.temps) (stores_of_items f.falling))

  pub scope_handles : (f : Scope) → times s (handles_of_scope f) ≡ times s (handles_of_items f.temps) + times s (handles_of_items f.falling)
  scope_handles f = times-append s (handles_of_items f.temps) (handles_of_items f.falling)

abbrev pub handles_of_item : Item → List ℕ
handles_of_item (value c) = handles_of_content c
handles_of_item (link s) = []

module _ (s : ℕ) where
  pub item_times : (i : Item) (is : List Item) → times s (stores_of_items (i ∷ is)) ≡ times s (stores_of_item i) + times s (stores_of_items is)
  item_times i is = times-append s (stores_of_item i) (stores_of_items is)

  pub item_handles : (i : Item) (is : List Item) → times s (handles_of_items (i ∷ is)) ≡ times s (handles_of_item i) + times s (handles_of_items is)
  item_handles (value c) is = times-append s (handles_of_content c) (handles_of_items is)
  item_handles (link k) is = omega arith

  pub items_times : (is js : List Item) → times s (stores_of_items (is ++ js)) ≡ times s (stores_of_items is) + times s (stores_of_items js)
  items_times [] js = omega arith
  items_times (i ∷ is) js = omega (arith, item_times i (is ++ js), item_times i is, items_times is js)

  pub items_handles : (is js : List Item) → times s (handles_of_items (is ++ js)) ≡ times s (handles_of_items is) + times s (handles_of_items js)
  items_handles [] js = omega arith
  items_handles (i ∷ is) js = omega (arith, item_handles i (is ++ js), item_handles i is, items_handles is js)

  pub fallen_times : (i : Item) → times s (stores_of_items (fallen i)) ≡ times s (stores_of_item i)
  fallen_times (link k) = refl
  fallen_times (value null) = refl
  fallen_times (value (truth b)) = refl
  fallen_times (value (int i)) = refl
  fallen_times (value (text bytes)) = refl
  fallen_times (value (array t)) = omega (arith, item_times (value (array t)) [])
  fallen_times (value (object h)) = refl

  pub fallen_handles : (i : Item) → times s (handles_of_items (fallen i)) ≡ times s (handles_of_item i)
  fallen_handles (link k) = refl
  fallen_handles (value null) = refl
  fallen_handles (value (truth b)) = refl
  fallen_handles (value (int i)) = refl
  fallen_handles (value (text bytes)) = refl
  fallen_handles (value (array t)) = refl
  fallen_handles (value (object h)) = omega (arith, item_handles (value (object h)) [])

  turned_times : (n : ℕ) (is before : List Item) → times s (stores_of_items (turned n is before)) ≡ times s (stores_of_items is) + times s (stores_of_items before)
  turned_times zero is before = omega (arith, items_times before is)
  turned_times (suc n) [] before = omega arith
  turned_times (suc n) (i ∷ is) before = omega (arith, turned_times n is (i ∷ before), item_times i before, item_times i is)

  turned_handles : (n : ℕ) (is before : List Item) → times s (handles_of_items (turned n is before)) ≡ times s (handles_of_items is) + times s (handles_of_items before)
  turned_handles zero is before = omega (arith, items_handles before is)
  turned_handles (suc n) [] before = omega arith
  turned_handles (suc n) (i ∷ is) before = omega (arith, turned_handles n is (i ∷ before), item_handles i before, item_handles i is)

  rest_times : (is : List Item) → times s (stores_of_items is) ≡ times s (stores_of_item (top_of is)) + times s (stores_of_items (rest_of is))
  rest_times [] = refl
  rest_times (i ∷ is) = item_times i is

  rest_handles : (is : List Item) → times s (handles_of_items is) ≡ times s (handles_of_item (top_of is)) + times s (handles_of_items (rest_of is))
  rest_handles [] = refl
  rest_handles (i ∷ is) = item_handles i is

module _ (m : Mem) (s : ℕ) (b : ℕ) where
  pub holders-with_temps : (is : List Item) → holders (with_temps m b is) s + times s (stores_of_items (scope_of m b).temps) ≡ holders m s + times s (stores_of_items is)
  holders-with_temps is = let f = scope_of m b in let g : Scope = record f { temps = is } in omega (arith, holders-with_scope m s b g, scope_times m s f, scope_times m s g)

  pub handles-with_temps : (is : List Item) → object_holders (with_temps m b is) s + times s (handles_of_items (scope_of m b).temps) ≡ object_holders m s + times s (handles_of_items is)
  handles-with_temps is = let f = scope_of m b in let g : Scope = record f { temps = is } in omega (arith, handles-with_scope m s b g, scope_handles m s f, scope_handles m s g)

  pub holders-with_falling : (is : List Item) → holders (with_falling m b is) s + times s (stores_of_items (scope_of m b).falling) ≡ holders m s + times s (stores_of_items is)
  holders-with_falling is = let f = scope_of m b in let g : Scope = record f { falling = is } in omega (arith, holders-with_scope m s b g, scope_times m s f, scope_times m s g)

  pub handles-with_falling : (is : List Item) → object_holders (with_falling m b is) s + times s (handles_of_items (scope_of m b).falling) ≡ object_holders m s + times s (handles_of_items is)
  handles-with_falling is = let f = scope_of m b in let g : Scope = record f { falling = is } in omega (arith, handles-with_scope m s b g, scope_handles m s f, scope_handles m s g)

  pub holders-with_variables : (vs : List Variable) → holders (with_scope m b (record (scope_of m b) { variables = vs })) s + times s (stores_of_variables (scope_of m b).variables) ≡ holders m s + times s (stores_of_variables vs)
  holders-with_variables vs = let f = scope_of m b in let g : Scope = record f { variables = vs } in omega (arith, holders-with_scope m s b g, scope_times m s f, scope_times m s g)

  pub handles-with_variables : (vs : List Variable) → object_holders (with_scope m b (record (scope_of m b) { variables = vs })) s ≡ object_holders m s
  handles-with_variables vs = let f = scope_of m b in let g : Scope = record f { variables = vs } in omega (arith, handles-with_scope m s b g, scope_handles m s f, scope_handles m s g)

  pub holders-pushed : (i : Item) → holders (pushed m b i) s ≡ holders m s + times s (stores_of_item i)
  holders-pushed i = omega (arith, holders-with_temps (i ∷ (scope_of m b).temps), item_times s i (scope_of m b).temps)

  pub handles-pushed : (i : Item) → object_holders (pushed m b i) s ≡ object_holders m s + times s (handles_of_item i)
  handles-pushed i = omega (arith, handles-with_temps (i ∷ (scope_of m b).temps), item_handles s i (scope_of m b).temps)

  pub holders-with_top : (i : Item) → holders (with_top m b i) s + times s (stores_of_item (top m b)) ≡ holders m s + times s (stores_of_item i)
  holders-with_top i = omega (arith, holders-with_temps (i ∷ rest_of (scope_of m b).temps), item_times s i (rest_of (scope_of m b).temps), rest_times s (scope_of m b).temps)

  pub handles-with_top : (i : Item) → object_holders (with_top m b i) s + times s (handles_of_item (top m b)) ≡ object_holders m s + times s (handles_of_item i)
  handles-with_top i = omega (arith, handles-with_temps (i ∷ rest_of (scope_of m b).temps), item_handles s i (rest_of (scope_of m b).temps), rest_handles s (scope_of m b).temps)

  pub holders-turned : (n : ℕ) → holders (turn m b n) s ≡ holders m s
  unfolding turn
  holders-turned n = omega (arith, holders-with_temps (turned n (scope_of m b).temps []), turned_times s n (scope_of m b).temps [])

  pub handles-turned : (n : ℕ) → object_holders (turn m b n) s ≡ object_holders m s
  unfolding turn
  handles-turned n = omega (arith, handles-with_temps (turned n (scope_of m b).temps []), turned_handles s n (scope_of m b).temps [])

  pub holders-popped : holders (popped m b) s + times s (stores_of_item (top m b)) ≡ holders m s
  holders-popped = omega (arith, holders-with_temps (rest_of (scope_of m b).temps), rest_times s (scope_of m b).temps)

  pub handles-popped : object_holders (popped m b) s + times s (handles_of_item (top m b)) ≡ object_holders m s
  handles-popped = omega (arith, handles-with_temps (rest_of (scope_of m b).temps), rest_handles s (scope_of m b).temps)

  pub holders-let_fall : (i : Item) → holders (let_fall m b i) s ≡ holders m s + times s (stores_of_item i)
  holders-let_fall i = omega (arith, holders-with_falling ((scope_of m b).falling ++ fallen i), items_times s (scope_of m b).falling (fallen i), fallen_times s i)

  pub handles-let_fall : (i : Item) → object_holders (let_fall m b i) s ≡ object_holders m s + times s (handles_of_item i)
  handles-let_fall i = omega (arith, handles-with_falling ((scope_of m b).falling ++ fallen i), items_handles s (scope_of m b).falling (fallen i), fallen_handles s i)

-- what is there afterwards was there or is held now; no holder is lost; an object that is held
-- afterwards is there
pub record KeepsHolders (m n : Mem) : Type 0 where
  pub stores : (s : ℕ) → IsLive n s → IsLive m s ⊎ (0 < holders n s)
  pub more : (s : ℕ) → IsLive n s → holders m s ≤ holders n s
  pub objects : (h : ℕ) → IsObject n h → IsObject m h ⊎ (0 < object_holders n h)
  pub more_handles : (h : ℕ) → IsObject n h → object_holders m h ≤ object_holders n h
  pub handles : (h : ℕ) → 0 < object_holders n h → (0 < object_holders m h) ⊎ IsObject n h
  pub objects_stay : (h : ℕ) → IsObject m h → (0 < object_holders n h) → IsObject n h

pub held_after : (m n : Mem) → IsHeld m → KeepsHolders m n → IsHeld n
held_after m n held k = record {
  stores = λ s live. elim (k.stores s live) [
    | inl was ↦ (let a : 0 < holders m s = held.stores s was in omega (arith, a, k.more s live))
    | inr now ↦ now
  ];
  objects_live = λ h some. elim (k.handles h some) [
    | inl was ↦ k.objects_stay h (held.objects_live h was) some
    | inr there ↦ there
  ];
  objects_held = λ h there. elim (k.objects h there) [
    | inl was ↦ (let a : 0 < object_holders m h = held.objects_held h was in omega (arith, a, k.more_handles h there))
    | inr now ↦ now
  ];
}

-- nothing comes or goes, and each store and object keeps its number of holders, or has more
pub same_there : (m n : Mem) → ((s : ℕ) → IsLive n s → IsLive m s) → ((s : ℕ) → holders m s ≤ holders n s) → ((h : ℕ) → IsObject n h → IsObject m h) → ((h : ℕ) → IsObject m h → IsObject n h) → ((h : ℕ) → object_holders n h ≡ object_holders m h) → KeepsHolders m n
same_there m n stores more objects stay handles = record {
  stores = λ s live. inl (stores s live);
  more = λ s live. more s;
  objects = λ h there. inl (objects h there);
  more_handles = λ h there. omega (arith, handles h);
  handles = λ h some. inl (omega (arith, some, handles h));
  objects_stay = λ h there some. stay h there;
}
