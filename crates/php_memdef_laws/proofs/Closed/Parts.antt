-- Memories in which every store that is named is there.
use Rattle.std.proofs.Common.{◌≡◌, ℕ, zero, suc, List, [], ◌∷◌, ◌++◌, length, refl, sym, ◌∙◌, ap, subst, cond}
use Rattle.std.specs.Prelude.{Bool, true, false, nat_eq, Option, Some, None, IsSome, is_some, unwrap_or, find}
use Rattle.php_value.specs.declared.key.Key.{Key}
use Rattle.php_entries.specs.Keys.{key_eq}
use Rattle.php_entries.specs.Listing.{Entry, Listing, entry_at, is_full, is_at_limit}
use Rattle.php_entries.specs.Changes.{Growth, Grown, Full, Limit, with_value, value_set, entry_added, value_appended, set_value, append_value}
use Rattle.php_memdef.specs.declared.place.PropName.{PropName}
use Rattle.php_memdef.specs.declared.place.Step.{Step}
use Rattle.php_memdef.specs.declared.place.Step.TheVariants.{At, Push}
use Rattle.php_memdef.specs.Numbered.{Numbered, numbered, with_numbered}
use Rattle.php_memdef.specs.Contents.{Content, null, Item, value, link, Variable, Scope, Property, Object, Mem, no_scope, no_object, content_of, scope_of, object_of}
use Rattle.php_memdef.specs.Holders.{stores_of_entries, stores_of_content, stores_of_item, stores_of_items, stores_of_variables, stores_of_scope, stores_of_properties, stores_of_object}
use Rattle.php_memdef.specs.Places.{Spot, stored, standing, nth_item, with_nth_item, content_if, content_at, with_content, with_scope, with_object, with_new_store, new_store_number, variable_store, property_store, prop_name_eq, entry_store, step_store, step_set}
use Rattle.php_memdef.specs.Sound.{Every, IsLive, IsClosed}
use Rattle.php_memdef_laws.proofs.NumberedLemmas.{numbered-with_same, with_next-numbered, all-with, live-with}
use Rattle.php_memdef_laws.proofs.Alike.Renamings.{Every-append, Every-front, Every-back, Every-weaken}

-- a number that a look-up finds in a list has what all of the list have

abbrev pub IfFound : (ℕ → Type 0) → Option ℕ → Type 0
IfFound P None = Unit {0}
IfFound P (Some s) = P s

found_by_choice : (P : ℕ → Type 0) (b : Bool) (s : ℕ) (o : Option ℕ) → P s → IfFound P o → IfFound P (cond b (Some s) o)
found_by_choice P true s o p q = p
found_by_choice P false s o p q = q

pub variable-found : (P : ℕ → Type 0) (vs : List Variable) (n : ℕ) → Every P (stores_of_variables vs) → IfFound P (variable_store vs n)
variable-found P [] n p = tt
variable-found P (v ∷ vs) n p = found_by_choice P (nat_eq n v.name) v.store (variable_store vs n) p.0 (variable-found P vs n p.1)

pub property-found : (P : ℕ → Type 0) (ps : List Property) (n : PropName) → Every P (stores_of_properties ps) → IfFound P (property_store ps n)
property-found P [] n h = tt
property-found P (p ∷ ps) n h = found_by_choice P (prop_name_eq n p.name) p.store (property_store ps n) h.0 (property-found P ps n h.1)

entry_by_choice : (P : ℕ → Type 0) (b : Bool) (e : Entry ℕ) (o : Option (Entry ℕ)) → P e.value → IfFound P (entry_store o) → IfFound P (entry_store (cond b (Some e) o))
entry_by_choice P true e o p q = p
entry_by_choice P false e o p q = q

entry-found : (P : ℕ → Type 0) (k : Key) (es : List (Entry ℕ)) → Every P (stores_of_entries es) → IfFound P (entry_store (find (λ e. key_eq k e.key) es))
entry-found P k [] h = tt
entry-found P k (e ∷ es) h = entry_by_choice P (key_eq k e.key) e (find (λ e. key_eq k e.key) es) h.0 (entry-found P k es h.1)

pub step-found : (P : ℕ → Type 0) (t : Listing ℕ) (step : Step) → Every P (stores_of_entries t.entries) → IfFound P (step_store t step)
step-found P t (At k) h = entry-found P k t.entries h
step-found P t Push h = tt

pub nth-found : (P : ℕ → Type 0) (is : List Item) (n : ℕ) → Every P (stores_of_items is) → Every P (stores_of_content (content_if (nth_item is n)))
nth-found P [] n h = tt
nth-found P (value c ∷ is) zero h = Every-front P (stores_of_content c) (stores_of_items is) h
nth-found P (link s ∷ is) zero h = tt
nth-found P (i ∷ is) (suc n) h = nth-found P is n (Every-back P (stores_of_item i) (stores_of_items is) h)

pub nth_link-found : (P : ℕ → Type 0) (is : List Item) (n s : ℕ) → Every P (stores_of_items is) → nth_item is n ≡ Some (link s) → P s
nth_link-found P [] n s h e = absurd (none e)
  where
    none : None ≡ Some (link s) → ⊥
    none e = cc
nth_link-found P (i ∷ is) zero s h e = link_of i h (some e)
  where
    some : Some i ≡ Some (link s) → i ≡ link s
    some e = cc

    link_of : (i : Item) → Every P (stores_of_item i ++ stores_of_items is) → i ≡ link s → P s
    link_of (value c) h e = cc
    link_of (link u) h e = let same : u ≡ s = cc in subst P same h.0
nth_link-found P (i ∷ is) (suc n) s h e = nth_link-found P is n s (Every-back P (stores_of_item i) (stores_of_items is) h) e

-- the stores of an array after it grew

abbrev pub GrowthNames : (ℕ → Type 0) → Growth ℕ → Type 0
GrowthNames P (Grown t) = Every P (stores_of_entries t.entries)
GrowthNames P Full = Unit {0}
GrowthNames P Limit = Unit {0}

entries_by_choice : (P : ℕ → Type 0) (b : Bool) (es fs : List (Entry ℕ)) → Every P (stores_of_entries es) → Every P (stores_of_entries fs) → Every P (stores_of_entries (cond b es fs))
entries_by_choice P true es fs h k = h
entries_by_choice P false es fs h k = k

value-set : (P : ℕ → Type 0) (k : Key) (s : ℕ) (es : List (Entry ℕ)) → Every P (stores_of_entries es) → P s → Every P (stores_of_entries (with_value k s es))
value-set P k s [] h p = tt
value-set P k s (e ∷ es) h p = entries_by_choice P (key_eq k e.key) (record e { value = s } ∷ es) (e ∷ with_value k s es) (p, h.1) (h.0, value-set P k s es h.1 p)

entry-added : (P : ℕ → Type 0) (es : List (Entry ℕ)) (e : Entry ℕ) → Every P (stores_of_entries es) → P e.value → Every P (stores_of_entries (es ++ e ∷ []))
entry-added P [] e h p = (p, tt)
entry-added P (d ∷ es) e h p = (h.0, entry-added P es e h.1 p)

entry_added-names : (P : ℕ → Type 0) (b : Bool) (t : Listing ℕ) (k : Key) (s : ℕ) → Every P (stores_of_entries t.entries) → P s → GrowthNames P (entry_added b t k s)
entry_added-names P true t k s h p = tt
entry_added-names P false t k s h p = entry-added P t.entries _ h p

value_set-names : (P : ℕ → Type 0) (o : Option (Entry ℕ)) (t : Listing ℕ) (k : Key) (s : ℕ) → Every P (stores_of_entries t.entries) → P s → GrowthNames P (value_set o t k s)
value_set-names P (Some e) t k s h p = value-set P k s t.entries h p
value_set-names P None t k s h p = entry_added-names P (is_at_limit t) t k s h p

value_appended-names : (P : ℕ → Type 0) (b : Bool) (t : Listing ℕ) (s : ℕ) → Every P (stores_of_entries t.entries) → P s → GrowthNames P (value_appended b t s)
value_appended-names P true t s h p = tt
value_appended-names P false t s h p = entry_added-names P (is_at_limit t) t _ s h p

pub step_set-names : (P : ℕ → Type 0) (t : Listing ℕ) (step : Step) (s : ℕ) → Every P (stores_of_entries t.entries) → P s → GrowthNames P (step_set t step s)
unfolding set_value append_value
step_set-names P t (At k) s h p = value_set-names P (entry_at t k) t k s h p
step_set-names P t Push s h p = value_appended-names P (is_full t) t s h p

-- what is read of a closed memory names what is there

content_if_there : (P : ℕ → Type 0) (o : Option Content) → ((c : Content) → o ≡ Some c → Every P (stores_of_content c)) → Every P (stores_of_content (unwrap_or o null))
content_if_there P None h = tt
content_if_there P (Some c) h = h c refl

scope_if_there : (P : ℕ → Type 0) (o : Option Scope) → ((f : Scope) → o ≡ Some f → Every P (stores_of_scope f)) → Every P (stores_of_scope (unwrap_or o no_scope))
scope_if_there P None h = tt
scope_if_there P (Some f) h = h f refl

object_if_there : (P : ℕ → Type 0) (o : Option Object) → ((x : Object) → o ≡ Some x → Every P (stores_of_object x)) → Every P (stores_of_object (unwrap_or o no_object))
object_if_there P None h = tt
object_if_there P (Some x) h = h x refl

-- a spot in a store that is there
abbrev pub IsSpotLive : Mem → Spot → Type 0
IsSpotLive m (stored s) = IsLive m s
IsSpotLive m (standing b n) = Unit {0}

module _ (m : Mem) (closed : IsClosed m) where
  pub content-closed : (s : ℕ) → Every (IsLive m) (stores_of_content (content_of m s))
  content-closed s = content_if_there (IsLive m) (numbered m.stores s) (closed.stores s)

  pub scope-closed : (b : ℕ) → Every (IsLive m) (stores_of_scope (scope_of m b))
  scope-closed b = scope_if_there (IsLive m) (numbered m.blocks b) (closed.blocks b)

  pub object-closed : (h : ℕ) → Every (IsLive m) (stores_of_object (object_of m h))
  object-closed h = object_if_there (IsLive m) (numbered m.objects h) (closed.objects h)

  pub variables-closed : (b : ℕ) → Every (IsLive m) (stores_of_variables (scope_of m b).variables)
  variables-closed b = let f = scope_of m b in Every-front (IsLive m) (stores_of_variables f.variables) (stores_of_items f.temps ++ stores_of_items f.falling) (scope-closed b)

  pub temps-closed : (b : ℕ) → Every (IsLive m) (stores_of_items (scope_of m b).temps)
  temps-closed b = let f = scope_of m b in Every-front (IsLive m) (stores_of_items f.temps) (stores_of_items f.falling) (Every-back (IsLive m) (stores_of_variables f.variables) (stores_of_items f.temps ++ stores_of_items f.falling) (scope-closed b))

  pub falling-closed : (b : ℕ) → Every (IsLive m) (stores_of_items (scope_of m b).falling)
  falling-closed b = let f = scope_of m b in Every-back (IsLive m) (stores_of_items f.temps) (stores_of_items f.falling) (Every-back (IsLive m) (stores_of_variables f.variables) (stores_of_items f.temps ++ stores_of_items f.falling) (scope-closed b))

  pub content_at-closed : (spot : Spot) → Every (IsLive m) (stores_of_content (content_at m spot))
  content_at-closed (stored s) = content-closed s
  content_at-closed (standing b n) = nth-found (IsLive m) (scope_of m b).temps n (temps-closed b)

-- changes that keep a memory closed

module _ (m n : Mem) (live : (s : ℕ) → IsLive m s → IsLive n s) where
  more_live : (xs : List ℕ) → Every (IsLive m) xs → Every (IsLive n) xs
  more_live xs h = Every-weaken (IsLive m) (IsLive n) live xs h

  -- the second memory has what the first has, but for one store, which names what is there
  pub store-closed : IsClosed m → (k : ℕ) (o : Option Content) → n ≡ record m { stores = with_numbered m.stores k o } → ((c : Content) → o ≡ Some c → Every (IsLive n) (stores_of_content c)) → IsClosed n
  store-closed closed k o e h = record {
    stores = λ s c there. all-with (λ c. Every (IsLive n) (stores_of_content c)) m.stores k o h (λ i d q. more_live _ (closed.stores i d q)) s c (sym (ap (λ (x : Mem). numbered x.stores s) e) ∙ there);
    objects = λ s x there. more_live _ (closed.objects s x (sym (ap (λ (x : Mem). numbered x.objects s) e) ∙ there));
    blocks = λ s x there. more_live _ (closed.blocks s x (sym (ap (λ (x : Mem). numbered x.blocks s) e) ∙ there));
    statics = λ i s there. live s (closed.statics i s (sym (ap (λ (x : Mem). numbered x.statics i) e) ∙ there));
  }

module _ (m : Mem) (closed : IsClosed m) where
  pub live-with_new : (c : Content) (s : ℕ) → IsLive m s → IsLive (with_new_store m c) s
  live-with_new c s h = subst (λ (xs : Numbered Content). IsSome (numbered xs s)) (sym (with_next-numbered m.stores c)) (live-with m.stores (length m.stores) c s h)

  pub new-live : (c : Content) → IsLive (with_new_store m c) (new_store_number m)
  new-live c = ap is_some (ap (λ xs. numbered xs (length m.stores)) (with_next-numbered m.stores c) ∙ numbered-with_same m.stores (length m.stores) (Some c))

  pub with_new_store-closed : (c : Content) → Every (IsLive m) (stores_of_content c) → IsClosed (with_new_store m c)
  with_new_store-closed c h =
      store-closed m (with_new_store m c) (live-with_new c) closed (length m.stores) (Some c) (ap (λ xs. record m { stores = xs }) (with_next-numbered m.stores c))
      (λ d e. let same : c ≡ d = cc in subst (λ (c : Content). Every (IsLive (with_new_store m c)) (stores_of_content d)) refl (Every-weaken (IsLive m) (IsLive (with_new_store m c)) (live-with_new c) (stores_of_content d) (subst (λ (d : Content). Every (IsLive m) (stores_of_content d)) same h)))

  pub with_scope-closed : (b : ℕ) (f : Scope) → Every (IsLive m) (stores_of_scope f) → IsClosed (with_scope m b f)
  with_scope-closed b f h = record {
    stores = closed.stores;
    objects = closed.objects;
    blocks = all-with (λ f. Every (IsLive m) (stores_of_scope f)) m.blocks b (Some f) (λ x e. let same : f ≡ x = cc in subst (λ (f : Scope). Every (IsLive m) (stores_of_scope f)) same h) closed.blocks;
    statics = closed.statics;
  }

  pub with_object-closed : (k : ℕ) (o : Object) → Every (IsLive m) (stores_of_object o) → IsClosed (with_object m k o)
  with_object-closed k o h = record {
    stores = closed.stores;
    objects = all-with (λ o. Every (IsLive m) (stores_of_object o)) m.objects k (Some o) (λ x e. let same : o ≡ x = cc in subst (λ (o : Object). Every (IsLive m) (stores_of_object o)) same h) closed.objects;
    blocks = closed.blocks;
    statics = closed.statics;
  }

  pub with_static-closed : (i s : ℕ) → IsLive m s → IsClosed (record m { statics = with_numbered m.statics i (Some s) })
  with_static-closed i s h = record {
    stores = closed.stores;
    objects = closed.objects;
    blocks = closed.blocks;
    statics = all-with (IsLive m) m.statics i (Some s) (λ x e. let same : s ≡ x = cc in subst (IsLive m) same h) closed.statics;
  }

with_nth-names : (P : ℕ → Type 0) (is : List Item) (n : ℕ) (j : Item) → Every P (stores_of_items is) → Every P (stores_of_item j) → Every P (stores_of_items (with_nth_item is n j))
with_nth-names P [] n j h p = tt
with_nth-names P (i ∷ is) zero j h p = Every-append P (stores_of_item j) (stores_of_items is) p (Every-back P (stores_of_item i) (stores_of_items is) h)
with_nth-names P (i ∷ is) (suc n) j h p = Every-append P (stores_of_item i) _ (Every-front P (stores_of_item i) (stores_of_items is) h) (with_nth-names P is n j (Every-back P (stores_of_item i) (stores_of_items is) h) p)

module _ (m : Mem) (closed : IsClosed m) where
  pub live-with_content : (spot : Spot) (c : Content) (s : ℕ) → IsLive m s → IsLive (with_content m spot c) s
  live-with_content (stored k) c s h = live-with m.stores k c s h
  live-with_content (standing b n) c s h = h

  pub with_content-closed : (spot : Spot) (c : Content) → Every (IsLive m) (stores_of_content c) → IsClosed (with_content m spot c)
  with_content-closed (stored k) c h =
      store-closed m (with_content m (stored k) c) (live-with_content (stored k) c) closed k (Some c) refl
      (λ d e. let same : c ≡ d = cc in Every-weaken (IsLive m) (IsLive (with_content m (stored k) c)) (live-with_content (stored k) c) (stores_of_content d) (subst (λ (d : Content). Every (IsLive m) (stores_of_content d)) same h))
  with_content-closed (standing b n) c h =
      let f = scope_of m b in
      with_scope-closed m closed b (record f { temps = with_nth_item f.temps n (value c) })
      (Every-append (IsLive m) (stores_of_variables f.variables) _ (variables-closed m closed b)
      (Every-append (IsLive m) _ (stores_of_items f.falling) (with_nth-names (IsLive m) f.temps n (value c) (temps-closed m closed b) h) (falling-closed m closed b)))
