-- Writes and removals keep what is there held.
use Rattle.std.proofs.Common.{◌≡◌, ℕ, zero, suc, ◌+◌, ◌<◌, ◌≤◌, List, [], ◌∷◌, ◌++◌, length, refl, sym, ◌∙◌, ap, subst, arith, ◌⊎◌, inl, inr, cond}
use Rattle.std.specs.Prelude.{Bool, true, false, Option, Some, None, IsSome, is_some, unwrap_or, find}
use Rattle.std.proofs.lemmas.Bool.{false≢true}
use Rattle.std.proofs.lemmas.Bool.Decides.{eqb_tells}
use Rattle.php_value.specs.declared.key.Key.{Key}
use Rattle.php_entries.specs.Keys.{key_eq}
use Rattle.php_entries.specs.Listing.{Entry, Listing, entry_at, is_full, is_at_limit}
use Rattle.php_entries.specs.Changes.{Growth, Grown, Full as NoKeyLeft, Limit as NoEntryLeft, with_value, entry_added, value_set, value_appended, set_value, append_value}
use Rattle.php_memdef.specs.declared.place.PropName.{PropName}
use Rattle.php_memdef.specs.declared.place.Base.{Base}
use Rattle.php_memdef.specs.declared.place.Base.TheVariants.{Var, Property as OfObject, Static, Temp}
use Rattle.php_memdef.specs.declared.place.Step.{Step}
use Rattle.php_memdef.specs.declared.place.Step.TheVariants.{At, Push}
use Rattle.php_memdef.specs.declared.place.Place.{Place}
use Rattle.php_memdef.specs.Numbered.{Numbered, numbered, with_numbered, with_next, weight_if}
use Rattle.php_memdef.specs.Contents.{Content, null, truth, int, text, array, object, Item, value, link, Variable, Property, Object, Mem, no_scope, scope_of, object_of}
use Rattle.php_memdef.specs.Holders.{times, stores_of_entries, stores_of_content, stores_of_item, stores_of_items, stores_of_variables, stores_of_properties, holders, handles_of_content, handles_of_items, object_holders}
use Rattle.php_memdef.specs.Places.{Spot, stored, standing, nth_item, with_nth_item, content_if, content_at, with_content, with_scope, with_object, with_new_store, new_store_number, variable_store, property_store, temp_spot, elements_to_write, entry_store, step_store, step_set, Walk, reached, stopped, element_made, element_to_write, step_in_elements, walk_step, walk_along, variable_to_write, property_to_write, static_to_write, temp_to_write, base_to_write, walk}
use Rattle.php_memdef.specs.Temporaries.{pushed, popped, top_of, top, with_top, let_fall}
use Rattle.php_memdef.specs.Writes.{moved_in, assigned, assign, text_found, text_of_item, append, linked, make_link}
use Rattle.php_memdef.specs.Views.{found}
use Rattle.php_memdef.specs.Sound.{IsLive, IsHeld}
use Rattle.php_memdef.specs.Conditions.{IsObject, IsBase, CanAssign, CanAppend, CanLink}
use Rattle.php_memdef_laws.proofs.NumberedLemmas.{numbered-with_same, numbered-with_other, numbered-length, with_next-numbered, live-with}
use Rattle.php_memdef.specs.Sound.{IsClosed}
use Rattle.php_memdef_laws.proofs.Alike.Memories.{Alike-refl}
use Rattle.php_memdef_laws.proofs.Closed.Parts.{IfFound, variable-found, property-found, step-found, nth_link-found, variables-closed, temps-closed, object-closed, content_at-closed}
use Rattle.php_memdef_laws.proofs.Alike.Walks.{WalksAlike, ElementsNamed, elements_named, base_to_write-alike, walk_on-alike}
use Rattle.php_memdef_laws.proofs.AppendLemmas.{first_on_top, can_assign_joined}
use Rattle.php_memdef_laws.proofs.Closed.Temporaries.{text_on_top-closed}
use Rattle.php_memdef_laws.proofs.Held.Temporaries.{text_on_top-held}
use Rattle.php_memdef_laws.proofs.Held.Parts.{held_after, handles_of_item, times-self, item_times, item_handles, holders-with_store, handles-with_store, holders-with_new, handles-with_new, holders-with_object, handles-with_object, holders-with_static, handles-with_static, holders-with_temps, handles-with_temps, holders-with_variables, handles-with_variables, holders-pushed, handles-pushed, holders-popped, handles-popped, holders-let_fall, handles-let_fall}

-- more stores, each with a holder, and no holder less; the same objects with the same holders
pub record Grows (m n : Mem) : Type 0 where
  pub stores : (s : ℕ) → IsLive n s → IsLive m s ⊎ (0 < holders n s)
  pub more : (s : ℕ) → holders m s ≤ holders n s
  pub objects : (h : ℕ) → IsObject n h → IsObject m h
  pub objects_stay : (h : ℕ) → IsObject m h → IsObject n h
  pub handles : (h : ℕ) → object_holders n h ≡ object_holders m h

pub Grows-refl : (m : Mem) → Grows m m
Grows-refl m = record { stores = λ s h. inl h; more = λ s. omega arith; objects = λ h e. e; objects_stay = λ h e. e; handles = λ h. refl }

Grows-trans : (l m n : Mem) → Grows l m → Grows m n → Grows l n
Grows-trans l m n a b = record {
  stores = λ s live. elim (b.stores s live) [
    | inl was ↦ elim (a.stores s was) [
      | inl first ↦ inl first
      | inr some ↦ inr (omega (arith, some, b.more s))
    ]
    | inr some ↦ inr some
  ];
  more = λ s. omega (arith, a.more s, b.more s);
  objects = λ h e. a.objects h (b.objects h e);
  objects_stay = λ h e. b.objects_stay h (a.objects_stay h e);
  handles = λ h. b.handles h ∙ a.handles h;
}

pub grown-held : (m n : Mem) → IsHeld m → Grows m n → IsHeld n
grown-held m n held g = held_after m n held (record {
  stores = g.stores;
  more = λ s live. g.more s;
  objects = λ h e. inl (g.objects h e);
  more_handles = λ h e. omega (arith, g.handles h);
  handles = λ h some. inl (omega (arith, some, g.handles h));
  objects_stay = λ h e some. g.objects_stay h e;
})

-- names in arrays that grow

abbrev pub listed : Option ℕ → List ℕ
listed None = []
listed (Some s) = s ∷ []

module _ (x : ℕ) where
  -- the array names what it named and s, but for the store that the step led to
  abbrev pub Grown-times : Growth ℕ → Listing ℕ → Option ℕ → ℕ → Type 0
  Grown-times (Grown u) t before s = times x (stores_of_entries u.entries) + times x (listed before) ≡ times x (stores_of_entries t.entries) + times x (s ∷ [])
  Grown-times NoKeyLeft t before s = Unit {0}
  Grown-times NoEntryLeft t before s = Unit {0}

  added-times : (es : List (Entry ℕ)) (e : Entry ℕ) → times x (stores_of_entries (es ++ e ∷ [])) ≡ times x (stores_of_entries es) + times x (e.value ∷ [])
  added-times [] e = omega arith
  added-times (d ∷ es) e = omega (arith, added-times es e)

  entry_added-times : (b : Bool) (t : Listing ℕ) (k : Key) (s : ℕ) → Grown-times (entry_added b t k s) t None s
  entry_added-times true t k s = tt
  entry_added-times false t k s = omega (arith, added-times t.entries (record { serial = t.next_serial; key = k; value = s }))

  with_value-times : (k : Key) (s : ℕ) (es : List (Entry ℕ)) (e : Entry ℕ) → find (λ e. key_eq k e.key) es ≡ Some e → times x (stores_of_entries (with_value k s es)) + times x (e.value ∷ []) ≡ times x (stores_of_entries es) + times x (s ∷ [])
  with_value-times k s [] e f = absurd (no f)
    where
      no : None ≡ Some e → ⊥
      no f = cc
  with_value-times k s (d ∷ es) e f = chosen (key_eq k d.key) refl (with_value-times k s es e)
    where
      chosen : (b : Bool) → key_eq k d.key ≡ b → (find (λ e. key_eq k e.key) es ≡ Some e → times x (stores_of_entries (with_value k s es)) + times x (e.value ∷ []) ≡ times x (stores_of_entries es) + times x (s ∷ [])) → times x (stores_of_entries (with_value k s (d ∷ es))) + times x (e.value ∷ []) ≡ times x (stores_of_entries (d ∷ es)) + times x (s ∷ [])
      chosen true q later =
          let same : d ≡ e = of_some (sym (ap (λ b. cond b (Some d) (find (λ e. key_eq k e.key) es)) q) ∙ f) in
          let a : stores_of_entries (with_value k s (d ∷ es)) ≡ s ∷ stores_of_entries es = ap (λ b. stores_of_entries (cond b (record d { value = s } ∷ es) (d ∷ with_value k s es))) q in
          let c : times x (stores_of_entries (with_value k s (d ∷ es))) ≡ times x (s ∷ stores_of_entries es) = ap (times x) a in
          let g : times x (e.value ∷ []) ≡ times x (d.value ∷ []) = ap (λ (y : Entry ℕ). times x (y.value ∷ [])) (sym same) in
          omega (arith, c, g)
        where
          of_some : Some d ≡ Some e → d ≡ e
          of_some p = cc
      chosen false q later =
          let rest : find (λ e. key_eq k e.key) es ≡ Some e = sym (ap (λ b. cond b (Some d) (find (λ e. key_eq k e.key) es)) q) ∙ f in
          let a : stores_of_entries (with_value k s (d ∷ es)) ≡ d.value ∷ stores_of_entries (with_value k s es) = ap (λ b. stores_of_entries (cond b (record d { value = s } ∷ es) (d ∷ with_value k s es))) q in
          let c : times x (stores_of_entries (with_value k s (d ∷ es))) ≡ times x (d.value ∷ stores_of_entries (with_value k s es)) = ap (times x) a in
          omega (arith, c, later rest)

  value_set-times : (o : Option (Entry ℕ)) (t : Listing ℕ) (k : Key) (s : ℕ) → entry_at t k ≡ o → Grown-times (value_set o t k s) t (entry_store o) s
  value_set-times (Some e) t k s f = with_value-times k s t.entries e f
  value_set-times None t k s f = entry_added-times (is_at_limit t) t k s

  value_appended-times : (b : Bool) (t : Listing ℕ) (s : ℕ) → Grown-times (value_appended b t s) t None s
  value_appended-times true t s = tt
  value_appended-times false t s = entry_added-times (is_at_limit t) t _ s

  pub step_set-times : (t : Listing ℕ) (step : Step) (s : ℕ) → Grown-times (step_set t step s) t (step_store t step) s
  unfolding set_value append_value
  step_set-times t (At k) s = value_set-times (entry_at t k) t k s refl
  step_set-times t Push s = value_appended-times (is_full t) t s

-- a spot that is there: a store, or a temporary that holds a content
abbrev pub IsReal : Mem → Spot → Type 0
IsReal m (stored s) = Unit {0}
IsReal m (standing b k) = (c : Content) × (nth_item (scope_of m b).temps k ≡ Some (value c))

module _ (x : ℕ) where
  nth_times : (is : List Item) (k : ℕ) (c d : Content) → nth_item is k ≡ Some (value d) → times x (stores_of_items (with_nth_item is k (value c))) + times x (stores_of_content d) ≡ times x (stores_of_items is) + times x (stores_of_content c)
  nth_times [] k c d e = absurd (no e)
    where
      no : None ≡ Some (value d) → ⊥
      no e = cc
  nth_times (i ∷ is) zero c d e =
      let same : times x (stores_of_item i) ≡ times x (stores_of_content d) = ap (λ j. times x (stores_of_item j)) (of_some e) in
      omega (arith, same, item_times x (value c) is, item_times x i is)
    where
      of_some : Some i ≡ Some (value d) → i ≡ value d
      of_some e = cc
  nth_times (i ∷ is) (suc k) c d e = omega (arith, nth_times is k c d e, item_times x i (with_nth_item is k (value c)), item_times x i is)

  nth_handles : (is : List Item) (k : ℕ) (c d : Content) → nth_item is k ≡ Some (value d) → times x (handles_of_items (with_nth_item is k (value c))) + times x (handles_of_content d) ≡ times x (handles_of_items is) + times x (handles_of_content c)
  nth_handles [] k c d e = absurd (no e)
    where
      no : None ≡ Some (value d) → ⊥
      no e = cc
  nth_handles (i ∷ is) zero c d e =
      let same : times x (handles_of_item i) ≡ times x (handles_of_content d) = ap (λ j. times x (handles_of_item j)) (of_some e) in
      omega (arith, same, item_handles x (value c) is, item_handles x i is)
    where
      of_some : Some i ≡ Some (value d) → i ≡ value d
      of_some e = cc
  nth_handles (i ∷ is) (suc k) c d e = omega (arith, nth_handles is k c d e, item_handles x i (with_nth_item is k (value c)), item_handles x i is)

  pub holders-with_content : (m : Mem) (spot : Spot) → IsReal m spot → (c : Content) → holders (with_content m spot c) x + times x (stores_of_content (content_at m spot)) ≡ holders m x + times x (stores_of_content c)
  holders-with_content m (stored s) h c = holders-with_store m x s (Some c)
  holders-with_content m (standing b k) h c =
      let is = (scope_of m b).temps in
      let there : times x (stores_of_content (content_if (nth_item is k))) ≡ times x (stores_of_content h.0) = ap (λ i. times x (stores_of_content (content_if i))) h.1 in
      omega (arith, holders-with_temps m x b (with_nth_item is k (value c)), nth_times is k c h.0 h.1, there)

  pub handles-with_content : (m : Mem) (spot : Spot) → IsReal m spot → (c : Content) → object_holders (with_content m spot c) x + times x (handles_of_content (content_at m spot)) ≡ object_holders m x + times x (handles_of_content c)
  handles-with_content m (stored s) h c = handles-with_store m x s (Some c)
  handles-with_content m (standing b k) h c =
      let is = (scope_of m b).temps in
      let there : times x (handles_of_content (content_if (nth_item is k))) ≡ times x (handles_of_content h.0) = ap (λ i. times x (handles_of_content (content_if i))) h.1 in
      omega (arith, handles-with_temps m x b (with_nth_item is k (value c)), nth_handles is k c h.0 h.1, there)

-- the elements that a write goes on in name what the content names
abbrev pub ElementsOf : Content → Option (Listing ℕ) → Type 0
ElementsOf c None = Unit {0}
ElementsOf c (Some t) = (stores_of_content c ≡ stores_of_entries t.entries) × (handles_of_content c ≡ [])

pub elements_written : (c : Content) → ElementsOf c (elements_to_write c)
elements_written null = (refl, refl)
elements_written (truth b) = tt
elements_written (int i) = tt
elements_written (text bytes) = tt
elements_written (array t) = (refl, refl)
elements_written (object h) = tt

live_before_new : (m : Mem) (c : Content) (s : ℕ) → IsLive (with_new_store m c) s → (s ≡ new_store_number m) ⊎ IsLive m s
live_before_new m c s h = elim (eqb_tells s (length m.stores)) [
  | inl e ↦ inl e.1
  | inr e ↦ inr (ap is_some (sym (numbered-with_other m.stores (length m.stores) s (Some c) e.1) ∙ ap (λ xs. numbered xs s) (sym (with_next-numbered m.stores c))) ∙ h)
]

-- a content at a spot stays when a store is added
content_kept : (m : Mem) (spot : Spot) → content_at (with_new_store m null) spot ≡ content_at m spot
content_kept m (standing b k) = refl
content_kept m (stored s) = elim (eqb_tells s (length m.stores)) [
  | inl e ↦ ap (λ j. unwrap_or (numbered (with_next m.stores null) j) null) e.1 ∙ ap (λ xs. unwrap_or (numbered xs (length m.stores)) null) (with_next-numbered m.stores null) ∙ ap (λ o. unwrap_or o null) (numbered-with_same m.stores (length m.stores) (Some null)) ∙ sym (ap (λ j. unwrap_or (numbered m.stores j) null) e.1 ∙ ap (λ o. unwrap_or o null) (numbered-length m.stores))
  | inr e ↦ ap (λ xs. unwrap_or (numbered xs s) null) (with_next-numbered m.stores null) ∙ ap (λ o. unwrap_or o null) (numbered-with_other m.stores (length m.stores) s (Some null) e.1)
]

pub real_kept : (m : Mem) (spot : Spot) → IsReal m spot → IsReal (with_new_store m null) spot
real_kept m (stored s) h = tt
real_kept m (standing b k) h = h

pub live_with_content : (m : Mem) (spot : Spot) (c : Content) (s : ℕ) → IsLive (with_content m spot c) s → (stored s ≡ spot) ⊎ IsLive m s
live_with_content m (standing b k) c s h = inr h
live_with_content m (stored j) c s h = elim (eqb_tells s j) [
  | inl e ↦ inl (ap stored e.1)
  | inr e ↦ inr (ap is_some (sym (numbered-with_other m.stores j s (Some c) e.1)) ∙ h)
]

pub objects_kept : (m : Mem) (spot : Spot) (c : Content) → (with_content m spot c).objects ≡ m.objects
objects_kept m (stored s) c = refl
objects_kept m (standing b k) c = refl

-- a spot in a store that is there
abbrev pub IsThere : Mem → Spot → Type 0
IsThere m (stored s) = IsLive m s
IsThere m (standing b k) = Unit {0}

pub there_of : (m : Mem) (spot : Spot) (s : ℕ) → stored s ≡ spot → IsThere m spot → IsLive m s
there_of m spot s e h = let P : Spot → Type 0 = IsThere m in subst P (sym e) h

-- links on top stay there
abbrev pub KeepsTopLinks : Mem → Mem → Type 0
KeepsTopLinks m n = (b s : ℕ) → top m b ≡ link s → top n b ≡ link s

pub top_link_kept : (m : Mem) (spot : Spot) → IsReal m spot → (c : Content) → KeepsTopLinks m (with_content m spot c)
top_link_kept m (stored j) real c b s e = e
top_link_kept m (standing k j) real c b s e = elim (eqb_tells b k) [
  | inl d ↦ ap (λ x. top (with_content m (standing k j) c) x) d.1 ∙ ap (λ o. top_of (unwrap_or o no_scope).temps) (numbered-with_same m.blocks k (Some (record (scope_of m k) { temps = with_nth_item (scope_of m k).temps j (value c) }))) ∙ kept (scope_of m k).temps j real.0 real.1 (sym (ap (λ x. top m x) d.1) ∙ e)
  | inr d ↦ ap (λ o. top_of (unwrap_or o no_scope).temps) (numbered-with_other m.blocks k b (Some (record (scope_of m k) { temps = with_nth_item (scope_of m k).temps j (value c) })) d.1) ∙ e
]
  where
    kept : (is : List Item) (j : ℕ) (d : Content) → nth_item is j ≡ Some (value d) → top_of is ≡ link s → top_of (with_nth_item is j (value c)) ≡ link s
    kept [] j d p q = q
    kept (i ∷ is) zero d p q = absurd (no p q)
      where
        no : Some i ≡ Some (value d) → i ≡ link s → ⊥
        no p q = cc
    kept (i ∷ is) (suc j) d p q = q

pub top_with_variables : (m : Mem) (k b : ℕ) (vs : List Variable) → top (with_scope m k (record (scope_of m k) { variables = vs })) b ≡ top m b
top_with_variables m k b vs = elim (eqb_tells b k) [
  | inl d ↦ ap (λ x. top (with_scope m k (record (scope_of m k) { variables = vs })) x) d.1 ∙ ap (λ o. top_of (unwrap_or o no_scope).temps) (numbered-with_same m.blocks k (Some (record (scope_of m k) { variables = vs }))) ∙ sym (ap (λ x. top m x) d.1)
  | inr d ↦ ap (λ o. top_of (unwrap_or o no_scope).temps) (numbered-with_other m.blocks k b (Some (record (scope_of m k) { variables = vs })) d.1)
]

abbrev pub WalkHeld : Mem → Walk → Type 0
WalkHeld m (reached n spot) = Grows m n × (IsReal n spot × (IsThere n spot × KeepsTopLinks m n))
WalkHeld m (stopped why) = Unit {0}

module _ (m : Mem) where
  element_made-held : (g : Growth ℕ) (t : Listing ℕ) (spot : Spot) → IsReal m spot → IsThere m spot → ElementsOf (content_at m spot) (Some t) → ((x : ℕ) → Grown-times x g t None (new_store_number m)) → WalkHeld m (element_made g m spot)
  element_made-held NoKeyLeft t spot real there named grown = tt
  element_made-held NoEntryLeft t spot real there named grown = tt
  element_made-held (Grown u) t spot real there named grown =
      let m' = with_new_store m null in
      let n = with_content m' spot (array u) in
      let k = new_store_number m in
      let old : (x : ℕ) → times x (stores_of_content (content_at (with_new_store m null) spot)) ≡ times x (stores_of_entries t.entries) = λ x. ap (λ c. times x (stores_of_content c)) (content_kept m spot) ∙ ap (times x) named.0 in
      let none : (x : ℕ) → times x (handles_of_content (content_at (with_new_store m null) spot)) ≡ 0 = λ x. ap (λ c. times x (handles_of_content c)) (content_kept m spot) ∙ ap (times x) named.1 in
      let count : (x : ℕ) → holders n x ≡ holders m x + times x (k ∷ []) = λ x. omega (arith, holders-with_content x m' spot (real_kept m spot real) (array u), holders-with_new m x null, old x, grown x) in (
        record {
          stores = λ s live. elim (live_with_content m' spot (array u) s live) [
            | inl e ↦ inl (there_of m spot s e there)
            | inr h ↦ elim (live_before_new m null s h) [
              | inl e ↦ inr (let one : 0 < times s (k ∷ []) = subst (λ (j : ℕ). 0 < times s (j ∷ [])) e (times-self s []) in omega (arith, one, count s))
              | inr was ↦ inl was
            ]
          ];
          more = λ s. omega (arith, count s);
          objects = λ h e. let P : Numbered Object → Type 0 = λ os. IsSome (numbered os h) in subst P (objects_kept m' spot (array u)) e;
          objects_stay = λ h e. let P : Numbered Object → Type 0 = λ os. IsSome (numbered os h) in subst P (sym (objects_kept m' spot (array u))) e;
          handles = λ h. omega (arith, handles-with_content h m' spot (real_kept m spot real) (array u), handles-with_new m h null, none h);
        },
        (tt, (stays k, λ b s e. top_link_kept m' spot (real_kept m spot real) (array u) b s e)),
      )
    where
      stays : (k : ℕ) → IsLive (with_content (with_new_store m null) spot (array u)) (new_store_number m)
      stays k = live_still spot
        where
          new_there : IsLive (with_new_store m null) (new_store_number m)
          new_there = ap is_some (ap (λ xs. numbered xs (length m.stores)) (with_next-numbered m.stores null) ∙ numbered-with_same m.stores (length m.stores) (Some null))

          live_still : (spot : Spot) → IsLive (with_content (with_new_store m null) spot (array u)) (new_store_number m)
          live_still (stored s) = live-with (with_next m.stores null) s (array u) (length m.stores) new_there
          live_still (standing b j) = new_there

module _ (m : Mem) where
  element_to_write-held : (o : Option ℕ) (t : Listing ℕ) (spot : Spot) (step : Step) → step_store t step ≡ o → IsReal m spot → IsThere m spot → ElementsOf (content_at m spot) (Some t) → ((s : ℕ) → o ≡ Some s → IsLive m s) → WalkHeld m (element_to_write o t m spot step)
  element_to_write-held (Some s) t spot step e real there named live = (Grows-refl m, (tt, (live s refl, λ b s e. e)))
  element_to_write-held None t spot step e real there named live =
      element_made-held m (step_set t step (new_store_number m)) t spot real there named
      (λ x. let P : Option ℕ → Type 0 = λ o. Grown-times x (step_set t step (new_store_number m)) t o (new_store_number m) in subst P e (step_set-times x t step (new_store_number m)))

  step_in-held : (o : Option (Listing ℕ)) (spot : Spot) (step : Step) → IsReal m spot → IsThere m spot → ElementsOf (content_at m spot) o → ((t : Listing ℕ) (s : ℕ) → o ≡ Some t → step_store t step ≡ Some s → IsLive m s) → WalkHeld m (step_in_elements o m spot step)
  step_in-held None spot step real there named live = tt
  step_in-held (Some t) spot step real there named live = element_to_write-held (step_store t step) t spot step refl real there named (λ s e. live t s refl e)

live_in_new : (m : Mem) (c : Content) → IsLive (with_new_store m c) (new_store_number m)
live_in_new m c = ap is_some (ap (λ xs. numbered xs (length m.stores)) (with_next-numbered m.stores c) ∙ numbered-with_same m.stores (length m.stores) (Some c))

-- a base that is made names the new store once
made_named : (m n : Mem) → ((s : ℕ) → IsLive n s → IsLive (with_new_store m null) s) → ((x : ℕ) → holders n x ≡ holders m x + times x (new_store_number m ∷ [])) → ((h : ℕ) → IsObject n h → IsObject m h) → ((h : ℕ) → IsObject m h → IsObject n h) → ((h : ℕ) → object_holders n h ≡ object_holders m h) → Grows m n
made_named m n stores count objects stay handles = record {
  stores = λ s live. elim (live_before_new m null s (stores s live)) [
    | inl e ↦ inr (let one : 0 < times s (new_store_number m ∷ []) = subst (λ (j : ℕ). 0 < times s (j ∷ [])) e (times-self s []) in omega (arith, one, count s))
    | inr was ↦ inl was
  ];
  more = λ s. omega (arith, count s);
  objects = objects;
  objects_stay = stay;
  handles = handles;
}

variables-added : (x : ℕ) (vs : List Variable) (v : Variable) → times x (stores_of_variables (vs ++ v ∷ [])) ≡ times x (stores_of_variables vs) + times x (v.store ∷ [])
variables-added x [] v = omega arith
variables-added x (w ∷ vs) v = omega (arith, variables-added x vs v)

properties-added : (x : ℕ) (ps : List Property) (p : Property) → times x (stores_of_properties (ps ++ p ∷ [])) ≡ times x (stores_of_properties ps) + times x (p.store ∷ [])
properties-added x [] p = omega arith
properties-added x (q ∷ ps) p = omega (arith, properties-added x ps p)

pub weight_of_live : (m : Mem) (h : ℕ) → IsObject m h → (x : Object) → (k : ℕ) → IsObject (with_object m h x) k → IsObject m k
weight_of_live m h live x k e = elim (eqb_tells k h) [
  | inl d ↦ subst (λ (j : ℕ). IsObject m j) (sym d.1) live
  | inr d ↦ ap is_some (sym (numbered-with_other m.objects h k (Some x) d.1)) ∙ e
]

module _ (m : Mem) where
  variable_to_write-held : (o : Option ℕ) (b k : ℕ) → ((s : ℕ) → o ≡ Some s → IsLive m s) → WalkHeld m (variable_to_write o m b k)
  variable_to_write-held (Some s) b k live = (Grows-refl m, (tt, (live s refl, λ b s e. e)))
  variable_to_write-held None b k live =
      let m' = with_new_store m null in
      let s = new_store_number m in
      let v : Variable = record { name = k; store = s } in
      let vs = (scope_of m b).variables in
      let n = with_scope m' b (record (scope_of m' b) { variables = vs ++ v ∷ [] }) in (
        made_named m n (λ s e. e) (λ x. omega (arith, holders-with_variables m' x b (vs ++ v ∷ []), holders-with_new m x null, variables-added x vs v)) (λ h e. e) (λ h e. e)
            (λ h. omega (arith, handles-with_variables m' h b (vs ++ v ∷ []), handles-with_new m h null)),
        (tt, (live_in_new m null, λ c t e. top_with_variables m' b c (vs ++ v ∷ []) ∙ e)),
      )

  property_to_write-held : (o : Option ℕ) (h : ℕ) (p : PropName) → IsObject m h → ((s : ℕ) → o ≡ Some s → IsLive m s) → WalkHeld m (property_to_write o m h p)
  property_to_write-held (Some s) h p there live = (Grows-refl m, (tt, (live s refl, λ b s e. e)))
  property_to_write-held None h p there live =
      let m' = with_new_store m null in
      let s = new_store_number m in
      let q : Property = record { name = p; store = s } in
      let x = object_of m h in
      let y : Object = record x { properties = x.properties ++ q ∷ [] } in (
        made_named m (with_object m' h y) (λ s e. e) (λ i. omega (arith, holders-with_object m' i h (Some y), holders-with_new m i null, properties-added i x.properties q)) (weight_of_live m h there y) (λ k e. live-with m.objects h y k e)
            (λ k. handles-with_object m' k h (Some y) ∙ (let e : object_holders m' k ≡ object_holders m k = omega (arith, handles-with_new m k null) in e)),
        (tt, (live_in_new m null, λ c t e. e)),
      )

  static_to_write-held : (o : Option ℕ) (i : ℕ) → numbered m.statics i ≡ o → ((s : ℕ) → o ≡ Some s → IsLive m s) → WalkHeld m (static_to_write o m i)
  static_to_write-held (Some s) i e live = (Grows-refl m, (tt, (live s refl, λ b s e. e)))
  static_to_write-held None i e live =
      let m' = with_new_store m null in
      let s = new_store_number m in
      let none : (x : ℕ) → weight_if (λ t. times x (t ∷ [])) (numbered m.statics i) ≡ 0 = λ x. ap (weight_if (λ t. times x (t ∷ []))) e in (
        made_named m (record m' { statics = with_numbered m.statics i (Some s) }) (λ s e. e) (λ x. omega (arith, holders-with_static m' x i (Some s), holders-with_new m x null, none x)) (λ h e. e) (λ h e. e)
            (λ k. handles-with_static m' k i (Some s) ∙ (let e : object_holders m' k ≡ object_holders m k = omega (arith, handles-with_new m k null) in e)),
        (tt, (live_in_new m null, λ c t e. e)),
      )

  temp_to_write-held : (b k : ℕ) (i : Option Item) → nth_item (scope_of m b).temps k ≡ i → IsSome i → ((s : ℕ) → i ≡ Some (link s) → IsLive m s) → WalkHeld m (temp_to_write (temp_spot b k i) m b k)
  temp_to_write-held b k None e there live = absurd (false≢true there)
  temp_to_write-held b k (Some (value c)) e there live = (Grows-refl m, ((c, e), (tt, λ b s e. e)))
  temp_to_write-held b k (Some (link s)) e there live = (Grows-refl m, (tt, (live s refl, λ b s e. e)))

pub found_live : (P : ℕ → Type 0) (o : Option ℕ) → IfFound P o → (s : ℕ) → o ≡ Some s → P s
found_live P None h s e = absurd (no e)
  where
    no : None ≡ Some s → ⊥
    no e = cc
found_live P (Some t) h s e = let same : t ≡ s = cc in subst P same h

pub nth_some : (is : List Item) (k : ℕ) → k < length is → IsSome (nth_item is k)
nth_some [] k h = absurd (omega (arith, h))
nth_some (i ∷ is) zero h = refl
nth_some (i ∷ is) (suc k) h = nth_some is k (omega (arith, h))

more_held : (l m : Mem) → Grows l m → KeepsTopLinks l m → (w : Walk) → WalkHeld m w → WalkHeld l w
more_held l m g t (stopped why) h = tt
more_held l m g t (reached n spot) h = (Grows-trans l m n g h.0, (h.1.0, (h.1.1.0, λ b s e. h.1.1.1 b s (t b s e))))

module _ (m : Mem) (closed : IsClosed m) where
  base_to_write-held : (base : Base) → IsBase m base → WalkHeld m (base_to_write m base)
  base_to_write-held (Var b k) h = let o = variable_store (scope_of m b.0).variables k.0 in variable_to_write-held m o b.0 k.0 (found_live (IsLive m) o (variable-found (IsLive m) (scope_of m b.0).variables k.0 (variables-closed m closed b.0)))
  base_to_write-held (OfObject k p) h = let o = property_store (object_of m k.0).properties p in property_to_write-held m o k.0 p h.0 (found_live (IsLive m) o (property-found (IsLive m) (object_of m k.0).properties p (object-closed m closed k.0)))
  base_to_write-held (Static i) h = static_to_write-held m (numbered m.statics i.0) i.0 refl (λ s e. closed.statics i.0 s e)
  base_to_write-held (Temp b k) h = let i = nth_item (scope_of m b.0).temps k in temp_to_write-held m b.0 k i refl (nth_some (scope_of m b.0).temps k h.1) (λ s e. nth_link-found (IsLive m) (scope_of m b.0).temps k s (temps-closed m closed b.0) e)

  entered_live : (spot : Spot) (step : Step) (t : Listing ℕ) (s : ℕ) → elements_to_write (content_at m spot) ≡ Some t → step_store t step ≡ Some s → IsLive m s
  entered_live spot step t s e f =
      let P : Option (Listing ℕ) → Type 0 = ElementsNamed (IsLive m) in
      found_live (IsLive m) (step_store t step) (step-found (IsLive m) t step (subst P e (elements_named (IsLive m) (content_at m spot) (content_at-closed m closed spot)))) s f

  walk_step-held : (spot : Spot) (step : Step) → IsReal m spot → IsThere m spot → WalkHeld m (walk_step (reached m spot) step)
  walk_step-held spot step real there = step_in-held m (elements_to_write (content_at m spot)) spot step real there (elements_written (content_at m spot)) (λ t s e f. entered_live spot step t s e f)

walk_on-held : (to : ℕ → ℕ) (m : Mem) (w : Walk) → WalkHeld m w → WalksAlike to m w w → (step : Step) → WalkHeld m (walk_step w step)
walk_on-held to m (stopped why) h a step = tt
walk_on-held to m (reached n spot) h a step = more_held m n h.0 h.1.1.1 (walk_step (reached n spot) step) (walk_step-held n a.closed spot step h.1.0 h.1.1.0)

walk_along-held : (to : ℕ → ℕ) (m : Mem) (w : Walk) → WalkHeld m w → WalksAlike to m w w → (path : List Step) → WalkHeld m (walk_along w path)
walk_along-held to m w h a [] = h
walk_along-held to m w h a (step ∷ path) = walk_along-held to m (walk_step w step) (walk_on-held to m w h a step) (walk_on-alike to m w w a step) path

-- moving the top into a spot moves its names and what stood there

top_after : (m : Mem) (b : ℕ) (spot : Spot) (c : Content) → top m b ≡ value c → top (with_content m spot c) b ≡ value c
top_after m b (stored s) c e = e
top_after m b (standing k j) c e = elim (eqb_tells b k) [
  | inl d ↦ ap (λ x. top (with_content m (standing k j) c) x) d.1 ∙ ap (λ o. top_of (unwrap_or o no_scope).temps) (numbered-with_same m.blocks k (Some (record (scope_of m k) { temps = with_nth_item (scope_of m k).temps j (value c) }))) ∙ kept (scope_of m k).temps j (sym (ap (λ x. top m x) d.1) ∙ e)
  | inr d ↦ ap (λ o. top_of (unwrap_or o no_scope).temps) (numbered-with_other m.blocks k b (Some (record (scope_of m k) { temps = with_nth_item (scope_of m k).temps j (value c) })) d.1) ∙ e
]
  where
    kept : (is : List Item) (j : ℕ) → top_of is ≡ value c → top_of (with_nth_item is j (value c)) ≡ value c
    kept [] j e = e
    kept (i ∷ is) zero e = refl
    kept (i ∷ is) (suc j) e = e

moved_in-grows : (m : Mem) (b : ℕ) (spot : Spot) → IsReal m spot → IsThere m spot → (i : Item) → top m b ≡ i → Grows m (moved_in i m b spot)
moved_in-grows m b spot real there (link s) e = Grows-refl m
moved_in-grows m b spot real there (value c) e =
    let n = with_content m spot c in
    let old = content_at m spot in
    let last = let_fall (popped n b) b (value old) in
    let names : (s : ℕ) → holders last s ≡ holders m s = λ s. (let t : times s (stores_of_item (top n b)) ≡ times s (stores_of_content c) = ap (λ i. times s (stores_of_item i)) (top_after m b spot c e) in omega (arith, t, holders-with_content s m spot real c, holders-popped n s b, holders-let_fall (popped n b) s b (value old))) in
    let handles : (s : ℕ) → object_holders last s ≡ object_holders m s = λ s. (let t : times s (handles_of_item (top n b)) ≡ times s (handles_of_content c) = ap (λ i. times s (handles_of_item i)) (top_after m b spot c e) in omega (arith, t, handles-with_content s m spot real c, handles-popped n s b, handles-let_fall (popped n b) s b (value old))) in
    record {
      stores = λ s live. elim (live_with_content m spot c s live) [
        | inl d ↦ inl (there_of m spot s d there)
        | inr h ↦ inl h
      ];
      more = λ s. omega (arith, names s);
      objects = λ h d. let P : Numbered Object → Type 0 = λ os. IsSome (numbered os h) in subst P (objects_kept m spot c) d;
      objects_stay = λ h d. let P : Numbered Object → Type 0 = λ os. IsSome (numbered os h) in subst P (sym (objects_kept m spot c)) d;
      handles = handles;
    }

assigned-grows : (m : Mem) (w : Walk) → WalkHeld m w → (b : ℕ) → Grows m (assigned w m b).0
assigned-grows m (stopped why) h b = Grows-refl m
assigned-grows m (reached n spot) h b = Grows-trans m n (moved_in (top n b) n b spot) h.0 (moved_in-grows n b spot h.1.0 h.1.1.0 (top n b) refl)

pushed-grows : (m : Mem) (b s : ℕ) → Grows m (pushed m b (link s))
pushed-grows m b s = record { stores = λ k h. inl h; more = λ k. omega (arith, holders-pushed m k b (link s)); objects = λ h e. e; objects_stay = λ h e. e; handles = λ h. omega (arith, handles-pushed m h b (link s)) }

linked-grows : (m : Mem) (w : Walk) → WalkHeld m w → (b : ℕ) → Grows m (linked w m b).0
linked-grows m (stopped why) h b = Grows-refl m
linked-grows m (reached n (standing c k)) h b = Grows-refl m
linked-grows m (reached n (stored s)) h b = Grows-trans m n (pushed n b (link s)) h.0 (pushed-grows n b s)

module _ (m : Mem) (closed : IsClosed m) (held : IsHeld m) where
  pub walk-held : (base : Base) (path : List Step) → IsBase m base → WalkHeld m (walk m base path)
  unfolding walk
  walk-held base path h =
      let a = Alike-refl m in
      walk_along-held a.to m (base_to_write m base) (base_to_write-held m closed base h) (base_to_write-alike a.to a.back m m a.renamed closed base) path

  pub assign-held : (b : ℕ) (p : Place) → CanAssign b p m → IsHeld (assign m b p).0
  unfolding assign
  assign-held b p can = grown-held m (assigned (walk m p.base p.path) m b).0 held (assigned-grows m (walk m p.base p.path) (walk-held p.base p.path can.place.0) b)

  pub make_link-held : (b : ℕ) (p : Place) → CanLink b p m → IsHeld (make_link m b p).0
  unfolding make_link
  make_link-held b p can = grown-held m (linked (walk m p.base p.path) m b).0 held (linked-grows m (walk m p.base p.path) (walk-held p.base p.path can.place.0) b)

module _ (m : Mem) (closed : IsClosed m) (held : IsHeld m) where
  pub append-held : (b : ℕ) (p : Place) → CanAppend b p m → IsHeld (append m b p)
  unfolding append
  append-held b p can =
      let bytes : List ℕ = text_found (found m p) ++ text_of_item (top m b) in
      let on_top = first_on_top (scope_of m b).temps (value (text can.behind)) can.top in
      assign-held (with_top m b (value (text bytes))) (text_on_top-closed m closed b bytes) (text_on_top-held m held b can.behind bytes on_top) b p (can_assign_joined m b p can bytes)
