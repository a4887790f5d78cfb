-- What was bound is what the model binds, but for the numbers of new stores.
use Rattle.std.proofs.Common.{◌≡◌, ◌≢◌, ◌<◌, ◌≤◌, ℕ, zero, suc, List, [], ◌∷◌, ◌++◌, length, drop, refl, sym, ◌∙◌, ap, subst, arith, inl, inr, ◌⊎◌}
use Rattle.std.specs.Prelude.{Option, Some, None}
use Rattle.php_entries.specs.Listing.{Listing}
use Rattle.php_entries.specs.Changes.{Growth, Grown, map_listing, map_growth}
use Rattle.php_memdef.specs.declared.place.Base.{Base}
use Rattle.php_memdef.specs.declared.place.Base.TheVariants.{Var, Property as OfObject, Static, Temp}
use Rattle.php_memdef.specs.declared.place.Step.{Step}
use Rattle.php_memdef.specs.declared.answer.Wrote.{Wrote}
use Rattle.php_memdef.specs.declared.answer.Wrote.TheVariants.{Done, NotArray, Full, Limit}
use Rattle.php_memdef.specs.Numbered.{Numbered, numbered, with_numbered}
use Rattle.php_memdef.specs.Contents.{Content, null, truth, int, text, array, object, Mem}
use Rattle.php_memdef.specs.Holders.{stores_of_content}
use Rattle.php_memdef.specs.Places.{Spot, stored, standing, content_at, with_content, new_store_number, base_spot, elements_of, elements_to_write, stored_if, step_store, step_store_if, step_set, next_spot, reached, walk_along, walk}
use Rattle.php_memdef.specs.Writes.{bound, unbound, steps_before, last_step, element_bound, bound_in_elements, element_of_walk_bound, bound_at}
use Rattle.php_memdef.specs.Sound.{Every, IsLive, IsClosed}
use Rattle.php_memdef.specs.Alike.{map_if, IsRenamed}
use Rattle.php_memdef_laws.proofs.NumberedLemmas.{numbered-with_other}
use Rattle.php_memdef_laws.proofs.Alike.Renamings.{Every-weaken, content-agree, content-kept}
use Rattle.php_memdef_laws.proofs.Alike.Places.{renamed_spot, with_content-renamed}
use Rattle.php_memdef_laws.proofs.Alike.Walks.{ElementsNamed, elements_named}
use Rattle.php_memdef_laws.proofs.Closed.Parts.{IsSpotLive, IfFound, step-found, content_at-closed}
use Rattle.php_memplain_cells.proofs.MemoryLemmas.{found_some}
use Rattle.php_memplain_writes.specs.Chains.{ChainTo}
use Rattle.php_memplain_writes.specs.Reached.{IsNoTemp, with_base}
use Rattle.php_memplain_writes.specs.Grows.{IsRefusal}
use Rattle.php_memplain_writes.specs.Growing.{CantGrow}
use Rattle.php_memplain_writes.proofs.WayLemmas.{none_some, same_some, nothing_there}
use Rattle.php_memplain_writes.proofs.ChainLemmas.{one_element}
use Rattle.php_memplain_writes.proofs.AgreeLemmas.{step_set-map, same_grown, with_stores_of, Both, chains_agree}
use Rattle.php_memplain_writes.proofs.NewWalkLemmas.{base_walk, element_walk}
use Rattle.php_memplain_writes.proofs.ReachLemmas.{itself_renamed, with_base-renamed, step_kind, also_grown, also_refused, refused_there, no_array_there}
use Rattle.php_memplain_writes.proofs.ReachedLemmas.{new_leaf}
use Rattle.php_memplain_writes.proofs.BindLemmas.{path_split, chain_led, base_put, spot_put, walk_bound}

abbrev itself : ℕ → ℕ
itself s = s

-- the last step of a path

no_last : (x : Step) (xs : List Step) (y : Step) → [] ≡ x ∷ (xs ++ y ∷ []) → ⊥
no_last x xs y e = cc

record SameEnds (xs ys : List Step) (x y : Step) : Type 0 where
  front : xs ≡ ys
  last : x ≡ y

same_ends : (xs ys : List Step) (x y : Step) → xs ++ x ∷ [] ≡ ys ++ y ∷ [] → SameEnds xs ys x y
same_ends [] [] x y e = record { front = refl; last = same e }
  where
    same : x ∷ [] ≡ y ∷ [] → x ≡ y
    same e = cc
same_ends [] (z ∷ ys) x y e = absurd (never ys e)
  where
    never : (ys : List Step) → x ∷ [] ≡ z ∷ (ys ++ y ∷ []) → ⊥
    never [] e = cc
    never (w ∷ ys) e = cc
same_ends (z ∷ xs) [] x y e = absurd (never xs e)
  where
    never : (xs : List Step) → z ∷ (xs ++ x ∷ []) ≡ y ∷ [] → ⊥
    never [] e = cc
    never (w ∷ xs) e = cc
same_ends (z ∷ xs) (w ∷ ys) x y e =
    let rest = same_ends xs ys x y (tails e) in
    record { front = both (heads e) rest.front; last = rest.last }
  where
    heads : z ∷ (xs ++ x ∷ []) ≡ w ∷ (ys ++ y ∷ []) → z ≡ w
    heads e = cc

    tails : z ∷ (xs ++ x ∷ []) ≡ w ∷ (ys ++ y ∷ []) → xs ++ x ∷ [] ≡ ys ++ y ∷ []
    tails e = cc

    both : z ≡ w → xs ≡ ys → z ∷ xs ≡ w ∷ ys
    both e f = cc

pub bound_last : (m : Mem) (base : Base) (path front : List Step) (last : Step) (s : ℕ) → path ≡ front ++ last ∷ [] → bound_at m base path s ≡ element_of_walk_bound (walk m base front) last s
bound_last m base [] [] last s e = absurd (never e)
  where
    never : [] ≡ last ∷ [] → ⊥
    never e = cc
bound_last m base [] (step ∷ front) last s e = absurd (no_last step front last e)
bound_last m base (step ∷ path) front last s e =
    let same = same_ends (steps_before step path) front (last_step step path) last (path_split step path ∙ e) in
    ap (λ p. element_of_walk_bound (walk m base p) (last_step step path) s) same.front ∙ ap (λ x. element_of_walk_bound (walk m base front) x s) same.last

-- the place points to the store as the model's does, but for the numbers of new stores
pub record BindsAs (m : Mem) (base : Base) (path : List Step) (s : ℕ) (n : Mem) (fell : Option ℕ) : Type 0 where
  pub walked : Mem
  pub led : Option ℕ
  pub is : bound_at m base path s ≡ bound walked led
  pub to : ℕ → ℕ
  pub back : ℕ → ℕ
  pub renamed : IsRenamed to back walked n
  pub fell_is : fell ≡ map_if to led

-- a base that was missing
pub binds_base : (m : Mem) → IsClosed m → (base : Base) → IsNoTemp base → base_spot m base ≡ None → (path front : List Step) (last : Step) → path ≡ front ++ last ∷ [] → (s : ℕ) → IsLive m s → (zs : Numbered Content) (top : ℕ) → ChainTo m.stores s path zs top → (n : Mem) → n ≡ with_base base (with_stores_of m zs) top → BindsAs m base path s n None
binds_base m closed base no_temp e path front last split s live zs top q n is =
    let w = base_walk m base no_temp e front in
    let one = one_element last s in
    let c = array one.elements in
    let met = with_base base (with_stores_of m w.stores) w.top in
    let there : numbered met.stores w.leaf ≡ Some null = ap (λ xs. numbered xs w.leaf) (base_stores base (with_stores_of m w.stores) w.top) ∙ new_leaf m.stores w.stores front w.top w.leaf w.made in
    let xs = with_numbered w.stores w.leaf (Some c) in
    let chain = chain_led m.stores w.stores front w.top w.leaf w.made last s one in
    let b = chains_agree (front ++ last ∷ []) itself itself m m (itself_renamed m) closed s live xs w.top chain s refl zs top (subst (λ p. ChainTo m.stores s p zs top) split q) in
    let r = with_base-renamed b.to' b.back' (with_stores_of m xs) (with_stores_of m zs) b.renamed base w.top in
    record {
      walked = with_base base (with_stores_of m xs) w.top;
      led = None;
      is =
          bound_last m base path front last s split
          ∙ ap (λ x. element_of_walk_bound x last s) w.walks
          ∙ walk_bound met w.leaf there last s one
          ∙ ap (λ x. bound x None) (base_put base m w.stores w.top w.leaf c);
      to = b.to';
      back = b.back';
      renamed = subst (IsRenamed b.to' b.back' (with_base base (with_stores_of m xs) w.top)) (ap (with_base base (with_stores_of m zs)) b.number ∙ sym is) r;
      fell_is = refl;
    }
  where
    base_stores : (base : Base) (m : Mem) (s : ℕ) → (with_base base m s).stores ≡ m.stores
    base_stores (Var b k) m s = refl
    base_stores (OfObject h p) m s = refl
    base_stores (Static i) m s = refl
    base_stores (Temp b k) m s = refl

-- a step that leads nowhere led to no store
led_none : (c : Content) (t : Listing ℕ) → elements_to_write c ≡ Some t → (step : Step) → stored_if (step_store_if (elements_of c) step) ≡ None → step_store t step ≡ None
led_none null t e step f = ap (λ (u : Listing ℕ). step_store u step) (sym (same_some e)) ∙ nothing_there step
led_none (truth b) t e step f = absurd (none_some e)
led_none (int i) t e step f = absurd (none_some e)
led_none (text bytes) t e step f = absurd (none_some e)
led_none (array u) t e step f = ap (λ (v : Listing ℕ). step_store v step) (sym (same_some e)) ∙ by_store (step_store u step) f
  where
    by_store : (o : Option ℕ) → stored_if o ≡ None → o ≡ None
    by_store None g = refl
    by_store (Some s) g = absurd (none_some (sym g))
led_none (object h) t e step f = absurd (none_some e)

spot_kept : (m : Mem) (to : ℕ → ℕ) → ((s : ℕ) → IsLive m s → to s ≡ s) → (x : Spot) → IsSpotLive m x → renamed_spot to x ≡ x
spot_kept m to kept (stored s) h = ap stored (kept s h)
spot_kept m to kept (standing b k) h = refl

same_array : {x y : Listing ℕ} → array x ≡ array y → x ≡ y
same_array e = cc

store_kept : (m : Mem) (to : ℕ → ℕ) → ((s : ℕ) → IsLive m s → to s ≡ s) → (t : Listing ℕ) → Every (IsLive m) (stores_of_content (array t)) → (step : Step) → step_store t step ≡ map_if to (step_store t step)
store_kept m to kept t named step = by_store (step_store t step) (step-found (IsLive m) t step named)
  where
    by_store : (o : Option ℕ) → IfFound (IsLive m) o → o ≡ map_if to o
    by_store None h = refl
    by_store (Some s) h = ap Some (sym (kept s h))

-- the step at which a way ends is the last of the path, or others come behind it

record EndsHere (front : List Step) (steps : ℕ) (step last : Step) (rest : List Step) : Type 0 where
  none : drop steps front ≡ []
  is_last : step ≡ last
  rest_is : rest ≡ []

record GoesOn (front : List Step) (steps : ℕ) (step last : Step) (rest : List Step) : Type 0 where
  later : List Step
  on : drop steps front ≡ step ∷ later
  rest_is : rest ≡ later ++ last ∷ []

module _ (m : Mem) (closed : IsClosed m) (base : Base) (path front : List Step) (last : Step) (split : path ≡ front ++ last ∷ []) (s : ℕ) (spot : Spot) (steps : ℕ) (step : Step) (rest : List Step)
    (here : drop steps path ≡ step ∷ rest) (goes : walk m base front ≡ walk_along (reached m spot) (drop steps front)) (stops : (step : Step) (later : List Step) → drop steps front ≡ step ∷ later → next_spot m (Some spot) step ≡ None) (within : steps ≤ length front) where
  dropped : drop steps (front ++ last ∷ []) ≡ drop steps front ++ last ∷ []
  dropped = drop_front front steps within
    where
      drop_front : (xs : List Step) (k : ℕ) → k ≤ length xs → drop k (xs ++ last ∷ []) ≡ drop k xs ++ last ∷ []
      drop_front [] zero h = refl
      drop_front [] (suc k) h = absurd (omega (arith, h))
      drop_front (x ∷ xs) zero h = refl
      drop_front (x ∷ xs) (suc k) h = drop_front xs k (omega (arith, h))

  -- either the step is the last one, or it leads nowhere
  turns : EndsHere front steps step last rest ⊎ GoesOn front steps step last rest
  turns = by_rest (drop steps front) refl (sym here ∙ ap (drop steps) split ∙ dropped)
    where
      by_rest : (r : List Step) → drop steps front ≡ r → step ∷ rest ≡ drop steps front ++ last ∷ [] → EndsHere front steps step last rest ⊎ GoesOn front steps step last rest
      by_rest [] e f = inl (record { none = e; is_last = heads (f ∙ ap (λ x. x ++ last ∷ []) e); rest_is = tails (f ∙ ap (λ x. x ++ last ∷ []) e) })
        where
          heads : step ∷ rest ≡ last ∷ [] → step ≡ last
          heads e = cc

          tails : step ∷ rest ≡ last ∷ [] → rest ≡ []
          tails e = cc
      by_rest (x ∷ r) e f = inr (record { later = r; on = e ∙ ap (λ y. y ∷ r) (sym (heads (f ∙ ap (λ y. y ++ last ∷ []) e))); rest_is = tails (f ∙ ap (λ y. y ++ last ∷ []) e) })
        where
          heads : step ∷ rest ≡ x ∷ (r ++ last ∷ []) → step ≡ x
          heads e = cc

          tails : step ∷ rest ≡ x ∷ (r ++ last ∷ []) → rest ≡ r ++ last ∷ []
          tails e = cc

  -- the element of the last step is bound where the rest of the path is there
  there_bound : drop steps front ≡ [] → step ≡ last → bound_at m base path s ≡ bound_in_elements (elements_to_write (content_at m spot)) m spot step s
  there_bound e f =
      bound_last m base path front last s split
      ∙ ap (λ x. element_of_walk_bound x last s) (goes ∙ ap (walk_along (reached m spot)) e)
      ∙ ap (λ x. bound_in_elements (elements_to_write (content_at m spot)) m spot x s) (sym f)

  -- the element can't be made

  refused_bound : (why : Wrote) (t : Listing ℕ) → elements_to_write (content_at m spot) ≡ Some t → (top : ℕ) → IsRefusal why (step_set t step top) → bound_at m base path s ≡ unbound why
  refused_bound why t e top h = elim turns [
    | inl a ↦
        there_bound a.none a.is_last ∙ ap (λ o. bound_in_elements o m spot step s) e ∙ refusal why (step_set t step s) (also_refused why (step_set t step top) (step_set t step s) (step_kind t step top s) h) (step_store t step)
    | inr a ↦
        bound_last m base path front last s split
        ∙ ap (λ x. element_of_walk_bound x last s) (refused_there m base front spot step a.later (goes ∙ ap (walk_along (reached m spot)) a.on) t e (stops step a.later a.on) why top h)
  ]
    where
      refusal : (why : Wrote) (g : Growth ℕ) → IsRefusal why g → (o : Option ℕ) → element_bound g o m spot ≡ unbound why
      refusal Done g e o = absurd e
      refusal NotArray g e o = absurd e
      refusal Full g e o = ap (λ x. element_bound x o m spot) e
      refusal Limit g e o = ap (λ x. element_bound x o m spot) e

  no_array_bound : elements_to_write (content_at m spot) ≡ None → bound_at m base path s ≡ unbound NotArray
  no_array_bound e = elim turns [
    | inl a ↦ there_bound a.none a.is_last ∙ ap (λ o. bound_in_elements o m spot step s) e
    | inr a ↦
        bound_last m base path front last s split
        ∙ ap (λ x. element_of_walk_bound x last s) (no_array_there m base front spot step a.later (goes ∙ ap (walk_along (reached m spot)) a.on) e)
  ]

  pub cant_bind : (why : Wrote) (top : ℕ) → CantGrow why (content_at m spot) step top → bound_at m base path s ≡ unbound why
  cant_bind Done top h = absurd h
  cant_bind NotArray top h = no_array_bound h
  cant_bind Full top h = refused_bound Full h.0 h.1.0 top h.1.1
  cant_bind Limit top h = refused_bound Limit h.0 h.1.0 top h.1.1

  -- the element is bound

  module _ (live : IsLive m s) (spot_live : IsSpotLive m spot) (t : Listing ℕ) (e : elements_to_write (content_at m spot) ≡ Some t) (zs : Numbered Content) (top : ℕ) (q : ChainTo m.stores s rest zs top) (u : Listing ℕ) (grown : step_set t step top ≡ Grown u) (n : Mem) (is : n ≡ with_content (with_stores_of m zs) spot (array u)) where
    named : Every (IsLive m) (stores_of_content (array t))
    named = subst (ElementsNamed (IsLive m)) e (elements_named (IsLive m) (content_at m spot) (content_at-closed m closed spot))

    -- what was made on both sides is one
    module _ (xs : Numbered Content) (other : ℕ) (b : Both itself m m other top xs zs) (v : Listing ℕ) (made : step_set t step other ≡ Grown v) where
      kept : array (map_listing b.to' t) ≡ array t
      kept = content-agree b.to' itself (array t) (Every-weaken (IsLive m) (λ k. b.to' k ≡ k) b.extends.kept (stores_of_content (array t)) named) ∙ content-kept (array t)

      u_is : u ≡ map_listing b.to' v
      u_is = same_grown (sym grown ∙ ap (step_set t step) (sym b.number) ∙ ap (λ x. step_set x step (b.to' other)) (sym (same_array kept)) ∙ step_set-map b.to' t step other ∙ ap (map_growth b.to') made)

      both_renamed : IsRenamed b.to' b.back' (with_content (with_stores_of m xs) spot (array v)) n
      both_renamed =
          subst (IsRenamed b.to' b.back' (with_content (with_stores_of m xs) spot (array v)))
          (ap (λ (x : Spot). with_content (with_stores_of m zs) x (array (map_listing b.to' v))) (spot_kept m b.to' b.extends.kept spot spot_live) ∙ ap (λ (x : Listing ℕ). with_content (with_stores_of m zs) spot (array x)) (sym u_is) ∙ sym is)
          (with_content-renamed b.to' b.back' (with_stores_of m xs) (with_stores_of m zs) b.renamed spot (array v))

    binds_last : drop steps front ≡ [] → step ≡ last → rest ≡ [] → BindsAs m base path s n (step_store t step)
    binds_last a f c =
        let b = chains_agree [] itself itself m m (itself_renamed m) closed s live m.stores s (refl, λ j. refl) s refl zs top (subst (λ p. ChainTo m.stores s p zs top) c q) in
        let g = also_grown (step_set t step top) (step_set t step s) (step_kind t step top s) u grown in
        record {
          walked = with_content m spot (array g.elements);
          led = step_store t step;
          is = there_bound a f ∙ ap (λ o. bound_in_elements o m spot step s) e ∙ ap (λ x. element_bound x (step_store t step) m spot) g.is;
          to = b.to';
          back = b.back';
          renamed = both_renamed m.stores s b g.elements g.is;
          fell_is = store_kept m b.to' b.extends.kept t named step;
        }

    binds_later : (later : List Step) → drop steps front ≡ step ∷ later → rest ≡ later ++ last ∷ [] → BindsAs m base path s n (step_store t step)
    binds_later later a c =
        let l = new_store_number m in
        let f = stops step later a in
        let g = also_grown (step_set t step top) (step_set t step l) (step_kind t step top l) u grown in
        let w = element_walk m base front spot spot_live step later (goes ∙ ap (walk_along (reached m spot)) a) t e f g.elements g.is in
        let one = one_element last s in
        let d = array one.elements in
        let met = with_content (with_stores_of m w.stores) spot (array g.elements) in
        let apart = leaf_apart spot spot_live w.leaf w.made.puts.free in
        let there : numbered met.stores w.leaf ≡ Some null = leaf_there spot w.stores (array g.elements) w.leaf apart ∙ new_leaf m.stores w.stores later w.top w.leaf w.made in
        let xs = with_numbered w.stores w.leaf (Some d) in
        let chain = chain_led m.stores w.stores later w.top w.leaf w.made last s one in
        let b = chains_agree (later ++ last ∷ []) itself itself m m (itself_renamed m) closed s live xs w.top chain s refl zs top (subst (λ p. ChainTo m.stores s p zs top) c q) in
        record {
          walked = with_content (with_stores_of m xs) spot (array g.elements);
          led = None;
          is =
              bound_last m base path front last s split
              ∙ ap (λ x. element_of_walk_bound x last s) w.walks
              ∙ walk_bound met w.leaf there last s one
              ∙ ap (λ x. bound x None) (spot_put spot m w.stores (array g.elements) w.leaf d apart);
          to = b.to';
          back = b.back';
          renamed = both_renamed xs w.top b g.elements (ap (step_set t step) w.top_is ∙ g.is);
          fell_is = led_none (content_at m spot) t e step f;
        }
      where
        leaf_apart : (x : Spot) → IsSpotLive m x → (leaf : ℕ) → numbered m.stores leaf ≡ None → (k : ℕ) → x ≡ stored k → leaf ≢ k
        leaf_apart x h leaf free k is_k same = none_some (sym free ∙ ap (numbered m.stores) same ∙ (found_some (numbered m.stores k) (subst (IsSpotLive m) is_k h)).1)

        leaf_there : (x : Spot) (ys : Numbered Content) (c : Content) (leaf : ℕ) → ((k : ℕ) → x ≡ stored k → leaf ≢ k) → numbered (with_content (with_stores_of m ys) x c).stores leaf ≡ numbered ys leaf
        leaf_there (stored k) ys c leaf ne = numbered-with_other ys k leaf (Some c) (ne k refl)
        leaf_there (standing b k) ys c leaf ne = refl

    pub binds_element : BindsAs m base path s n (step_store t step)
    binds_element = elim turns [
      | inl a ↦ binds_last a.none a.is_last a.rest_is
      | inr a ↦ binds_later a.later a.on a.rest_is
    ]

-- a path with a step has a last one
pub record HasLast (path : List Step) : Type 0 where
  pub front : List Step
  pub last : Step
  pub is : path ≡ front ++ last ∷ []

pub some_last : (path : List Step) → 0 < length path → HasLast path
some_last [] h = absurd (omega (arith, h))
some_last (step ∷ path) h = record { front = steps_before step path; last = last_step step path; is = sym (path_split step path) }
