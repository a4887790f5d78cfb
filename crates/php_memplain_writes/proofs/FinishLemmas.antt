-- What binding leaves, in a memory that copies at once.
use Rattle.std.proofs.Common.{◌≡◌, ◌≤◌, ◌+◌, ℕ, List, [], ◌∷◌, ◌++◌, length, drop, refl, sym, ◌∙◌, ap, subst, arith}
use Rattle.std.specs.Global.{Vec}
use Rattle.std.specs.Prelude.{Option, Some, None, unwrap_or, slice_get, IsSome}
use Rattle.slab.specs.Slab.{Slab}
use Rattle.php_entries.specs.Listing.{Listing}
use Rattle.php_memdef.specs.declared.place.Base.{Base}
use Rattle.php_memdef.specs.declared.place.Base.TheVariants.{Var, Property as OfObject, Static, Temp}
use Rattle.php_memdef.specs.declared.place.Place.{Place}
use Rattle.php_memdef.specs.declared.place.Step.{Step}
use Rattle.php_memdef.specs.declared.answer.Wrote.{Wrote}
use Rattle.php_memdef.specs.declared.answer.Wrote.TheVariants.{Done}
use Rattle.php_memdef.specs.Numbered.{Numbered, numbered}
use Rattle.php_memdef.specs.Contents.{Content, null, array, Item, link, Mem, scope_of}
use Rattle.php_memdef.specs.Holders.{times, stores_of_item, holders, object_holders}
use Rattle.php_memdef.specs.Places.{Spot, stored, standing, nth_item, content_at, with_content, base_spot, elements_to_write, step_store, reached, walk_along, walk}
use Rattle.php_memdef.specs.Temporaries.{popped, top_of, top}
use Rattle.php_memdef.specs.Writes.{bound, unbound, base_bound, bound_at, let_fall_if, finish_bind, bind_top, bind}
use Rattle.php_memdef.specs.Sound.{IsLive, IsClosed}
use Rattle.php_memdef.specs.Conditions.{IsBlock, IsPointed}
use Rattle.php_memdef.specs.Alike.{map_if, IsRenamed}
use Rattle.php_memdef_laws.proofs.Alike.Scopes.{popped-renamed, let_fall_if-renamed}
use Rattle.php_memdef_laws.proofs.Closed.Parts.{nth_link-found, temps-closed}
use Rattle.php_memdef_laws.proofs.Held.Parts.{holders-popped, handles-popped, holders-let_fall, handles-let_fall, handles_of_item}
use Rattle.php_memdef_laws.proofs.Held.Writes.{listed, KeepsTopLinks, top_link_kept, top_with_variables}
use Rattle.php_memplain_cells.specs.declared.cells.Cells.{Cells}
use Rattle.php_memplain_cells.specs.declared.stores.Store.{Store}
use Rattle.php_memplain_cells.specs.Seen.{stores_seen}
use Rattle.php_memplain_cells.specs.Counts.{count_of_store, count_of_object, AreSameHandles}
use Rattle.php_memplain_cells.specs.Memory.{memory_seen}
use Rattle.php_memplain_cells.proofs.MemoryLemmas.{counted_by}
use Rattle.php_memplain_copy.specs.declared.log.Log.{Log}
use Rattle.php_memplain_copy.specs.Walking.{IsWhole, with_stores}
use Rattle.php_memplain_content.specs.Copies.{IsBack}
use Rattle.php_memplain_content.proofs.ContentLemmas.{nothing_taken}
use Rattle.php_memplain_writes.specs.Ways.{IsFront}
use Rattle.php_memplain_writes.specs.Standing.{HasContent, AreWaitingKept}
use Rattle.php_memplain_writes.specs.Chains.{ChainTo}
use Rattle.php_memplain_writes.specs.Making.{IsChained}
use Rattle.php_memplain_writes.specs.Comes.{ComesTo}
use Rattle.php_memplain_writes.specs.Reached.{IsNoTemp, with_base}
use Rattle.php_memplain_writes.specs.Reaching.{StopsAt}
use Rattle.php_memplain_writes.specs.Growing.{GrowsTo, CantGrow, GrewAt}
use Rattle.php_memplain_writes.specs.declared.growing.Grew.{Grew}
use Rattle.php_memplain_writes.specs.declared.growing.Grew.TheVariants as grew
use Rattle.php_memplain_writes.specs.Binding.{IsBound, BindingIs}
use Rattle.php_memplain_writes.proofs.WayLemmas.{none_some, same_some}
use Rattle.php_memplain_writes.proofs.ChainLemmas.{chain_beside}
use Rattle.php_memplain_writes.proofs.AgreeLemmas.{with_stores_of}
use Rattle.php_memplain_writes.proofs.MakingLemmas.{drop_behind}
use Rattle.php_memplain_writes.proofs.ReachLemmas.{itself_renamed}
use Rattle.php_memplain_writes.proofs.ReachedLemmas.{live_of, go_back_changed}
use Rattle.php_memplain_writes.proofs.SpotLemmas.{real_of, base_names, base_handles, base_spot_with, element_names_it, element_handles}
use Rattle.php_memplain_writes.proofs.KeepLemmas.{base_keeps, content_keeps}
use Rattle.php_memplain_writes.proofs.PointLemmas.{base_rebound}
use Rattle.php_memplain_writes.proofs.BoundLemmas.{binds_base, binds_element, cant_bind}
use Rattle.php_memplain_writes.proofs.WriteLemmas.{back_alike}

abbrev itself : ℕ → ℕ
itself s = s

-- a store that is in hand once more, before a chain to it is made
pub chain_ready : (before : Cells) (log : Log) → IsWhole before → log.stores.items ≡ [] → log.handles.items ≡ [] → (s : ℕ) → IsChained before (s ∷ []) before.stores log.stores.items s
chain_ready before log whole stores handles s =
    let t = nothing_taken before log whole stores handles in
    record { grown = t.stores_grown; names = λ j. omega (arith, whole.counted.stores j); handles = λ h. refl }

-- what stands at a spot stays beside a chain

content_beside : (m : Mem) (zs : Numbered Content) (path : List Step) (s top : ℕ) → ChainTo m.stores s path zs top → (spot : Spot) → HasContent m spot → content_at (with_stores_of m zs) spot ≡ content_at m spot
content_beside m zs path s top c (standing b k) h = refl
content_beside m zs path s top c (stored j) h = by_slot (numbered m.stores j) refl h
  where
    by_slot : (o : Option Content) → numbered m.stores j ≡ o → IsSome o → unwrap_or (numbered zs j) null ≡ unwrap_or (numbered m.stores j) null
    by_slot None e h = absurd cc
    by_slot (Some d) e h = ap (λ o. unwrap_or o null) (chain_beside path m.stores s zs top c j d e ∙ sym e)

pub there_beside : (m : Mem) (zs : Numbered Content) (path : List Step) (s top : ℕ) → ChainTo m.stores s path zs top → (spot : Spot) → HasContent m spot → HasContent (with_stores_of m zs) spot
there_beside m zs path s top c (standing b k) h = h
there_beside m zs path s top c (stored j) h = by_slot (numbered m.stores j) refl h
  where
    by_slot : (o : Option Content) → numbered m.stores j ≡ o → IsSome o → IsSome (numbered zs j)
    by_slot None e h = absurd cc
    by_slot (Some d) e h = subst (λ (o : Option Content). IsSome o) (sym (chain_beside path m.stores s zs top c j d e)) refl

-- a base leaves the links on top where they are
base_links : (m : Mem) (base : Base) (xs : Numbered Content) (s : ℕ) → KeepsTopLinks m (with_base base (with_stores_of m xs) s)
base_links m (Var c k) xs s = λ b t e. top_with_variables m c.0 b _ ∙ e
base_links m (OfObject h p) xs s = λ b t e. e
base_links m (Static i) xs s = λ b t e. e
base_links m (Temp c k) xs s = λ b t e. e

module _ (before now : Cells) (whole : IsWhole before) (stores : Slab Store) (done : List ℕ) (top s : ℕ) (chained : IsChained before (s ∷ []) stores done top) (p : Place) (live : IsLive (memory_seen before) s)
    (counts : (k : ℕ) → count_of_store now.stores k ≡ count_of_store stores k) (handles : AreSameHandles before.objects.items now.objects.items) (waiting : AreWaitingKept before.blocks now.blocks) where
  -- a base was missing
  pub base_bound_there : IsNoTemp p.base → base_spot (memory_seen before) p.base ≡ None → (front : List Step) (last : Step) → p.path ≡ front ++ last ∷ [] → ChainTo (stores_seen before.stores) s p.path (stores_seen stores) top → memory_seen now ≡ with_base p.base (with_stores before (stores_seen stores)) top → IsBound before p s None now
  base_bound_there no_temp missing front last split chain seen =
      let m = memory_seen before in
      let n = with_stores before (stores_seen stores) in
      let b = binds_base m whole.closed p.base no_temp missing p.path front last split s live (stores_seen stores) top chain (memory_seen now) seen in
      let count : (k : ℕ) → holders (memory_seen now) k ≡ holders (with_base p.base n top) k = λ k. ap (λ (x : Mem). holders x k) seen in
      let held : (h : ℕ) → object_holders (memory_seen now) h ≡ object_holders (with_base p.base n top) h = λ h. ap (λ (x : Mem). object_holders x h) seen in
      record {
        walked = b.walked;
        led = b.led;
        is = b.is;
        to = b.to;
        back = b.back;
        renamed = b.renamed;
        fell_is = b.fell_is;
        names = λ k. omega (arith, counts k, chained.names k, count k, base_names n p.base no_temp (base_spot_with m p.base (stores_seen stores) ∙ missing) top k);
        handles = λ h. omega (arith, handles h, whole.counted.objects h, held h, base_handles n p.base top h, chained.handles h);
        blocks = λ c there. subst (λ (x : Mem). IsBlock x c) (sym seen) ((base_keeps m p.base (stores_seen stores) top).blocks c there);
        links = subst (λ (x : Mem). KeepsTopLinks m x) (sym seen) (base_links m p.base (stores_seen stores) top);
        waiting = waiting;
      }

  -- an element points to the store
  pub element_bound_there : (q : Place) (f : IsFront p q) (spot : Spot) (steps : ℕ) → steps ≤ length q.path → (step : Step) → slice_get p.path steps ≡ Some step → StopsAt (memory_seen before) q spot steps → (from : ℕ) → from ≡ steps + 1 → ChainTo (stores_seen before.stores) s (drop from p.path) (stores_seen stores) top → (led : Option ℕ) (u : Listing ℕ) → GrowsTo (content_at (with_stores before (stores_seen stores)) spot) step top led u → memory_seen now ≡ with_content (with_stores before (stores_seen stores)) spot (array u) → IsBound before p s led now
  element_bound_there q f spot steps within step e stops from is chain led u g seen =
      let m = memory_seen before in
      let zs = stores_seen stores in
      let n = with_stores before zs in
      let rest = drop from p.path in
      let there = there_beside m zs rest s top chain spot stops.there in
      let same = content_beside m zs rest s top chain spot stops.there in
      let real = real_of n spot there in
      let here = drop_behind p.path steps from step e is in
      let b = binds_element m whole.closed p.base p.path q.path f.last f.path s spot steps step rest here (goes_as q f.base spot steps stops) stops.stops within live (live_of m spot stops.there) g.elements (elements_as n m spot same g.elements g.is) zs top chain u g.grown (memory_seen now) seen in
      let count : (k : ℕ) → holders (memory_seen now) k ≡ holders (with_content n spot (array u)) k = λ k. ap (λ (x : Mem). holders x k) seen in
      let held : (h : ℕ) → object_holders (memory_seen now) h ≡ object_holders (with_content n spot (array u)) h = λ h. ap (λ (x : Mem). object_holders x h) seen in
      let fell : (k : ℕ) → times k (listed led) ≡ times k (listed (step_store g.elements step)) = λ k. ap (λ o. times k (listed o)) g.led in
      record {
        walked = b.walked;
        led = b.led;
        is = b.is;
        to = b.to;
        back = b.back;
        renamed = b.renamed;
        fell_is = g.led ∙ b.fell_is;
        names = λ k. omega (arith, counts k, chained.names k, count k, fell k, element_names_it n spot real step top g.elements u g.is g.grown k);
        handles = λ h. omega (arith, handles h, whole.counted.objects h, held h, element_handles n spot real step top g.elements u g.is g.grown h, chained.handles h);
        blocks = λ c live. subst (λ (x : Mem). IsBlock x c) (sym seen) ((content_keeps m spot zs (array u)).blocks c live);
        links = subst (λ (x : Mem). KeepsTopLinks m x) (sym seen) (λ c t is. top_link_kept n spot real (array u) c t is);
        waiting = waiting;
      }
    where
      goes_as : (q : Place) → q.base ≡ p.base → (spot : Spot) (steps : ℕ) (stops : StopsAt (memory_seen before) q spot steps) → walk (memory_seen before) p.base q.path ≡ walk_along (reached (memory_seen before) spot) (drop steps q.path)
      goes_as q same spot steps stops = ap (λ (b : Base). walk (memory_seen before) b q.path) (sym same) ∙ stops.goes

      elements_as : (n m : Mem) (spot : Spot) → content_at n spot ≡ content_at m spot → (t : Listing ℕ) → elements_to_write (content_at n spot) ≡ Some t → elements_to_write (content_at m spot) ≡ Some t
      elements_as n m spot same t is = ap elements_to_write (sym same) ∙ is

-- the element can't be made
pub element_not_bound : (before : Cells) → IsWhole before → (zs : Numbered Content) (p q : Place) (f : IsFront p q) (s : ℕ) (spot : Spot) (steps : ℕ) → steps ≤ length q.path → (step : Step) → slice_get p.path steps ≡ Some step → StopsAt (memory_seen before) q spot steps → (from : ℕ) → from ≡ steps + 1 → (top : ℕ) → ChainTo (stores_seen before.stores) s (drop from p.path) zs top → (why : Wrote) → CantGrow why (content_at (with_stores before zs) spot) step top → bound_at (memory_seen before) p.base p.path s ≡ unbound why
element_not_bound before whole zs p q f s spot steps within step e stops from is top chain why cant =
    let m = memory_seen before in
    let rest = drop from p.path in
    let here = drop_behind p.path steps from step e is in
    cant_bind m whole.closed p.base p.path q.path f.last f.path s spot steps step rest here (ap (λ (b : Base). walk m b q.path) (sym f.base) ∙ stops.goes) stops.stops within why top
    (subst (λ c. CantGrow why c step top) (content_beside m zs rest s top chain spot stops.there) cant)

-- a base points to the store
pub base_points : (before now : Cells) (p : Place) (s : ℕ) → IsWhole before → IsPointed p.base p.path → p.path ≡ [] → (fell : Option ℕ) → base_bound (memory_seen before) p.base s ≡ bound (memory_seen now) fell → now.stores ≡ before.stores → AreSameHandles before.objects.items now.objects.items → AreWaitingKept before.blocks now.blocks → IsBound before p s fell now
base_points before now p s whole pointed none fell is stores handles waiting =
    let r = base_rebound (memory_seen before) p.base s (subst (IsPointed p.base) none pointed) (memory_seen now) fell is in
    let same : (k : ℕ) → count_of_store now.stores k ≡ count_of_store before.stores k = λ k. ap (λ x. count_of_store x k) stores in
    record {
      walked = memory_seen now;
      led = fell;
      is = ap (λ path. bound_at (memory_seen before) p.base path s) none ∙ is;
      to = itself;
      back = itself;
      renamed = itself_renamed (memory_seen now);
      fell_is = same_store fell;
      names = λ k. omega (arith, same k, whole.counted.stores k, r.names k);
      handles = λ h. omega (arith, handles h, whole.counted.objects h, r.handles h);
      blocks = r.blocks;
      links = r.links;
      waiting = waiting;
    }
  where
    same_store : (o : Option ℕ) → o ≡ map_if itself o
    same_store None = refl
    same_store (Some k) = refl

-- the link leaves the top, and what gave way to it falls

let_fall_if-names : (m : Mem) (b x : ℕ) (o : Option ℕ) → holders (let_fall_if m b o) x ≡ holders m x + times x (listed o)
let_fall_if-names m b x None = omega arith
let_fall_if-names m b x (Some s) = holders-let_fall m x b (link s)

let_fall_if-handles : (m : Mem) (b x : ℕ) (o : Option ℕ) → object_holders (let_fall_if m b o) x ≡ object_holders m x
let_fall_if-handles m b x None = refl
let_fall_if-handles m b x (Some s) = omega (arith, handles-let_fall m x b (link s))

module _ (m : Mem) (s : Cells) (seen : memory_seen s ≡ m) (b : ℕ) (p : Place) (k : ℕ) (on_top : top (memory_seen s) b ≡ link k) where
  bind_is : bind (memory_seen s) b p ≡ finish_bind (bound_at (memory_seen s) p.base p.path k) (memory_seen s) b
  unfolding bind
  bind_is = ap (λ i. bind_top i (memory_seen s) b p) on_top

  pub bound_done : (t u : Cells) (fell : Option ℕ) → IsBound s p k fell t → u.stores ≡ t.stores → u.objects ≡ t.objects → memory_seen u ≡ let_fall_if (popped (memory_seen t) b) b fell → ComesTo u (bind m b p) Done
  bound_done t u fell r stores objects is =
      let done = bind_is ∙ ap (λ x. finish_bind x (memory_seen s) b) r.is in
      let n = memory_seen t in
      let link_there : top n b ≡ link k = r.links b k on_top in
      let renamed = let_fall_if-renamed r.to r.back (popped r.walked b) (popped n b) (popped-renamed r.to r.back r.walked n r.renamed b) b r.led in
      subst (λ x. ComesTo u (bind x b p) Done) seen
      (record {
        counted =
            counted_by u (let_fall_if (popped n b) b fell) [] [] is
            (λ j. (
            let same : count_of_store u.stores j ≡ count_of_store t.stores j = ap (λ x. count_of_store x j) stores in
            let one : times j (stores_of_item (top n b)) ≡ times j (k ∷ []) = ap (λ i. times j (stores_of_item i)) link_there in
            omega (arith, same, one, r.names j, let_fall_if-names (popped n b) b j fell, holders-popped n j b)))
            (λ h. (
            let same : count_of_object u.objects.items h ≡ count_of_object t.objects.items h = ap (λ x. count_of_object x h) (ap (λ x. x.items) objects) in
            let none : times h (handles_of_item (top n b)) ≡ 0 = ap (λ i. times h (handles_of_item i)) link_there in
            omega (arith, same, none, r.handles h, let_fall_if-handles (popped n b) b h fell, handles-popped n h b)));
        alike = record {
          to = r.to;
          back = r.back;
          renamed =
              subst (λ (x : Mem). IsRenamed r.to r.back x (memory_seen u)) (sym (ap (λ z. z.0) done))
              (subst (IsRenamed r.to r.back (let_fall_if (popped r.walked b) b r.led)) (ap (let_fall_if (popped n b) b) (sym r.fell_is) ∙ sym is) renamed);
        };
        same = sym (ap (λ z. z.1) done);
      })

  pub not_bound : (t : Cells) (why : Wrote) → bound_at (memory_seen s) p.base p.path k ≡ unbound why → IsBack s t → ComesTo t (bind m b p) why
  not_bound t why e back =
      subst (λ x. ComesTo t (bind x b p) why) seen
      (subst (λ r. ComesTo t r why) (sym (bind_is ∙ ap (λ x. finish_bind x (memory_seen s) b) e)) (record { counted = back.counted; alike = back_alike s t back; same = refl }))

-- what comes of the element, by the answer
pub element_binding : (before now : Cells) → IsWhole before → (stores : Slab Store) (done : Vec ℕ) (top s : ℕ) → IsChained before (s ∷ []) stores done.items top → (p : Place) → IsLive (memory_seen before) s → (q : Place) → IsFront p q → (spot : Spot) (steps : ℕ) → steps ≤ length q.path → (step : Step) → slice_get p.path steps ≡ Some step → StopsAt (memory_seen before) q spot steps → ChainTo (stores_seen before.stores) s (drop (steps + 1) p.path) (stores_seen stores) top → (log : Log) → log.handles.items ≡ [] → ((k : ℕ) → count_of_store now.stores k ≡ count_of_store stores k) → now.objects ≡ before.objects → AreWaitingKept before.blocks now.blocks → (g : Grew) → GrewAt g (with_stores before (stores_seen stores)) spot step top (memory_seen now) → BindingIs before p s g now (record log { stores = done })
element_binding before now whole stores done top s chained p live q f spot steps within step e stops chain log none counts os waiting (grew.Done led) h =
    element_bound_there before now whole stores done.items top s chained p live counts (λ j. ap (λ x. count_of_object x j) (ap (λ x. x.items) os)) waiting q f spot steps within step e stops (steps + 1) refl chain led h.0 h.1.0 h.1.1
element_binding before now whole stores done top s chained p live q f spot steps within step e stops chain log none counts os waiting (grew.Refused why) h = (
  go_back_changed before now (record log { stores = done }) stores chained.grown counts os none h.1,
  element_not_bound before whole (stores_seen stores) p q f s spot steps within step e stops (steps + 1) refl top chain why h.0,
)
element_binding before now whole stores done top s chained p live q f spot steps within step e stops chain log none counts os waiting grew.NoMemory h = go_back_changed before now (record log { stores = done }) stores chained.grown counts os none h

pub no_step : (path : List Step) → length path ≤ 0 → path ≡ []
no_step [] h = refl
no_step (step ∷ path) h = absurd (omega (arith, h))

pub first_item : (is : List Item) (i : Item) → nth_item is 0 ≡ Some i → top_of is ≡ i
first_item [] i e = absurd (none_some e)
first_item (j ∷ is) i e = same_some e

-- the store of a link on top is there
pub link_live : (m : Mem) → IsClosed m → (b k : ℕ) → nth_item (scope_of m b).temps 0 ≡ Some (link k) → IsLive m k
link_live m closed b k e = nth_link-found (IsLive m) (scope_of m b).temps 0 k (temps-closed m closed b) e
