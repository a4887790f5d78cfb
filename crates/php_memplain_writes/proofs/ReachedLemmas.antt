-- What was made and hung up, in the memory as a whole.
use Rattle.std.proofs.Common.{◌≡◌, ℕ, zero, suc, ◌+◌, ◌<◌, List, [], ◌∷◌, length, drop, refl, sym, ◌∙◌, ap, subst, arith}
use Rattle.std.specs.Prelude.{Option, Some, None, IsSome, is_some, unwrap_or, slice_get}
use Rattle.slab.specs.Slab.{Slab}
use Rattle.php_entries.specs.Listing.{Listing}
use Rattle.php_memdef.specs.declared.place.Base.{Base}
use Rattle.php_memdef.specs.declared.place.Base.TheVariants.{Var, Property as OfObject, Static, Temp}
use Rattle.php_memdef.specs.declared.place.Place.{Place}
use Rattle.php_memdef.specs.declared.place.Step.{Step}
use Rattle.php_memdef.specs.declared.answer.Wrote.{Wrote}
use Rattle.php_memdef.specs.declared.answer.Wrote.TheVariants.{Done, NotArray, Full, Limit}
use Rattle.php_memdef.specs.Numbered.{Numbered, numbered}
use Rattle.php_memdef.specs.Contents.{Content, null, truth, int, text, array, object, Item, value, link, Mem, scope_of}
use Rattle.php_memdef.specs.Holders.{times}
use Rattle.php_memdef.specs.Places.{Spot, stored, standing, nth_item, content_at, with_content, temp_spot, base_spot, elements_of, elements_to_write, stored_if, step_store, step_store_if, step_set, next_spot, reached, stopped, walk_along, walk}
use Rattle.php_memdef.specs.Sound.{IsLive}
use Rattle.php_memdef.specs.Conditions.{IsBase}
use Rattle.php_memdef_laws.proofs.NumberedLemmas.{live-with}
use Rattle.php_memdef_laws.proofs.Closed.Parts.{IsSpotLive}
use Rattle.php_memdef_laws.proofs.Held.Writes.{listed, IsReal}
use Rattle.php_memplain_cells.specs.declared.stores.Store.{Store}
use Rattle.php_memplain_cells.specs.declared.cells.Cells.{Cells}
use Rattle.php_memplain_cells.specs.Seen.{stores_seen, objects_seen}
use Rattle.php_memplain_cells.specs.Counts.{count_of_store, count_of_object, AreSameHandles}
use Rattle.php_memplain_cells.specs.Memory.{memory_seen}
use Rattle.php_memplain_cells.proofs.MemoryLemmas.{counted_by}
use Rattle.php_memplain_copy.specs.declared.log.Log.{Log}
use Rattle.php_memplain_copy.specs.More.{StoresGrown}
use Rattle.php_memplain_copy.specs.Walking.{IsWhole, with_stores}
use Rattle.php_memplain_content.proofs.ContentLemmas.{nothing_taken}
use Rattle.php_memplain_writes.specs.Standing.{HasContent, AreWaitingKept}
use Rattle.php_memplain_writes.specs.Chains.{NewChain}
use Rattle.php_memplain_writes.specs.Making.{IsReady, IsChained}
use Rattle.php_memplain_writes.specs.Keeps.{KeepsBlocks}
use Rattle.php_memplain_writes.specs.Reached.{IsNoTemp, with_base}
use Rattle.php_memplain_writes.specs.Grows.{IsRefusal}
use Rattle.php_memplain_writes.specs.Growing.{GrowsTo, CantGrow}
use Rattle.php_memplain_writes.specs.Reaching.{StopsAt, CanGoBack, IsReached}
use Rattle.php_memplain_writes.proofs.WayLemmas.{none_some, same_some, nothing_there}
use Rattle.php_memplain_writes.proofs.ChainLemmas.{put_beside, chain_beside}
use Rattle.php_memplain_writes.proofs.AgreeLemmas.{with_stores_of}
use Rattle.php_memplain_writes.proofs.ReachLemmas.{reaches_base, reaches_element, refused_there, no_array_there}
use Rattle.php_memplain_writes.proofs.MakingLemmas.{drop_behind, still_grown}
use Rattle.php_memplain_writes.proofs.SpotLemmas.{real_of, base_names, base_handles, base_spot_with, element_names_it, element_handles}
use Rattle.php_memplain_writes.proofs.KeepLemmas.{base_keeps, content_keeps}

-- the store at the end of a new chain holds null
pub new_leaf : (xs ys : Numbered Content) (path : List Step) (top leaf : ℕ) → NewChain xs path ys top leaf → numbered ys leaf ≡ Some null
new_leaf xs ys path top leaf n = chain_beside path n.first leaf ys top n.chain leaf null n.puts.there

-- what was there stays beside a new chain
pub new_beside : (xs ys : Numbered Content) (path : List Step) (top leaf : ℕ) → NewChain xs path ys top leaf → (s : ℕ) (c : Content) → numbered xs s ≡ Some c → numbered ys s ≡ Some c
new_beside xs ys path top leaf n s c there = chain_beside path n.first leaf ys top n.chain s c (put_beside xs n.first leaf null n.puts s c there)

content_stays : (m : Mem) (zs : Numbered Content) (path : List Step) (top leaf : ℕ) → NewChain m.stores path zs top leaf → (spot : Spot) → HasContent m spot → content_at (with_stores_of m zs) spot ≡ content_at m spot
content_stays m zs path top leaf n (standing b k) h = refl
content_stays m zs path top leaf n (stored s) h = by_slot (numbered m.stores s) refl h
  where
    by_slot : (o : Option Content) → numbered m.stores s ≡ o → IsSome o → unwrap_or (numbered zs s) null ≡ unwrap_or (numbered m.stores s) null
    by_slot None e h = absurd cc
    by_slot (Some c) e h = ap (λ o. unwrap_or o null) (new_beside m.stores zs path top leaf n s c e ∙ sym e)

pub stays_there : (m : Mem) (zs : Numbered Content) (path : List Step) (top leaf : ℕ) → NewChain m.stores path zs top leaf → (spot : Spot) → HasContent m spot → HasContent (with_stores_of m zs) spot
stays_there m zs path top leaf n (standing b k) h = h
stays_there m zs path top leaf n (stored s) h = by_slot (numbered m.stores s) refl h
  where
    by_slot : (o : Option Content) → numbered m.stores s ≡ o → IsSome o → IsSome (numbered zs s)
    by_slot None e h = absurd cc
    by_slot (Some c) e h = ap is_some (new_beside m.stores zs path top leaf n s c e)

base_live : (base : Base) (m : Mem) (s leaf : ℕ) → IsLive m leaf → IsLive (with_base base m s) leaf
base_live (Var b n) m s leaf h = h
base_live (OfObject k p) m s leaf h = h
base_live (Static i) m s leaf h = h
base_live (Temp b n) m s leaf h = h

content_live : (m : Mem) (spot : Spot) (c : Content) (leaf : ℕ) → IsLive m leaf → IsLive (with_content m spot c) leaf
content_live m (stored s) c leaf h = live-with m.stores s c leaf h
content_live m (standing b k) c leaf h = h

pub live_of : (m : Mem) (spot : Spot) → HasContent m spot → IsSpotLive m spot
live_of m (stored s) h = h
live_of m (standing b k) h = tt

not_led : (c : Content) (t : Listing ℕ) → elements_to_write c ≡ Some t → (step : Step) → stored_if (step_store_if (elements_of c) step) ≡ None → (x : ℕ) → times x (listed (step_store t step)) ≡ 0
not_led null t e step f x = ap (λ (u : Listing ℕ). times x (listed (step_store u step))) (sym (same_some e)) ∙ ap (λ o. times x (listed o)) (nothing_there step)
not_led (truth b) t e step f x = absurd (none_some e)
not_led (int i) t e step f x = absurd (none_some e)
not_led (text bytes) t e step f x = absurd (none_some e)
not_led (array u) t e step f x = ap (λ (v : Listing ℕ). times x (listed (step_store v step))) (sym (same_some e)) ∙ by_store (step_store u step) f
  where
    by_store : (o : Option ℕ) → stored_if o ≡ None → times x (listed o) ≡ 0
    by_store None g = refl
    by_store (Some s) g = absurd (none_some (sym g))
not_led (object h) t e step f x = absurd (none_some e)

module _ (before now : Cells) (whole : IsWhole before) (stores : Slab Store) (done : List ℕ) (top leaf : ℕ) (chained : IsChained before [] stores done top) (p : Place)
    (counts : (k : ℕ) → count_of_store now.stores k ≡ count_of_store stores k) (handles : AreSameHandles before.objects.items now.objects.items) (alone : count_of_store stores leaf ≡ 1) (waiting : AreWaitingKept before.blocks now.blocks) where
  abbrev made : Mem
  made = with_stores before (stores_seen stores)

  -- a base was missing
  pub base_reached : IsNoTemp p.base → base_spot (memory_seen before) p.base ≡ None → NewChain (stores_seen before.stores) p.path (stores_seen stores) top leaf → memory_seen now ≡ with_base p.base (with_stores before (stores_seen stores)) top → IsReached before p leaf now
  base_reached no_temp missing chain seen =
      let m = memory_seen before in
      let n = with_stores before (stores_seen stores) in
      let live : IsLive n leaf = ap is_some (new_leaf m.stores (stores_seen stores) p.path top leaf chain) in
      record {
        counted =
            counted_by now (with_base p.base n top) [] [] seen
            (λ k. omega (arith, counts k, chained.names k, base_names n p.base no_temp (base_spot_with m p.base (stores_seen stores) ∙ missing) top k))
            (λ h. omega (arith, handles h, whole.counted.objects h, base_handles n p.base top h, chained.handles h));
        reaches = reaches_base m whole.closed p.base no_temp missing p.path (stores_seen stores) top leaf chain (memory_seen now) seen;
        there = subst (λ (x : Mem). IsLive x leaf) (sym seen) (base_live p.base n top leaf live);
        alone = counts leaf ∙ alone;
        keeps = subst (KeepsBlocks m) (sym seen) (base_keeps m p.base (stores_seen stores) top);
        waiting = waiting;
      }

  -- an element was missing
  pub element_reached : (spot : Spot) (steps : ℕ) (step : Step) → slice_get p.path steps ≡ Some step → StopsAt (memory_seen before) p spot steps → (from : ℕ) → from ≡ steps + 1 → NewChain (stores_seen before.stores) (drop from p.path) (stores_seen stores) top leaf → (led : Option ℕ) (u : Listing ℕ) → GrowsTo (content_at (with_stores before (stores_seen stores)) spot) step top led u → memory_seen now ≡ with_content (with_stores before (stores_seen stores)) spot (array u) → IsReached before p leaf now
  element_reached spot steps step e stops from is chain led u g seen =
      let m = memory_seen before in
      let zs = stores_seen stores in
      let n = with_stores before zs in
      let rest = drop from p.path in
      let split : drop steps p.path ≡ step ∷ rest = drop_behind p.path steps from step e is in
      let goes : walk m p.base p.path ≡ walk_along (reached m spot) (step ∷ rest) = stops.goes ∙ ap (walk_along (reached m spot)) split in
      let nowhere : next_spot m (Some spot) step ≡ None = stops.stops step rest split in
      let same : content_at n spot ≡ content_at m spot = content_stays m zs rest top leaf chain spot stops.there in
      let here : elements_to_write (content_at m spot) ≡ Some g.elements = ap elements_to_write (sym same) ∙ g.is in
      let real : IsReal n spot = real_of n spot (stays_there m zs rest top leaf chain spot stops.there) in
      let live : IsLive n leaf = ap is_some (new_leaf m.stores zs rest top leaf chain) in
      record {
        counted =
            counted_by now (with_content n spot (array u)) [] [] seen
            (λ k. omega (arith, counts k, chained.names k, element_names_it n spot real step top g.elements u g.is g.grown k, not_led (content_at m spot) g.elements here step nowhere k))
            (λ h. omega (arith, handles h, whole.counted.objects h, element_handles n spot real step top g.elements u g.is g.grown h, chained.handles h));
        reaches = reaches_element m p.base p.path spot step rest goes whole.closed (live_of m spot stops.there) g.elements here nowhere zs top leaf chain u g.grown (memory_seen now) seen;
        there = subst (λ (x : Mem). IsLive x leaf) (sym seen) (content_live n spot (array u) leaf live);
        alone = counts leaf ∙ alone;
        keeps = subst (KeepsBlocks m) (sym seen) (content_keeps m spot zs (array u));
        waiting = waiting;
      }

-- nothing came yet
pub ready : (before : Cells) (log : Log) → IsWhole before → log.stores.items ≡ [] → log.handles.items ≡ [] → IsReady before before.stores log.stores.items
ready before log whole stores handles =
    let t = nothing_taken before log whole stores handles in
    record { grown = t.stores_grown; names = λ j. omega (arith, whole.counted.stores j); handles = λ h. refl }

-- what came can be taken away again
pub can_go_back : (before now : Cells) (log : Log) → StoresGrown before.stores now.stores log.stores.items → objects_seen now.objects.items ≡ objects_seen before.objects.items → AreSameHandles before.objects.items now.objects.items → log.handles.items ≡ [] → memory_seen now ≡ with_stores before (stores_seen now.stores) → CanGoBack before now log
can_go_back before now log grown objects same none seen = record {
  stores_grown = grown;
  objects_grown = record {
    seen = objects;
    more = λ j. (let no : times j log.handles.items ≡ 0 = ap (times j) none in omega (arith, same j, no));
    held = λ h some. absurd (let no : times h log.handles.items ≡ 0 = ap (times h) none in omega (arith, some, no));
  };
  seen = seen;
}

-- a base of a place that is there is no temporary where it is missing
pub no_temp : (m : Mem) (base : Base) → IsBase m base → base_spot m base ≡ None → IsNoTemp base
no_temp m (Var b n) h e = tt
no_temp m (OfObject k p) h e = tt
no_temp m (Static i) h e = tt
no_temp m (Temp b n) h e = no_item (scope_of m b.0).temps n h.1 e
  where
    no_item : (is : List Item) (n : ℕ) → n < length is → temp_spot b.0 n (nth_item is n) ≡ None → ⊥
    no_item is n within f = absurd (some_nth is n within (nth_item is n) refl f)
      where
        some_nth : (is : List Item) (k : ℕ) → k < length is → (o : Option Item) → nth_item is k ≡ o → temp_spot b.0 n o ≡ None → ⊥
        some_nth [] k within o g f = omega (arith, within)
        some_nth (i ∷ is) k within (Some (value c)) g f = none_some (sym f)
        some_nth (i ∷ is) k within (Some (link s)) g f = none_some (sym f)
        some_nth (i ∷ is) zero within None g f = none_some (sym g)
        some_nth (i ∷ is) (suc k) within None g f = some_nth is k (omega (arith, within)) None g f

pub base_with_stores : (m : Mem) (base : Base) (xs : Numbered Content) → IsBase m base → IsBase (record m { stores = xs }) base
base_with_stores m (Var b n) xs h = h
base_with_stores m (OfObject k p) xs h = h
base_with_stores m (Static i) xs h = h
base_with_stores m (Temp b n) xs h = h

-- nothing but the new stores came
pub go_back_seen : (before now : Cells) (log : Log) (stores : Slab Store) → StoresGrown before.stores stores log.stores.items → now.stores ≡ stores → AreSameHandles before.objects.items now.objects.items → log.handles.items ≡ [] → memory_seen now ≡ with_stores before (stores_seen stores) → CanGoBack before now log
go_back_seen before now log stores grown st same none seen =
    can_go_back before now log (subst (λ x. StoresGrown before.stores x log.stores.items) (sym st) grown) (ap (λ (m : Mem). m.objects) seen) same none (seen ∙ ap (λ x. with_stores before (stores_seen x)) (sym st))

-- the same where stores were changed and changed back
pub go_back_changed : (before now : Cells) (log : Log) (stores : Slab Store) → StoresGrown before.stores stores log.stores.items → ((k : ℕ) → count_of_store now.stores k ≡ count_of_store stores k) → now.objects ≡ before.objects → log.handles.items ≡ [] → memory_seen now ≡ with_stores before (stores_seen stores) → CanGoBack before now log
go_back_changed before now log stores grown counts os none seen =
    let same : stores_seen now.stores ≡ stores_seen stores = ap (λ (m : Mem). m.stores) seen in
    can_go_back before now log (still_grown before stores now.stores log.stores.items log.stores.items grown same counts refl) (ap (λ (m : Mem). m.objects) seen) (λ h. ap (λ x. count_of_object x h) (ap (λ x. x.items) os)) none (seen ∙ ap (with_stores before) (sym same))

-- the element can't be made
pub element_refused : (before : Cells) (zs : Numbered Content) (p : Place) (spot : Spot) (steps : ℕ) (step : Step) → slice_get p.path steps ≡ Some step → StopsAt (memory_seen before) p spot steps → (from : ℕ) → from ≡ steps + 1 → (top leaf : ℕ) → NewChain (stores_seen before.stores) (drop from p.path) zs top leaf → (why : Wrote) → CantGrow why (content_at (with_stores before zs) spot) step top → walk (memory_seen before) p.base p.path ≡ stopped why
element_refused before zs p spot steps step e stops from is top leaf chain why cant = by_cause why cant
  where
    split : drop steps p.path ≡ step ∷ drop from p.path
    split = drop_behind p.path steps from step e is

    goes : walk (memory_seen before) p.base p.path ≡ walk_along (reached (memory_seen before) spot) (step ∷ drop from p.path)
    goes = stops.goes ∙ ap (walk_along (reached (memory_seen before) spot)) split

    same : content_at (with_stores before zs) spot ≡ content_at (memory_seen before) spot
    same = content_stays (memory_seen before) zs (drop from p.path) top leaf chain spot stops.there

    refused : (why : Wrote) (t : Listing ℕ) → elements_to_write (content_at (with_stores before zs) spot) ≡ Some t → IsRefusal why (step_set t step top) → walk (memory_seen before) p.base p.path ≡ stopped why
    refused why t f h = refused_there (memory_seen before) p.base p.path spot step (drop from p.path) goes t (ap elements_to_write (sym same) ∙ f) (stops.stops step (drop from p.path) split) why top h

    by_cause : (why : Wrote) → CantGrow why (content_at (with_stores before zs) spot) step top → walk (memory_seen before) p.base p.path ≡ stopped why
    by_cause Done h = absurd h
    by_cause NotArray h = no_array_there (memory_seen before) p.base p.path spot step (drop from p.path) goes (ap elements_to_write (sym same) ∙ h)
    by_cause Full h = refused Full h.0 h.1.0 h.1.1
    by_cause Limit h = refused Limit h.0 h.1.0 h.1.1
