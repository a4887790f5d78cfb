-- A copy that was made or given up, in the memory as a whole.
use Rattle.std.proofs.Common.{◌≡◌, ℕ, cond, zero, suc, ◌+◌, ◌<◌, ◌≤◌, List, [], ◌∷◌, length, map, refl, sym, ◌∙◌, ap, subst, arith}
use Rattle.std.specs.Prelude.{Bool, true, false, Option, Some, None, Box, option_map, IsSome, is_some, count_by, unwrap_or, Result, Ok, Err}
use Rattle.php_base.specs.declared.memory.NoMemory.{NoMemory}
use Rattle.std.specs.declared.alloc.Global.{Global}
use Rattle.std.proofs.lemmas.List.Recursion.{is_count_by}
use Rattle.std.proofs.lemmas.Bool.{false≢true}
use Rattle.slab.specs.Slab.{Slab, get, slab_len}
use Rattle.php_entries.specs.Listing.{Listing}
use Rattle.php_memdef.specs.Numbered.{Numbered, numbered, total, live_count}
use Rattle.php_memdef.specs.Contents.{Content, null, truth, int, text, array, object, Item, value, link, Scope, Mem, no_scope, content_of}
use Rattle.php_memdef.specs.Holders.{times, stores_of_content, handles_of_content, handles_of_items, handles_of_scope, holders, object_holders}
use Rattle.php_memdef.specs.Places.{Spot, stored, standing, nth_item, content_if, content_at, elements_of}
use Rattle.php_memdef.specs.Sound.{Every, IsLive, IsClosed}
use Rattle.php_memdef_laws.proofs.Closed.Releases.{weight-within}
use Rattle.php_memdef_laws.proofs.Held.Parts.{item_handles, scope_handles}
use Rattle.php_memplain_cells.specs.declared.stores.Store.{Store}
use Rattle.php_memplain_cells.specs.declared.objects.Object.{Object}
use Rattle.php_memplain_cells.specs.declared.content.Content.{Content as Kept}
use Rattle.php_memplain_cells.specs.declared.cells.Cells.{Cells}
use Rattle.php_memplain_cells.specs.Seen.{content_seen, store_seen, stores_seen, box_seen, objects_seen, scope_seen}
use Rattle.php_memplain_cells.specs.Counts.{holders_if, count_of_store, count_of_object}
use Rattle.php_memplain_cells.specs.Memory.{memory_seen, IsCounted, IsCountedWith}
use Rattle.php_memplain_cells.proofs.SlotLemmas.{at_seen, no_some}
use Rattle.php_memplain_cells.proofs.MemoryLemmas.{counted_by}
use Rattle.php_memplain_copy.specs.declared.log.Log.{Log}
use Rattle.php_memplain_copy.specs.Copying.{CopiesContent}
use Rattle.php_memplain_copy.specs.More.{IsNoArray, IsSoundArray, StoresGrown, ObjectsGrown, AreMoreHandles}
use Rattle.php_memplain_copy.specs.Walking.{listing_or, listing_if, listing_in, IsThere, IsWhole, with_stores, IsTaken, IsBegun, Start}
use Rattle.php_memplain_walk.specs.Way.{CanBegin, IsCopied, CopyIs}
use Rattle.php_memplain_copy.proofs.SameLemmas.{SameAt, same_holders, same_handles}
use Rattle.php_memplain_copy.proofs.AgreeLemmas.{content_agrees}
use Rattle.php_memplain_copy.proofs.ElementLemmas.{no_names, itself_copied}
use Rattle.php_memplain_copy.proofs.GrownLemmas.{same_raised}
use Rattle.php_memplain_content.specs.Copies.{standing_item, IsMade, IsBack, LoggedComesTo}

-- as many stores are there as the slab has

counted_slots : (x : Option Store) (xs : List (Option Store)) → total (λ _. 1) (map (option_map store_seen) (x ∷ xs)) ≡ cond (is_some x) (1 + total (λ _. 1) (map (option_map store_seen) xs)) (total (λ _. 1) (map (option_map store_seen) xs))
counted_slots None xs = omega arith
counted_slots (Some x) xs = refl

pub live_len : (s : Slab Store) → live_count (stores_seen s) ≡ slab_len s
live_len s = is_count_by (λ xs. total (λ _. 1) (map (option_map store_seen) xs)) is_some refl counted_slots s.slots

-- objects that look the same are as many

length_mapped : {X Y : Type 0} (f : X → Y) (xs : List X) → length (map f xs) ≡ length xs
length_mapped f [] = refl
length_mapped f (x ∷ xs) = ap suc (length_mapped f xs)

pub as_many_objects : (os ps : List (Option (Box Object Global))) → objects_seen ps ≡ objects_seen os → length ps ≡ length os
as_many_objects os ps e =
    let both : suc (length (map (option_map box_seen) ps)) ≡ suc (length (map (option_map box_seen) os)) = ap length e in
    omega (arith, both, length_mapped (option_map box_seen) ps, length_mapped (option_map box_seen) os)

-- a memory in which only stores came and objects got holders
pub with_stores_seen : (before now : Cells) → (memory_seen now).blocks ≡ (memory_seen before).blocks → (memory_seen now).statics ≡ (memory_seen before).statics → objects_seen now.objects.items ≡ objects_seen before.objects.items → memory_seen now ≡ with_stores before (stores_seen now.stores)
with_stores_seen before now blocks statics objects =
    ap (λ os. record (memory_seen now) { objects = os }) objects
    ∙ ap (λ n. record (memory_seen now) { objects = objects_seen before.objects.items; next_object = n + 1 }) (as_many_objects before.objects.items now.objects.items objects)
    ∙ ap (λ bs. record (with_stores before (stores_seen now.stores)) { blocks = bs; statics = now.statics.items }) blocks
    ∙ ap (λ ss. record (with_stores before (stores_seen now.stores)) { statics = ss }) statics

-- once more, after a further change of stores and objects
pub seen_again : (before mid now : Cells) → memory_seen mid ≡ with_stores before (stores_seen mid.stores) → now.blocks ≡ mid.blocks → now.statics ≡ mid.statics → objects_seen now.objects.items ≡ objects_seen before.objects.items → memory_seen now ≡ with_stores before (stores_seen now.stores)
seen_again before mid now seen blocks statics objects =
    with_stores_seen before now
    (ap (λ bs. map (option_map scope_seen) bs.slots) blocks ∙ ap (λ (m : Mem). m.blocks) seen)
    (ap (λ ss. ss.items) statics ∙ ap (λ (m : Mem). m.statics) seen)
    objects

module _ (before now : Cells) (seen : memory_seen now ≡ with_stores before (stores_seen now.stores)) where
  -- an array was copied
  pub array_made : (whole : IsWhole before) (root : Listing ℕ) (start : Start) (d : Kept) (log : Log) → IsCopied before root start (λ _. 0) d now.stores now.objects.items log → start.stores ≡ (memory_seen before).stores → start.levels ≡ slab_len before.stores → (c : Content) → array (listing_in (memory_seen before).stores root start.source) ≡ c → Every (IsLive (memory_seen before)) (stores_of_content c) → IsMade before now c (content_seen d)
  array_made whole root start d log made stores levels c is live = record {
    agrees =
        content_agrees (live_count (memory_seen before).stores) (memory_seen before) whole.closed c live (content_seen d) (stores_seen now.stores)
        (subst (λ x. CopiesContent (live_count (memory_seen before).stores) (memory_seen before) x (memory_seen before).stores (content_seen d) (stores_seen now.stores)) is
        (subst (λ xs. CopiesContent (live_count (memory_seen before).stores) (memory_seen before) (array (listing_in (memory_seen before).stores root start.source)) xs (content_seen d) (stores_seen now.stores)) stores
        (subst (λ n. CopiesContent n (memory_seen before) (array (listing_in (memory_seen before).stores root start.source)) start.stores (content_seen d) (stores_seen now.stores)) (levels ∙ sym (live_len before.stores)) made.copies)));
    counted =
        counted_by now (with_stores before (stores_seen now.stores)) (stores_of_content (content_seen d)) (handles_of_content (content_seen d)) seen
        (λ k. omega (arith, made.taken.names k))
        (λ h. (let none : times h (handles_of_content (content_seen d)) ≡ 0 = ap (λ x. times h (handles_of_content x)) made.copies.1.1 in omega (arith, made.taken.handles h, none)));
    seen = seen;
  }

  -- what is no array was copied
  pub plain_made : (whole : IsWhole before) (c d : Content) → d ≡ c → IsNoArray c → stores_seen now.stores ≡ stores_seen before.stores → ((k : ℕ) → count_of_store now.stores k ≡ count_of_store before.stores k) → AreMoreHandles before.objects.items now.objects.items (handles_of_content c) → IsMade before now c d
  plain_made whole c d is no_array same counts handles =
      subst (λ x. IsMade before now c x) (sym is)
      (record {
        agrees =
            content_agrees (live_count (memory_seen before).stores) (memory_seen before) whole.closed c (subst (Every (IsLive (memory_seen before))) (sym (no_names c no_array)) tt) c (stores_seen now.stores)
            (subst (λ xs. CopiesContent (live_count (memory_seen before).stores) (memory_seen before) c (memory_seen before).stores c xs) (sym same) (itself_copied (live_count (memory_seen before).stores) (memory_seen before) c (memory_seen before).stores no_array));
        counted =
            counted_by now (memory_seen before) (stores_of_content c) (handles_of_content c) (seen ∙ ap (with_stores before) same)
            (λ k. (let none : times k (stores_of_content c) ≡ 0 = ap (times k) (no_names c no_array) in omega (arith, counts k, whole.counted.stores k, none)))
            (λ h. omega (arith, handles h, whole.counted.objects h));
        seen = seen;
      })

  -- all that was taken was given back
  pub given_back : IsWhole before → StoresGrown before.stores now.stores [] → ObjectsGrown before.objects.items now.objects.items [] → IsBack before now
  given_back whole sg og = record {
    counted =
        counted_by now (memory_seen now) [] [] refl
        (λ k. omega (arith, sg.more k, whole.counted.stores k, same_holders (memory_seen before) (memory_seen now) same k))
        (λ h. omega (arith, og.more h, whole.counted.objects h, same_handles (memory_seen before) (memory_seen now) same h));
    stores = stores;
    seen = seen;
  }
    where
      counted_some : (o : Option Store) → 0 < holders_if o → IsSome (option_map store_seen o)
      counted_some None h = absurd (omega (arith, h))
      counted_some (Some x) h = refl

      gone : (s : ℕ) → numbered (memory_seen before).stores s ≡ None → (o : Option Content) → numbered (stores_seen now.stores) s ≡ o → o ≡ None
      gone s none None e = refl
      gone s none (Some c) e =
          let held : 0 < count_of_store now.stores s = sg.held s (ap is_some e) in
          let there : IsSome (option_map store_seen (get before.stores s)) = counted_some (get before.stores s) (omega (arith, held, sg.more s)) in
          absurd (false≢true (sym (ap is_some (sym (at_seen store_seen before.stores.slots s) ∙ none)) ∙ there))

      by_before : (s : ℕ) (o : Option Content) → numbered (memory_seen before).stores s ≡ o → numbered (memory_seen now).stores s ≡ numbered (memory_seen before).stores s
      by_before s None e = gone s e (numbered (stores_seen now.stores) s) refl ∙ sym e
      by_before s (Some c) e = sg.kept s (ap is_some e)

      stores : (s : ℕ) → numbered (memory_seen now).stores s ≡ numbered (memory_seen before).stores s
      stores s = by_before s (numbered (memory_seen before).stores s) refl

      same : SameAt (memory_seen before) (memory_seen now)
      same = record {
        stores = stores;
        objects = λ h. ap (λ (x : Mem). numbered x.objects h) seen;
        blocks = λ b. ap (λ (x : Mem). numbered x.blocks b) seen;
        statics = λ i. ap (λ (x : Mem). numbered x.statics i) seen;
        next_object = ap (λ (x : Mem). x.next_object) seen;
      }

-- nothing is taken yet
pub nothing_taken : (before : Cells) (log : Log) → IsWhole before → log.stores.items ≡ [] → log.handles.items ≡ [] → IsTaken before before.stores before.objects.items log (λ _. 0)
nothing_taken before log whole stores handles = record {
  stores_grown = record {
    kept = λ s live. refl;
    more = λ j. (let none : times j log.stores.items ≡ 0 = ap (times j) stores in omega (arith, none));
    alone = λ s live few. ap (times s) stores;
    held_before = whole.held;
    held = whole.held;
  };
  objects_grown = record {
    seen = refl;
    more = λ j. (let none : times j log.handles.items ≡ 0 = ap (times j) handles in omega (arith, none));
    held = λ h some. absurd (let none : times h log.handles.items ≡ 0 = ap (times h) handles in omega (arith, some, none));
  };
  names = λ j. omega (arith, whole.counted.stores j);
  handles = λ h. omega (arith, whole.counted.objects h);
}

-- the copy of an array can begin
pub can_begin : (before : Cells) (log : Log) → IsWhole before → log.stores.items ≡ [] → log.handles.items ≡ [] → (root : Listing ℕ) (source : Option ℕ) → IsThere (memory_seen before) source → (c : Content) → array (listing_in (memory_seen before).stores root source) ≡ c → Every (IsLive (memory_seen before)) (stores_of_content c) → CanBegin before (λ _. 0) root source before.stores before.objects.items log
can_begin before log whole stores handles root source there c is live = record {
  whole = whole;
  taken = nothing_taken before log whole stores handles;
  there = there;
  live = subst (λ d. Every (IsLive (memory_seen before)) (stores_of_content d)) (sym is) live;
}

-- the array of a content
pub array_here : (c : Content) (root : Listing ℕ) → IsSoundArray c → array (listing_or root c) ≡ c
array_here null root h = absurd h
array_here (truth b) root h = absurd h
array_here (int i) root h = absurd h
array_here (text bytes) root h = absurd h
array_here (array t) root h = refl
array_here (object n) root h = absurd h

pub array_stored : (m : Mem) (s : ℕ) (root : Listing ℕ) → IsLive m s → IsSoundArray (content_of m s) → array (listing_in m.stores root (Some s)) ≡ content_of m s
array_stored m s root live h = by_slot (numbered m.stores s) live h
  where
    by_slot : (o : Option Content) → IsSome o → IsSoundArray (unwrap_or o null) → array (listing_if root o) ≡ unwrap_or o null
    by_slot None live h = absurd (false≢true live)
    by_slot (Some c) live h = array_here c root h

-- the array of a temporary
pub array_standing : (c : Content) (t : Listing ℕ) → Some t ≡ elements_of c → array t ≡ c
array_standing null t e = absurd (no_some (sym e))
array_standing (truth b) t e = absurd (no_some (sym e))
array_standing (int i) t e = absurd (no_some (sym e))
array_standing (text bytes) t e = absurd (no_some (sym e))
array_standing (array u) t e = ap array (same e)
  where
    same : Some t ≡ Some u → t ≡ u
    same e = cc
array_standing (object n) t e = absurd (no_some (sym e))

pub some_standing : (c : Content) → IsSoundArray c → elements_of c ≡ None → ⊥
some_standing null h e = h
some_standing (truth b) h e = h
some_standing (int i) h e = h
some_standing (text bytes) h e = h
some_standing (array u) h e = no_some (sym e)
some_standing (object n) h e = h

-- the temporary that is looked at
pub standing_seen : (s : Cells) (b n : ℕ) → content_at (memory_seen s) (standing b n) ≡ content_if (standing_item s.blocks b n)
standing_seen s b n = ap (λ o. content_if (nth_item (unwrap_or o no_scope).temps n)) (at_seen scope_seen s.blocks.slots b)

-- what the copy of an array comes to
pub logged : (before now : Cells) → IsWhole before → (memory_seen now).blocks ≡ (memory_seen before).blocks → (memory_seen now).statics ≡ (memory_seen before).statics → (root : Listing ℕ) (source : Option ℕ) (levels : ℕ) → levels ≡ slab_len before.stores → (log : Log) (c : Content) → array (listing_in (memory_seen before).stores root source) ≡ c → Every (IsLive (memory_seen before)) (stores_of_content c) → (r : Result Kept NoMemory) → CopyIs before root (record { source = source; levels = levels; stores = stores_seen before.stores }) (λ _. 0) r now.stores now.objects.items log → LoggedComesTo before c r now log
logged before now whole blocks statics root source levels is_len log c is live (Ok d) made =
    array_made before now (with_stores_seen before now blocks statics made.taken.objects_grown.seen) whole root (record { source = source; levels = levels; stores = stores_seen before.stores }) d log made refl is_len c is live
logged before now whole blocks statics root source levels is_len log c is live (Err e) begun = (begun, with_stores_seen before now blocks statics begun.objects_grown.seen)

-- the objects that stand at a spot are held

nth_handles : (is : List Item) (n h : ℕ) → times h (handles_of_content (content_if (nth_item is n))) ≤ times h (handles_of_items is)
nth_handles [] n h = omega arith
nth_handles (value c ∷ is) zero h = omega (arith, item_handles h (value c) is)
nth_handles (link s ∷ is) zero h = omega arith
nth_handles (i ∷ is) (suc n) h = omega (arith, item_handles h i is, nth_handles is n h)

module _ (m : Mem) (h : ℕ) where
  store_handles : (s : ℕ) (o : Option Content) → numbered m.stores s ≡ o → times h (handles_of_content (unwrap_or o null)) ≤ object_holders m h
  unfolding object_holders
  store_handles s None e = omega arith
  store_handles s (Some c) e = omega (arith, weight-within (λ d. times h (handles_of_content d)) m.stores s c e)

  block_handles : (b n : ℕ) (o : Option Scope) → numbered m.blocks b ≡ o → times h (handles_of_content (content_if (nth_item (unwrap_or o no_scope).temps n))) ≤ object_holders m h
  unfolding object_holders
  block_handles b n None e = omega arith
  block_handles b n (Some f) e = omega (arith, weight-within (λ g. times h (handles_of_scope g)) m.blocks b f e, nth_handles f.temps n h, scope_handles m h f)

  pub spot_handles : (spot : Spot) → times h (handles_of_content (content_at m spot)) ≤ object_holders m h
  spot_handles (stored s) = store_handles s (numbered m.stores s) refl
  spot_handles (standing b n) = block_handles b n (numbered m.blocks b) refl

pub spot_held : (before : Cells) → IsWhole before → (spot : Spot) (c : Content) → c ≡ content_at (memory_seen before) spot → (h : ℕ) → 0 < times h (handles_of_content c) → 0 < count_of_object before.objects.items h
spot_held before whole spot c is h some =
    let there : times h (handles_of_content c) ≡ times h (handles_of_content (content_at (memory_seen before) spot)) = ap (λ d. times h (handles_of_content d)) is in
    omega (arith, some, there, spot_handles (memory_seen before) h spot, whole.counted.objects h)

-- what is no array was copied, or its object got no holder
module _ (before now : Cells) (whole : IsWhole before) (stores : now.stores ≡ before.stores) (blocks : now.blocks ≡ before.blocks) (statics : now.statics ≡ before.statics) (objects : objects_seen now.objects.items ≡ objects_seen before.objects.items) where
  seen : memory_seen now ≡ with_stores before (stores_seen now.stores)
  seen = with_stores_seen before now (ap (λ bs. map (option_map scope_seen) bs.slots) blocks) (ap (λ ss. ss.items) statics) objects

  pub plain_logged : (c d : Content) → d ≡ c → IsNoArray d → AreMoreHandles before.objects.items now.objects.items (handles_of_content d) → IsMade before now c d
  plain_logged c d is no_array handles =
      plain_made before now seen whole c d is (subst IsNoArray is no_array) (ap stores_seen stores) (λ k. ap (λ x. count_of_store x k) stores)
      (subst (λ x. AreMoreHandles before.objects.items now.objects.items (handles_of_content x)) is handles)

  pub nothing_logged : (log log' : Log) → log.stores.items ≡ [] → log.handles.items ≡ [] → ((h : ℕ) → count_of_object now.objects.items h ≡ count_of_object before.objects.items h) → log'.stores.items ≡ log.stores.items → log'.handles.items ≡ log.handles.items → IsBegun before now.stores now.objects.items log' × (memory_seen now ≡ with_stores before (stores_seen now.stores))
  nothing_logged log log' none no_handles same is handles_are =
      let t = nothing_taken before log whole none no_handles in (
        record {
          stores_grown = subst (λ x. StoresGrown before.stores x log'.stores.items) (sym stores) (subst (λ ds. StoresGrown before.stores before.stores ds) (sym is) t.stores_grown);
          objects_grown = same_raised before.objects.items before.objects.items log.handles.items t.objects_grown now.objects.items log'.handles.items objects same handles_are;
        },
        seen,
      )
