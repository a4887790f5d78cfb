-- The ways in which the copy of an element ends.
use Rattle.std.proofs.Common.{◌≡◌, ℕ, suc, ◌+◌, ◌<◌, ◌≤◌, List, [], ◌∷◌, ◌++◌, refl, sym, ◌∙◌, ap, subst, arith}
use Rattle.std.specs.Prelude.{Bool, true, false, Option, Some, None, Box, Ok, Err, IsSome}
use Rattle.std.specs.declared.alloc.Global.{Global}
use Rattle.slab.specs.Slab.{Slab, get}
use Rattle.php_base.specs.declared.memory.NoMemory.{NoMemory}
use Rattle.php_entries.specs.Listing.{Listing}
use Rattle.php_entries.specs.Soundness.{IsSound}
use Rattle.php_memdef.specs.Numbered.{numbered}
use Rattle.php_memdef.specs.Contents.{Content, null, truth, int, text, array, object, Mem}
use Rattle.php_memdef.specs.Holders.{times, handles_of_content, is_shared}
use Rattle.php_memdef.specs.Sound.{IsLive}
use Rattle.php_memplain_cells.specs.declared.stores.Store.{Store}
use Rattle.php_memplain_cells.specs.declared.objects.Object.{Object}
use Rattle.php_memplain_cells.specs.declared.cells.Cells.{Cells}
use Rattle.php_memplain_cells.specs.Seen.{content_seen, stores_seen, objects_seen}
use Rattle.php_memplain_cells.specs.Counts.{holders_if, count_of_store, count_of_object, AreSameHandles}
use Rattle.php_memplain_cells.specs.Memory.{memory_seen}
use Rattle.php_memplain_copy.specs.declared.log.Log.{Log}
use Rattle.php_memplain_copy.specs.Copying.{Puts, CopiesOne}
use Rattle.php_memplain_copy.specs.More.{AreMore, AreSame, AreMoreHandles, IsNoArray, IsSoundArray, StoresGrown, ObjectsGrown}
use Rattle.php_memplain_copy.specs.Walking.{IsWhole, IsTaken, IsBegun}
use Rattle.php_memplain_copy.specs.Steps.{IsInside, ElementIs}
use Rattle.php_memplain_copy.proofs.GrownLemmas.{same_grown, raised_grown, same_raised}
use Rattle.php_memplain_copy.proofs.TakenLemmas.{more_shared, no_more_alone, kept_taken}
use Rattle.php_memplain_copy.proofs.ElementLemmas.{content_there, handles_held, element_put, element_copied, element_kept, one_below}

module _ (before : Cells) (whole : IsWhole before) (now : Slab Store) (objects : List (Option (Box Object Global))) (log : Log) (at_hand : ℕ → ℕ) (t : IsTaken before now objects log at_hand) (s : ℕ) (live : IsLive (memory_seen before) s) where
  pub begun_now : IsBegun before now objects log
  begun_now = record { stores_grown = t.stores_grown; objects_grown = t.objects_grown }

  -- the store is shared

  pub kept_is : (levels : ℕ) (next : Slab Store) (log' : Log) → 1 < count_of_store now s → stores_seen next ≡ stores_seen now → AreMore now next (s ∷ []) → log'.stores.items ≡ log.stores.items ++ s ∷ [] → log'.handles.items ≡ log.handles.items → ElementIs before at_hand levels s now (Ok (Some s)) next objects log'
  kept_is levels next log' some seen more is same = (
    kept_taken before whole now objects log at_hand t s live next log' some seen more is same,
    element_kept levels (memory_seen before) s (stores_seen now) (stores_seen next) (more_shared before whole now objects log at_hand t s live some).1 seen,
  )

  -- the stores are as they were

  pub same_begun : (next : Slab Store) (log' : Log) → stores_seen next ≡ stores_seen now → AreSame now next → log'.stores.items ≡ log.stores.items → log'.handles.items ≡ log.handles.items → IsBegun before next objects log'
  same_begun next log' seen same stores handles = record {
    stores_grown = same_grown before.stores now log.stores.items t.stores_grown next log'.stores.items seen same stores;
    objects_grown = subst (λ rs. ObjectsGrown before.objects.items objects rs) (sym handles) t.objects_grown;
  }

  module _ (levels : ℕ) (some_levels : 0 < levels) (x : Store) (there : get now s ≡ Some x) (few : x.holders ≤ 1) where
    alone : is_shared (memory_seen before) s ≡ false
    alone = no_more_alone before whole now objects log at_hand t s live (let n : count_of_store now s ≡ x.holders = ap holders_if there in omega (arith, n, few))

    -- an array

    inside : (c : Content) → content_seen x.content ≡ c → IsSoundArray c → IsInside before levels s
    inside null e h = absurd h
    inside (truth b) e h = absurd h
    inside (int i) e h = absurd h
    inside (text bytes) e h = absurd h
    inside (array u) e h = record {
      inner = (one_below levels some_levels).0;
      elements = u;
      is_inside = (one_below levels some_levels).1;
      is_alone = alone;
      is_array = content_there before now log.stores.items t.stores_grown s live x there ∙ ap Some e;
      is_sound = h;
    }
    inside (object n) e h = absurd h

    pub inside_is : IsSoundArray (content_seen x.content) → ElementIs before at_hand levels s now (Ok None) now objects log
    inside_is h = (t, (refl, inside (content_seen x.content) refl h))

    -- no array

    module _ (c : Content) (is : c ≡ content_seen x.content) where
      pub handles_there : (h : ℕ) → 0 < times h (handles_of_content c) → 0 < count_of_object objects h
      handles_there h some = handles_held before now objects log at_hand t s x there h (subst (λ d. 0 < times h (handles_of_content d)) is some)

      module _ (held : List (Option (Box Object Global))) (seen : objects_seen held ≡ objects_seen objects) where
        -- no memory for the holder of an object
        pub not_held : (log' : Log) → AreSameHandles objects held → log'.stores.items ≡ log.stores.items → log'.handles.items ≡ log.handles.items → IsBegun before now held log'
        not_held log' same stores handles = record {
          stores_grown = subst (λ ds. StoresGrown before.stores now ds) (sym stores) t.stores_grown;
          objects_grown = same_raised before.objects.items objects log.handles.items t.objects_grown held log'.handles.items seen same handles;
        }

        module _ (log' : Log) (more_handles : AreMoreHandles objects held (handles_of_content c)) (handles : log'.handles.items ≡ log.handles.items ++ handles_of_content c) where
          grown : ObjectsGrown before.objects.items held log'.handles.items
          grown = raised_grown before.objects.items objects log.handles.items t.objects_grown held (handles_of_content c) log'.handles.items seen more_handles handles handles_there

          pub put_is : (next : Slab Store) (k : ℕ) → IsNoArray c → Puts (stores_seen now) k c (stores_seen next) → AreMore now next (k ∷ []) → log'.stores.items ≡ log.stores.items ++ k ∷ [] → ElementIs before at_hand levels s now (Ok (Some k)) next held log'
          put_is next k no_array put more stores = (
            element_put before now next objects held log log' at_hand t c k no_array grown more_handles put more stores,
            element_copied (one_below levels some_levels).0 levels (memory_seen before) s k c (stores_seen now) (stores_seen next) (one_below levels some_levels).1 alone (content_there before now log.stores.items t.stores_grown s live x there ∙ ap Some (sym is)) no_array put,
          )

          pub not_put : (next : Slab Store) → stores_seen next ≡ stores_seen now → AreSame now next → log'.stores.items ≡ log.stores.items → IsBegun before next held log'
          not_put next seen same stores = record {
            stores_grown = same_grown before.stores now log.stores.items t.stores_grown next log'.stores.items seen same stores;
            objects_grown = grown;
          }
