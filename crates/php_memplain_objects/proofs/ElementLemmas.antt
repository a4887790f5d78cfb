-- The copy of a store that holds an array.
use Rattle.std.proofs.Common.{◌≡◌, ℕ, suc, ◌+◌, List, [], ◌∷◌, ◌++◌, sym, ◌∙◌, ap, subst, arith}
use Rattle.std.specs.Prelude.{Option, Some, Box, Result, Ok, Err, unwrap_or}
use Rattle.std.specs.declared.alloc.Global.{Global}
use Rattle.slab.specs.Slab.{Slab}
use Rattle.php_base.specs.declared.memory.NoMemory.{NoMemory}
use Rattle.php_entries.specs.Listing.{Listing}
use Rattle.php_memdef.specs.Numbered.{Numbered}
use Rattle.php_memdef.specs.Contents.{Content, null, array, content_of}
use Rattle.php_memdef.specs.Holders.{times, stores_of_entries, handles_of_content}
use Rattle.php_memdef.specs.Sound.{Every, IsLive}
use Rattle.php_memplain_cells.specs.declared.stores.Store.{Store}
use Rattle.php_memplain_cells.specs.declared.objects.Object.{Object}
use Rattle.php_memplain_cells.specs.declared.content.Content.{Content as Kept}
use Rattle.php_memplain_cells.specs.declared.cells.Cells.{Cells}
use Rattle.php_memplain_cells.specs.Seen.{content_seen, stores_seen}
use Rattle.php_memplain_cells.specs.Memory.{memory_seen}
use Rattle.php_memplain_copy.specs.declared.log.Log.{Log}
use Rattle.php_memplain_copy.specs.Copying.{Puts, CopiesIf, CopiesOne, CopiesContent}
use Rattle.php_memplain_copy.specs.More.{AreMore, AreSame, ObjectsGrown}
use Rattle.php_memplain_copy.specs.Walking.{listing_if, listing_in, IsWhole, IsTaken, IsBegun}
use Rattle.php_memplain_copy.specs.Steps.{IsInside}
use Rattle.php_memplain_copy.proofs.TakenLemmas.{put_taken}
use Rattle.php_memplain_copy.proofs.GrownLemmas.{same_grown}
use Rattle.php_memplain_walk.specs.Way.{CanBegin, IsCopied}
use Rattle.php_memplain_objects.specs.Cloning.{StoreIs}

module _ (before : Cells) (at_hand : ℕ → ℕ) (levels s : ℕ) (inside : IsInside before (levels + 1) s) (root : Listing ℕ) where
  its : listing_in (memory_seen before).stores root (Some s) ≡ inside.elements
  its = ap (listing_if root) inside.is_array

  -- the copy of the array can begin
  pub begin_inside : (stores : Slab Store) (objects : List (Option (Box Object Global))) (log : Log) → IsWhole before → IsTaken before stores objects log at_hand → IsLive (memory_seen before) s → CanBegin before at_hand root (Some s) stores objects log
  begin_inside stores objects log whole taken live = record {
    whole = whole;
    taken = taken;
    there = live;
    live = subst (λ (t : Listing ℕ). Every (IsLive (memory_seen before)) (stores_of_entries t.entries)) (sym its) (whole.closed.stores s (array inside.elements) inside.is_array);
  }

  module _ (old : Numbered Content) (d : Kept) (stores : Slab Store) (objects : List (Option (Box Object Global))) (log : Log) (made : IsCopied before root (record { source = Some s; levels = levels; stores = old }) at_hand d stores objects log) where
    copied_inside : CopiesContent levels (memory_seen before) (content_of (memory_seen before) s) old (content_seen d) (stores_seen stores)
    copied_inside =
        let content : content_of (memory_seen before) s ≡ array inside.elements = ap (λ o. unwrap_or o null) inside.is_array in
        subst (λ c. CopiesContent levels (memory_seen before) c old (content_seen d) (stores_seen stores)) (ap array its ∙ sym content) made.copies

    -- its copy goes into a new store
    pub put_inside : (next : Slab Store) (k : ℕ) (log' : Log) → Puts (stores_seen stores) k (content_seen d) (stores_seen next) → AreMore stores next (k ∷ []) → log'.stores.items ≡ log.stores.items ++ k ∷ [] → log'.handles.items ≡ log.handles.items
        → IsTaken before next objects log' (λ j. at_hand j + times j (k ∷ [])) × CopiesOne (levels + 1) (memory_seen before) s old k (stores_seen next)
    put_inside next k log' put more is same = (
      put_taken before stores next objects log at_hand (content_seen d) k made.taken.stores_grown made.taken.objects_grown
          made.taken.names
          (λ h. (let none : times h (handles_of_content (content_seen d)) ≡ 0 = ap (λ x. times h (handles_of_content x)) made.copies.1.1 in omega (arith, made.taken.handles h, none)))
          put more log' is same,
      subst (λ n. CopiesOne n (memory_seen before) s old k (stores_seen next)) up
          (subst (λ b. CopiesIf b (CopiesOne levels (memory_seen before)) (memory_seen before) s old k (stores_seen next)) (sym inside.is_alone) (content_seen d, (stores_seen stores, (copied_inside, put)))),
    )
      where
        up : suc levels ≡ levels + 1
        up = omega arith

    -- there is no memory for that store
    pub no_store_inside : (next : Slab Store) (log' : Log) → stores_seen next ≡ stores_seen stores → AreSame stores next → log'.stores.items ≡ log.stores.items → log'.handles.items ≡ log.handles.items → IsBegun before next objects log'
    no_store_inside next log' seen same is handles = record {
      stores_grown = same_grown before.stores stores log.stores.items made.taken.stores_grown next log'.stores.items seen same is;
      objects_grown = subst (λ rs. ObjectsGrown before.objects.items objects rs) (sym handles) made.taken.objects_grown;
    }

-- the same from stores that look the same
pub store_from : (before : Cells) (at_hand : ℕ → ℕ) (n levels s : ℕ) (old mid : Slab Store) (r : Result ℕ NoMemory) (new : Slab Store) (objects : List (Option (Box Object Global))) (log : Log) → n ≡ levels → stores_seen mid ≡ stores_seen old → StoreIs before at_hand n s mid r new objects log → StoreIs before at_hand levels s old r new objects log
store_from before at_hand n levels s old mid (Ok k) new objects log e seen h = (
  h.0,
  subst (λ l. CopiesOne l (memory_seen before) s (stores_seen old) k (stores_seen new)) e
      (subst (λ xs. CopiesOne n (memory_seen before) s xs k (stores_seen new)) seen h.1),
)
store_from before at_hand n levels s old mid (Err x) new objects log e seen h = h
