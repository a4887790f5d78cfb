-- Stores that come one after another, and their counts.
use Rattle.std.proofs.Common.{◌≡◌, ℕ, zero, suc, ◌+◌, ◌≤◌, List, [], ◌∷◌, ◌++◌, length, drop, refl, sym, ◌∙◌, ap, subst, arith}
use Rattle.std.specs.Prelude.{Option, Some, None, slice_get, IsSome, is_some, option_map}
use Rattle.std.proofs.lemmas.Bool.{false≢true}
use Rattle.std.proofs.lemmas.List.{at_drop_all}
use Rattle.slab.specs.Slab.{Slab, get}
use Rattle.php_entries.specs.Listing.{Listing, no_entries}
use Rattle.php_entries.specs.Changes.{Grown}
use Rattle.php_memdef.specs.declared.place.Step.{Step}
use Rattle.php_memdef.specs.Numbered.{Numbered, numbered}
use Rattle.php_memdef.specs.Contents.{Content, null, array}
use Rattle.php_memdef.specs.Holders.{times, stores_of_entries}
use Rattle.php_memdef.specs.Places.{step_store, step_set}
use Rattle.php_memdef_laws.proofs.Held.Writes.{listed, Grown-times, step_set-times}
use Rattle.php_memplain_cells.specs.declared.stores.Store.{Store}
use Rattle.php_memplain_cells.specs.declared.cells.Cells.{Cells}
use Rattle.php_memplain_cells.specs.Seen.{store_seen, stores_seen}
use Rattle.php_memplain_cells.specs.Counts.{holders_if, count_of_store}
use Rattle.php_memplain_cells.proofs.SlotLemmas.{at_seen}
use Rattle.php_memplain_copy.specs.Copying.{Puts}
use Rattle.php_memplain_copy.specs.More.{AreMore, AreSame, StoresGrown}
use Rattle.php_memplain_copy.specs.Walking.{with_stores}
use Rattle.php_memplain_copy.proofs.GrownLemmas.{times_none, times_one, put_grown, same_grown}
use Rattle.php_memplain_copy.proofs.TakenLemmas.{put_holders, put_handles}
use Rattle.php_memplain_writes.specs.Chains.{PutsElement, ChainTo}
use Rattle.php_memplain_writes.specs.Grows.{HasOneElement}
use Rattle.php_memplain_writes.specs.Making.{IsReady, IsChained}
use Rattle.php_memplain_writes.proofs.WayLemmas.{none_some, nothing_there}
use Rattle.php_memplain_writes.proofs.ChainLemmas.{put_not}

-- an array with one element names the element's store
pub element_names : (step : Step) (k : ℕ) (t : Listing ℕ) → step_set no_entries step k ≡ Grown t → (x : ℕ) → times x (stores_of_entries t.entries) ≡ times x (k ∷ [])
element_names step k t is x =
    let grown : Grown-times x (Grown t) no_entries (step_store no_entries step) k = subst (λ g. Grown-times x g no_entries (step_store no_entries step) k) is (step_set-times x no_entries step k) in
    let none : times x (listed (step_store no_entries step)) ≡ 0 = ap (λ o. times x (listed o)) (nothing_there step) in
    omega (arith, grown, none)

module _ (before : Cells) (now next : Slab Store) (done done' : List ℕ) (k : ℕ) (more : AreMore now next (k ∷ [])) (is : done' ≡ done ++ k ∷ []) where
  pub element_chained : (owed : List ℕ) (step : Step) (s : ℕ) → PutsElement (stores_seen now) k step s (stores_seen next) → IsChained before owed now done s → IsChained before owed next done' k
  element_chained owed step s p c = record {
    grown = put_grown before.stores now done c.grown next k (array p.elements) done' p.puts more is;
    names = λ j. omega (arith, more j, c.names j, put_holders (with_stores before (stores_seen now)) k (array p.elements) (stores_seen next) p.puts j, element_names step s p.elements p.is j);
    handles = λ h. omega (arith, c.handles h, put_handles (with_stores before (stores_seen now)) k (array p.elements) (stores_seen next) p.puts h);
  }

  pub leaf_chained : Puts (stores_seen now) k null (stores_seen next) → IsReady before now done → IsChained before [] next done' k
  leaf_chained p c = record {
    grown = put_grown before.stores now done c.grown next k null done' p more is;
    names = λ j. omega (arith, more j, c.names j, put_holders (with_stores before (stores_seen now)) k null (stores_seen next) p j);
    handles = λ h. omega (arith, c.handles h, put_handles (with_stores before (stores_seen now)) k null (stores_seen next) p h);
  }

pub still_grown : (before : Cells) (now next : Slab Store) (done done' : List ℕ) → StoresGrown before.stores now done → stores_seen next ≡ stores_seen now → AreSame now next → done' ≡ done → StoresGrown before.stores next done'
still_grown before now next done done' g seen same is = same_grown before.stores now done g next done' seen same is

-- the rest of a path

pub chain_begun : (xs : Numbered Content) (leaf : ℕ) (path : List Step) (at : ℕ) → length path ≤ at → ChainTo xs leaf (drop at path) xs leaf
chain_begun xs leaf path at past = subst (λ p. ChainTo xs leaf p xs leaf) (sym (at_drop_all (λ p. p) path at past)) (refl, λ j. refl)

pub drop_step : (path : List Step) (at : ℕ) (step : Step) → slice_get path at ≡ Some step → drop at path ≡ step ∷ drop (suc at) path
drop_step [] at step e = absurd cc
drop_step (s ∷ path) zero step e = ap (λ t. t ∷ path) (same e)
  where
    same : Some s ≡ Some step → s ≡ step
    same e = cc
drop_step (s ∷ path) (suc at) step e = drop_step path at step e

-- the same, with the place behind the step
pub drop_behind : (path : List Step) (at from : ℕ) (step : Step) → slice_get path at ≡ Some step → from ≡ at + 1 → drop at path ≡ step ∷ drop from path
drop_behind path at from step e is =
    let more : from ≡ suc at = omega (arith, is) in
    drop_step path at step e ∙ ap (λ k. step ∷ drop k path) (sym more)

pub chain_on : (xs zs ys : Numbered Content) (leaf k top : ℕ) (path : List Step) (at from : ℕ) (step : Step) → slice_get path at ≡ Some step → from ≡ suc at → ChainTo xs leaf (drop from path) zs k → PutsElement zs top step k ys → ChainTo xs leaf (drop at path) ys top
chain_on xs zs ys leaf k top path at from step e is c p =
    subst (λ q. ChainTo xs leaf q ys top) (sym (drop_step path at step e))
    (k, (zs, (subst (λ n. ChainTo xs leaf (drop n path) zs k) is c, p)))

-- counts of the stores that were there

pub stays_counted : (now next : Slab Store) (k : ℕ) (c : Content) → Puts (stores_seen now) k c (stores_seen next) → AreMore now next (k ∷ []) → (j : ℕ) → IsSome (numbered (stores_seen now) j) → IsSome (numbered (stores_seen next) j) × (count_of_store next j ≡ count_of_store now j)
stays_counted now next k c p more j live = by_slot (numbered (stores_seen now) j) refl live
  where
    by_slot : (o : Option Content) → numbered (stores_seen now) j ≡ o → IsSome o → IsSome (numbered (stores_seen next) j) × (count_of_store next j ≡ count_of_store now j)
    by_slot None e h = absurd (false≢true h)
    by_slot (Some d) e h =
        let apart = put_not (stores_seen now) (stores_seen next) k c p j d e in
        let none : times j (k ∷ []) ≡ 0 = times_none j k apart in
        (ap is_some (p.others j apart ∙ e), omega (arith, more j, none))

pub new_alone : (now next : Slab Store) (k : ℕ) (c : Content) → Puts (stores_seen now) k c (stores_seen next) → AreMore now next (k ∷ []) → count_of_store next k ≡ 1
new_alone now next k c p more =
    let none : count_of_store now k ≡ 0 = no_count (get now k) (sym (at_seen store_seen now.slots k) ∙ p.free) in
    omega (arith, more k, none, times_one k)
  where
    no_count : (o : Option Store) → option_map store_seen o ≡ None → holders_if o ≡ 0
    no_count None e = refl
    no_count (Some x) e = absurd (none_some (sym e))

-- an array with one element, put into a new store
pub put_as : (xs ys : Numbered Content) (k : ℕ) (step : Step) (s : ℕ) (c : Content) → HasOneElement step s c → Puts xs k c ys → PutsElement xs k step s ys
put_as xs ys k step s c h p = record { elements = h.elements; is = h.is; puts = subst (λ x. Puts xs k x ys) h.content p }
