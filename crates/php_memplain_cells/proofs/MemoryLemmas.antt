-- What a change of a part makes of a memory as a whole.
use Rattle.std.proofs.Common.{◌≡◌, ℕ, ◌+◌, List, refl, sym, ◌∙◌, ap, arith}
use Rattle.std.specs.Prelude.{Option, Some, None, option_map, unwrap_or, IsSome}
use Rattle.std.proofs.lemmas.Bool.{false≢true}
use Rattle.slab.specs.Slab.{get, with_value}
use Rattle.php_memdef.specs.Numbered.{numbered}
use Rattle.php_memdef.specs.Contents.{Item, Scope, Mem, no_scope, scope_of}
use Rattle.php_memdef.specs.Holders.{times, stores_of_items, handles_of_items, holders, object_holders}
use Rattle.php_memdef.specs.Places.{with_scope}
use Rattle.php_memdef.specs.Temporaries.{with_falling}
use Rattle.php_memdef_laws.proofs.Held.Parts.{holders-with_falling, handles-with_falling}
use Rattle.php_memplain_cells.specs.declared.block.Block.{Block}
use Rattle.php_memplain_cells.specs.declared.cells.Cells.{Cells}
use Rattle.php_memplain_cells.specs.Seen.{scope_seen, block_falling}
use Rattle.php_memplain_cells.specs.Counts.{count_of_store, count_of_object}
use Rattle.php_memplain_cells.specs.Memory.{memory_seen, falling_in, IsCounted, IsCountedWith}
use Rattle.php_memplain_cells.proofs.SlotLemmas.{at_seen, set_seen, at_same}

module _ (s : Cells) (b : ℕ) (f : Block) (e : get s.blocks b ≡ Some f) where
  pub block_there : numbered (memory_seen s).blocks b ≡ Some (scope_seen f)
  block_there = at_seen scope_seen s.blocks.slots b ∙ ap (option_map scope_seen) e

  pub scope_there : scope_of (memory_seen s) b ≡ scope_seen f
  scope_there = ap (λ o. unwrap_or o no_scope) block_there

  pub block_put : (g : Block) → memory_seen (record s { blocks = with_value s.blocks b g }) ≡ with_scope (memory_seen s) b (scope_seen g)
  block_put g = ap (λ bs. record (memory_seen s) { blocks = bs }) (set_seen scope_seen s.blocks.slots b f (Some g) e)

  pub falling_put : (g : Block) → falling_in (record s { blocks = with_value s.blocks b g }) b ≡ block_falling g
  falling_put g = ap (λ o. (unwrap_or o no_scope).falling) (at_seen scope_seen (with_value s.blocks b g).slots b ∙ ap (option_map scope_seen) (at_same s.blocks.slots b f (Some g) e))

  -- a change of what falls alone
  pub falls_put : (g : Block) (xs : List Item) → scope_seen g ≡ record (scope_seen f) { falling = xs } → memory_seen (record s { blocks = with_value s.blocks b g }) ≡ with_falling (memory_seen s) b xs
  falls_put g xs h = block_put g ∙ ap (with_scope (memory_seen s) b) (h ∙ ap (λ (x : Scope). record x { falling = xs }) (sym scope_there))

-- the counts stay right where what left the list of what falls is at hand
pub counted_after : (s t : Cells) (b : ℕ) (xs : List Item) (ss hs : List ℕ) → IsCounted s → t.stores ≡ s.stores → t.objects ≡ s.objects → memory_seen t ≡ with_falling (memory_seen s) b xs → ((k : ℕ) → times k (stores_of_items (falling_in s b)) ≡ times k (stores_of_items xs) + times k ss) → ((h : ℕ) → times h (handles_of_items (falling_in s b)) ≡ times h (handles_of_items xs) + times h hs) → IsCountedWith t ss hs
counted_after s t b xs ss hs counted st os seen names handles = record {
  stores = λ k. (
      let m = memory_seen s in
      let same : count_of_store t.stores k ≡ count_of_store s.stores k = ap (λ x. count_of_store x k) st in
      let new : holders (memory_seen t) k ≡ holders (with_falling m b xs) k = ap (λ x. holders x k) seen in
      omega (arith, same, new, counted.stores k, holders-with_falling m k b xs, names k));
  objects = λ h. (
      let m = memory_seen s in
      let same : count_of_object t.objects.items h ≡ count_of_object s.objects.items h = ap (λ x. count_of_object x h) (ap (λ x. x.items) os) in
      let new : object_holders (memory_seen t) h ≡ object_holders (with_falling m b xs) h = ap (λ x. object_holders x h) seen in
      omega (arith, same, new, counted.objects h, handles-with_falling m h b xs, handles h));
}

pub found_some : {X : Type 0} (o : Option X) → IsSome o → (x : X) × (o ≡ Some x)
found_some None h = absurd (false≢true h)
found_some (Some x) h = (x, refl)

-- the counts of a memory that is known
pub counted_by : (t : Cells) (n : Mem) (ss hs : List ℕ) → memory_seen t ≡ n → ((k : ℕ) → count_of_store t.stores k ≡ holders n k + times k ss) → ((h : ℕ) → count_of_object t.objects.items h ≡ object_holders n h + times h hs) → IsCountedWith t ss hs
counted_by t n ss hs seen stores objects = record {
  stores = λ k. stores k ∙ ap (λ x. holders x k + times k ss) (sym seen);
  objects = λ h. objects h ∙ ap (λ x. object_holders x h + times h hs) (sym seen);
}
