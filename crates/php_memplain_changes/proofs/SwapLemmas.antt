-- A content is put at a spot.
use Rattle.std.proofs.Common.{◌≡◌, ◌<◌, ◌-◌, ◌+◌, ℕ, zero, suc, List, [], ◌∷◌, ◌++◌, length, map, take, refl, sym, ◌∙◌, ap, arith, inl, inr}
use Rattle.std.specs.Prelude.{Option, Some, None, option_map, IsSome, is_some, reverse, slice_set, slice_index_or}
use Rattle.std.proofs.lemmas.List.{map-append, reverse-append, length-reverse}
use Rattle.std.proofs.lemmas.Bool.{cases_lt}
use Rattle.std.proofs.lemmas.Bool.Decides.{eqb_tells}
use Rattle.slab.specs.Slab.{Slab, get, with_value, ContainsKey}
use Rattle.php_memdef.specs.Contents.{Scope, Mem, scope_of}
use Rattle.php_memdef.specs.Contents as model
use Rattle.php_memdef.specs.Places.{nth_item, with_nth_item, with_scope}
use Rattle.php_memdef.specs.Conditions.{IsBlock}
use Rattle.php_memdef.specs.Sound.{IsLive}
use Rattle.php_memplain_cells.specs.declared.content.Item.{Item}
use Rattle.php_memplain_cells.specs.declared.stores.Store.{Store}
use Rattle.php_memplain_cells.specs.declared.block.Block.{Block}
use Rattle.php_memplain_cells.specs.declared.cells.Cells.{Cells}
use Rattle.php_memplain_cells.specs.Seen.{item_seen, store_seen, scope_seen}
use Rattle.php_memplain_cells.specs.Counts.{holders_if, count_of_store}
use Rattle.php_memplain_cells.specs.Memory.{memory_seen}
use Rattle.php_memplain_cells.proofs.SlotLemmas.{at_seen, at_same, at_other, with_same}
use Rattle.php_memplain_cells.proofs.MemoryLemmas.{block_there, scope_there, block_put}
use Rattle.php_memplain_places.proofs.SlotsLemmas.{temp_none, block_none}
use Rattle.php_memplain_content.proofs.TempLemmas.{temp_is}
use Rattle.php_memplain_changes.specs.Standing.{HasValue, AreWaitingKept}

pub none_some : {X : Type 0} {x : X} → None ≡ Some x → ⊥
none_some e = cc

pub same_some : {X : Type 0} {x y : X} → Some x ≡ Some y → x ≡ y
same_some e = cc

-- the number of holders beside a store stays

pub count_kept : (s : Slab Store) (k : ℕ) (f g : Store) → get s k ≡ Some f → g.holders ≡ f.holders → (j : ℕ) → count_of_store (with_value s k g) j ≡ count_of_store s j
count_kept s k f g e same j = elim (eqb_tells j k) [
  | inl d ↦ ap (count_of_store (with_value s k g)) d.1 ∙ ap holders_if (at_same s.slots k f (Some g) e) ∙ same ∙ ap holders_if (sym e) ∙ ap (count_of_store s) (sym d.1)
  | inr d ↦ ap holders_if (at_other s.slots k j (Some g) d.1)
]

some_behind : {X Y : Type 0} (f : X → Y) (o : Option X) → IsSome (option_map f o) → IsSome o
some_behind f None h = h
some_behind f (Some x) h = refl

some_before : {X Y : Type 0} (f : X → Y) (o : Option X) → IsSome o → IsSome (option_map f o)
some_before f None h = h
some_before f (Some x) h = refl

-- what the memory has is in the slab

pub store_live : (s : Cells) (k : ℕ) → IsLive (memory_seen s) k → ContainsKey s.stores k
store_live s k h = some_behind store_seen (get s.stores k) (ap is_some (sym (at_seen store_seen s.stores.slots k)) ∙ h)

pub block_live : (s : Cells) (b : ℕ) → IsBlock (memory_seen s) b → ContainsKey s.blocks b
block_live s b h = some_behind scope_seen (get s.blocks b) (ap is_some (sym (at_seen scope_seen s.blocks.slots b)) ∙ h)

-- a temporary of a depth stands so far from the end

put_front : (is js : List model.Item) (k : ℕ) (i : model.Item) → k < length is → with_nth_item (is ++ js) k i ≡ with_nth_item is k i ++ js
put_front [] js k i h = absurd (omega (arith, h))
put_front (x ∷ is) js zero i h = refl
put_front (x ∷ is) js (suc k) i h = ap (λ ys. x ∷ ys) (put_front is js k i (omega (arith, h)))

put_end : (is : List model.Item) (x i : model.Item) (k : ℕ) → k ≡ length is → with_nth_item (is ++ x ∷ []) k i ≡ is ++ i ∷ []
put_end [] x i zero e = refl
put_end [] x i (suc k) e = absurd (omega (arith, e))
put_end (y ∷ is) x i zero e = absurd (omega (arith, e))
put_end (y ∷ is) x i (suc k) e = ap (λ ys. y ∷ ys) (put_end is x i k (omega (arith, e)))

length_seen : (is : List Item) → length (map item_seen is) ≡ length is
length_seen [] = refl
length_seen (i ∷ is) = ap suc (length_seen is)

seen_count : (xs : List Item) → length (map item_seen (reverse xs)) ≡ length xs
seen_count xs = length_seen (reverse xs) ∙ length-reverse xs

seen_more : (x : Item) (xs : List Item) → map item_seen (reverse (x ∷ xs)) ≡ map item_seen (reverse xs) ++ item_seen x ∷ []
seen_more x xs = ap (map item_seen) (reverse-append (x ∷ []) xs) ∙ map-append item_seen (reverse xs) (x ∷ [])

pub set_reversed : (xs : List Item) (k at : ℕ) (y : Item) → at + 1 + k ≡ length xs → map item_seen (reverse (slice_set xs at y)) ≡ with_nth_item (map item_seen (reverse xs)) k (item_seen y)
set_reversed [] k at y e = absurd (omega (arith, e))
set_reversed (x ∷ xs) k zero y e =
    seen_more y xs
    ∙ sym (put_end (map item_seen (reverse xs)) (item_seen x) (item_seen y) k (omega (arith, e, seen_count xs)))
    ∙ ap (λ is. with_nth_item is k (item_seen y)) (sym (seen_more x xs))
set_reversed (x ∷ xs) k (suc at) y e =
    seen_more x (slice_set xs at y)
    ∙ ap (λ is. is ++ item_seen x ∷ []) (set_reversed xs k at y (omega (arith, e)))
    ∙ sym (put_front (map item_seen (reverse xs)) (item_seen x ∷ []) k (item_seen y) (omega (arith, e, seen_count xs)))
    ∙ ap (λ is. with_nth_item is k (item_seen y)) (sym (seen_more x xs))

any_at : (xs : List Item) (at : ℕ) (d e : Item) → at < length xs → slice_index_or xs at d ≡ slice_index_or xs at e
any_at [] at d e h = absurd (omega (arith, h))
any_at (x ∷ xs) zero d e h = refl
any_at (x ∷ xs) (suc at) d e h = any_at xs at d e (omega (arith, h))

pub temp_of : (xs : List Item) (k : ℕ) (d : Item) → k < length xs → Some (item_seen (slice_index_or xs (length xs - 1 - k) d)) ≡ nth_item (map item_seen (reverse xs)) k
temp_of xs k d h =
    let x = slice_index_or xs (length xs - 1 - k) d in
    temp_is xs k (length xs) x refl h (any_at xs (length xs - 1 - k) d x (omega (arith, h)))

pub length_set : {X : Type 0} (xs : List X) (k : ℕ) (y : X) → length (slice_set xs k y) ≡ length xs
length_set [] k y = refl
length_set (x ∷ xs) zero y = refl
length_set (x ∷ xs) (suc k) y = ap suc (length_set xs k y)

pub whole_slice : {X : Type 0} (xs ys : List X) (n : ℕ) → n ≡ length xs → take n (xs ++ ys) ≡ xs
whole_slice [] ys n e = ap (λ (k : ℕ). take k ys) e
whole_slice (x ∷ xs) ys zero e = absurd (omega (arith, e))
whole_slice (x ∷ xs) ys (suc n) e = ap (λ zs. x ∷ zs) (whole_slice xs ys n (omega (arith, e)))

pub depth_within : (xs : List Item) (k : ℕ) → HasValue (nth_item (map item_seen (reverse xs)) k) → k < length xs
depth_within xs k h = elim (cases_lt k (length xs)) [
  | inl less ↦ less
  | inr more ↦ absurd (none_some (temp_none xs k more ∙ h.1))
]

-- a change of a block

module _ (s : Cells) (b : ℕ) (f : Block) (e : get s.blocks b ≡ Some f) where
  -- is that of the scope that is seen
  pub scope_changed : (g : Block) (change : Scope → Scope) → scope_seen g ≡ change (scope_seen f) → memory_seen (record s { blocks = with_value s.blocks b g }) ≡ with_scope (memory_seen s) b (change (scope_of (memory_seen s) b))
  scope_changed g change h = block_put s b f e g ∙ ap (with_scope (memory_seen s) b) (h ∙ ap change (sym (scope_there s b f e)))

  -- or doesn't show
  pub scope_kept : (g : Block) → scope_seen g ≡ scope_seen f → memory_seen (record s { blocks = with_value s.blocks b g }) ≡ memory_seen s
  scope_kept g same =
      block_put s b f e g ∙ ap (λ (x : Scope). with_scope (memory_seen s) b x) same
      ∙ ap (λ bs. record (memory_seen s) { blocks = bs }) (with_same (memory_seen s).blocks b (scope_seen f) (block_there s b f e))

pub waiting_kept : (bs : Slab Block) (b : ℕ) (f g : Block) → get bs b ≡ Some f → g.waiting ≡ f.waiting → AreWaitingKept bs (with_value bs b g)
waiting_kept bs b f g e same j = elim (eqb_tells j b) [
  | inl d ↦
      ap (λ k. option_map (λ (x : Block). x.waiting) (get (with_value bs b g) k)) d.1
      ∙ ap (option_map (λ (x : Block). x.waiting)) (at_same bs.slots b f (Some g) e)
      ∙ ap Some same
      ∙ ap (option_map (λ (x : Block). x.waiting)) (sym e)
      ∙ ap (λ k. option_map (λ (x : Block). x.waiting) (get bs k)) (sym d.1)
  | inr d ↦ ap (option_map (λ (x : Block). x.waiting)) (at_other bs.slots b j (Some g) d.1)
]

-- a block that has a temporary is there
pub block_of_temp : (s : Cells) (b n : ℕ) → HasValue (nth_item (scope_of (memory_seen s) b).temps n) → ContainsKey s.blocks b
block_of_temp s b n h = by_block (get s.blocks b) refl
  where
    by_block : (o : Option Block) → get s.blocks b ≡ o → IsSome (get s.blocks b)
    by_block None e = absurd (none_some (ap (λ (f : Scope). nth_item f.temps n) (sym (block_none s b (sym e))) ∙ h.1))
    by_block (Some f) e = ap is_some e
