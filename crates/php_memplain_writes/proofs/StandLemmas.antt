-- What stands at a spot gives way to another content.
use Rattle.std.proofs.Common.{◌≡◌, ◌<◌, ◌+◌, ◌-◌, ℕ, zero, suc, List, [], ◌∷◌, ◌++◌, length, map, refl, sym, ◌∙◌, ap, arith, inl, inr}
use Rattle.std.specs.Prelude.{Option, Some, None, option_map, unwrap_or, is_some, reverse, slice_index_or, slice_set}
use Rattle.std.proofs.lemmas.List.{map-append, reverse-append, length-reverse}
use Rattle.std.proofs.lemmas.Bool.Decides.{eqb_tells}
use Rattle.slab.specs.Slab.{Slab, get, with_value}
use Rattle.php_memdef.specs.Numbered.{numbered}
use Rattle.php_memdef.specs.Contents.{Item, Scope, Mem, no_scope}
use Rattle.php_memdef.specs.Places.{standing, nth_item, with_nth_item}
use Rattle.php_memdef.specs.Conditions.{IsBlock}
use Rattle.php_memplain_cells.specs.declared.content.Item.{Item as Kept}
use Rattle.php_memplain_cells.specs.declared.stores.Store.{Store}
use Rattle.php_memplain_cells.specs.declared.block.Block.{Block}
use Rattle.php_memplain_cells.specs.Seen.{item_seen}
use Rattle.php_memplain_cells.specs.Counts.{holders_if}
use Rattle.php_memplain_cells.proofs.SlotLemmas.{no_some, at_same, at_other}
use Rattle.php_memplain_writes.specs.Standing.{HasContent, AreWaitingKept}

seen_length : (is : List Kept) → length (map item_seen is) ≡ length is
seen_length [] = refl
seen_length (i ∷ is) = ap suc (seen_length is)

reversed_length : (is : List Kept) → length (map item_seen (reverse is)) ≡ length is
reversed_length is = seen_length (reverse is) ∙ length-reverse is

nth_within : (is : List Item) (k : ℕ) (i : Item) → nth_item is k ≡ Some i → k < length is
nth_within [] k i e = absurd (no_some e)
nth_within (j ∷ is) zero i e = omega arith
nth_within (j ∷ is) (suc k) i e = omega (arith, nth_within is k i e)

pub temp_within : (is : List Kept) (k : ℕ) (i : Item) → nth_item (map item_seen (reverse is)) k ≡ Some i → k < length is
temp_within is k i e = omega (arith, nth_within (map item_seen (reverse is)) k i e, reversed_length is)

-- the temporary of a depth is another one now

last_first : (i : Kept) (is : List Kept) → map item_seen (reverse (i ∷ is)) ≡ map item_seen (reverse is) ++ item_seen i ∷ []
last_first i is = ap (map item_seen) (reverse-append (i ∷ []) is) ∙ map-append item_seen (reverse is) (i ∷ [])

at_end : (is : List Item) (i j : Item) (k : ℕ) → k ≡ length is → is ++ j ∷ [] ≡ with_nth_item (is ++ i ∷ []) k j
at_end [] i j zero e = refl
at_end [] i j (suc k) e = absurd (omega (arith, e))
at_end (x ∷ is) i j zero e = absurd (omega (arith, e))
at_end (x ∷ is) i j (suc k) e = ap (λ js. x ∷ js) (at_end is i j k (omega (arith, e)))

before_end : (is js : List Item) (j : Item) (k : ℕ) → k < length is → with_nth_item is k j ++ js ≡ with_nth_item (is ++ js) k j
before_end [] js j k h = absurd (omega (arith, h))
before_end (x ∷ is) js j zero h = refl
before_end (x ∷ is) js j (suc k) h = ap (λ ks. x ∷ ks) (before_end is js j k (omega (arith, h)))

temp_set_at : (is : List Kept) (at k : ℕ) (j : Kept) → at + suc k ≡ length is → map item_seen (reverse (slice_set is at j)) ≡ with_nth_item (map item_seen (reverse is)) k (item_seen j)
temp_set_at [] at k j e = absurd (omega (arith, e))
temp_set_at (i ∷ is) zero k j e =
    last_first j is
    ∙ at_end (map item_seen (reverse is)) (item_seen i) (item_seen j) k (omega (arith, e, reversed_length is))
    ∙ ap (λ js. with_nth_item js k (item_seen j)) (sym (last_first i is))
temp_set_at (i ∷ is) (suc at) k j e =
    last_first i (slice_set is at j)
    ∙ ap (λ js. js ++ item_seen i ∷ []) (temp_set_at is at k j (omega (arith, e)))
    ∙ before_end (map item_seen (reverse is)) (item_seen i ∷ []) (item_seen j) k (omega (arith, e, reversed_length is))
    ∙ ap (λ js. with_nth_item js k (item_seen j)) (sym (last_first i is))

pub temp_set : (is : List Kept) (n k : ℕ) (j : Kept) → n ≡ length is → k < length is → map item_seen (reverse (slice_set is (n - 1 - k) j)) ≡ with_nth_item (map item_seen (reverse is)) k (item_seen j)
temp_set is n k j e h = temp_set_at is (n - 1 - k) k j (omega (arith, e, h))

-- a store that keeps its count
pub count_kept : (ss : List (Option Store)) (k : ℕ) (x y : Store) → slice_index_or ss k None ≡ Some x → y.holders ≡ x.holders → (j : ℕ) → holders_if (slice_index_or (slice_set ss k (Some y)) j None) ≡ holders_if (slice_index_or ss j None)
count_kept ss k x y e same j = elim (eqb_tells j k) [
  | inl d ↦ ap (λ i. holders_if (slice_index_or (slice_set ss k (Some y)) i None)) d.1 ∙ ap holders_if (at_same ss k x (Some y) e) ∙ same ∙ sym (ap (λ i. holders_if (slice_index_or ss i None)) d.1 ∙ ap holders_if e)
  | inr d ↦ ap holders_if (at_other ss k j (Some y) d.1)
]

-- a block of which the same waits
pub waiting_kept : (bs : Slab Block) (b : ℕ) (f g : Block) → get bs b ≡ Some f → g.waiting ≡ f.waiting → AreWaitingKept bs (with_value bs b g)
waiting_kept bs b f g e same j = elim (eqb_tells j b) [
  | inl d ↦ ap (λ i. option_map (λ (x : Block). x.waiting) (slice_index_or (slice_set bs.slots b (Some g)) i None)) d.1 ∙ ap (option_map (λ (x : Block). x.waiting)) (at_same bs.slots b f (Some g) e) ∙ ap Some same ∙ sym (ap (λ i. option_map (λ (x : Block). x.waiting) (slice_index_or bs.slots i None)) d.1 ∙ ap (option_map (λ (x : Block). x.waiting)) e)
  | inr d ↦ ap (option_map (λ (x : Block). x.waiting)) (at_other bs.slots b j (Some g) d.1)
]

-- a block with a temporary is there
pub block_of : (m : Mem) (b k : ℕ) → HasContent m (standing b k) → IsBlock m b
block_of m b k h = by_block (numbered m.blocks b) refl
  where
    by_block : (o : Option Scope) → numbered m.blocks b ≡ o → IsBlock m b
    by_block None e = absurd (no_some (sym (ap (λ o. nth_item (unwrap_or o no_scope).temps k) e) ∙ h.1))
    by_block (Some f) e = ap is_some e
