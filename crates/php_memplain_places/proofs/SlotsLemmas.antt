-- What is seen of the parts that are found by their numbers.
use Rattle.std.proofs.Common.{◌≡◌, ◌<◌, ◌≤◌, ◌+◌, ◌-◌, ℕ, zero, suc, List, [], ◌∷◌, length, map, get_or, drop, refl, sym, ◌∙◌, ap, arith, cond}
use Rattle.std.specs.Prelude.{Bool, true, false, Option, Some, None, Box, option_map, unwrap_or, reverse}
use Rattle.std.specs.declared.alloc.Global.{Global}
use Rattle.std.proofs.lemmas.List.{get_or-reverse, length-reverse, at_drop_more, at_drop_all}
use Rattle.slab.specs.Slab.{get}
use Rattle.php_memdef.specs.Numbered.{Numbered, numbered}
use Rattle.php_memdef.specs.Contents.{null, no_scope, content_of, scope_of}
use Rattle.php_memdef.specs.Places.{nth_item}
use Rattle.php_memdef.specs.Objects.{is_due, first_due, nth_property}
use Rattle.php_memplain_cells.specs.declared.content.Item.{Item}
use Rattle.php_memplain_cells.specs.declared.load.Property.{Property}
use Rattle.php_memplain_cells.specs.declared.objects.Object.{Object}
use Rattle.php_memplain_cells.specs.declared.stores.Store.{Store}
use Rattle.php_memplain_cells.specs.declared.cells.Cells.{Cells}
use Rattle.php_memplain_cells.specs.Seen.{item_seen, property_seen, box_seen, objects_seen, store_seen, scope_seen}
use Rattle.php_memplain_cells.specs.Memory.{memory_seen}
use Rattle.php_memplain_cells.proofs.SlotLemmas.{at_seen}

-- ---- temporaries

nth_or : (xs : List Item) (k : ℕ) (d : Item) → k < length xs → nth_item (map item_seen xs) k ≡ Some (item_seen (get_or xs k d))
nth_or [] k d h = absurd (omega (arith, h))
nth_or (x ∷ xs) zero d h = refl
nth_or (x ∷ xs) (suc k) d h = nth_or xs k d (omega (arith, h))

nth_none : (xs : List Item) (k : ℕ) → length xs ≤ k → nth_item (map item_seen xs) k ≡ None
nth_none [] k h = refl
nth_none (x ∷ xs) zero h = absurd (omega (arith, h))
nth_none (x ∷ xs) (suc k) h = nth_none xs k (omega (arith, h))

-- the temporary of a depth stands so far from the end
pub temp_there : (xs : List Item) (k at : ℕ) (x : Item) → x ≡ get_or xs at x → at ≡ length xs - 1 - k → k < length xs → Some (item_seen x) ≡ nth_item (map item_seen (reverse xs)) k
temp_there xs k at x is place h =
    sym (nth_or (reverse xs) k x (omega (arith, h, length-reverse xs))
    ∙ ap (λ i. Some (item_seen i)) (get_or-reverse xs k x h ∙ ap (λ j. get_or xs j x) (sym place) ∙ sym is))

pub temp_none : (xs : List Item) (k : ℕ) → length xs ≤ k → None ≡ nth_item (map item_seen (reverse xs)) k
temp_none xs k h = sym (nth_none (reverse xs) k (omega (arith, h, length-reverse xs)))

-- ---- stores and blocks

module _ (s : Cells) (k : ℕ) where
  pub store_there : (x : Store) → Some x ≡ get s.stores k → store_seen x ≡ content_of (memory_seen s) k
  store_there x e = sym (ap (λ o. unwrap_or o null) (at_seen store_seen s.stores.slots k ∙ ap (option_map store_seen) (sym e)))

  pub store_none : None ≡ get s.stores k → null ≡ content_of (memory_seen s) k
  store_none e = sym (ap (λ o. unwrap_or o null) (at_seen store_seen s.stores.slots k ∙ ap (option_map store_seen) (sym e)))

  pub block_none : None ≡ get s.blocks k → scope_of (memory_seen s) k ≡ no_scope
  block_none e = ap (λ o. unwrap_or o no_scope) (at_seen scope_seen s.blocks.slots k ∙ ap (option_map scope_seen) (sym e))

-- ---- statics

module _ {X : Type 0} where
  pub numbered_there : (xs : Numbered X) (k : ℕ) → k < length xs → get_or xs k None ≡ numbered xs k
  numbered_there [] k h = absurd (omega (arith, h))
  numbered_there (y ∷ xs) zero h = refl
  numbered_there (y ∷ xs) (suc k) h = numbered_there xs k (omega (arith, h))

  pub numbered_past : (xs : Numbered X) (k : ℕ) → length xs ≤ k → None ≡ numbered xs k
  numbered_past [] k h = refl
  numbered_past (y ∷ xs) zero h = absurd (omega (arith, h))
  numbered_past (y ∷ xs) (suc k) h = numbered_past xs k (omega (arith, h))

-- ---- objects

slots_there : (os : List (Option (Box Object Global))) (k : ℕ) (x : Option (Box Object Global)) → k < length os → x ≡ get_or os k x → option_map box_seen x ≡ numbered (map (option_map box_seen) os) k
slots_there [] k x h is = absurd (omega (arith, h))
slots_there (y ∷ os) zero x h is = ap (option_map box_seen) is
slots_there (y ∷ os) (suc k) x h is = slots_there os k x (omega (arith, h)) is

slots_past : (os : List (Option (Box Object Global))) (k : ℕ) → length os ≤ k → None ≡ numbered (map (option_map box_seen) os) k
slots_past [] k h = refl
slots_past (y ∷ os) zero h = absurd (omega (arith, h))
slots_past (y ∷ os) (suc k) h = slots_past os k (omega (arith, h))

-- the object of a number stands one place before it
pub object_there : (os : List (Option (Box Object Global))) (n k : ℕ) (x : Option (Box Object Global)) → n ≡ suc k → k < length os → x ≡ get_or os k x → option_map box_seen x ≡ numbered (objects_seen os) n
object_there os n k x e h is = slots_there os k x h is ∙ ap (numbered (objects_seen os)) (sym e)

pub object_past : (os : List (Option (Box Object Global))) (n k : ℕ) → n ≡ suc k → length os ≤ k → None ≡ numbered (objects_seen os) n
object_past os n k e h = slots_past os k h ∙ ap (numbered (objects_seen os)) (sym e)

pub object_none : (os : List (Option (Box Object Global))) (n : ℕ) → n ≡ 0 → None ≡ numbered (objects_seen os) n
object_none os n e = sym (ap (numbered (objects_seen os)) e)

-- ---- properties by their place

pub property_there : (ps : List Property) (k : ℕ) (p : Property) → k < length ps → p ≡ get_or ps k p → Some p.name ≡ nth_property (map property_seen ps) k
property_there [] k p h is = absurd (omega (arith, h))
property_there (q ∷ ps) zero p h is = ap (λ (x : Property). Some x.name) is
property_there (q ∷ ps) (suc k) p h is = property_there ps k p (omega (arith, h)) is

pub property_past : (ps : List Property) (k : ℕ) → length ps ≤ k → None ≡ nth_property (map property_seen ps) k
property_past [] k h = refl
property_past (q ∷ ps) zero h = absurd (omega (arith, h))
property_past (q ∷ ps) (suc k) h = property_past ps k (omega (arith, h))

-- ---- the first object that is due

abbrev slot_due : Option (Box Object Global) → Bool
slot_due o = is_due (option_map box_seen o)

module _ (os : List (Option (Box Object Global))) (k n : ℕ) (x : Option (Box Object Global)) (whole : Option ℕ) (within : k < length os) (is : x ≡ get_or os k x) (before : first_due (map (option_map box_seen) (drop k os)) n ≡ whole) where
  one_due : cond (slot_due x) (Some n) (first_due (map (option_map box_seen) (drop (k + 1) os)) (suc n)) ≡ whole
  one_due =
      ap (λ y. cond (slot_due y) (Some n) (first_due (map (option_map box_seen) (drop (k + 1) os)) (suc n))) is
      ∙ sym (at_drop_more (λ ys. first_due (map (option_map box_seen) ys) n) os k x within)
      ∙ before

  pub due_found : slot_due x ≡ true → Some n ≡ whole
  due_found t = sym (ap (λ b. cond b (Some n) (first_due (map (option_map box_seen) (drop (k + 1) os)) (suc n))) t) ∙ one_due

  pub due_later : slot_due x ≡ false → (m : ℕ) → m ≡ suc n → first_due (map (option_map box_seen) (drop (k + 1) os)) m ≡ whole
  due_later t m e =
      ap (first_due (map (option_map box_seen) (drop (k + 1) os))) e
      ∙ sym (ap (λ b. cond b (Some n) (first_due (map (option_map box_seen) (drop (k + 1) os)) (suc n))) t)
      ∙ one_due

pub none_due : (os : List (Option (Box Object Global))) (k n : ℕ) (whole : Option ℕ) → length os ≤ k → first_due (map (option_map box_seen) (drop k os)) n ≡ whole → None ≡ whole
none_due os k n whole past before = sym (at_drop_all (λ ys. first_due (map (option_map box_seen) ys) n) os k past) ∙ before
