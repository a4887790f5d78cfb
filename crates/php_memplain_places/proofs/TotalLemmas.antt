-- Sums over all that has a number, one number after another.
use Rattle.std.proofs.Common.{◌≡◌, ◌+◌, ℕ, zero, suc, List, [], ◌∷◌, drop, refl, ◌∙◌, ap, arith}
use Rattle.php_memdef.specs.Numbered.{Numbered, numbered, weight_if, total}
use Rattle.php_memdef.specs.Contents.{Item, value, link}
use Rattle.php_memdef.specs.Holders.{entries_of_items}
use Rattle.php_memdef.specs.Places.{nth_item}
use Rattle.php_memplain_places.specs.Counted.{entries_if}

module _ {X : Type 0} (w : X → ℕ) where
  total_next : (xs : Numbered X) (k : ℕ) → total w (drop k xs) ≡ weight_if w (numbered xs k) + total w (drop (suc k) xs)
  total_next [] zero = refl
  total_next [] (suc k) = refl
  total_next (x ∷ xs) zero = refl
  total_next (x ∷ xs) (suc k) = total_next xs k

  pub total_at : (xs : Numbered X) (k : ℕ) → total w (drop k xs) ≡ weight_if w (numbered xs k) + total w (drop (k + 1) xs)
  total_at xs k = total_next xs k ∙ ap (λ j. weight_if w (numbered xs k) + total w (drop j xs)) next
    where
      next : suc k ≡ k + 1
      next = omega arith

items_next : (is : List Item) (k : ℕ) → entries_of_items (drop k is) ≡ entries_if (nth_item is k) + entries_of_items (drop (suc k) is)
items_next [] zero = refl
items_next [] (suc k) = refl
items_next (value c ∷ is) zero = omega arith
items_next (link s ∷ is) zero = omega arith
items_next (i ∷ is) (suc k) = items_next is k

pub items_at : (is : List Item) (k : ℕ) → entries_of_items (drop k is) ≡ entries_if (nth_item is k) + entries_of_items (drop (k + 1) is)
items_at is k = items_next is k ∙ ap (λ j. entries_if (nth_item is k) + entries_of_items (drop j is)) next
  where
    next : suc k ≡ k + 1
    next = omega arith
