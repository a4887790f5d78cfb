-- Temporaries by their depth.
use Rattle.std.proofs.Common.{◌≡◌, ◌<◌, ◌≤◌, ◌-◌, ℕ, zero, suc, List, [], ◌∷◌, length, map, refl, sym, ◌∙◌, ap, arith}
use Rattle.std.specs.Prelude.{Some, None, reverse, slice_index_or}
use Rattle.std.proofs.lemmas.List.{get_or-reverse, length-reverse}
use Rattle.php_memdef.specs.Places.{nth_item}
use Rattle.php_memplain_cells.specs.declared.content.Item.{Item}
use Rattle.php_memplain_cells.specs.Seen.{item_seen}

nth_or : (xs : List Item) (k : ℕ) (d : Item) → k < length xs → nth_item (map item_seen xs) k ≡ Some (item_seen (slice_index_or xs k d))
nth_or [] k d h = absurd (omega (arith, h))
nth_or (x ∷ xs) zero d h = refl
nth_or (x ∷ xs) (suc k) d h = nth_or xs k d (omega (arith, h))

nth_none : (xs : List Item) (k : ℕ) → length xs ≤ k → nth_item (map item_seen xs) k ≡ None
nth_none [] k h = refl
nth_none (x ∷ xs) zero h = absurd (omega (arith, h))
nth_none (x ∷ xs) (suc k) h = nth_none xs k (omega (arith, h))

-- the temporary of a depth stands so far from the end
pub temp_is : (xs : List Item) (k n : ℕ) (i : Item) → n ≡ length xs → k < n → i ≡ slice_index_or xs (n - 1 - k) i → Some (item_seen i) ≡ nth_item (map item_seen (reverse xs)) k
temp_is xs k n i e h is =
    ap (λ x. Some (item_seen x)) (is ∙ ap (λ j. slice_index_or xs (j - 1 - k) i) e ∙ sym (get_or-reverse xs k i (omega (arith, e, h))))
    ∙ sym (nth_or (reverse xs) k i (omega (arith, e, h, length-reverse xs)))

pub temp_gone : (xs : List Item) (k n : ℕ) → n ≡ length xs → n ≤ k → None ≡ nth_item (map item_seen (reverse xs)) k
temp_gone xs k n e h = sym (nth_none (reverse xs) k (omega (arith, e, h, length-reverse xs)))
