-- Objects by their numbers, after a change of one.
use Rattle.std.proofs.Common.{◌≡◌, ◌≢◌, ◌<◌, ◌+◌, ◌-◌, ℕ, zero, suc, List, [], ◌∷◌, refl, sym, ◌∙◌, ap, subst, arith, inl, inr, cond}
use Rattle.std.specs.Prelude.{Bool, true, false, Option, Some, None, Box, slice_index_or, slice_set}
use Rattle.std.specs.declared.alloc.Global.{Global}
use Rattle.std.proofs.lemmas.Bool.Decides.{eqb_tells}
use Rattle.php_memdef.specs.Numbered.{numbered, with_numbered}
use Rattle.php_memdef.specs.Holders.{times}
use Rattle.php_memplain_cells.specs.declared.objects.Object.{Object}
use Rattle.php_memplain_cells.specs.Seen.{box_seen, objects_seen}
use Rattle.php_memplain_cells.specs.Counts.{handles_if, count_of_object, AreFewerHandles, AreSameHandles}
use Rattle.php_memplain_cells.proofs.SlotLemmas.{at_seen, set_seen, at_same, at_other}

-- an object that is held is there
pub record Found (os : List (Option (Box Object Global))) (h : ℕ) : Type 0 where
  pub number : h ≡ suc (h - 1)
  pub box : Box Object Global
  pub there : slice_index_or os (h - 1) None ≡ Some box
  pub holders : count_of_object os h ≡ box.value.holders

pub found : (os : List (Option (Box Object Global))) (h : ℕ) → 0 < count_of_object os h → Found os h
found os zero some = absurd (omega (arith, some))
found os (suc n) some = by_slot (slice_index_or os n None) refl
  where
    by_slot : (o : Option (Box Object Global)) → slice_index_or os n None ≡ o → Found os (suc n)
    by_slot None e = absurd (let none : count_of_object os (suc n) ≡ 0 = ap handles_if e in omega (arith, some, none))
    by_slot (Some b) e = record { number = omega arith; box = b; there = subst (λ k. slice_index_or os k None ≡ Some b) (omega arith) e; holders = ap handles_if e }

module _ (os : List (Option (Box Object Global))) (k : ℕ) (b : Box Object Global) (e : slice_index_or os k None ≡ Some b) where
  pub put_seen : (y : Option (Box Object Global)) → objects_seen (slice_set os k y) ≡ with_numbered (objects_seen os) (suc k) (Rattle.std.specs.Prelude.option_map box_seen y)
  put_seen y = ap (λ xs. None ∷ xs) (set_seen box_seen os k b y e)

  pub there_seen : numbered (objects_seen os) (suc k) ≡ Some (box_seen b)
  there_seen = at_seen box_seen os k ∙ ap (Rattle.std.specs.Prelude.option_map box_seen) e

  counts_same : (y : Option (Box Object Global)) → count_of_object (slice_set os k y) (suc k) ≡ handles_if y
  counts_same y = ap handles_if (at_same os k b y e)

  counts_other : (y : Option (Box Object Global)) (j : ℕ) → j ≢ suc k → count_of_object (slice_set os k y) j ≡ count_of_object os j
  counts_other y zero ne = refl
  counts_other y (suc j) ne = ap handles_if (at_other os k j y (λ d. ne (ap suc d)))

  counted : count_of_object os (suc k) ≡ b.value.holders
  counted = ap handles_if e

  pub fewer_put : (h : ℕ) → h ≡ suc k → (y : Option (Box Object Global)) → handles_if y + 1 ≡ b.value.holders → AreFewerHandles os (slice_set os k y) h
  fewer_put h d y less j = elim (eqb_tells j h) [
    | inl same ↦ (
        let one : times j (h ∷ []) ≡ 1 = ap (λ t. cond t 1 0 + 0) same.0 in
        let new : count_of_object (slice_set os k y) j ≡ handles_if y = ap (count_of_object (slice_set os k y)) (same.1 ∙ d) ∙ counts_same y in
        let old : count_of_object os j ≡ b.value.holders = ap (count_of_object os) (same.1 ∙ d) ∙ counted in
        omega (arith, one, new, old, less))
    | inr other ↦ (
        let none : times j (h ∷ []) ≡ 0 = ap (λ t. cond t 1 0 + 0) other.0 in
        let new : count_of_object (slice_set os k y) j ≡ count_of_object os j = counts_other y j (λ f. other.1 (f ∙ sym d)) in
        omega (arith, none, new))
  ]

  pub same_put : (y : Option (Box Object Global)) → handles_if y ≡ b.value.holders → AreSameHandles os (slice_set os k y)
  same_put y kept j = elim (eqb_tells j (suc k)) [
    | inl same ↦ ap (count_of_object (slice_set os k y)) same.1 ∙ counts_same y ∙ kept ∙ sym counted ∙ ap (count_of_object os) (sym same.1)
    | inr other ↦ counts_other y j other.1
  ]
