-- An object of a number that changes.
use Rattle.std.proofs.Common.{◌≡◌, ℕ, zero, suc, ◌+◌, ◌-◌, ◌<◌, List, [], ◌∷◌, length, refl, sym, ◌∙◌, ap, subst, arith}
use Rattle.std.specs.Prelude.{Option, Some, None, Box, option_map, unwrap_or, slice_index_or, slice_set, IsSome}
use Rattle.std.specs.declared.alloc.Global.{Global}
use Rattle.std.proofs.lemmas.Bool.{false≢true}
use Rattle.php_memdef.specs.Numbered.{Numbered, numbered, with_numbered}
use Rattle.php_memdef.specs.Contents.{Mem, no_object, object_of}
use Rattle.php_memdef.specs.Places.{with_object}
use Rattle.php_memdef.specs.Contents as model
use Rattle.php_memplain_cells.specs.declared.objects.Object.{Object}
use Rattle.php_memplain_cells.specs.declared.cells.Cells.{Cells}
use Rattle.php_memplain_cells.specs.Memory.{memory_seen}
use Rattle.php_memplain_cells.specs.Seen.{object_seen, box_seen, objects_seen}
use Rattle.php_memplain_cells.specs.Counts.{AreSameHandles}
use Rattle.php_memplain_cells.proofs.SlotLemmas.{at_seen, set_twice, any_default, within}
use Rattle.php_memplain_cells.proofs.ObjectLemmas.{put_seen, there_seen, same_put}

-- an object that is seen is there
pub record IsIn (os : List (Option (Box Object Global))) (h : ℕ) : Type 0 where
  pub number : h ≡ suc (h - 1)
  pub box : Box Object Global
  pub there : slice_index_or os (h - 1) None ≡ Some box

pub is_in : (os : List (Option (Box Object Global))) (h : ℕ) → IsSome (numbered (objects_seen os) h) → IsIn os h
is_in os zero live = absurd (false≢true live)
is_in os (suc n) live = by_slot (slice_index_or os n None) refl (subst (λ o. IsSome o) (at_seen box_seen os n) live)
  where
    by_slot : (o : Option (Box Object Global)) → slice_index_or os n None ≡ o → IsSome (option_map box_seen o) → IsIn os (suc n)
    by_slot None e h = absurd (false≢true h)
    by_slot (Some b) e h = record { number = omega arith; box = b; there = subst (λ k. slice_index_or os k None ≡ Some b) (omega arith) e }

pub is_within : (os : List (Option (Box Object Global))) (h : ℕ) → IsSome (numbered (objects_seen os) h) → (0 < h) × (h - 1 < length os)
is_within os h live =
    let i = is_in os h live in
    (omega (arith, i.number), within os (h - 1) i.box i.there)

module _ (os : List (Option (Box Object Global))) (h : ℕ) (live : IsSome (numbered (objects_seen os) h)) (d : Option (Box Object Global)) (taken : Box Object Global) (e : Some taken ≡ slice_index_or os (h - 1) d) where
  pub there : slice_index_or os (h - 1) None ≡ Some taken
  there = let f = is_in os h live in f.there ∙ sym (any_default os (h - 1) f.box d f.there) ∙ sym e

  abbrev put_back : Box Object Global → List (Option (Box Object Global))
  put_back p = slice_set (slice_set os (h - 1) None) (h - 1) (Some p)

  once : (p : Box Object Global) → put_back p ≡ slice_set os (h - 1) (Some p)
  once p = set_twice os (h - 1) None (Some p)

  pub was_seen : unwrap_or (numbered (objects_seen os) h) no_object ≡ object_seen taken.value
  was_seen = ap (λ o. unwrap_or o no_object) (ap (numbered (objects_seen os)) (is_in os h live).number ∙ there_seen os (h - 1) taken there)

  pub back_changed : (p : Box Object Global) (change : model.Object → model.Object) → object_seen p.value ≡ change (object_seen taken.value) → objects_seen (put_back p) ≡ with_numbered (objects_seen os) h (Some (change (unwrap_or (numbered (objects_seen os) h) no_object)))
  back_changed p change is =
      let up : h ≡ suc (h - 1) = (is_in os h live).number in
      ap objects_seen (once p) ∙ put_seen os (h - 1) taken there (Some p)
      ∙ ap (λ o. with_numbered (objects_seen os) (suc (h - 1)) (Some o)) (is ∙ ap change (sym was_seen))
      ∙ ap (λ k. with_numbered (objects_seen os) k (Some (change (unwrap_or (numbered (objects_seen os) h) no_object)))) (sym up)

  pub back_same : (p : Box Object Global) → p.value.holders ≡ taken.value.holders → AreSameHandles os (put_back p)
  back_same p same = subst (λ ps. AreSameHandles os ps) (sym (once p)) (same_put os (h - 1) taken there (Some p) same)

pub length_put : {X : Type 0} (xs : List X) (n : ℕ) (y : X) → length (slice_set xs n y) ≡ length xs
length_put [] n y = refl
length_put (x ∷ xs) zero y = refl
length_put (x ∷ xs) (suc n) y = ap suc (length_put xs n y)

pub no_box : (os : List (Option (Box Object Global))) (h : ℕ) → IsSome (numbered (objects_seen os) h) → (d : Option (Box Object Global)) → slice_index_or os (h - 1) d ≡ None → ⊥
no_box os h live d e = none_some (sym e ∙ any_default os (h - 1) (is_in os h live).box d (is_in os h live).there)
  where
    none_some : {x : Box Object Global} → None ≡ Some x → ⊥
    none_some e = cc

-- the memory after a change of one object
module _ (s t : Cells) (st : (memory_seen t).stores ≡ (memory_seen s).stores) (blocks : (memory_seen t).blocks ≡ (memory_seen s).blocks) (statics : (memory_seen t).statics ≡ (memory_seen s).statics) where
  with_objects : (os : Numbered model.Object) → objects_seen t.objects.items ≡ os → length t.objects.items ≡ length s.objects.items → memory_seen t ≡ record (memory_seen s) { objects = os }
  with_objects os objects len =
      ap (λ xs. record (memory_seen t) { objects = xs }) objects
      ∙ ap (λ n. record (memory_seen t) { objects = os; next_object = n + 1 }) len
      ∙ ap (λ bs. record (memory_seen s) { stores = (memory_seen t).stores; objects = os; blocks = bs; statics = (memory_seen t).statics }) blocks
      ∙ ap (λ xs. record (memory_seen s) { stores = (memory_seen t).stores; objects = os; statics = xs }) statics
      ∙ ap (λ xs. record (memory_seen s) { stores = xs; objects = os }) st

pub object_changed_seen : (s t : Cells) (h : ℕ) (change : model.Object → model.Object) → (memory_seen t).stores ≡ (memory_seen s).stores → (memory_seen t).blocks ≡ (memory_seen s).blocks → (memory_seen t).statics ≡ (memory_seen s).statics → objects_seen t.objects.items ≡ with_numbered (objects_seen s.objects.items) h (Some (change (unwrap_or (numbered (objects_seen s.objects.items) h) no_object))) → length t.objects.items ≡ length s.objects.items → memory_seen t ≡ with_object (memory_seen s) h (change (object_of (memory_seen s) h))
object_changed_seen s t h change st blocks statics objects len = with_objects s t st blocks statics (with_numbered (objects_seen s.objects.items) h (Some (change (unwrap_or (numbered (objects_seen s.objects.items) h) no_object)))) objects len
