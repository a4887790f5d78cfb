-- An object that gets a further holder, or loses one.
use Rattle.std.proofs.Common.{◌≡◌, ◌≢◌, ◌<◌, ◌+◌, ◌-◌, ℕ, zero, suc, List, [], ◌∷◌, refl, sym, ◌∙◌, ap, subst, arith, inl, inr}
use Rattle.std.specs.Prelude.{Bool, true, false, Option, Some, None, Box, slice_index_or, slice_set}
use Rattle.std.specs.declared.alloc.Global.{Global}
use Rattle.std.proofs.lemmas.Bool.Decides.{eqb_tells}
use Rattle.php_memdef.specs.Numbered.{numbered, with_numbered}
use Rattle.php_memdef.specs.Holders.{times}
use Rattle.php_memplain_cells.specs.declared.objects.Object.{Object}
use Rattle.php_memplain_cells.specs.Seen.{object_seen, box_seen, objects_seen}
use Rattle.php_memplain_cells.specs.Counts.{handles_if, count_of_object, AreSameHandles, AreFewerHandles}
use Rattle.php_memplain_cells.proofs.SlotLemmas.{at_same, at_other, set_twice, any_default, with_same}
use Rattle.php_memplain_cells.proofs.ObjectLemmas.{found, put_seen, there_seen, fewer_put, same_put}
use Rattle.php_memplain_copy.specs.More.{AreMoreHandles, GainIs}
use Rattle.php_memplain_copy.proofs.GrownLemmas.{times_none, times_one}

module _ (os : List (Option (Box Object Global))) (h : ℕ) (some : 0 < count_of_object os h) (d : Option (Box Object Global)) (taken : Box Object Global) (e : Some taken ≡ slice_index_or os (h - 1) d) where
  there : slice_index_or os (h - 1) None ≡ Some taken
  there = let f = found os h some in f.there ∙ sym (any_default os (h - 1) f.box d f.there) ∙ sym e

  pub count : count_of_object os h ≡ taken.value.holders
  count = let f = found os h some in f.holders ∙ ap handles_if (sym f.there ∙ there)

  abbrev put_back : Box Object Global → List (Option (Box Object Global))
  put_back p = slice_set (slice_set os (h - 1) None) (h - 1) (Some p)

  once : (p : Box Object Global) → put_back p ≡ slice_set os (h - 1) (Some p)
  once p = set_twice os (h - 1) None (Some p)

  pub back_seen : (p : Box Object Global) → object_seen p.value ≡ object_seen taken.value → objects_seen (put_back p) ≡ objects_seen os
  back_seen p same =
      ap objects_seen (once p) ∙ put_seen os (h - 1) taken there (Some p)
      ∙ ap (λ o. with_numbered (objects_seen os) (suc (h - 1)) (Some o)) same
      ∙ with_same (objects_seen os) (suc (h - 1)) (box_seen taken) (there_seen os (h - 1) taken there)

  pub back_same : (p : Box Object Global) → p.value.holders ≡ taken.value.holders → AreSameHandles os (put_back p)
  back_same p same = subst (λ ps. AreSameHandles os ps) (sym (once p)) (same_put os (h - 1) taken there (Some p) same)

  others : (p : Box Object Global) (j : ℕ) → j ≢ h → count_of_object (slice_set os (h - 1) (Some p)) j ≡ count_of_object os j
  others p zero ne = refl
  others p (suc j) ne = ap handles_if (at_other os (h - 1) j (Some p) (λ q. ne (ap suc q ∙ sym (found os h some).number)))

  here : (p : Box Object Global) → count_of_object (slice_set os (h - 1) (Some p)) h ≡ p.value.holders
  here p = ap (count_of_object (slice_set os (h - 1) (Some p))) (found os h some).number ∙ ap handles_if (at_same os (h - 1) taken (Some p) there)

  pub back_more : (p : Box Object Global) → p.value.holders ≡ taken.value.holders + 1 → AreMoreHandles os (put_back p) (h ∷ [])
  back_more p more = subst (λ ps. AreMoreHandles os ps (h ∷ [])) (sym (once p)) (λ j. elim (eqb_tells j h) [
    | inl q ↦ (
        let one : times j (h ∷ []) ≡ 1 = ap (λ i. times i (h ∷ [])) q.1 ∙ times_one h in
        let new : count_of_object (slice_set os (h - 1) (Some p)) j ≡ p.value.holders = ap (count_of_object (slice_set os (h - 1) (Some p))) q.1 ∙ here p in
        let old : count_of_object os j ≡ taken.value.holders = ap (count_of_object os) q.1 ∙ count in
        omega (arith, one, new, old, more))
    | inr q ↦ (let none : times j (h ∷ []) ≡ 0 = times_none j h q.1 in omega (arith, none, others p j q.1))
  ])

  pub back_fewer : (p : Box Object Global) → p.value.holders + 1 ≡ taken.value.holders → AreFewerHandles os (put_back p) h
  back_fewer p fewer = subst (λ ps. AreFewerHandles os ps h) (sym (once p)) (fewer_put os (h - 1) taken there h (found os h some).number (Some p) fewer)
