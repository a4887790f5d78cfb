-- Steps of a path, one after another.
use Rattle.std.proofs.Common.{◌≡◌, ◌≤◌, ◌+◌, ℕ, zero, suc, List, [], ◌∷◌, length, drop, refl, sym, ◌∙◌, ap, arith}
use Rattle.std.specs.Prelude.{Option, Some, None, option_map, slice_get}
use Rattle.std.proofs.lemmas.List.{at_drop_all}
use Rattle.php_entries.specs.Listing.{Entry}
use Rattle.php_memdef.specs.declared.place.Step.{Step}
use Rattle.php_memdef.specs.Contents.{Mem}
use Rattle.php_memdef.specs.Places.{Spot, next_spot, spot_along, entry_store}
use Rattle.php_memdef.specs.Views.{counted_if, steps_along, spot_or, end_along}

-- what comes of the rest of a path is what comes of its next step and the rest behind that
at_step : {Y : Type 0} (F : List Step → Y) (path : List Step) (at : ℕ) (step : Step) → slice_get path at ≡ Some step → F (drop at path) ≡ F (step ∷ drop (suc at) path)
at_step F [] at step e = absurd cc
at_step F (s ∷ path) zero step e = ap (λ t. F (t ∷ path)) (same e)
  where
    same : Some s ≡ Some step → s ≡ step
    same e = cc
at_step F (s ∷ path) (suc at) step e = at_step F path at step e

-- the value of an entry is its store
pub entry_value : (o : Option (Entry ℕ)) → option_map (λ (e : Entry ℕ). e.value) o ≡ entry_store o
entry_value None = refl
entry_value (Some e) = refl

module _ (m : Mem) where
  none_along : (path : List Step) → spot_along m None path ≡ None
  none_along [] = refl
  none_along (step ∷ path) = none_along path

  no_steps : (path : List Step) → steps_along m None path ≡ 0
  no_steps [] = refl
  no_steps (step ∷ path) = refl

  no_end : (path : List Step) → end_along m None path ≡ None
  no_end [] = refl
  no_end (step ∷ path) = ap (λ o. spot_or o None) (no_end path)

  -- a base that is missing

  pub lost : (o : Option Spot) (path : List Step) → None ≡ o → None ≡ spot_along m o path
  lost o path e = sym (none_along path) ∙ ap (λ p. spot_along m p path) e

  pub lost_steps : (o : Option Spot) (path : List Step) → None ≡ o → 0 ≡ steps_along m o path
  lost_steps o path e = sym (no_steps path) ∙ ap (λ p. steps_along m p path) e

  pub lost_end : (o : Option Spot) (path : List Step) → None ≡ o → None ≡ end_along m o path
  lost_end o path e = sym (no_end path) ∙ ap (λ p. end_along m p path) e

  module _ (spot : Spot) (path : List Step) (at : ℕ) (step : Step) (e : slice_get path at ≡ Some step) where
    -- the next step leads to a spot

    pub found_next : (next : Spot) → Some next ≡ next_spot m (Some spot) step → (to : ℕ) → to ≡ suc at → spot_along m (Some spot) (drop at path) ≡ spot_along m (Some next) (drop to path)
    found_next next f to t =
        at_step (spot_along m (Some spot)) path at step e
        ∙ ap (λ o. spot_along m o (drop (suc at) path)) (sym f)
        ∙ ap (λ k. spot_along m (Some next) (drop k path)) (sym t)

    pub found_step : (next : Spot) → Some next ≡ next_spot m (Some spot) step → (to : ℕ) → to ≡ suc at → steps_along m (Some spot) (drop at path) ≡ 1 + steps_along m (Some next) (drop to path)
    found_step next f to t =
        let rest : steps_along m (Some next) (drop (suc at) path) ≡ steps_along m (Some next) (drop to path) = ap (λ k. steps_along m (Some next) (drop k path)) (sym t) in
        let one : steps_along m (Some spot) (drop at path) ≡ suc (steps_along m (Some next) (drop (suc at) path)) = at_step (steps_along m (Some spot)) path at step e ∙ ap (λ o. counted_if o (steps_along m o (drop (suc at) path))) (sym f) in
        omega (arith, one, rest)

    kept_end : (next : Spot) (rest : List Step) (p : Option Spot) → spot_or (end_along m (Some next) rest) p ≡ end_along m (Some next) rest
    kept_end next [] p = refl
    kept_end next (s ∷ rest) p = twice (end_along m (next_spot m (Some next) s) rest)
      where
        twice : (o : Option Spot) → spot_or (spot_or o (Some next)) p ≡ spot_or o (Some next)
        twice None = refl
        twice (Some x) = refl

    pub found_end : (next : Spot) → Some next ≡ next_spot m (Some spot) step → (to : ℕ) → to ≡ suc at → end_along m (Some spot) (drop at path) ≡ end_along m (Some next) (drop to path)
    found_end next f to t =
        at_step (end_along m (Some spot)) path at step e
        ∙ ap (λ o. spot_or (end_along m o (drop (suc at) path)) (Some spot)) (sym f)
        ∙ kept_end next (drop (suc at) path) (Some spot)
        ∙ ap (λ k. end_along m (Some next) (drop k path)) (sym t)

    -- the next step leads nowhere

    module _ (f : None ≡ next_spot m (Some spot) step) where
      pub lost_next : spot_along m (Some spot) (drop at path) ≡ None
      lost_next =
          at_step (spot_along m (Some spot)) path at step e
          ∙ ap (λ o. spot_along m o (drop (suc at) path)) (sym f)
          ∙ none_along (drop (suc at) path)

      pub no_further : steps_along m (Some spot) (drop at path) ≡ 0
      no_further =
          at_step (steps_along m (Some spot)) path at step e
          ∙ ap (λ o. counted_if o (steps_along m o (drop (suc at) path))) (sym f)

      pub ends_here : end_along m (Some spot) (drop at path) ≡ Some spot
      ends_here =
          at_step (end_along m (Some spot)) path at step e
          ∙ ap (λ o. spot_or (end_along m o (drop (suc at) path)) (Some spot)) (sym f)
          ∙ ap (λ o. spot_or o (Some spot)) (no_end (drop (suc at) path))

  -- no step is left

  pub all_found : (spot : Spot) (path : List Step) (at : ℕ) → length path ≤ at → spot_along m (Some spot) (drop at path) ≡ Some spot
  all_found spot path at past = at_drop_all (spot_along m (Some spot)) path at past

  pub all_steps : (spot : Spot) (path : List Step) (at : ℕ) → length path ≤ at → steps_along m (Some spot) (drop at path) ≡ 0
  all_steps spot path at past = at_drop_all (steps_along m (Some spot)) path at past

  pub all_end : (spot : Spot) (path : List Step) (at : ℕ) → length path ≤ at → end_along m (Some spot) (drop at path) ≡ Some spot
  all_end spot path at past = at_drop_all (end_along m (Some spot)) path at past
