-- Where the steps of a path that lead somewhere end.
use Rattle.std.proofs.Common.{◌≡◌, ℕ, suc, ◌+◌, ◌≤◌, List, [], ◌∷◌, ◌++◌, length, take, refl, sym, ◌∙◌, ap, arith, length-append}
use Rattle.std.specs.Prelude.{Option, Some, None}
use Rattle.php_memdef.specs.declared.place.Base.{Base}
use Rattle.php_memdef.specs.declared.place.Place.{Place}
use Rattle.php_memdef.specs.declared.place.Step.{Step}
use Rattle.php_memdef.specs.Contents.{Mem}
use Rattle.php_memdef.specs.Places.{Spot, base_spot, next_spot, spot_along, find_place}
use Rattle.php_memdef.specs.Views.{counted_if, steps_along, spot_or, end_along}
use Rattle.php_memplain_writes.specs.Ways.{IsBegun, IsFront}
use Rattle.php_memplain_writes.proofs.WayLemmas.{none_some, no_end}

module _ (m : Mem) where
  none_along : (path : List Step) → spot_along m None path ≡ None
  none_along [] = refl
  none_along (step ∷ path) = none_along path

  -- a path that leads to its end

  pub all_steps : (path : List Step) (o : Option Spot) (last : Spot) → spot_along m o path ≡ Some last → length path ≡ steps_along m o path
  all_steps [] o last e = refl
  all_steps (step ∷ path) o last e = by_next (next_spot m o step) refl (all_steps path)
    where
      by_next : (n : Option Spot) → next_spot m o step ≡ n → ((o : Option Spot) (last : Spot) → spot_along m o path ≡ Some last → length path ≡ steps_along m o path) → suc (length path) ≡ steps_along m o (step ∷ path)
      by_next None f below = absurd (none_some (sym (none_along path) ∙ ap (λ x. spot_along m x path) (sym f) ∙ e))
      by_next (Some x) f below = ap suc (below (Some x) last (ap (λ y. spot_along m y path) (sym f) ∙ e)) ∙ ap (λ y. counted_if y (steps_along m y path)) (sym f)

  pub all_end : (path : List Step) (o : Option Spot) (last : Spot) → spot_along m o path ≡ Some last → Some last ≡ end_along m o path
  all_end [] o last e = sym e
  all_end (step ∷ path) o last e = ap (λ y. spot_or y o) (all_end path (next_spot m o step) last e)

  -- so many steps of a path as lead somewhere

  some_end : (path : List Step) (spot before : Spot) → spot_or (end_along m (Some spot) path) (Some before) ≡ end_along m (Some spot) path
  some_end [] spot before = refl
  some_end (step ∷ path) spot before = twice (end_along m (next_spot m (Some spot) step) path)
    where
      twice : (o : Option Spot) → spot_or (spot_or o (Some spot)) (Some before) ≡ spot_or o (Some spot)
      twice None = refl
      twice (Some x) = refl

  nowhere : (path : List Step) → spot_along m None (take (steps_along m None path) path) ≡ end_along m None path
  nowhere path = none_along (take (steps_along m None path) path) ∙ sym (no_end m path)

  from_spot : (path : List Step) (spot : Spot) → spot_along m (Some spot) (take (steps_along m (Some spot) path) path) ≡ end_along m (Some spot) path
  from_spot [] spot = refl
  from_spot (step ∷ path) spot = by_next (next_spot m (Some spot) step) refl (from_spot path)
    where
      by_next : (n : Option Spot) → next_spot m (Some spot) step ≡ n → ((spot : Spot) → spot_along m (Some spot) (take (steps_along m (Some spot) path) path) ≡ end_along m (Some spot) path) → spot_along m (Some spot) (take (steps_along m (Some spot) (step ∷ path)) (step ∷ path)) ≡ end_along m (Some spot) (step ∷ path)
      by_next None f below =
          ap (λ y. spot_along m (Some spot) (take (counted_if y (steps_along m y path)) (step ∷ path))) f
          ∙ sym (ap (λ y. spot_or (end_along m y path) (Some spot)) f ∙ ap (λ y. spot_or y (Some spot)) (no_end m path))
      by_next (Some x) f below =
          ap (λ y. spot_along m (Some spot) (take (counted_if y (steps_along m y path)) (step ∷ path))) f
          ∙ ap (λ y. spot_along m y (take (steps_along m (Some x) path) path)) f
          ∙ below x
          ∙ sym (ap (λ y. spot_or (end_along m y path) (Some spot)) f ∙ some_end path x spot)

  pub first_steps : (path : List Step) (o : Option Spot) → spot_along m o (take (steps_along m o path) path) ≡ end_along m o path
  first_steps path None = nowhere path
  first_steps path (Some spot) = from_spot path spot

  pub few_steps : (path : List Step) (o : Option Spot) → steps_along m o path ≤ length path
  few_steps [] o = omega arith
  few_steps (step ∷ path) o = by_next (next_spot m o step) refl (few_steps path (next_spot m o step))
    where
      by_next : (n : Option Spot) → next_spot m o step ≡ n → steps_along m (next_spot m o step) path ≤ length path → steps_along m o (step ∷ path) ≤ suc (length path)
      by_next None f below = let none : steps_along m o (step ∷ path) ≡ 0 = ap (λ y. counted_if y (steps_along m (next_spot m o step) path)) f in omega (arith, none)
      by_next (Some x) f below = let more : steps_along m o (step ∷ path) ≡ suc (steps_along m (next_spot m o step) path) = ap (λ y. counted_if y (steps_along m (next_spot m o step) path)) f in omega (arith, more, below)

  -- the place to which they lead
  pub end_found : (p q : Place) (steps : ℕ) → steps ≡ steps_along m (base_spot m p.base) p.path → IsBegun p steps q → find_place m q ≡ end_along m (base_spot m p.base) p.path
  unfolding find_place
  end_found p q steps is begun =
      ap (λ (b : Base). spot_along m (base_spot m b) q.path) begun.base
      ∙ ap (spot_along m (base_spot m p.base)) (begun.path ∙ ap (λ k. take k p.path) is)
      ∙ first_steps p.path (base_spot m p.base)

  pub place_found : (p : Place) (last : Spot) → find_place m p ≡ Some last → spot_along m (base_spot m p.base) p.path ≡ Some last
  unfolding find_place
  place_found p last e = e

-- the last step goes

-- a path is longer by one than without its last step
pub one_more : (p q : Place) → IsFront p q → length p.path ≡ length q.path + 1
one_more p q f = ap length f.path ∙ length-append q.path (f.last ∷ [])

pub begun_less : {X : Type 0} (p q r : List X) (x : X) → p ≡ q ++ x ∷ [] → p ≡ take (length p) r → q ≡ take (length q) r
begun_less {X = X} p q r x e f = cut q r (sym e ∙ f ∙ ap (λ k. take k r) (ap length e))
  where
    cut : (q r : List X) → q ++ x ∷ [] ≡ take (length (q ++ x ∷ [])) r → q ≡ take (length q) r
    cut [] r e = refl
    cut (y ∷ q) [] e = absurd cc
    cut (y ∷ q) (z ∷ r) e = both (same_first e) (cut q r (same_rest e))
      where
        same_first : y ∷ (q ++ x ∷ []) ≡ z ∷ take (length (q ++ x ∷ [])) r → y ≡ z
        same_first e = cc

        same_rest : y ∷ (q ++ x ∷ []) ≡ z ∷ take (length (q ++ x ∷ [])) r → q ++ x ∷ [] ≡ take (length (q ++ x ∷ [])) r
        same_rest e = cc

        both : y ≡ z → q ≡ take (length q) r → y ∷ q ≡ z ∷ take (length q) r
        both e f = cc

pub whole_path : {X : Type 0} (p r : List X) → p ≡ r → p ≡ take (length p) r
whole_path {X = X} p r e = e ∙ sym (all r) ∙ ap (λ k. take k r) (sym (ap length e))
  where
    all : (r : List X) → take (length r) r ≡ r
    all [] = refl
    all (x ∷ r) = ap (λ s. x ∷ s) (all r)
