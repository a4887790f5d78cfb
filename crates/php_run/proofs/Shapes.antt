-- Command lines of another length.
use Rattle.std.proofs.Common.{◌≡◌, ℕ, List, [], ◌∷◌, length, None, refl}
use Rattle.php_run.specs.Words.{shape}

pub shape_none : (words : List (List ℕ)) → (length words ≡ 2 → ⊥) → (length words ≡ 4 → ⊥) → shape words ≡ None
shape_none [] two four = refl
shape_none (a ∷ []) two four = refl
shape_none (a ∷ b ∷ []) two four = absurd (two refl)
shape_none (a ∷ b ∷ c ∷ []) two four = refl
shape_none (a ∷ b ∷ c ∷ d ∷ []) two four = absurd (four refl)
shape_none (a ∷ b ∷ c ∷ d ∷ e ∷ words) two four = refl
