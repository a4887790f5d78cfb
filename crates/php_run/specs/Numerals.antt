-- Numbers in decimal digits.
use Rattle.std.specs.Prelude.{ℕ, ◌+◌, ◌*◌, ◌-◌, Bool, false, ◌&&◌, ◌==◌, not, nat_le, List, [], ◌∷◌}
use Rattle.std.specs.List.{list_all}

abbrev pub is_digit : ℕ → Bool
is_digit b = nat_le 48 b && nat_le b 57

-- the value of decimal digits
abbrev pub numeral_from : ℕ → List ℕ → ℕ
numeral_from n [] = n
numeral_from n (b ∷ bs) = numeral_from (10 * n + (b - 48)) bs

abbrev pub numeral : List ℕ → ℕ
numeral = numeral_from 0

-- decimal digits: 0 alone, or no 0 at the front
abbrev pub is_numeral : List ℕ → Bool
is_numeral [] = false
is_numeral (b ∷ []) = is_digit b
is_numeral (b ∷ c ∷ bs) = is_digit b && not (b == 48) && list_all is_digit (c ∷ bs)
