-- Integers written in decimal digits.
use Rattle.std.specs.Prelude.{ℕ, ◌^◌, Bool, ◌&&◌, List, length, nat_lt, ℤ, pos, negsuc, Option, Some, None, if◌then◌else◌}
use Rattle.std.specs.Char.{digit_value}
use Rattle.std.specs.List.{list_all}
use Rattle.std.specs.Str.Parse.{without_leading_sign, signed_digits_value}

-- z is an integer of 64 bits
abbrev pub fits_int : ℤ → Bool
fits_int (pos n) = nat_lt n (2 ^ 63)
fits_int (negsuc n) = nat_lt n (2 ^ 63)

-- one decimal digit or more, and nothing else
abbrev pub is_numeral : List ℕ → Bool
is_numeral ds = nat_lt 0 (length ds) && list_all (λ c. nat_lt (digit_value c) 10) ds

-- the integer that an optional sign and digits write, where it has 64 bits
abbrev pub written_int : List ℕ → Option ℤ
written_int bs =
    if is_numeral (without_leading_sign bs) && fits_int (signed_digits_value 10 bs)
    then Some (signed_digits_value 10 bs)
    else None
