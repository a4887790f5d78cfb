-- What the definitions on decimal digits give.
use Rattle.std.specs.Prelude.{◌≡◌, Some, None, [], codes, pos, negsuc, refl}
use Rattle.php_value.specs.Decimal.{written_int}

pub digits_are_an_int : written_int (codes "007") ≡ Some (pos 7)
digits_are_an_int = refl

pub sign_counts : written_int (codes "-12") ≡ Some (negsuc 11)
sign_counts = refl

pub plus_may_stand_first : written_int (codes "+3") ≡ Some (pos 3)
plus_may_stand_first = refl

pub least_int : written_int (codes "-9223372036854775808") ≡ Some (negsuc 9223372036854775807)
least_int = refl

pub past_the_greatest_int : written_int (codes "9223372036854775808") ≡ None
past_the_greatest_int = refl

pub sign_alone : written_int (codes "-") ≡ None
sign_alone = refl

pub no_bytes : written_int [] ≡ None
no_bytes = refl

pub other_bytes : written_int (codes "1a") ≡ None
other_bytes = refl
