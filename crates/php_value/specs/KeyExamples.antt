-- Keys that values stand for.
use Rattle.std.specs.Prelude.{◌≡◌, [], codes, true, pos, negsuc, refl}
use Rattle.std.specs.Fmt.{digits}
use Rattle.php_value.specs.declared.key.Key.TheVariants.{Int, Str}
use Rattle.php_value.specs.declared.scalar.Scalar.TheVariants.{Null, Bool as Truth}
use Rattle.php_value.specs.Key.{key_of_text, key_of_scalar}

pub decimal_text : key_of_text (codes "1") ≡ Int (pos 1)
unfolding digits
decimal_text = refl

pub leading_zero : key_of_text (codes "01") ≡ Str (codes "01")
unfolding digits
leading_zero = refl

pub plus_sign : key_of_text (codes "+1") ≡ Str (codes "+1")
unfolding digits
plus_sign = refl

pub minus_zero : key_of_text (codes "-0") ≡ Str (codes "-0")
unfolding digits
minus_zero = refl

pub negative : key_of_text (codes "-12") ≡ Int (negsuc 11)
unfolding digits
negative = refl

pub greatest : key_of_text (codes "9223372036854775807") ≡ Int (pos 9223372036854775807)
unfolding digits
greatest = refl

pub past_the_greatest : key_of_text (codes "9223372036854775808") ≡ Str (codes "9223372036854775808")
past_the_greatest = refl

pub least : key_of_text (codes "-9223372036854775808") ≡ Int (negsuc 9223372036854775807)
unfolding digits
least = refl

pub blank_before : key_of_text (codes " 1") ≡ Str (codes " 1")
blank_before = refl

pub null_is_the_empty_text : key_of_scalar Null ≡ Str []
null_is_the_empty_text = refl

pub true_is_one : key_of_scalar (Truth true) ≡ Int (pos 1)
true_is_one = refl
