-- What texts are as numbers.
use Rattle.std.specs.Prelude.{◌≡◌, codes, pos, negsuc, refl}
use Rattle.php_value.specs.declared.form.Form.TheVariants.{None as NoNumber, Int, LeadInt, Float, LeadFloat}
use Rattle.php_value.specs.Form.{form_of}

pub digits : form_of (codes "12") ≡ Int (pos 12)
digits = refl

pub leading_blanks : form_of (codes " \t\n\r12") ≡ Int (pos 12)
leading_blanks = refl

pub trailing_blank : form_of (codes "12 ") ≡ LeadInt (pos 12)
trailing_blank = refl

pub signs : form_of (codes "-007") ≡ Int (negsuc 6)
signs = refl

pub two_signs : form_of (codes "--7") ≡ NoNumber
two_signs = refl

pub exponent : form_of (codes "1e3") ≡ Float
exponent = refl

pub exponent_with_sign : form_of (codes "1E-3") ≡ Float
exponent_with_sign = refl

pub exponent_without_digits : form_of (codes "1e+") ≡ LeadInt (pos 1)
exponent_without_digits = refl

pub point_between : form_of (codes "1.5") ≡ Float
point_between = refl

pub point_before : form_of (codes "+.5e1") ≡ Float
point_before = refl

pub point_behind : form_of (codes "1.") ≡ Float
point_behind = refl

pub point_alone : form_of (codes ".") ≡ NoNumber
point_alone = refl

pub second_point : form_of (codes "1.5.2") ≡ LeadFloat
second_point = refl

pub mark_before_digits : form_of (codes "e3") ≡ NoNumber
mark_before_digits = refl

pub letters_behind : form_of (codes "12abc") ≡ LeadInt (pos 12)
letters_behind = refl

pub letters : form_of (codes "abc") ≡ NoNumber
letters = refl

pub empty : form_of (codes "") ≡ NoNumber
empty = refl

pub blanks : form_of (codes "  ") ≡ NoNumber
blanks = refl

pub least : form_of (codes "-9223372036854775808") ≡ Int (negsuc 9223372036854775807)
least = refl

pub too_great : form_of (codes "9223372036854775808") ≡ Float
too_great = refl

pub too_great_with_letters : form_of (codes "9223372036854775808x") ≡ LeadFloat
too_great_with_letters = refl
