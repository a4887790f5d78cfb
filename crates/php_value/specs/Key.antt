-- Which key a value stands for.
use Rattle.std.specs.Prelude.{ℕ, List, [], ℤ, pos, Bool, true, false, Option, Some, None, nat_eq, if◌then◌else◌}
use Rattle.std.specs.Cmp.Lexicographic.{pointwise}
use Rattle.std.specs.Fmt.{signed_decimal}
use Rattle.php_value.specs.declared.key.Key.{Key}
use Rattle.php_value.specs.declared.key.Key.TheVariants.{Int, Str}
use Rattle.php_value.specs.declared.scalar.Scalar.{Scalar}
use Rattle.php_value.specs.declared.scalar.Scalar.TheVariants.{Null, Bool as Truth, Int as Number, Str as Bytes}
use Rattle.php_value.specs.Decimal.{written_int}

-- the key of a text that writes an integer in this way or in another
abbrev pub key_of_written : List ℕ → Option ℤ → Key
key_of_written t (Some z) = if pointwise nat_eq t (signed_decimal z) then Int z else Str t
key_of_written t None = Str t

-- the decimal text of an integer of 64 bits is the key of that integer, any other text is its own key
abbrev pub key_of_text : List ℕ → Key
key_of_text t = key_of_written t (written_int t)

abbrev pub bit_of : Bool → ℤ
bit_of true = pos 1
bit_of false = pos 0

-- null is the empty text, and true and false are 1 and 0
abbrev pub key_of_scalar : Scalar → Key
key_of_scalar Null = Str []
key_of_scalar (Truth b) = Int (bit_of b)
key_of_scalar (Number z) = Int z
key_of_scalar (Bytes t) = key_of_text t
