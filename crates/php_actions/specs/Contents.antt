-- What a content is as a scalar, a truth, a number and a text. An object is none of these by itself: its
-- class decides.
use Rattle.std.specs.Prelude.{ℕ, Bool, true, false, nat_lt, ℤ, List, length, Option, Some, None, Result, Ok, Err, codes}
use Rattle.php_value.specs.declared.fault.Fault.{Fault}
use Rattle.php_value.specs.declared.fault.Stopped.{Stopped}
use Rattle.php_value.specs.declared.fault.Stopped.TheVariants.{Fault as Ends, Throws}
use Rattle.php_value.specs.declared.scalar.Scalar.{Scalar}
use Rattle.php_value.specs.declared.scalar.Scalar.TheVariants as scalar
use Rattle.php_value.specs.declared.error_kind.TheConstants.ErrorKind.{UNSUPPORTED_OPERANDS}
use Rattle.php_value.specs.Conversion.{int_of, text_of}
use Rattle.php_entries.specs.Listing.{Listing}
use Rattle.php_memdef.specs.Contents.{Content, null, truth, int, text, array, object}
pub use Rattle.php_compare.specs.Ordering.{truth_of}

abbrev pub scalar_of : Content → Option Scalar
scalar_of null = Some scalar.Null
scalar_of (truth b) = Some (scalar.Bool b)
scalar_of (int i) = Some (scalar.Int i)
scalar_of (text bytes) = Some (scalar.Str bytes)
scalar_of (array t) = None
scalar_of (object h) = None

abbrev pub has_entries : Listing ℕ → Bool
has_entries t = nat_lt 0 (length t.entries)

-- an array's text is always the same
abbrev pub text_of_content : Content → Option (List ℕ)
text_of_content null = Some (text_of scalar.Null)
text_of_content (truth b) = Some (text_of (scalar.Bool b))
text_of_content (int i) = Some (text_of (scalar.Int i))
text_of_content (text bytes) = Some bytes
text_of_content (array t) = Some (codes "Array")
text_of_content (object h) = None

abbrev pub or_fault : Result ℤ Fault → Result ℤ Stopped
or_fault (Ok z) = Ok z
or_fault (Err f) = Err (Ends f)

-- arrays and objects have no number
abbrev pub number_of : Content → Result ℤ Stopped
number_of null = or_fault (int_of scalar.Null)
number_of (truth b) = or_fault (int_of (scalar.Bool b))
number_of (int i) = or_fault (int_of (scalar.Int i))
number_of (text bytes) = or_fault (int_of (scalar.Str bytes))
number_of (array t) = Err (Throws UNSUPPORTED_OPERANDS)
number_of (object h) = Err (Throws UNSUPPORTED_OPERANDS)

-- the name of a value's type; an object has that of its class
abbrev pub type_name : Content → Option (List ℕ)
type_name null = Some (codes "null")
type_name (truth b) = Some (codes "bool")
type_name (int i) = Some (codes "int")
type_name (text bytes) = Some (codes "string")
type_name (array t) = Some (codes "array")
type_name (object h) = None

abbrev pub is_null : Content → Bool
is_null null = true
is_null (truth b) = false
is_null (int i) = false
is_null (text bytes) = false
is_null (array t) = false
is_null (object h) = false
