-- How two scalars compare.
use Rattle.std.specs.Prelude.{ℕ, Bool, true, false, List, [], ℤ, nat_eq, Result, Ok, Err, if◌then◌else◌}
use Rattle.std.specs.Cmp.Lexicographic.{pointwise, slice_cmp}
use Rattle.std.specs.Ordering.{nat_cmp, int_cmp}
use Rattle.std.specs.declared.cmp.Ordering.{Ordering}
use Rattle.std.specs.declared.cmp.Ordering.TheVariants.{Less as Below, Equal, Greater}
use Rattle.php_value.specs.declared.fault.Fault.{Fault}
use Rattle.php_value.specs.declared.fault.Fault.TheVariants.{FloatNeeded}
use Rattle.php_value.specs.declared.form.Form.{Form}
use Rattle.php_value.specs.declared.form.Form.TheVariants.{Int as IntForm, Float}
use Rattle.php_value.specs.declared.ordering.Order.{Order}
use Rattle.php_value.specs.declared.ordering.Order.TheVariants.{Less, Same, More}
use Rattle.php_value.specs.declared.scalar.Scalar.{Scalar}
use Rattle.php_value.specs.declared.scalar.Scalar.TheVariants.{Null, Int, Str}
use Rattle.php_value.specs.Conversion.{bool_of, int_of_form}
use Rattle.php_value.specs.Form.{form_of}

abbrev pub order_by : Ordering → Order
order_by Below = Less
order_by Equal = Same
order_by Greater = More

abbrev pub order_of_ints : ℤ → ℤ → Order
order_of_ints x y = order_by (int_cmp x y)

abbrev pub order_of_bytes : List ℕ → List ℕ → Order
order_of_bytes s t = order_by (slice_cmp nat_cmp s t)

-- false is before true
abbrev pub order_of_bools : Bool → Bool → Order
order_of_bools false true = Less
order_of_bools true false = More
order_of_bools true true = Same
order_of_bools false false = Same

-- Two different texts that are integers compare by value, and one of two numbers that is no integer would need a float.
-- All others compare by their bytes.
abbrev pub order_of_forms : Form → Form → Order → Result Order Fault
order_of_forms (IntForm x) (IntForm y) by_bytes = Ok (order_of_ints x y)
order_of_forms (IntForm x) Float by_bytes = Err FloatNeeded
order_of_forms Float (IntForm y) by_bytes = Err FloatNeeded
order_of_forms Float Float by_bytes = Err FloatNeeded
order_of_forms f g by_bytes = Ok by_bytes

abbrev pub order_of_texts : List ℕ → List ℕ → Result Order Fault
order_of_texts s t =
    if pointwise nat_eq s t then Ok Same
    else order_of_forms (form_of s) (form_of t) (order_of_bytes s t)

abbrev pub order_with_left : ℤ → Result ℤ Fault → Result Order Fault
order_with_left x (Ok y) = Ok (order_of_ints x y)
order_with_left x (Err f) = Err f

abbrev pub order_with_right : Result ℤ Fault → ℤ → Result Order Fault
order_with_right (Ok x) y = Ok (order_of_ints x y)
order_with_right (Err f) y = Err f

-- Null and bools compare as bools, but null with a text is the empty text. An integer compares with a text as with a number.
abbrev pub order_of : Scalar → Scalar → Result Order Fault
order_of Null (Str t) = order_of_texts [] t
order_of (Str s) Null = order_of_texts s []
order_of (Int x) (Int y) = Ok (order_of_ints x y)
order_of (Int x) (Str t) = order_with_left x (int_of_form (form_of t))
order_of (Str s) (Int y) = order_with_right (int_of_form (form_of s)) y
order_of (Str s) (Str t) = order_of_texts s t
order_of a b = Ok (order_of_bools (bool_of a) (bool_of b))

abbrev pub is_same : Order → Bool
is_same Same = true
is_same o = false

abbrev pub equality_by : Result Order Fault → Result Bool Fault
equality_by (Ok o) = Ok (is_same o)
equality_by (Err f) = Err f

-- `==`
abbrev pub loosely_equal : Scalar → Scalar → Result Bool Fault
loosely_equal a b = equality_by (order_of a b)
