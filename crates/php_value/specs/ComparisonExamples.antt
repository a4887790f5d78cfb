-- How scalars compare.
use Rattle.std.specs.Prelude.{◌≡◌, [], codes, true, false, pos, negsuc, Ok, Err, refl}
use Rattle.php_value.specs.declared.fault.Fault.TheVariants.{FloatNeeded}
use Rattle.php_value.specs.declared.ordering.Order.TheVariants.{Less, Same, More}
use Rattle.php_value.specs.declared.scalar.Scalar.TheVariants.{Null, Bool as Truth, Int, Str}
use Rattle.php_value.specs.Comparison.{order_of, loosely_equal}

pub null_before_a_negative_int : order_of Null (Int (negsuc 0)) ≡ Ok Less
null_before_a_negative_int = refl

pub null_before_a_text : order_of Null (Str (codes "a")) ≡ Ok Less
null_before_a_text = refl

pub null_is_the_empty_text : order_of (Str []) Null ≡ Ok Same
null_is_the_empty_text = refl

pub true_with_any_other_text : loosely_equal (Truth true) (Str (codes "a")) ≡ Ok true
true_with_any_other_text = refl

pub false_with_zero_digit : loosely_equal (Str (codes "0")) (Truth false) ≡ Ok true
false_with_zero_digit = refl

pub letters_are_zero : loosely_equal (Str (codes "abc")) (Int (pos 0)) ≡ Ok true
letters_are_zero = refl

pub same_value : loosely_equal (Str (codes "1")) (Str (codes "01")) ≡ Ok true
same_value = refl

pub trailing_blank_is_no_integer : loosely_equal (Str (codes "1")) (Str (codes "1 ")) ≡ Ok false
trailing_blank_is_no_integer = refl

pub one_would_be_a_float : loosely_equal (Str (codes "1e1")) (Str (codes "10")) ≡ Err FloatNeeded
one_would_be_a_float = refl

pub equal_bytes_need_no_float : loosely_equal (Str (codes "1e1")) (Str (codes "1e1")) ≡ Ok true
equal_bytes_need_no_float = refl

pub by_bytes : order_of (Str (codes "a")) (Str (codes "b")) ≡ Ok Less
by_bytes = refl

pub prefix_is_less : order_of (Str (codes "ab")) (Str (codes "a")) ≡ Ok More
prefix_is_less = refl

pub by_value : order_of (Str (codes "10")) (Str (codes "9")) ≡ Ok More
by_value = refl

pub int_with_a_float_text : order_of (Int (pos 1)) (Str (codes "1.5x")) ≡ Err FloatNeeded
int_with_a_float_text = refl
