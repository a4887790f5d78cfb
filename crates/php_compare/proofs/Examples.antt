-- What the examples come to: each line is computed.
use Rattle.std.proofs.Common.{refl}
use Rattle.php_compare.specs.Ordering.{order_nested}
use Rattle.php_compare.specs.Identity.{same_nested}
use Rattle.php_compare.specs.Examples.{PlainExamples, ArrayExamples, ObjectExamples, NestingExamples}

pub plain_examples : PlainExamples
unfolding order_nested same_nested
plain_examples = record {
  null_as_false_before_an_int = refl;
  null_as_the_empty_text = refl;
  false_with_the_same_text = refl;
  null_with_no_bytes = refl;
  true_with_any_text = refl;
  one_with_the_same_text = refl;
  letters_as_zero = refl;
  letters_by_bytes = refl;
  begins_with_the_int = refl;
  differs_from_its_text = refl;
  digits_by_value = refl;
  digits_before_a_blank_by_bytes = refl;
  leading_zero = refl;
  exponent_with_an_int = refl;
  exponent_with_itself = refl;
  exponent_with_a_word = refl;
  int_with_an_exponent = refl;
  int_with_its_text = refl;
  int_is_not_its_text = refl;
  null_is_not_false = refl;
  text_is_itself = refl;
  text_is_not_another_of_its_value = refl;
  least_int_is_less = refl;
}

pub array_examples : ArrayExamples
unfolding order_nested same_nested
array_examples = record {
  more_entries = refl;
  as_many_and_a_key_is_missing = refl;
  value_before_the_missing_key = refl;
  keys_decide = refl;
  order_decides_identity = refl;
  in_one_order = refl;
  less_by_x = refl;
  less_by_y = refl;
  values_by_the_rules = refl;
  values_are_identical = refl;
  before_the_fault = refl;
  fault_comes_first = refl;
  count_before_the_fault = refl;
  empty_with_false = refl;
  empty_with_no_bytes = refl;
  empty_with_null = refl;
  some_with_null = refl;
  below_an_array = refl;
}

pub object_examples : ObjectExamples
unfolding order_nested same_nested
object_examples = record {
  of_one_class = refl;
  of_two_classes = refl;
  by_properties = refl;
  by_their_number = refl;
  lacks_a_property = refl;
  in_another_order = refl;
  fault_of_a_property = refl;
  one_instance_has_no_fault = refl;
  equal_objects_are_two = refl;
  one_instance = refl;
  with_a_text = refl;
  text_on_the_left = refl;
  with_null = refl;
  with_true = refl;
  above_an_array = refl;
  above_an_int = refl;
}

pub nesting_examples : NestingExamples
unfolding order_nested same_nested
nesting_examples = record {
  deepest_array = refl;
  array_too_deep = refl;
  deepest_int = refl;
  int_too_deep = refl;
  deepest_identical = refl;
  identity_too_deep = refl;
}
