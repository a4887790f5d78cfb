-- What the comparisons come to: each line is computed.
use Rattle.std.proofs.Common.{refl}
use Rattle.php_memdef.specs.Places.{find_place}
use Rattle.php_memdef.specs.Temporaries.{enter, push, turn, drop_top}
use Rattle.php_compare.specs.Ordering.{order_nested}
use Rattle.php_compare.specs.Identity.{same_nested}
use Rattle.php_actions.specs.Effect.{effect}
use Rattle.php_actions.specs.ComparisonExamples.{ComparisonExamples}

pub comparison_examples : ComparisonExamples
unfolding find_place enter push turn drop_top order_nested same_nested effect
comparison_examples = record {
  letters_are_zero = refl;
  digits_are_not = refl;
  left_is_below = refl;
  left_is_above = refl;
  same_is_not_less = refl;
  same_is_at_most = refl;
  same_is_at_least = refl;
  less_as_a_number = refl;
  same_as_a_number = refl;
  more_as_a_number = refl;
  apart_is_not_equal = refl;
  apart_is_unequal = refl;
  apart_is_not_less = refl;
  apart_is_not_at_most = refl;
  apart_is_not_more = refl;
  apart_is_not_at_least = refl;
  apart_as_a_number = refl;
  operands_fall = refl;
  float_is_needed = refl;
  object_with_a_string = refl;
  nested_too_deep = refl;
  compare_finds = refl;
  int_is_not_its_text = refl;
  int_differs_from_its_text = refl;
  empty_arrays_are_identical = refl;
  identity_too_deep = refl;
  case_is_met = refl;
  case_is_passed = refl;
  case_falls = refl;
  case_needs_a_float = refl;
  case_finds = refl;
}
