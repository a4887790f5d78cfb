-- What the examples come to: each line is computed.
use Rattle.std.proofs.Common.{refl}
use Rattle.php_compare.specs.Ordering.{order_nested}
use Rattle.php_compare.specs.Identity.{same_nested}
use Rattle.php_compare.specs.Samples.{OrderTable, IdentityTable}

pub order_table : OrderTable
unfolding order_nested
order_table = record {
  nothing = refl;
  false_value = refl;
  true_value = refl;
  zero = refl;
  minus_one = refl;
  twelve = refl;
  empty_text = refl;
  zero_text = refl;
  letters = refl;
  twelve_text = refl;
  blank_twelve = refl;
  float_text = refl;
  twelve_and_more = refl;
  empty = refl;
  list_of_one = refl;
  keyed = refl;
  list_of_two = refl;
  x_first = refl;
  y_first = refl;
  y_first_again = refl;
  endless = refl;
  first = refl;
  equal = refl;
  of_another_class = refl;
  smaller = refl;
  larger = refl;
  otherwise_named = refl;
  looped = refl;
  looped_too = refl;
}

pub identity_table : IdentityTable
unfolding same_nested
identity_table = record {
  nothing = refl;
  false_value = refl;
  true_value = refl;
  zero = refl;
  minus_one = refl;
  twelve = refl;
  empty_text = refl;
  zero_text = refl;
  letters = refl;
  twelve_text = refl;
  blank_twelve = refl;
  float_text = refl;
  twelve_and_more = refl;
  empty = refl;
  list_of_one = refl;
  keyed = refl;
  list_of_two = refl;
  x_first = refl;
  y_first = refl;
  y_first_again = refl;
  endless = refl;
  first = refl;
  equal = refl;
  of_another_class = refl;
  smaller = refl;
  larger = refl;
  otherwise_named = refl;
  looped = refl;
  looped_too = refl;
}
