-- What comparisons give: of an order the answer to what was asked, of identity a bool.
use Rattle.std.specs.Prelude.{Bool, true, false, not, pos, negsuc, Result, Ok, Err}
use Rattle.php_value.specs.declared.fault.Stopped.{Stopped}
use Rattle.php_value.specs.declared.ordering.Order.{Order}
use Rattle.php_value.specs.declared.ordering.Order.TheVariants as order
use Rattle.php_value.specs.declared.scalar.Scalar.{Scalar}
use Rattle.php_value.specs.declared.scalar.Scalar.TheVariants as scalar
use Rattle.php_value.specs.Comparison.{is_same}
use Rattle.php_compare.specs.Outcomes.{Compared as Outcome, Identified}
use Rattle.php_actions.specs.declared.relation.Relation.{Relation}
use Rattle.php_actions.specs.declared.relation.Relation.TheVariants.{Equal, NotEqual, Less, LessEqual, Greater, GreaterEqual, Compared}

abbrev pub is_less : Order → Bool
is_less order.Less = true
is_less order.Same = false
is_less order.More = false
is_less order.Apart = false

abbrev pub is_more : Order → Bool
is_more order.Less = false
is_more order.Same = false
is_more order.More = true
is_more order.Apart = false

abbrev pub is_at_most : Order → Bool
is_at_most order.Less = true
is_at_most order.Same = true
is_at_most order.More = false
is_at_most order.Apart = false

abbrev pub is_at_least : Order → Bool
is_at_least order.Less = false
is_at_least order.Same = true
is_at_least order.More = true
is_at_least order.Apart = false

-- what `<=>` gives
abbrev pub number_of_order : Order → Scalar
number_of_order order.Less = scalar.Int (negsuc 0)
number_of_order order.Same = scalar.Int (pos 0)
number_of_order order.More = scalar.Int (pos 1)
number_of_order order.Apart = scalar.Int (pos 1)

abbrev pub related : Relation → Order → Scalar
related Equal o = scalar.Bool (is_same o)
related NotEqual o = scalar.Bool (not (is_same o))
related Less o = scalar.Bool (is_less o)
related LessEqual o = scalar.Bool (is_at_most o)
related Greater o = scalar.Bool (is_more o)
related GreaterEqual o = scalar.Bool (is_at_least o)
related Compared o = number_of_order o

abbrev pub compared_as : Relation → Outcome → Result Scalar Stopped
compared_as r (Ok o) = Ok (related r o)
compared_as r (Err e) = Err e

abbrev pub negated_if : Bool → Bool → Bool
negated_if true b = not b
negated_if false b = b

abbrev pub identical_as : Bool → Identified → Result Scalar Stopped
identical_as negated (Ok b) = Ok (scalar.Bool (negated_if negated b))
identical_as negated (Err e) = Err e
