-- Comparisons as actions, on small data. What they come to is proved by computing.
use Rattle.std.specs.Prelude.{◌≡◌, ℕ, true, false, List, [], ◌∷◌, Option, Some, pos, negsuc, codes}
use Rattle.php_value.specs.declared.fault.Fault.TheVariants as fault
use Rattle.php_value.specs.declared.key.Key.{Key}
use Rattle.php_value.specs.declared.key.Key.TheVariants as key
use Rattle.php_memdef.specs.Contents.{Content, int, array, object, Item, value}
use Rattle.php_machine.specs.Moves.{Wrong}
use Rattle.php_actions.specs.declared.action.Action.{Action}
use Rattle.php_actions.specs.declared.action.Action.TheVariants as action
use Rattle.php_actions.specs.declared.operators.OperatorAction.TheVariants as operators
use Rattle.php_actions.specs.declared.relation.Relation.{Relation}
use Rattle.php_actions.specs.declared.relation.Relation.TheVariants as relation
use Rattle.php_actions.specs.declared.ending.Ending.{Ending}
use Rattle.php_actions.specs.declared.ending.Ending.TheVariants as ending
use Rattle.php_actions.specs.Data.{Data, with_mem}
use Rattle.php_actions.specs.Effect.{effect}
use Rattle.php_actions.specs.Examples.{facts, standing, ending_of, leaves, leaves_of_two, lets_fall, ends_in, throws_error, number, no_value, bool_value, bytes_value, empty_array}

-- the array with one key, whose element is in store 0
abbrev pub one_under : Key → Content
one_under k = array (record { entries = record { serial = 1; key = k; value = 0 } ∷ []; next_key = 1; next_serial = 2 })

abbrev pub listed : Item
listed = value (one_under (key.Int (pos 0)))

abbrev pub keyed : Item
keyed = value (one_under (key.Str (codes "a")))

abbrev pub compares : Relation → Item → Item → Option (List Item)
compares r x y = leaves_of_two (action.Operator (operators.Compare r)) x y

abbrev pub comparison_ends : Item → Item → Option Ending
comparison_ends x y = ends_in (action.Operator (operators.Compare relation.Equal)) (y ∷ x ∷ [])

-- a run in which store 0 holds an array that it is an element of
abbrev pub endless : List Item → Data
endless ts = with_mem (standing ts) (record (standing ts).mem { stores = Some (one_under (key.Int (pos 0))) ∷ [] })

pub record ComparisonExamples : Type 0 where
  pub letters_are_zero : compares relation.Equal (bytes_value (codes "abc")) (number 0) ≡ Some (bool_value true ∷ [])
  pub digits_are_not : compares relation.NotEqual (bytes_value (codes "1")) (number 0) ≡ Some (bool_value true ∷ [])
  pub left_is_below : compares relation.Less (number 1) (number 2) ≡ Some (bool_value true ∷ [])
  pub left_is_above : compares relation.Greater (number 1) (number 2) ≡ Some (bool_value false ∷ [])
  pub same_is_not_less : compares relation.Less (number 2) (number 2) ≡ Some (bool_value false ∷ [])
  pub same_is_at_most : compares relation.LessEqual (number 2) (number 2) ≡ Some (bool_value true ∷ [])
  pub same_is_at_least : compares relation.GreaterEqual (number 2) (number 2) ≡ Some (bool_value true ∷ [])
  pub less_as_a_number : compares relation.Compared no_value (number 1) ≡ Some (value (int (negsuc 0)) ∷ [])
  pub same_as_a_number : compares relation.Compared no_value empty_array ≡ Some (number 0 ∷ [])
  pub more_as_a_number : compares relation.Compared empty_array (number 5) ≡ Some (number 1 ∷ [])
  -- two arrays of which neither has the other's key
  pub apart_is_not_equal : compares relation.Equal listed keyed ≡ Some (bool_value false ∷ [])
  pub apart_is_unequal : compares relation.NotEqual listed keyed ≡ Some (bool_value true ∷ [])
  pub apart_is_not_less : compares relation.Less listed keyed ≡ Some (bool_value false ∷ [])
  pub apart_is_not_at_most : compares relation.LessEqual listed keyed ≡ Some (bool_value false ∷ [])
  pub apart_is_not_more : compares relation.Greater listed keyed ≡ Some (bool_value false ∷ [])
  pub apart_is_not_at_least : compares relation.GreaterEqual listed keyed ≡ Some (bool_value false ∷ [])
  pub apart_as_a_number : compares relation.Compared listed keyed ≡ Some (number 1 ∷ [])
  pub operands_fall : lets_fall (action.Operator (operators.Compare relation.Equal)) (listed ∷ keyed ∷ []) ≡ Some (keyed ∷ listed ∷ [])
  pub float_is_needed : comparison_ends (bytes_value (codes "1e1")) (bytes_value (codes "10")) ≡ Some (ending.Fatal fault.FloatNeeded 1)
  pub object_with_a_string : comparison_ends (value (object 1)) (bytes_value (codes "a")) ≡ throws_error (codes "Error") (codes "Cannot compare an object with a string")
  pub nested_too_deep : ending_of (effect facts (action.Operator (operators.Compare relation.Equal)) (endless (listed ∷ listed ∷ []))) ≡ throws_error (codes "Error") (codes "Nesting too deep")
  pub compare_finds : effect facts (action.Operator (operators.Compare relation.Equal)) (standing (number 1 ∷ [])) ≡ Wrong
  pub int_is_not_its_text : leaves_of_two (action.Operator (operators.Identical false)) (number 1) (bytes_value (codes "1")) ≡ Some (bool_value false ∷ [])
  pub int_differs_from_its_text : leaves_of_two (action.Operator (operators.Identical true)) (number 1) (bytes_value (codes "1")) ≡ Some (bool_value true ∷ [])
  pub empty_arrays_are_identical : leaves_of_two (action.Operator (operators.Identical false)) empty_array empty_array ≡ Some (bool_value true ∷ [])
  pub identity_too_deep : ending_of (effect facts (action.Operator (operators.Identical false)) (endless (listed ∷ listed ∷ []))) ≡ throws_error (codes "Error") (codes "Nesting too deep")
  -- the value of a `switch` stays below the answer
  pub case_is_met : leaves (action.Operator operators.TestCase) (number 0 ∷ bytes_value (codes "a") ∷ []) ≡ Some (bool_value true ∷ bytes_value (codes "a") ∷ [])
  pub case_is_passed : leaves (action.Operator operators.TestCase) (keyed ∷ listed ∷ []) ≡ Some (bool_value false ∷ listed ∷ [])
  pub case_falls : lets_fall (action.Operator operators.TestCase) (keyed ∷ listed ∷ []) ≡ Some (keyed ∷ [])
  pub case_needs_a_float : ends_in (action.Operator operators.TestCase) (bytes_value (codes "1e1") ∷ number 10 ∷ []) ≡ Some (ending.Fatal fault.FloatNeeded 1)
  pub case_finds : effect facts (action.Operator operators.TestCase) (standing (number 1 ∷ [])) ≡ Wrong
