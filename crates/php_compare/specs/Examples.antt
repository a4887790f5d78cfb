-- Each rule of comparison, beside the nearest pair that another rule decides. They are proved by computing.
use Rattle.std.specs.Prelude.{◌≡◌, ℕ, zero, suc, ◌+◌, true, false, List, [], ◌∷◌, Option, None, pos, negsuc, codes}
use Rattle.php_value.specs.declared.key.Key.{Key}
use Rattle.php_value.specs.declared.key.Key.TheVariants as key
use Rattle.php_memdef.specs.Contents.{Content, null, truth, int, text, object, Object, Mem, fresh, content_of}
use Rattle.php_compare.specs.Outcomes.{Compared, Identified}
use Rattle.php_compare.specs.Ordering.{order_in}
use Rattle.php_compare.specs.Identity.{same_in}
use Rattle.php_compare.specs.Samples.{array_of, holding, object_with, lt, eq, gt, ap, fl, ob, ne, yes, no, deep}

-- two values that have no parts

abbrev pub orders : Content → Content → Compared
orders c d = order_in fresh c d

pub record PlainExamples : Type 0 where
  pub null_as_false_before_an_int : orders null (int (negsuc 0)) ≡ lt
  pub null_as_the_empty_text : orders null (text (codes "0")) ≡ lt
  pub false_with_the_same_text : orders (truth false) (text (codes "0")) ≡ eq
  pub null_with_no_bytes : orders (text []) null ≡ eq
  pub true_with_any_text : orders (text (codes "a")) (truth true) ≡ eq
  pub one_with_the_same_text : orders (int (pos 1)) (text (codes "a")) ≡ gt
  pub letters_as_zero : orders (text (codes "abc")) (int (pos 0)) ≡ eq
  pub letters_by_bytes : orders (text (codes "abc")) (text (codes "0")) ≡ gt
  pub begins_with_the_int : orders (text (codes "12x")) (int (pos 12)) ≡ eq
  pub differs_from_its_text : orders (text (codes "12x")) (text (codes "12")) ≡ gt
  pub digits_by_value : orders (text (codes "10")) (text (codes "9")) ≡ gt
  pub digits_before_a_blank_by_bytes : orders (text (codes "10 ")) (text (codes "9")) ≡ lt
  pub leading_zero : orders (text (codes "1")) (text (codes "01")) ≡ eq
  pub exponent_with_an_int : orders (text (codes "1e1")) (text (codes "10")) ≡ fl
  pub exponent_with_itself : orders (text (codes "1e1")) (text (codes "1e1")) ≡ eq
  pub exponent_with_a_word : orders (text (codes "1e1")) (text (codes "1e1x")) ≡ lt
  pub int_with_an_exponent : orders (int (pos 10)) (text (codes "1e1x")) ≡ fl
  pub int_with_its_text : orders (int (pos 1)) (text (codes "1")) ≡ eq
  pub int_is_not_its_text : same_in fresh (int (pos 1)) (text (codes "1")) ≡ no
  pub null_is_not_false : same_in fresh null (truth false) ≡ no
  pub text_is_itself : same_in fresh (text (codes "1e1")) (text (codes "1e1")) ≡ yes
  pub text_is_not_another_of_its_value : same_in fresh (text (codes "1")) (text (codes "01")) ≡ no
  pub least_int_is_less : orders (int (negsuc 9223372036854775807)) (int (pos 9223372036854775807)) ≡ lt

-- stores 0 to 3 hold the ints 1 and 2, the text `1` and the exponent

abbrev pub some_values : Mem
some_values = holding (int (pos 1) ∷ int (pos 2) ∷ text (codes "1") ∷ text (codes "1e1") ∷ text (codes "10") ∷ []) []

abbrev pub orders_there : List (Key × ℕ) → List (Key × ℕ) → Compared
orders_there ks ls = order_in some_values (array_of ks) (array_of ls)

abbrev pub same_there : List (Key × ℕ) → List (Key × ℕ) → Identified
same_there ks ls = same_in some_values (array_of ks) (array_of ls)

abbrev pub at : ℕ → Key
at n = key.Int (pos n)

abbrev pub $x : Key
$x = key.Str (codes "x")

abbrev pub $y : Key
$y = key.Str (codes "y")

pub record ArrayExamples : Type 0 where
  -- [1, 2] and [2 => 1]
  pub more_entries : orders_there ((at 0, 0) ∷ (at 1, 1) ∷ []) ((at 2, 0) ∷ []) ≡ gt
  -- [1] and [2 => 1]
  pub as_many_and_a_key_is_missing : orders_there ((at 0, 0) ∷ []) ((at 2, 0) ∷ []) ≡ ap
  -- [2, 1] and [1, 2 => 2]: the first value that differs comes before the missing key
  pub value_before_the_missing_key : orders_there ((at 0, 1) ∷ (at 1, 0) ∷ []) ((at 0, 0) ∷ (at 2, 1) ∷ []) ≡ gt
  -- [1, 2] and [1 => 1, 0 => 2]: keys decide, and not the order
  pub keys_decide : orders_there ((at 0, 0) ∷ (at 1, 1) ∷ []) ((at 1, 1) ∷ (at 0, 0) ∷ []) ≡ eq
  pub order_decides_identity : same_there ((at 0, 0) ∷ (at 1, 1) ∷ []) ((at 1, 1) ∷ (at 0, 0) ∷ []) ≡ no
  pub in_one_order : same_there ((at 0, 0) ∷ (at 1, 1) ∷ []) ((at 0, 0) ∷ (at 1, 1) ∷ []) ≡ yes
  -- ['x' => 1, 'y' => 2] and ['y' => 1, 'x' => 2], each of which is less
  pub less_by_x : orders_there (($x, 0) ∷ ($y, 1) ∷ []) (($y, 0) ∷ ($x, 1) ∷ []) ≡ lt
  pub less_by_y : orders_there (($y, 0) ∷ ($x, 1) ∷ []) (($x, 0) ∷ ($y, 1) ∷ []) ≡ lt
  pub values_by_the_rules : orders_there ((at 0, 0) ∷ []) ((at 0, 2) ∷ []) ≡ eq
  pub values_are_identical : same_there ((at 0, 0) ∷ []) ((at 0, 2) ∷ []) ≡ no
  -- a difference before the fault, and the fault before a difference
  pub before_the_fault : orders_there ((at 0, 0) ∷ (at 1, 3) ∷ []) ((at 0, 1) ∷ (at 1, 4) ∷ []) ≡ lt
  pub fault_comes_first : orders_there ((at 1, 3) ∷ (at 0, 0) ∷ []) ((at 0, 1) ∷ (at 1, 4) ∷ []) ≡ fl
  pub count_before_the_fault : orders_there ((at 0, 3) ∷ []) ((at 0, 4) ∷ (at 1, 0) ∷ []) ≡ lt
  pub empty_with_false : order_in fresh (array_of []) (truth false) ≡ eq
  pub empty_with_no_bytes : order_in fresh (array_of []) (text []) ≡ gt
  pub empty_with_null : order_in fresh null (array_of []) ≡ eq
  pub some_with_null : orders_there ((at 0, 0) ∷ []) [] ≡ gt
  pub below_an_array : order_in fresh (int (pos 5)) (array_of []) ≡ lt

-- object 1 and what it is compared with, whose properties point into the same stores

abbrev pub objects : List (Option Object) → Mem
objects os = holding (int (pos 1) ∷ int (pos 2) ∷ text (codes "1e1") ∷ text (codes "10") ∷ []) os

abbrev pub two_objects : Option Object → Option Object → Compared
two_objects o p = order_in (objects (None ∷ o ∷ p ∷ [])) (object 1) (object 2)

pub record ObjectExamples : Type 0 where
  pub of_one_class : two_objects (object_with 3 ((codes "p", 0) ∷ [])) (object_with 3 ((codes "p", 0) ∷ [])) ≡ eq
  pub of_two_classes : two_objects (object_with 3 ((codes "p", 0) ∷ [])) (object_with 4 ((codes "p", 0) ∷ [])) ≡ ap
  pub by_properties : two_objects (object_with 3 ((codes "p", 0) ∷ [])) (object_with 3 ((codes "p", 1) ∷ [])) ≡ lt
  pub by_their_number : two_objects (object_with 3 ((codes "p", 1) ∷ [])) (object_with 3 ((codes "p", 0) ∷ (codes "q", 0) ∷ [])) ≡ lt
  pub lacks_a_property : two_objects (object_with 3 ((codes "p", 0) ∷ [])) (object_with 3 ((codes "q", 0) ∷ [])) ≡ ap
  pub in_another_order : two_objects (object_with 3 ((codes "p", 0) ∷ (codes "q", 1) ∷ [])) (object_with 3 ((codes "q", 1) ∷ (codes "p", 0) ∷ [])) ≡ eq
  pub fault_of_a_property : two_objects (object_with 3 ((codes "p", 2) ∷ [])) (object_with 3 ((codes "p", 3) ∷ [])) ≡ fl
  pub one_instance_has_no_fault : order_in (objects (None ∷ object_with 3 ((codes "p", 2) ∷ []) ∷ [])) (object 1) (object 1) ≡ eq
  pub equal_objects_are_two : same_in (objects (None ∷ object_with 3 [] ∷ object_with 3 [] ∷ [])) (object 1) (object 2) ≡ no
  pub one_instance : same_in (objects (None ∷ object_with 3 [] ∷ [])) (object 1) (object 1) ≡ yes
  pub with_a_text : order_in (objects (None ∷ object_with 3 [] ∷ [])) (object 1) (text []) ≡ ob
  pub text_on_the_left : order_in (objects (None ∷ object_with 3 [] ∷ [])) (text []) (object 1) ≡ ob
  pub with_null : order_in (objects (None ∷ object_with 3 [] ∷ [])) (object 1) null ≡ gt
  pub with_true : order_in (objects (None ∷ object_with 3 [] ∷ [])) (truth true) (object 1) ≡ eq
  pub above_an_array : order_in (objects (None ∷ object_with 3 [] ∷ [])) (object 1) (array_of ((at 0, 0) ∷ [])) ≡ gt
  pub above_an_int : order_in (objects (None ∷ object_with 3 [] ∷ [])) (int (pos 1)) (object 1) ≡ lt

-- so many arrays of one element around a content: array n is in store n, and the content in the last one

abbrev pub chain_from : ℕ → ℕ → Content → List Content
chain_from at_store zero c = c ∷ []
chain_from at_store (suc n) c = array_of ((key.Int (pos 0), at_store + 1) ∷ []) ∷ chain_from (at_store + 1) n c

abbrev pub chain : ℕ → Content → Mem
chain n c = holding (chain_from 0 n c) []

abbrev pub chain_with_itself : ℕ → Content → Compared
chain_with_itself n c = let m = chain n c in order_in m (content_of m 0) (content_of m 0)

abbrev pub chain_is_itself : ℕ → Content → Identified
chain_is_itself n c = let m = chain n c in same_in m (content_of m 0) (content_of m 0)

pub record NestingExamples : Type 0 where
  -- an empty array, or an int, in 256 arrays and in 257
  pub deepest_array : chain_with_itself 256 (array_of []) ≡ eq
  pub array_too_deep : chain_with_itself 257 (array_of []) ≡ ne
  pub deepest_int : chain_with_itself 256 (int (pos 1)) ≡ eq
  pub int_too_deep : chain_with_itself 257 (int (pos 1)) ≡ ne
  pub deepest_identical : chain_is_itself 256 (int (pos 1)) ≡ yes
  pub identity_too_deep : chain_is_itself 257 (int (pos 1)) ≡ deep
