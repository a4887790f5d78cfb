-- What places in arrays and unions come to: each line is computed.
use Rattle.std.proofs.Common.{◌≡◌, Bool, true, false, refl}
use Rattle.std.specs.Prelude.{cond}
use Rattle.std.specs.Fmt.{digits}
use Rattle.php_entries.specs.Changes.{set_value, append_value}
use Rattle.php_memdef.specs.Copies.{copied}
use Rattle.php_memdef.specs.Places.{find_place, walk}
use Rattle.php_memdef.specs.Reading.{reading}
use Rattle.php_memdef.specs.Temporaries.{enter, push, push_array, turn, drop_top, copy}
use Rattle.php_memdef.specs.Writes.{assign}
use Rattle.php_actions.specs.Effect.{effect}
use Rattle.php_actions.specs.ArrayExamples.{ArrayExamples, UnionIsTooLarge}

pub array_examples : ArrayExamples
unfolding digits set_value append_value copied find_place walk reading enter push push_array turn drop_top copy assign effect
array_examples = record {
  lower_key_is_first = refl;
  upper_key_is_second = refl;
  keys_go = refl;
  fixed_key_takes_nothing = refl;
  fixed_key_is_second = refl;
  text_in_the_form_of_an_int = refl;
  element_of_a_temporary = refl;
  its_base_falls = refl;
  element_without_its_base = refl;
  replaced_array_falls = refl;
  nothing_is_replaced = refl;
  no_key_is_left = refl;
  no_serial_is_left = refl;
  union_keeps_the_left_elements = refl;
  elements_are_copied = refl;
  left_array_falls_first = refl;
}

first_of_two : {A : Type 0} (b : Bool) (x y : A) → b ≡ true → cond b x y ≡ x
first_of_two true x y h = refl
first_of_two false x y h = cc

pub union_is_too_large : UnionIsTooLarge
union_is_too_large x y f d large = first_of_two _ _ _ large
