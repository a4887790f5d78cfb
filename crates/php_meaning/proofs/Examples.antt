-- What the examples come to: each line is computed.
use Rattle.std.proofs.Common.{refl}
use Rattle.std.specs.Fmt.{digits}
use Rattle.php_entries.specs.Changes.{set_value, append_value, remove_key, pop_entry}
use Rattle.php_memdef.specs.Holders.{holders, object_holders}
use Rattle.php_memdef.specs.Copies.{copied}
use Rattle.php_memdef.specs.Places.{find_place, walk}
use Rattle.php_memdef.specs.Reading.{reading}
use Rattle.php_memdef.specs.Temporaries.{enter, leave, push, push_array, pass, turn, drop_top, copy, settle}
use Rattle.php_memdef.specs.Writes.{assign, shed}
use Rattle.php_memdef.specs.Releases.{fall}
use Rattle.php_compare.specs.Ordering.{order_nested}
use Rattle.php_compare.specs.Identity.{same_nested}
use Rattle.php_actions.specs.Effect.{effect}
use Rattle.php_actions.specs.Frames.{landed, unserved}
use Rattle.php_actions.specs.Plan.{plan, truth}
use Rattle.php_meaning.specs.Constants.{int_constants, constant_of}
use Rattle.php_meaning.specs.Examples.{MeaningExamples}

pub meaning_examples : MeaningExamples
unfolding digits set_value append_value remove_key pop_entry holders object_holders copied find_place walk reading enter leave push push_array pass turn drop_top copy settle assign shed fall effect landed unserved plan truth int_constants constant_of order_nested same_nested
meaning_examples = record {
  nothing = refl;
  writes_bytes = refl;
  assigns_a_sum = refl;
  reads_from_the_left = refl;
  assigns_twice = refl;
  fills_a_template = refl;
  casts = refl;
  compares = refl;
  compares_the_right_side_too = refl;
  tells_two_truths_from_one = refl;
  writes_each_before_the_next = refl;
  blocks_and_blanks_take_no_tick = refl;
  prints_one = refl;
  knows_its_line = refl;
  missing_variable_is_null = refl;
  constants_in_any_case = refl;
  constants_of_the_library = refl;
  line_feed = refl;
  past_the_greatest_int = refl;
  library_in_its_own_letters = refl;
  undefined_constant = refl;
  no_this = refl;
  division_by_zero = refl;
  needs_a_float = refl;
  is_cut = refl;
}
