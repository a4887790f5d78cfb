-- What the examples come to: each line is computed.
use Rattle.std.proofs.Common.{refl}
use Rattle.std.specs.Fmt.{digits}
use Rattle.php_entries.specs.Changes.{set_value, append_value, remove_key, pop_entry}
use Rattle.php_memdef.specs.Holders.{holders, object_holders}
use Rattle.php_memdef.specs.Copies.{copied}
use Rattle.php_memdef.specs.Places.{find_place, walk}
use Rattle.php_memdef.specs.Reading.{reading}
use Rattle.php_memdef.specs.Temporaries.{enter, leave, push, push_array, pass, turn, drop_top, copy, settle}
use Rattle.php_memdef.specs.Writes.{assign, shed}
use Rattle.php_memdef.specs.Releases.{fall}
use Rattle.php_actions.specs.Effect.{effect}
use Rattle.php_actions.specs.Frames.{landed, unserved}
use Rattle.php_actions.specs.Plan.{plan, truth}
use Rattle.php_actions.specs.Examples.{StackExamples, PlaceExamples, OperatorExamples, OutputExamples, OtherExamples, PlanExamples, RunExamples}

pub stack_examples : StackExamples
unfolding digits set_value append_value remove_key pop_entry holders object_holders copied find_place walk reading enter leave push push_array pass turn drop_top copy settle assign shed fall effect landed unserved plan truth
stack_examples = record {
  push_leaves = refl;
  push_array_leaves = refl;
  drop_leaves = refl;
  drop_lets_an_array_fall = refl;
  drop_finds = refl;
  swap_leaves = refl;
  swap_finds = refl;
  duplicate_leaves = refl;
  duplicate_finds = refl;
  settle_of_a_value = refl;
  settle_of_a_link = refl;
  settled_link_falls = refl;
  test_of_zero = refl;
  test_of_an_empty_array = refl;
  test_of_null = refl;
  test_of_false = refl;
  no_room = refl;
}

pub place_examples : PlaceExamples
unfolding digits set_value append_value remove_key pop_entry holders object_holders copied find_place walk reading enter leave push push_array pass turn drop_top copy settle assign shed fall effect landed unserved plan truth
place_examples = record {
  variable_is_read = refl;
  missing_variable_is_null = refl;
  reading_makes_no_variable = refl;
  append_is_not_read = refl;
  array_is_no_key = refl;
  element_of_an_int_is_null = refl;
  no_this = refl;
  assign_leaves = refl;
  assign_writes = refl;
  assign_makes_the_variable = refl;
  assign_under_a_key = refl;
  int_is_no_array = refl;
  assign_finds = refl;
}

pub operator_examples : OperatorExamples
unfolding digits set_value append_value remove_key pop_entry holders object_holders copied find_place walk reading enter leave push push_array pass turn drop_top copy settle assign shed fall effect landed unserved plan truth
operator_examples = record {
  left_is_below = refl;
  two_texts = refl;
  text_of_an_array = refl;
  sum_too_large = refl;
  division_by_zero = refl;
  quotient_not_exact = refl;
  negative_shift = refl;
  array_is_no_number = refl;
  operands_fall_where_it_throws = refl;
  union_of_empty_arrays = refl;
  operate_finds = refl;
  one_alone = refl;
  both = refl;
  to_bool = refl;
  not_null = refl;
  to_int = refl;
  to_int_of_an_array = refl;
  to_int_of_a_float = refl;
  to_text = refl;
  turned_sign = refl;
  kept_sign = refl;
  sign_too_large = refl;
  array_has_no_sign = refl;
  complement = refl;
  null_has_no_complement = refl;
  count_up = refl;
  count_down = refl;
  array_is_not_counted = refl;
  lowest_text_is_first = refl;
  no_texts = refl;
  join_finds = refl;
}

pub output_examples : OutputExamples
unfolding digits set_value append_value remove_key pop_entry holders object_holders copied find_place walk reading enter leave push push_array pass turn drop_top copy settle assign shed fall effect landed unserved plan truth
output_examples = record {
  echo_writes = refl;
  echo_leaves = refl;
  echo_finds = refl;
  write_writes = refl;
  print_writes = refl;
  print_leaves = refl;
}

pub other_examples : OtherExamples
unfolding digits set_value append_value remove_key pop_entry holders object_holders copied find_place walk reading enter leave push push_array pass turn drop_top copy settle assign shed fall effect landed unserved plan truth
other_examples = record {
  unknown_constant = refl;
  body_returns_null = refl;
  return_is_under_way = refl;
  tick_is_taken = refl;
  no_tick_is_left = refl;
}

pub plan_examples : PlanExamples
unfolding digits set_value append_value remove_key pop_entry holders object_holders copied find_place walk reading enter leave push push_array pass turn drop_top copy settle assign shed fall effect landed unserved plan truth
plan_examples = record {
  proceeds = refl;
  looks_for_a_stop = refl;
  proceeds_where_it_landed = refl;
  releases_first = refl;
  nothing_serves_it = refl;
  value_falls_last = refl;
  run_is_over = refl;
  comes_to_its_stop = refl;
  truth_falls = refl;
  falsehood = refl;
  nothing_to_choose_by = refl;
}

pub run_examples : RunExamples
unfolding digits set_value append_value remove_key pop_entry holders object_holders copied find_place walk reading enter leave push push_array pass turn drop_top copy settle assign shed fall effect landed unserved plan truth
run_examples = record {
  whole = refl;
  cut = refl;
  thrown = refl;
}
