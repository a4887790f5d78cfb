-- What the examples of calls come to: each line is computed.
use Rattle.std.proofs.Common.{refl}
use Rattle.php_entries.specs.Changes.{set_value, append_value, remove_key}
use Rattle.php_memdef.specs.Holders.{holders, object_holders}
use Rattle.php_memdef.specs.Copies.{copied}
use Rattle.php_memdef.specs.Places.{find_place, walk}
use Rattle.php_memdef.specs.Temporaries.{enter, leave, push, push_array, push_object, pass, copy, turn, reserve}
use Rattle.php_memdef.specs.Writes.{assign, append, make_link, bind, unset, forget, shed}
use Rattle.php_memdef.specs.Releases.{fall}
use Rattle.php_memdef.specs.Objects.{make_object, clone_object}
use Rattle.php_memdef.specs.ExamplesOfCalls.{CallExamples}

pub call_examples : CallExamples
unfolding set_value append_value remove_key holders object_holders copied find_place walk enter leave push push_array push_object pass copy turn reserve assign append make_link bind unset forget shed fall make_object clone_object
call_examples = record {
  text_appended = refl;
  alias_appended = refl;
  copy_stays = refl;
  element_appended = refl;
  nothing_on_top = refl;
  two_turned = refl;
  three_turned = refl;
  one_turned = refl;
  more_room = refl;
  link_is_told = refl;
  content_is_no_link = refl;
  nothing_is_no_link = refl;
  steps_to_int = refl;
  int_met = refl;
  whole_path = refl;
  nothing_met = refl;
  steps_to_truth = refl;
  truth_met = refl;
  append_costs = refl;
  new_arrays_cost_steps = refl;
  refused_costs_nothing = refl;
  missed_removal_costs = refl;
  last_costs = refl;
  no_last_costs_nothing = refl;
  first_met = refl;
  removed_not_met = refl;
  met_from_gap = refl;
  none_behind_last = refl;
  none_in_int = refl;
  none_in_missing = refl;
  last_serial_taken = refl;
  no_serial_for_append = refl;
  no_serial_for_key = refl;
  no_serial_needed = refl;
  last_object = refl;
  no_object = refl;
  no_clone = refl;
  forgotten = refl;
  forgotten_falls = refl;
  missing_is_left = refl;
  oldest_shed = refl;
  oldest_falls = refl;
  something_shed = refl;
  nothing_shed = refl;
  passed_on = refl;
  passed_from = refl;
  left_is_gone = refl;
  other_stays = refl;
}
