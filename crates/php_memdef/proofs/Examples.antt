-- What the examples come to: each line is computed.
use Rattle.std.proofs.Common.{refl}
use Rattle.php_entries.specs.Changes.{set_value, append_value, remove_key, pop_entry}
use Rattle.php_memdef.specs.Holders.{holders, object_holders}
use Rattle.php_memdef.specs.Copies.{copied}
use Rattle.php_memdef.specs.Places.{find_place, walk}
use Rattle.php_memdef.specs.Reading.{reading}
use Rattle.php_memdef.specs.Temporaries.{enter, push, push_array, push_object, drop_top, copy, settle}
use Rattle.php_memdef.specs.Writes.{assign, make_link, bind, unset, unset_last}
use Rattle.php_memdef.specs.Releases.{fall}
use Rattle.php_memdef.specs.Objects.{make_object, clone_object, attach}
use Rattle.php_memdef.specs.Examples.{AliasExamples, WriteExamples, ReleaseExamples, ReadExamples}

pub alias_examples : AliasExamples
unfolding set_value append_value remove_key pop_entry holders object_holders copied find_place walk reading enter push push_array push_object drop_top copy settle assign make_link bind unset unset_last fall make_object clone_object attach
alias_examples = record {
  alias_kept_by_copy = refl;
  alias_gone_before_copy = refl;
  alias_kept_inside = refl;
  alias_kept_inside_of_copy = refl;
  written_in_itself = refl;
  copy_keeps_one_element = refl;
  cut_off_by_unset = refl;
  link_keeps_value = refl;
  link_is_no_alias = refl;
  settled_copy_is_alias = refl;
  no_alias_once_dropped = refl;
  missing_made_by_link = refl;
  alias_kept_by_clone = refl;
  array_copied_by_clone = refl;
}

pub write_examples : WriteExamples
unfolding set_value append_value remove_key pop_entry holders object_holders copied find_place walk reading enter push push_array push_object drop_top copy settle assign make_link bind unset unset_last fall make_object clone_object attach
write_examples = record {
  keys_and_serials = refl;
  next_key_stays = refl;
  next_serial_stays = refl;
  next_key_lowered = refl;
  no_key_left = refl;
  memory_left_by_full = refl;
  third_step_fails = refl;
  memory_left_by_walk = refl;
  missing_base_made = refl;
  missing_static_made = refl;
  not_into_truth = refl;
  not_into_int = refl;
  not_into_text = refl;
  not_into_object = refl;
  into_null = refl;
}

pub release_examples : ReleaseExamples
unfolding set_value append_value remove_key pop_entry holders object_holders copied find_place walk reading enter push push_array push_object drop_top copy settle assign make_link bind unset unset_last fall make_object clone_object attach
release_examples = record {
  elements_in_order = refl;
  second_in_order = refl;
  third_in_order = refl;
  destructor_is_due = refl;
  lives_on = refl;
  still_there = refl;
  not_due_again = refl;
  gone = refl;
  clone_is_due = refl;
  ring_stays = refl;
  older_first = refl;
  frame_first = refl;
  then_the_object = refl;
  object_gone = refl;
}

pub read_examples : ReadExamples
unfolding set_value append_value remove_key pop_entry holders object_holders copied find_place walk reading enter push push_array push_object drop_top copy settle assign make_link bind unset unset_last fall make_object clone_object attach
read_examples = record {
  first_byte = refl;
  last_byte = refl;
  byte_at_length = refl;
  byte_before_start = refl;
  byte_at_text = refl;
  byte_at_word = refl;
  byte_of_byte = refl;
  quiet_at_length = refl;
  quiet_at_word = refl;
  quiet_into_object = refl;
  into_object = refl;
  missing_is_null = refl;
  element_of_int = refl;
  append_read = refl;
  append_of_object = refl;
  byte_is_set = refl;
  beyond_is_not_set = refl;
  word_is_not_set = refl;
  null_is_not_set = refl;
}
