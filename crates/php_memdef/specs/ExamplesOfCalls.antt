-- Examples of the calls that a machine makes beside reading and writing, and of what writes cost.
use Rattle.std.specs.Prelude.{◌≡◌, true, false, [], ◌∷◌, Some, None, pos, negsuc}
use Rattle.php_value.specs.declared.key.Key.TheVariants as key
use Rattle.php_value.specs.declared.scalar.Scalar.TheVariants as scalar
use Rattle.php_memdef.specs.declared.place.Step.TheVariants.{Push}
use Rattle.php_memdef.specs.declared.place.Place.{Place}
use Rattle.php_memdef.specs.declared.answer.Wrote.TheVariants.{Done, Limit}
use Rattle.php_memdef.specs.Numbered.{numbered}
use Rattle.php_memdef.specs.Contents.{truth, int, text, array, Item, value, link, Mem, scope_of}
use Rattle.php_memdef.specs.Places.{stored, with_content}
use Rattle.php_memdef.specs.Temporaries.{enter, leave, push, push_object, pass, turn, reserve}
use Rattle.php_memdef.specs.Writes.{assign, make_link, append, forget, shed}
use Rattle.php_memdef.specs.Objects.{make_object, clone_object}
use Rattle.php_memdef.specs.Views.{later_entry, is_link, steps_met, end_met, temps_count}
use Rattle.php_memdef.specs.Operations.{cost}
use Rattle.php_memdef.specs.Operations as op
use Rattle.php_memdef.specs.Examples.{start, variable, at, $a, $b, $c, shown, sets, sets_int, sets_array, sets_copy, sets_link, with_text, with_truth_inside, with_object_in_variable, after_removal}

-- place .= "d";
abbrev pub appends : Mem → Place → Mem
appends m to = append (push m 0 (scalar.Str (100 ∷ []))) 0 to

abbrev pub abcd : Item
abcd = value (text (97 ∷ 98 ∷ 99 ∷ 100 ∷ []))

-- 1, 2 and 3 one after another
abbrev pub three_pushed : Mem
three_pushed = push (push (push start 0 (scalar.Int (pos 1))) 0 (scalar.Int (pos 2))) 0 (scalar.Int (pos 3))

-- $a = [5];
abbrev pub five_inside : Mem
five_inside = sets_int start (variable $a (Push ∷ [])) 5

-- $a = [5]; with all serials of the array but the last used up, and with that one used up too

abbrev pub one_serial_left : Mem
one_serial_left = with_content five_inside (stored 0) (array (record { entries = []; next_key = 1; next_serial = 18446744073709551614 }))

abbrev pub no_serial_left : Mem
no_serial_left = with_content five_inside (stored 0) (array (record { entries = []; next_key = 1; next_serial = 18446744073709551615 }))

-- $a[] = null;
abbrev pub null_on_top : Mem → Mem
null_on_top m = push m 0 scalar.Null

-- $b = 1; $a = 2;
abbrev pub two_variables : Mem
two_variables = sets_int (sets_int start (variable $b []) 1) (variable $a []) 2

-- the object number with which no further object can be made is the next one, or the one behind it

abbrev pub one_object_left : Mem
one_object_left = record start { next_object = 18446744073709551614 }

abbrev pub no_object_left : Mem
no_object_left = record start { next_object = 18446744073709551615 }

-- a handle on top, with no object number left
abbrev pub no_clone_left : Mem
no_clone_left = record (push_object with_object_in_variable 0 1) { next_object = 18446744073709551615 }

-- 3 goes from block 0, which holds 1 and 2 too, to block 1
abbrev pub three_passed : Mem
three_passed = pass (enter three_pushed 1 2) 0 1

pub record CallExamples : Type 0 where
  -- a text grows where it stands; an alias sees it, a copy doesn't, and nothing is left on top
  pub text_appended : shown (appends with_text (variable $a [])) (variable $a []) ≡ abcd
  pub alias_appended : shown (appends (sets_link with_text (variable $b []) (variable $a [])) (variable $a [])) (variable $b []) ≡ abcd
  pub copy_stays : shown (appends (sets_copy with_text (variable $b []) (variable $a [])) (variable $a [])) (variable $b []) ≡ value (text (97 ∷ 98 ∷ 99 ∷ []))
  pub element_appended : shown (appends (sets start (variable $a (Push ∷ [])) (scalar.Str (97 ∷ []))) (variable $a (at 0 ∷ []))) (variable $a (at 0 ∷ [])) ≡ value (text (97 ∷ 100 ∷ []))
  pub nothing_on_top : temps_count (appends with_text (variable $a [])) 0 ≡ 0
  -- temporaries are turned from the top
  pub two_turned : (scope_of (turn three_pushed 0 2) 0).temps ≡ value (int (pos 2)) ∷ value (int (pos 3)) ∷ value (int (pos 1)) ∷ []
  pub three_turned : (scope_of (turn three_pushed 0 3) 0).temps ≡ value (int (pos 1)) ∷ value (int (pos 2)) ∷ value (int (pos 3)) ∷ []
  pub one_turned : turn three_pushed 0 1 ≡ three_pushed
  pub more_room : (scope_of (reserve three_pushed 0 4) 0).room ≡ 13
  -- a link is told from a content and from nothing
  pub link_is_told : is_link (make_link start 0 (variable $a [])).0 0 0 ≡ true
  pub content_is_no_link : is_link three_pushed 0 0 ≡ false
  pub nothing_is_no_link : is_link three_pushed 0 3 ≡ false
  -- how far a path leads, and what stands there: what a write is refused for among the rest
  pub steps_to_int : steps_met five_inside (variable $a (at 0 ∷ at 1 ∷ [])) ≡ 1
  pub int_met : end_met five_inside (variable $a (at 0 ∷ at 1 ∷ [])) ≡ Some (int (pos 5))
  pub whole_path : steps_met five_inside (variable $a (at 0 ∷ [])) ≡ 1
  pub nothing_met : end_met five_inside (variable $b (at 0 ∷ [])) ≡ None
  pub steps_to_truth : steps_met with_truth_inside (variable $a (at 0 ∷ at 0 ∷ at 0 ∷ [])) ≡ 2
  pub truth_met : end_met with_truth_inside (variable $a (at 0 ∷ at 0 ∷ at 0 ∷ [])) ≡ Some (truth true)
  -- a write costs its steps and the entries that it meets, a refused one nothing
  pub append_costs : cost (op.assign 0 (variable $a (Push ∷ []))) (push five_inside 0 scalar.Null) ≡ 2
  pub new_arrays_cost_steps : cost (op.assign 0 (variable $b (at 0 ∷ at 0 ∷ []))) (push five_inside 0 scalar.Null) ≡ 2
  pub refused_costs_nothing : cost (op.assign 0 (variable $a (at 0 ∷ at 0 ∷ at 0 ∷ []))) (push with_truth_inside 0 scalar.Null) ≡ 0
  pub missed_removal_costs : cost (op.unset 0 (variable $a (at 7 ∷ []))) five_inside ≡ 2
  pub last_costs : cost (op.unset_last 0 (variable $a [])) five_inside ≡ 2
  pub no_last_costs_nothing : cost (op.unset_last 0 (variable $a [])) (sets_array start (variable $a [])) ≡ 0
  -- a walk meets the entries by their serials; a removed one is passed over, and behind the last there is none
  pub first_met : later_entry after_removal (variable $a []) 0 ≡ Some (1, key.Int (negsuc 4))
  pub removed_not_met : later_entry after_removal (variable $a []) 1 ≡ Some (3, key.Int (pos 1))
  pub met_from_gap : later_entry after_removal (variable $a []) 2 ≡ Some (3, key.Int (pos 1))
  pub none_behind_last : later_entry after_removal (variable $a []) 4 ≡ None
  pub none_in_int : later_entry two_variables (variable $a []) 0 ≡ None
  pub none_in_missing : later_entry start (variable $a []) 0 ≡ None
  -- a new entry is refused where no serial is left, and then nothing is changed; what is there is written all the same
  pub last_serial_taken : (assign (null_on_top one_serial_left) 0 (variable $a (Push ∷ []))).1 ≡ Done
  pub no_serial_for_append : assign (null_on_top no_serial_left) 0 (variable $a (Push ∷ [])) ≡ (null_on_top no_serial_left, Limit)
  pub no_serial_for_key : assign (null_on_top no_serial_left) 0 (variable $a (at 9 ∷ [])) ≡ (null_on_top no_serial_left, Limit)
  pub no_serial_needed : (assign (null_on_top no_serial_left) 0 (variable $a [])).1 ≡ Done
  -- an object is refused where no number is left, and then nothing is changed
  pub last_object : (make_object one_object_left 0 7 false).1 ≡ Some 18446744073709551614
  pub no_object : make_object no_object_left 0 7 false ≡ (no_object_left, None)
  pub no_clone : clone_object no_clone_left 0 ≡ (no_clone_left, None)
  -- a variable goes by its name, or as the oldest one, and its store falls; what isn't there is left
  pub forgotten : (scope_of (forget two_variables 0 $a) 0).variables ≡ record { name = $b; store = 0 } ∷ []
  pub forgotten_falls : (scope_of (forget two_variables 0 $a) 0).falling ≡ link 1 ∷ []
  pub missing_is_left : forget two_variables 0 $c ≡ two_variables
  pub oldest_shed : (scope_of (shed two_variables 0).0 0).variables ≡ record { name = $a; store = 1 } ∷ []
  pub oldest_falls : (scope_of (shed two_variables 0).0 0).falling ≡ link 0 ∷ []
  pub something_shed : (shed two_variables 0).1 ≡ true
  pub nothing_shed : shed start 0 ≡ (start, false)
  -- the top of one block comes on top of another; a block that is left is gone, and the others stay
  pub passed_on : (scope_of three_passed 1).temps ≡ value (int (pos 3)) ∷ []
  pub passed_from : (scope_of three_passed 0).temps ≡ value (int (pos 2)) ∷ value (int (pos 1)) ∷ []
  pub left_is_gone : numbered (leave (enter start 1 2) 1).blocks 1 ≡ None
  pub other_stays : numbered (leave (enter start 1 2) 1).blocks 0 ≡ numbered start.blocks 0
