-- Small programs over one block, as sequences of operations. What they come to is proved by computing.
use Rattle.std.specs.Prelude.{◌≡◌, ℕ, true, false, List, [], ◌∷◌, Option, Some, None, pos, negsuc, is_some}
use Rattle.php_value.specs.declared.key.Key.{Key}
use Rattle.php_entries.specs.Listing.{Entry}
use Rattle.php_value.specs.declared.key.Key.TheVariants as key
use Rattle.php_value.specs.declared.scalar.Scalar.{Scalar}
use Rattle.php_value.specs.declared.scalar.Scalar.TheVariants as scalar
use Rattle.php_memdef.specs.declared.place.Seen.TheVariants.{Public}
use Rattle.php_memdef.specs.declared.place.Base.TheVariants.{Var, Property, Static, Temp}
use Rattle.php_memdef.specs.declared.place.Step.{Step}
use Rattle.php_memdef.specs.declared.place.Step.TheVariants.{At, Push}
use Rattle.php_memdef.specs.declared.place.Place.{Place}
use Rattle.php_memdef.specs.declared.answer.Wrote.{Wrote}
use Rattle.php_memdef.specs.declared.answer.Wrote.TheVariants.{Done, NotArray, Full}
use Rattle.php_memdef.specs.declared.answer.Fallen.{Fallen}
use Rattle.php_memdef.specs.declared.answer.Fallen.TheVariants.{Nothing, Destroy, Frame}
use Rattle.php_memdef.specs.Numbered.{numbered, live_count}
use Rattle.php_memdef.specs.Contents.{Content, null, int, text, array, Item, value, Mem, fresh}
use Rattle.php_memdef.specs.Temporaries.{top, enter, push, push_array, push_object, drop_top, copy, settle}
use Rattle.php_memdef.specs.Writes.{assign, make_link, bind, unset, unset_last}
use Rattle.php_memdef.specs.Releases.{fall}
use Rattle.php_memdef.specs.Objects.{make_object, clone_object, attach, eldest}
use Rattle.php_memdef.specs.Views.{found, is_aliased}
use Rattle.php_memdef.specs.Reading.{gives, throws, loud, quiet, reading, is_set, bad_offset, not_an_array}

-- the words of the examples

abbrev pub start : Mem
start = enter fresh 0 9

abbrev pub $x : ℕ
$x = 0

abbrev pub $a : ℕ
$a = 1

abbrev pub $b : ℕ
$b = 2

abbrev pub $c : ℕ
$c = 3

abbrev pub variable : ℕ → List Step → Place
variable n path = record { base = Var (record { 0 = 0 }) (record { 0 = n }); path = path }

abbrev pub temporary : ℕ → List Step → Place
temporary n path = record { base = Temp (record { 0 = 0 }) n; path = path }

-- the property named by one byte
abbrev pub property : ℕ → ℕ → List Step → Place
property h byte path = record { base = Property (record { 0 = h }) (record { name = byte ∷ []; seen = Public }); path = path }

abbrev pub at : ℕ → Step
at n = At (key.Int (pos n))

abbrev pub released : Mem → Mem
released m = (fall m 0).0

-- place = value;
abbrev pub sets : Mem → Place → Scalar → Mem
sets m to v = released (assign (push m 0 v) 0 to).0

abbrev pub sets_int : Mem → Place → ℕ → Mem
sets_int m to n = sets m to (scalar.Int (pos n))

-- place = [];
abbrev pub sets_array : Mem → Place → Mem
sets_array m to = released (assign (push_array m 0) 0 to).0

-- place = other;
abbrev pub sets_copy : Mem → Place → Place → Mem
sets_copy m to from = released (assign (copy m 0 from).0 0 to).0

-- place = &other;
abbrev pub sets_link : Mem → Place → Place → Mem
sets_link m to from = released (bind (make_link m 0 from).0 0 to).0

-- place = the object;
abbrev pub sets_object : Mem → Place → ℕ → Mem
sets_object m to h = released (assign (push_object m 0 h) 0 to).0

-- unset(place);
abbrev pub unsets : Mem → Place → Mem
unsets m p = released (unset m 0 p)

-- a new object, whose handle goes to a place
abbrev pub sets_new : Mem → Place → Mem
sets_new m to = released (assign (make_object m 0 0 true).0 0 to).0

-- what reading a place gives
abbrev pub shown : Mem → Place → Item
shown m p = top (copy m 0 p).0 0

-- the elements of the examples

-- $x = 1; $a = [&$x];
abbrev pub array_with_alias : Mem
array_with_alias = sets_link (sets_array (sets_int start (variable $x []) 1) (variable $a [])) (variable $a (Push ∷ [])) (variable $x [])

-- $b = $a; unset($x); $b[0] = 2;
abbrev pub copied_before_unset : Mem
copied_before_unset = sets_int (unsets (sets_copy array_with_alias (variable $b []) (variable $a [])) (variable $x [])) (variable $b (at 0 ∷ [])) 2

-- unset($x); $b = $a; $b[0] = 2;
abbrev pub copied_after_unset : Mem
copied_after_unset = sets_int (sets_copy (unsets array_with_alias (variable $x [])) (variable $b []) (variable $a [])) (variable $b (at 0 ∷ [])) 2

-- $x = 1; $a = [[&$x]]; $b = $a; unset($x); $c = $b[0]; $c[0] = 9;
abbrev pub nested_alias : Mem
nested_alias =
    let m = sets_int start (variable $x []) 1 in
    let m = sets_link m (variable $a (at 0 ∷ Push ∷ [])) (variable $x []) in
    let m = unsets (sets_copy m (variable $b []) (variable $a [])) (variable $x []) in
    sets_int (sets_copy m (variable $c []) (variable $b (at 0 ∷ []))) (variable $c (at 0 ∷ [])) 9

-- $a = []; $a[0] = &$a; $b = $a; $b[0][1] = 7;
abbrev pub array_in_itself : Mem
array_in_itself =
    let m = sets_link (sets_array start (variable $a [])) (variable $a (at 0 ∷ [])) (variable $a []) in
    sets_int (sets_copy m (variable $b []) (variable $a [])) (variable $b (at 0 ∷ at 1 ∷ [])) 7

-- $a = [5]; a link to $a[0]; unset($a[0]);
abbrev pub cut_off : Mem
cut_off =
    let m = sets_int start (variable $a (Push ∷ [])) 5 in
    unsets (make_link m 0 (variable $a (at 0 ∷ []))).0 (variable $a (at 0 ∷ []))

-- $a[-5] = 0; $a[] = 0; $a[] = 0; unset($a[0]); $a[] = 0;
abbrev pub after_removal : Mem
after_removal =
    let m = sets_int start (variable $a (At (key.Int (negsuc 4)) ∷ [])) 0 in
    let m = sets_int (sets_int m (variable $a (Push ∷ [])) 0) (variable $a (Push ∷ [])) 0 in
    sets_int (unsets m (variable $a (at 0 ∷ []))) (variable $a (Push ∷ [])) 0

-- $a[9223372036854775807] = 1;
abbrev pub last_key_used : Mem
last_key_used = sets_int start (variable $a (at 9223372036854775807 ∷ [])) 1

-- $a = [1, 2]; array_pop($a);
abbrev pub last_popped : Mem
last_popped = released (unset_last (sets_int (sets_int start (variable $a (Push ∷ [])) 1) (variable $a (Push ∷ [])) 2) 0 (variable $a []))

-- serial and key of each entry, the next key and the next serial of an array

abbrev pub keys_of_entries : List (Entry ℕ) → List (ℕ × Key)
keys_of_entries [] = []
keys_of_entries (e ∷ es) = (e.serial, e.key) ∷ keys_of_entries es

abbrev pub keys_of : Option Content → List (ℕ × Key)
keys_of (Some (array t)) = keys_of_entries t.entries
keys_of _ = []

abbrev pub next_key_of : Option Content → ℕ
next_key_of (Some (array t)) = t.next_key
next_key_of _ = 0

abbrev pub next_serial_of : Option Content → ℕ
next_serial_of (Some (array t)) = t.next_serial
next_serial_of _ = 0

-- what a write of 1 answers

abbrev pub answer_of_write : Mem → Place → Wrote
answer_of_write m p = (assign (push m 0 (scalar.Int (pos 1))) 0 p).1

-- $a = [[true]]
abbrev pub with_truth_inside : Mem
with_truth_inside = sets start (variable $a (at 0 ∷ at 0 ∷ [])) (scalar.Bool true)

-- $a is an object
abbrev pub with_object_in_variable : Mem
with_object_in_variable = sets_new start (variable $a [])

-- objects

-- $a = [[new, new], [new]]; unset($a);
abbrev pub array_of_arrays_dropped : Mem
array_of_arrays_dropped =
    let m = sets_new (sets_new start (variable $a (at 0 ∷ Push ∷ []))) (variable $a (at 0 ∷ Push ∷ [])) in
    unset (sets_new m (variable $a (at 1 ∷ Push ∷ []))) 0 (variable $a [])

-- $a = new; unset($a); its destructor is due
abbrev pub destructor_due : Mem × Fallen
destructor_due = fall (unset with_object_in_variable 0 (variable $a [])) 0

-- it says $b = $this;
abbrev pub resurrected : Mem × Fallen
resurrected = fall (assign (push_object destructor_due.0 0 1) 0 (variable $b [])).0 0

-- unset($b);
abbrev pub dropped_again : Mem × Fallen
dropped_again = fall (unset resurrected.0 0 (variable $b [])) 0

-- $c = clone $b; unset($c);
abbrev pub clone_of_spent_dropped : Mem × Fallen
clone_of_spent_dropped =
    let m = released (clone_object (push_object resurrected.0 0 1) 0).0 in
    fall (drop_top m 0) 0

-- $a = new; $b = new; $a->o = $b; $b->o = $a; unset($a); unset($b);
abbrev pub objects_in_a_ring : Mem
objects_in_a_ring =
    let m = sets_new (sets_new start (variable $a [])) (variable $b []) in
    let m = sets_object (sets_object m (property 1 111 []) 2) (property 2 111 []) 1 in
    unsets (unsets m (variable $a [])) (variable $b [])

-- a new object without a destructor, in which the frame of block 1 waits, is dropped
abbrev pub generator_dropped : Mem
generator_dropped = drop_top (attach (make_object (enter start 1 3) 0 0 false).0 1 (Some 1)) 0

-- $a = new; $x = 1; $a->p = &$x; $b = clone $a; $b->p = 2;
abbrev pub clone_with_alias : Mem
clone_with_alias =
    let m = sets_link (sets_int with_object_in_variable (variable $x []) 1) (property 1 112 []) (variable $x []) in
    let m = released (clone_object (push_object m 0 1) 0).0 in
    sets_int (released (assign m 0 (variable $b [])).0) (property 2 112 []) 2

-- $a = new; $a->p = [1]; $b = clone $a; $b->p[0] = 9;
abbrev pub clone_of_array : Mem
clone_of_array =
    let m = sets_int with_object_in_variable (property 1 112 (Push ∷ [])) 1 in
    let m = released (clone_object (push_object m 0 1) 0).0 in
    sets_int (released (assign m 0 (variable $b [])).0) (property 2 112 (at 0 ∷ [])) 9

-- a link to an element is bound to a variable, a link to the whole array is settled, the element is
-- removed, and the settled copy is dropped
abbrev pub settled_copy : Mem
settled_copy =
    let m = sets_link (sets_int (sets_array start (variable $a [])) (variable $a (Push ∷ [])) 2) (variable $b []) (variable $a (at 0 ∷ [])) in
    settle (make_link m 0 (variable $a [])).0 0

abbrev pub settled_copy_dropped : Mem
settled_copy_dropped = released (drop_top (unsets settled_copy (variable $a (at 0 ∷ []))) 0)

-- $a = "abc";
abbrev pub with_text : Mem
with_text = sets start (variable $a []) (scalar.Str (97 ∷ 98 ∷ 99 ∷ []))

abbrev pub in_text : Key → Place
in_text k = variable $a (At k ∷ [])

-- what the examples come to

pub record AliasExamples : Type 0 where
  -- an element that is an alias keeps its alias in a copy, and what is written there is seen
  pub alias_kept_by_copy : shown copied_before_unset (variable $a (at 0 ∷ [])) ≡ value (int (pos 2))
  -- and doesn't where the alias was removed before the copy
  pub alias_gone_before_copy : shown copied_after_unset (variable $a (at 0 ∷ [])) ≡ value (int (pos 1))
  pub alias_kept_inside : shown nested_alias (variable $a (at 0 ∷ at 0 ∷ [])) ≡ value (int (pos 9))
  pub alias_kept_inside_of_copy : shown nested_alias (variable $b (at 0 ∷ at 0 ∷ [])) ≡ value (int (pos 9))
  -- an array that holds itself by reference, written through a copy
  pub written_in_itself : shown array_in_itself (variable $a (at 1 ∷ [])) ≡ value (int (pos 7))
  pub copy_keeps_one_element : found array_in_itself (variable $b (at 1 ∷ [])) ≡ None
  -- an element that was unset while a link stands keeps its store
  pub cut_off_by_unset : found cut_off (variable $a (at 0 ∷ [])) ≡ None
  pub link_keeps_value : top (settle cut_off 0) 0 ≡ value (int (pos 5))
  pub link_is_no_alias : is_aliased cut_off (temporary 0 []) ≡ false
  pub settled_copy_is_alias : is_aliased settled_copy (variable $b []) ≡ true
  pub no_alias_once_dropped : is_aliased settled_copy_dropped (variable $b []) ≡ false
  -- what is linked is made with null where it is missing
  pub missing_made_by_link : shown (make_link start 0 (variable $a (at 0 ∷ []))).0 (variable $a (at 0 ∷ [])) ≡ value null
  -- a clone keeps the aliases among its properties, and copies the rest
  pub alias_kept_by_clone : shown clone_with_alias (property 1 112 []) ≡ value (int (pos 2))
  pub array_copied_by_clone : shown clone_of_array (property 1 112 (at 0 ∷ [])) ≡ value (int (pos 1))

pub record WriteExamples : Type 0 where
  -- serials rise with each new entry, and a removal leaves the next key and the next serial
  pub keys_and_serials : keys_of (found after_removal (variable $a [])) ≡ (1, key.Int (negsuc 4)) ∷ (3, key.Int (pos 1)) ∷ (4, key.Int (pos 2)) ∷ []
  pub next_key_stays : next_key_of (found after_removal (variable $a [])) ≡ 3
  pub next_serial_stays : next_serial_of (found after_removal (variable $a [])) ≡ 5
  pub next_key_lowered : next_key_of (found last_popped (variable $a [])) ≡ 1
  -- nothing is appended behind the last key
  pub no_key_left : answer_of_write last_key_used (variable $a (Push ∷ [])) ≡ Full
  pub memory_left_by_full : (assign (push last_key_used 0 scalar.Null) 0 (variable $a (Push ∷ []))).0 ≡ push last_key_used 0 scalar.Null
  -- a walk that fails in its third step leaves all as it was
  pub third_step_fails : answer_of_write with_truth_inside (variable $a (at 0 ∷ at 0 ∷ at 0 ∷ [])) ≡ NotArray
  pub memory_left_by_walk : (assign (push with_truth_inside 0 scalar.Null) 0 (variable $a (at 0 ∷ at 0 ∷ at 0 ∷ []))).0 ≡ push with_truth_inside 0 scalar.Null
  -- what is missing is made, a base, an element and a static too
  pub missing_base_made : shown (sets_int start (variable $a (at 2 ∷ at 3 ∷ [])) 4) (variable $a (at 2 ∷ at 3 ∷ [])) ≡ value (int (pos 4))
  pub missing_static_made : shown (sets_int start (record { base = Static (record { 0 = 2 }); path = [] }) 4) (record { base = Static (record { 0 = 2 }); path = [] }) ≡ value (int (pos 4))
  -- no array is made of what is neither null nor missing
  pub not_into_truth : answer_of_write (sets start (variable $a []) (scalar.Bool true)) (variable $a (at 0 ∷ [])) ≡ NotArray
  pub not_into_int : answer_of_write (sets_int start (variable $a []) 1) (variable $a (Push ∷ [])) ≡ NotArray
  pub not_into_text : answer_of_write (sets start (variable $a []) (scalar.Str (97 ∷ []))) (variable $a (at 0 ∷ [])) ≡ NotArray
  pub not_into_object : answer_of_write with_object_in_variable (variable $a (at 0 ∷ [])) ≡ NotArray
  pub into_null : answer_of_write (sets start (variable $a []) scalar.Null) (variable $a (at 0 ∷ [])) ≡ Done

pub record ReleaseExamples : Type 0 where
  -- the elements of an array are released in order, inner arrays too
  pub elements_in_order : (fall array_of_arrays_dropped 0).1 ≡ Destroy (record { 0 = 1 })
  pub second_in_order : (fall (fall array_of_arrays_dropped 0).0 0).1 ≡ Destroy (record { 0 = 2 })
  pub third_in_order : (fall (fall (fall array_of_arrays_dropped 0).0 0).0 0).1 ≡ Destroy (record { 0 = 3 })
  -- a destructor is due once, also where the object lived on by it
  pub destructor_is_due : destructor_due.1 ≡ Destroy (record { 0 = 1 })
  pub lives_on : resurrected.1 ≡ Nothing
  pub still_there : is_some (numbered resurrected.0.objects 1) ≡ true
  pub not_due_again : dropped_again.1 ≡ Nothing
  pub gone : is_some (numbered dropped_again.0.objects 1) ≡ false
  -- the clone of an object whose destructor was run has its own due
  pub clone_is_due : clone_of_spent_dropped.1 ≡ Destroy (record { 0 = 2 })
  -- objects that hold each other stay, and the older one is the first that is looked for at the end
  pub ring_stays : live_count objects_in_a_ring.objects ≡ 2
  pub older_first : eldest objects_in_a_ring ≡ Some 1
  -- a generator's frame is released before its object goes
  pub frame_first : (fall generator_dropped 0).1 ≡ Frame (record { 0 = 1 })
  pub then_the_object : (fall (fall generator_dropped 0).0 0).1 ≡ Nothing
  pub object_gone : live_count (fall (fall generator_dropped 0).0 0).0.objects ≡ 0

pub record ReadExamples : Type 0 where
  -- a byte of a string: an offset from the start or the end, as an int or as a text that is one
  pub first_byte : reading loud with_text (in_text (key.Int (pos 0))) ≡ gives (text (97 ∷ []))
  pub last_byte : reading loud with_text (in_text (key.Int (negsuc 0))) ≡ gives (text (99 ∷ []))
  pub byte_at_length : reading loud with_text (in_text (key.Int (pos 3))) ≡ gives (text [])
  pub byte_before_start : reading loud with_text (in_text (key.Int (negsuc 3))) ≡ gives (text [])
  pub byte_at_text : reading loud with_text (in_text (key.Str (32 ∷ 49 ∷ []))) ≡ gives (text (98 ∷ []))
  pub byte_at_word : reading loud with_text (in_text (key.Str (120 ∷ []))) ≡ throws bad_offset
  pub byte_of_byte : reading loud with_text (variable $a (at 1 ∷ at 0 ∷ at 0 ∷ [])) ≡ gives (text (98 ∷ []))
  -- read quietly, what is out of range, a bad offset and an element of an object are null
  pub quiet_at_length : reading quiet with_text (in_text (key.Int (pos 3))) ≡ gives null
  pub quiet_at_word : reading quiet with_text (in_text (key.Str (120 ∷ []))) ≡ gives null
  pub quiet_into_object : reading quiet with_object_in_variable (variable $a (at 0 ∷ [])) ≡ gives null
  pub into_object : reading loud with_object_in_variable (variable $a (at 0 ∷ [])) ≡ throws not_an_array
  -- what is missing is null for what follows
  pub missing_is_null : reading loud start (variable $a (at 0 ∷ at 1 ∷ [])) ≡ gives null
  pub element_of_int : reading loud (sets_int start (variable $a []) 1) (variable $a (at 0 ∷ [])) ≡ gives null
  -- an append can't be read
  pub append_read : reading loud start (variable $a (Push ∷ [])) ≡ throws bad_offset
  pub append_of_object : reading loud with_object_in_variable (variable $a (Push ∷ [])) ≡ throws bad_offset
  pub byte_is_set : is_set with_text (in_text (key.Int (pos 1))) ≡ true
  pub beyond_is_not_set : is_set with_text (in_text (key.Int (pos 9))) ≡ false
  pub word_is_not_set : is_set with_text (in_text (key.Str (120 ∷ []))) ≡ false
  pub null_is_not_set : is_set (sets start (variable $a []) scalar.Null) (variable $a []) ≡ false
