-- Actions on small data, and small runs. What they come to is proved by computing.
use Rattle.std.specs.Prelude.{◌≡◌, ℕ, Bool, true, false, List, [], ◌∷◌, Option, Some, None, pos, negsuc, codes}
use Rattle.php_value.specs.declared.fault.Fault.TheVariants as fault
use Rattle.php_value.specs.declared.op.Op.TheVariants as op
use Rattle.php_value.specs.declared.scalar.Scalar.{Scalar}
use Rattle.php_value.specs.declared.scalar.Scalar.TheVariants as scalar
use Rattle.php_frames.specs.declared.completion.Completion.{Completion}
use Rattle.php_frames.specs.declared.completion.Completion.TheVariants as completion
use Rattle.php_frames.specs.declared.frame.Way.{Way}
use Rattle.php_frames.specs.declared.frame.Way.TheVariants as way
use Rattle.php_entries.specs.Listing.{no_entries}
use Rattle.php_memdef.specs.Contents.{Content, null, truth, int, text, array, Item, value, link, fresh, scope_of}
use Rattle.php_memdef.specs.Temporaries.{with_temps, with_falling, enter, push}
use Rattle.php_memdef.specs.Writes.{assign}
use Rattle.php_memdef.specs.Views.{found}
use Rattle.php_machine.specs.Moves.{Next, Again, Enter, Ask, Inside, Leave, Park, Wake, End, Wrong, Proceed, Complete, Make, Yes, No, NoValue, Outcome, Ended, Stuck, Unnumbered, Unfinished}
use Rattle.php_machine.specs.Control.{Fetch, Act, Control}
use Rattle.php_machine.specs.Machine.{runs}
use Rattle.php_actions.specs.declared.action.Action.{Action}
use Rattle.php_actions.specs.declared.action.Action.TheVariants as action
use Rattle.php_actions.specs.declared.stack.StackAction.TheVariants as stack
use Rattle.php_actions.specs.declared.places.PlaceAction.TheVariants as places
use Rattle.php_actions.specs.declared.place_form.BaseForm.TheVariants as base
use Rattle.php_actions.specs.declared.place_form.StepForm.{StepForm}
use Rattle.php_actions.specs.declared.place_form.StepForm.TheVariants as steps
use Rattle.php_actions.specs.declared.place_form.PlaceForm.{PlaceForm}
use Rattle.php_actions.specs.declared.operators.OperatorAction.TheVariants as operators
use Rattle.php_actions.specs.declared.output.OutputAction.TheVariants as output
use Rattle.php_actions.specs.declared.names.NameAction.TheVariants as names
use Rattle.php_actions.specs.declared.calls.CallAction.TheVariants as calls
use Rattle.php_actions.specs.declared.jumps.JumpAction.TheVariants as jumps
use Rattle.php_actions.specs.declared.ending.Ending.{Ending}
use Rattle.php_actions.specs.declared.ending.Ending.TheVariants as ending
use Rattle.php_actions.specs.declared.facts.Facts.{Facts}
use Rattle.php_actions.specs.declared.facts.FunctionFact.{FunctionFact}
use Rattle.php_actions.specs.Data.{Frame, Data, Move, Plan, with_mem}
use Rattle.php_actions.specs.Effect.{effect}
use Rattle.php_actions.specs.Plan.{plan, truth as choose, rules}
use Rattle.php_actions.specs.Frames.{landed, unserved}
use Rattle.php_actions.specs.Start.{first, script_frame, variable_place}

-- the words of the examples

abbrev pub script_fact : FunctionFact
script_fact = record { name = []; line = 1; params = []; required = 0; returns_link = false; result = None; room = 9; has_this = false; is_strict = false; is_prelude = false }

abbrev pub facts : Facts
facts = record { functions = script_fact ∷ []; statics = 0 }

-- a run in the script's frame, whose line is 1, with these temporaries
abbrev pub standing : List Item → Data
standing ts = record {
  mem = with_temps (enter fresh 0 9) 0 ts;
  frames = script_frame 0 ∷ [];
  left = 2;
  taken = 0;
  out = codes "a";
  writes = 0;
  constants = [];
  ended = false;
  status = 0;
}

abbrev pub data_of : Move → Option Data
data_of (Next d) = Some d
data_of (Leave d) = Some d
data_of (End e d) = Some d
data_of (Again d) = None
data_of (Enter f is_free at) = None
data_of (Ask f is_free at) = None
data_of (Inside f d) = None
data_of (Park g d) = None
data_of (Wake g d) = None
data_of Wrong = None

abbrev pub ending_of : Move → Option Ending
ending_of (End e d) = Some e
ending_of (Next d) = None
ending_of (Leave d) = None
ending_of (Again d) = None
ending_of (Enter f is_free at) = None
ending_of (Ask f is_free at) = None
ending_of (Inside f d) = None
ending_of (Park g d) = None
ending_of (Wake g d) = None
ending_of Wrong = None

abbrev pub temps_if : Option Data → Option (List Item)
temps_if None = None
temps_if (Some d) = Some (scope_of d.mem 0).temps

abbrev pub falling_if : Option Data → Option (List Item)
falling_if None = None
falling_if (Some d) = Some (scope_of d.mem 0).falling

abbrev pub out_if : Option Data → Option (List ℕ)
out_if None = None
out_if (Some d) = Some d.out

abbrev pub variable_if : ℕ → Option Data → Option Content
variable_if n None = None
variable_if n (Some d) = found d.mem (variable_place 0 n [])

-- what an action leaves of temporaries where it finds these, what falls, what is written in all, and how the
-- run ends

abbrev pub leaves : Action → List Item → Option (List Item)
leaves a ts = temps_if (data_of (effect facts a (standing ts)))

abbrev pub lets_fall : Action → List Item → Option (List Item)
lets_fall a ts = falling_if (data_of (effect facts a (standing ts)))

abbrev pub has_written : Action → List Item → Option (List ℕ)
has_written a ts = out_if (data_of (effect facts a (standing ts)))

abbrev pub ends_in : Action → List Item → Option Ending
ends_in a ts = ending_of (effect facts a (standing ts))

abbrev pub throws_error : List ℕ → List ℕ → Option Ending
throws_error class message = Some (ending.Uncaught class message (pos 1))

-- values

abbrev pub number : ℕ → Item
number n = value (int (pos n))

abbrev pub no_value : Item
no_value = value null

abbrev pub bool_value : Bool → Item
bool_value b = value (truth b)

abbrev pub bytes_value : List ℕ → Item
bytes_value t = value (text t)

abbrev pub empty_array : Item
empty_array = value (array no_entries)

abbrev pub int_scalar : ℕ → Scalar
int_scalar n = scalar.Int (pos n)

-- data with $x, of number 2, set to 5

abbrev pub with_five : Data
with_five =
    let m = push (standing []).mem 0 (int_scalar 5) in
    with_mem (standing []) (assign m 0 (variable_place 0 2 [])).0

abbrev pub five_and : List Item → Data
five_and ts = with_mem with_five (with_temps with_five.mem 0 ts)

abbrev pub $x : PlaceForm
$x = record { base = base.Variable (record { 0 = 2 }); steps = [] }

abbrev pub $x_at : List StepForm → PlaceForm
$x_at fs = record { base = base.Variable (record { 0 = 2 }); steps = fs }

abbrev pub reads_as : PlaceForm → Data → Option (List Item)
reads_as form d = temps_if (data_of (effect facts (action.Place (places.Read form)) d))

abbrev pub assigned_to : PlaceForm → Data → Move
assigned_to form d = effect facts (action.Place (places.Assign form)) d

pub record StackExamples : Type 0 where
  pub push_leaves : leaves (action.Stack (stack.Push (int_scalar 1))) [] ≡ Some (number 1 ∷ [])
  pub push_array_leaves : leaves (action.Stack stack.PushArray) [] ≡ Some (empty_array ∷ [])
  pub drop_leaves : leaves (action.Stack stack.Drop) (number 1 ∷ number 2 ∷ []) ≡ Some (number 2 ∷ [])
  pub drop_lets_an_array_fall : lets_fall (action.Stack stack.Drop) (empty_array ∷ []) ≡ Some (empty_array ∷ [])
  pub drop_finds : effect facts (action.Stack stack.Drop) (standing []) ≡ Wrong
  pub swap_leaves : leaves (action.Stack stack.Swap) (number 1 ∷ number 2 ∷ number 3 ∷ []) ≡ Some (number 2 ∷ number 1 ∷ number 3 ∷ [])
  pub swap_finds : effect facts (action.Stack stack.Swap) (standing (number 1 ∷ [])) ≡ Wrong
  pub duplicate_leaves : leaves (action.Stack stack.Duplicate) (number 1 ∷ []) ≡ Some (number 1 ∷ number 1 ∷ [])
  pub duplicate_finds : effect facts (action.Stack stack.Duplicate) (standing []) ≡ Wrong
  pub settle_of_a_value : leaves (action.Stack stack.Settle) (number 1 ∷ []) ≡ Some (number 1 ∷ [])
  pub settle_of_a_link : temps_if (data_of (effect facts (action.Stack stack.Settle) (five_and (link 0 ∷ [])))) ≡ Some (number 5 ∷ [])
  pub settled_link_falls : falling_if (data_of (effect facts (action.Stack stack.Settle) (five_and (link 0 ∷ [])))) ≡ Some (link 0 ∷ [])
  pub test_of_zero : leaves (action.Stack stack.TestTruth) (number 0 ∷ []) ≡ Some (bool_value false ∷ number 0 ∷ [])
  pub test_of_an_empty_array : leaves (action.Stack stack.TestTruth) (empty_array ∷ []) ≡ Some (bool_value false ∷ empty_array ∷ [])
  pub test_of_null : leaves (action.Stack stack.TestNotNull) (no_value ∷ []) ≡ Some (bool_value false ∷ no_value ∷ [])
  pub test_of_false : leaves (action.Stack stack.TestNotNull) (bool_value false ∷ []) ≡ Some (bool_value true ∷ bool_value false ∷ [])
  pub no_room : effect facts (action.Stack stack.PushArray) (standing (number 1 ∷ number 2 ∷ number 3 ∷ number 4 ∷ number 5 ∷ number 6 ∷ number 7 ∷ number 8 ∷ number 9 ∷ [])) ≡ Wrong

pub record PlaceExamples : Type 0 where
  pub variable_is_read : reads_as $x with_five ≡ Some (number 5 ∷ [])
  pub missing_variable_is_null : reads_as $x (standing []) ≡ Some (no_value ∷ [])
  pub reading_makes_no_variable : variable_if 2 (data_of (effect facts (action.Place (places.Read $x)) (standing []))) ≡ None
  pub append_is_not_read : ending_of (effect facts (action.Place (places.Read ($x_at (steps.Append ∷ [])))) with_five) ≡ throws_error (codes "Error") (codes "Bad offset or access")
  pub array_is_no_key : ending_of (effect facts (action.Place (places.Read ($x_at (steps.Evaluated ∷ [])))) (five_and (empty_array ∷ []))) ≡ throws_error (codes "TypeError") (codes "Value of type array does not fit")
  pub element_of_an_int_is_null : reads_as ($x_at (steps.Evaluated ∷ [])) (five_and (number 1 ∷ [])) ≡ Some (no_value ∷ [])
  pub no_this : ending_of (effect facts (action.Place (places.Read (record { base = base.This; steps = [] }))) with_five) ≡ throws_error (codes "Error") (codes "Using $this when not in object context")
  pub assign_leaves : temps_if (data_of (assigned_to $x (five_and (number 6 ∷ [])))) ≡ Some (number 6 ∷ [])
  pub assign_writes : variable_if 2 (data_of (assigned_to $x (five_and (number 6 ∷ [])))) ≡ Some (int (pos 6))
  pub assign_makes_the_variable : variable_if 2 (data_of (assigned_to $x (standing (number 6 ∷ [])))) ≡ Some (int (pos 6))
  pub assign_under_a_key : temps_if (data_of (assigned_to ($x_at (steps.Evaluated ∷ [])) (standing (number 6 ∷ number 1 ∷ [])))) ≡ Some (number 6 ∷ [])
  pub int_is_no_array : ending_of (assigned_to ($x_at (steps.Append ∷ [])) (five_and (number 6 ∷ []))) ≡ throws_error (codes "Error") (codes "Cannot use a value of type int as an array")
  pub assign_finds : assigned_to $x with_five ≡ Wrong

abbrev pub leaves_of_two : Action → Item → Item → Option (List Item)
leaves_of_two a x y = leaves a (y ∷ x ∷ [])

pub record OperatorExamples : Type 0 where
  pub left_is_below : leaves_of_two (action.Operator (operators.Operate op.Sub)) (number 7) (number 2) ≡ Some (number 5 ∷ [])
  pub two_texts : leaves_of_two (action.Operator (operators.Operate op.Concat)) (bytes_value (codes "a")) (number 12) ≡ Some (bytes_value (codes "a12") ∷ [])
  pub text_of_an_array : leaves_of_two (action.Operator (operators.Operate op.Concat)) empty_array (bytes_value (codes "!")) ≡ Some (bytes_value (codes "Array!") ∷ [])
  pub sum_too_large : ends_in (action.Operator (operators.Operate op.Add)) (number 1 ∷ number 9223372036854775807 ∷ []) ≡ Some (ending.Fatal fault.Overflow 1)
  pub division_by_zero : ends_in (action.Operator (operators.Operate op.Div)) (number 0 ∷ number 1 ∷ []) ≡ throws_error (codes "DivisionByZeroError") (codes "Division by zero")
  pub quotient_not_exact : ends_in (action.Operator (operators.Operate op.Div)) (number 2 ∷ number 1 ∷ []) ≡ Some (ending.Fatal fault.InexactQuotient 1)
  pub negative_shift : ends_in (action.Operator (operators.Operate op.Shl)) (value (int (negsuc 0)) ∷ number 1 ∷ []) ≡ throws_error (codes "ArithmeticError") (codes "Arithmetic error")
  pub array_is_no_number : ends_in (action.Operator (operators.Operate op.Mul)) (empty_array ∷ number 1 ∷ []) ≡ throws_error (codes "Error") (codes "Unsupported operand types")
  pub operands_fall_where_it_throws : lets_fall (action.Operator (operators.Operate op.Mul)) (empty_array ∷ number 1 ∷ []) ≡ Some (empty_array ∷ [])
  pub union_of_empty_arrays : leaves_of_two (action.Operator (operators.Operate op.Add)) empty_array empty_array ≡ Some (empty_array ∷ [])
  pub operate_finds : effect facts (action.Operator (operators.Operate op.Add)) (standing (number 1 ∷ [])) ≡ Wrong
  pub one_alone : leaves_of_two (action.Operator operators.ExclusiveOr) (number 1) (number 0) ≡ Some (bool_value true ∷ [])
  pub both : leaves_of_two (action.Operator operators.ExclusiveOr) (number 1) (empty_array) ≡ Some (bool_value true ∷ [])
  pub to_bool : leaves (action.Operator operators.ToBool) (bytes_value (codes "0") ∷ []) ≡ Some (bool_value false ∷ [])
  pub not_null : leaves (action.Operator operators.Not) (no_value ∷ []) ≡ Some (bool_value true ∷ [])
  pub to_int : leaves (action.Operator operators.ToInt) (bytes_value (codes "12ab") ∷ []) ≡ Some (number 12 ∷ [])
  pub to_int_of_an_array : leaves (action.Operator operators.ToInt) (empty_array ∷ []) ≡ Some (number 0 ∷ [])
  pub to_int_of_a_float : ends_in (action.Operator operators.ToInt) (bytes_value (codes "1.5") ∷ []) ≡ Some (ending.Fatal fault.FloatNeeded 1)
  pub to_text : leaves (action.Operator operators.ToText) (bool_value true ∷ []) ≡ Some (bytes_value (codes "1") ∷ [])
  pub turned_sign : leaves (action.Operator (operators.Sign true)) (number 1 ∷ []) ≡ Some (value (int (negsuc 0)) ∷ [])
  pub kept_sign : leaves (action.Operator (operators.Sign false)) (bytes_value (codes "7") ∷ []) ≡ Some (number 7 ∷ [])
  pub sign_too_large : ends_in (action.Operator (operators.Sign true)) (value (int (negsuc 9223372036854775807)) ∷ []) ≡ Some (ending.Fatal fault.Overflow 1)
  pub array_has_no_sign : ends_in (action.Operator (operators.Sign false)) (empty_array ∷ []) ≡ throws_error (codes "Error") (codes "Unsupported operand types")
  pub complement : leaves (action.Operator operators.Complement) (number 0 ∷ []) ≡ Some (value (int (negsuc 0)) ∷ [])
  pub null_has_no_complement : ends_in (action.Operator operators.Complement) (no_value ∷ []) ≡ throws_error (codes "Error") (codes "Unsupported operand types")
  pub count_up : leaves (action.Operator (operators.Count true)) (no_value ∷ []) ≡ Some (number 1 ∷ [])
  pub count_down : leaves (action.Operator (operators.Count false)) (number 1 ∷ []) ≡ Some (number 0 ∷ [])
  pub array_is_not_counted : ends_in (action.Operator (operators.Count true)) (empty_array ∷ []) ≡ throws_error (codes "Error") (codes "Cannot count this value up or down")
  pub lowest_text_is_first : leaves (action.Operator (operators.Join 3)) (bytes_value (codes "c") ∷ number 2 ∷ bytes_value (codes "a") ∷ number 9 ∷ []) ≡ Some (bytes_value (codes "a2c") ∷ number 9 ∷ [])
  pub no_texts : leaves (action.Operator (operators.Join 0)) [] ≡ Some (bytes_value [] ∷ [])
  pub join_finds : effect facts (action.Operator (operators.Join 2)) (standing (number 1 ∷ [])) ≡ Wrong

pub record OutputExamples : Type 0 where
  pub echo_writes : has_written (action.Output output.Echo) (number 12 ∷ []) ≡ Some (codes "a12")
  pub echo_leaves : leaves (action.Output output.Echo) (number 12 ∷ []) ≡ Some []
  pub echo_finds : effect facts (action.Output output.Echo) (standing []) ≡ Wrong
  pub write_writes : has_written (action.Output (output.Write (codes "bc"))) [] ≡ Some (codes "abc")
  pub print_writes : has_written (action.Output output.Print) (empty_array ∷ []) ≡ Some (codes "aArray")
  pub print_leaves : leaves (action.Output output.Print) (empty_array ∷ []) ≡ Some (number 1 ∷ [])

abbrev pub newest_if : List Frame → Option Frame
newest_if [] = None
newest_if (f ∷ fs) = Some f

-- the newest frame
abbrev pub frame_if : Option Data → Option Frame
frame_if None = None
frame_if (Some d) = newest_if d.frames

pub record OtherExamples : Type 0 where
  pub unknown_constant : ends_in (action.Name (names.PushConstant (codes "X"))) [] ≡ throws_error (codes "Error") (codes "Undefined constant 'X'")
  pub body_returns_null : leaves (action.Call calls.EndBody) [] ≡ Some (no_value ∷ [])
  pub return_is_under_way : frame_if (data_of (effect facts (action.Call calls.EndBody) (standing []))) ≡ Some (record (script_frame 0) { pending = completion.Return })
  pub tick_is_taken : data_of (effect facts (action.Jump (jumps.Tick 7)) (standing [])) ≡ Some (record (standing []) { left = 1; taken = 1; frames = record (script_frame 0) { line = 7 } ∷ [] })
  pub no_tick_is_left : effect facts (action.Jump (jumps.Tick 7)) (record (standing []) { left = 0 }) ≡ End ending.Cut (record (standing []) { left = 0 })

-- the script's frame with a completion, which has come so far
abbrev pub under_way : Completion → Way → List Item → Data
under_way why way ts = record (standing ts) { frames = record (script_frame 0) { pending = why; way = way } ∷ [] }

abbrev pub made_by : Plan → Option Move
made_by Proceed = None
made_by (Complete why) = None
made_by (Make move) = Some move

pub record PlanExamples : Type 0 where
  pub proceeds : plan facts (standing []) ≡ Proceed
  pub looks_for_a_stop : plan facts (under_way completion.Return way.Going (no_value ∷ [])) ≡ Complete completion.Return
  pub proceeds_where_it_landed : plan facts (under_way completion.Return way.Landed (no_value ∷ [])) ≡ Proceed
  pub releases_first : plan facts (with_mem (standing []) (with_falling (standing []).mem 0 (empty_array ∷ []))) ≡ Make (Next (standing []))
  pub nothing_serves_it : unserved facts (under_way completion.Return way.Going (no_value ∷ number 1 ∷ number 2 ∷ [])) ≡ Next (under_way completion.Return way.Ending (no_value ∷ []))
  pub value_falls_last : plan facts (under_way completion.Return way.Ending (no_value ∷ [])) ≡ Make (Next (under_way completion.Return way.Ending []))
  pub run_is_over : plan facts (under_way completion.Return way.Ending []) ≡ Make (End (ending.Done 0) (under_way completion.Return way.Ending []))
  pub comes_to_its_stop : landed (under_way completion.Return way.Going []) ≡ under_way completion.Return way.Landed []
  pub truth_falls : choose (standing (number 1 ∷ [])) ≡ Yes (standing [])
  pub falsehood : choose (standing (number 0 ∷ [])) ≡ No (standing [])
  pub nothing_to_choose_by : choose (standing []) ≡ NoValue

-- runs of actions one behind the other

abbrev pub fetch_next : List Action → Fetch Action (List Action)
fetch_next [] = Act (action.Call calls.EndBody) []
fetch_next (a ∷ rest) = Act a rest

abbrev pub straight : List Action → Control Action Completion (List Action)
straight script = record { start = λ _. script; inside = λ _ c. c; fetch = fetch_next; serve = λ _ _. None }

-- how it ends, what it writes and how many ticks it takes
pub record Report : Type 0 where
  pub ending : Ending
  pub written : List ℕ
  pub ticks : ℕ

abbrev pub report_of : Outcome Data Ending → Option Report
report_of (Ended e d) = Some (record { ending = e; written = d.out; ticks = d.taken })
report_of Stuck = None
report_of Unnumbered = None
report_of Unfinished = None

-- with this allowance, in at most 40 steps
abbrev pub reports : List Action → ℕ → Option Report
reports script allowance = report_of (runs (rules facts) (straight script) 40 [] (first facts allowance [] 0))

-- $x = 7; echo $x . "a", -$x;
abbrev pub assigns_and_echoes : List Action
assigns_and_echoes =
    action.Jump (jumps.Tick 1) ∷ action.Stack (stack.Push (int_scalar 7)) ∷ action.Place (places.Assign $x) ∷ action.Stack stack.Drop
    ∷ action.Jump (jumps.Tick 2)
    ∷ action.Place (places.Read $x) ∷ action.Stack (stack.Push (scalar.Str (codes "a"))) ∷ action.Operator (operators.Operate op.Concat) ∷ action.Output output.Echo
    ∷ action.Place (places.Read $x) ∷ action.Operator (operators.Sign true) ∷ action.Output output.Echo ∷ []

-- echo 1; echo 1 % 0;
abbrev pub divides_by_zero : List Action
divides_by_zero =
    action.Jump (jumps.Tick 1) ∷ action.Stack (stack.Push (int_scalar 1)) ∷ action.Output output.Echo
    ∷ action.Jump (jumps.Tick 3) ∷ action.Stack (stack.Push (int_scalar 1)) ∷ action.Stack (stack.Push (int_scalar 0)) ∷ action.Operator (operators.Operate op.Mod) ∷ action.Output output.Echo ∷ []

pub record RunExamples : Type 0 where
  pub whole : reports assigns_and_echoes 9 ≡ Some (record { ending = ending.Done 0; written = codes "7a-7"; ticks = 2 })
  pub cut : reports assigns_and_echoes 1 ≡ Some (record { ending = ending.Cut; written = []; ticks = 1 })
  pub thrown : reports divides_by_zero 9 ≡ Some (record { ending = ending.Uncaught (codes "DivisionByZeroError") (codes "Division by zero") (pos 3); written = codes "1"; ticks = 2 })
