-- Actions that compute a value from others.
use Rattle.std.specs.Prelude.{ℕ, zero, suc, ◌+◌, nat_lt, Bool, true, false, not, cond, is_some, ℤ, pos, ◌-ℤ◌, List, [], ◌∷◌, ◌++◌, length, Option, Some, None, Result, Ok, Err}
use Rattle.php_value.specs.declared.fault.Fault.{Fault}
use Rattle.php_value.specs.declared.fault.Fault.TheVariants.{ArrayLimit}
use Rattle.php_value.specs.declared.fault.Stopped.{Stopped}
use Rattle.php_value.specs.declared.fault.Stopped.TheVariants.{Fault as Ends, Throws, NoMemory}
use Rattle.php_value.specs.declared.key.Key.{Key}
use Rattle.php_value.specs.declared.op.Op.{Op}
use Rattle.php_value.specs.declared.op.Op.TheVariants.{Add, Concat}
use Rattle.php_value.specs.declared.scalar.Scalar.{Scalar}
use Rattle.php_value.specs.declared.scalar.Scalar.TheVariants as scalar
use Rattle.php_value.specs.declared.error_kind.ErrorKind.{ErrorKind}
use Rattle.php_value.specs.declared.error_kind.TheConstants.ErrorKind.{UNSUPPORTED_OPERANDS, NOT_COUNTABLE}
use Rattle.php_value.specs.Conversion.{int_of}
use Rattle.php_value.specs.Key.{bit_of}
use Rattle.php_value.specs.Operator.{arith_of, complement_of, counted_up, counted_down, int_result, joined, on_ints}
use Rattle.php_entries.specs.Listing.{Entry, Listing, entry_at, ENTRY_LIMIT}
use Rattle.php_memdef.specs.declared.place.Base.TheVariants.{Temp}
use Rattle.php_memdef.specs.declared.place.Step.TheVariants.{At}
use Rattle.php_memdef.specs.declared.place.Place.{Place}
use Rattle.php_memdef.specs.Contents.{Content, null, truth, int, text, array, object, Mem}
use Rattle.php_memdef.specs.Places.{elements_of}
use Rattle.php_memdef.specs.Temporaries.{push_array, copy}
use Rattle.php_machine.specs.Moves.{Wrong}
use Rattle.php_actions.specs.declared.operators.OperatorAction.{OperatorAction}
use Rattle.php_actions.specs.declared.operators.OperatorAction.TheVariants.{Operate, Compare, Identical, TestCase, ExclusiveOr, ToBool, Not, ToInt, ToText, Sign, Complement, Count, Join}
use Rattle.php_actions.specs.Data.{Frame, Data, Move, on, with_mem, next_with}
use Rattle.php_compare.specs.Ordering.{order_in}
use Rattle.php_compare.specs.Identity.{same_in}
use Rattle.php_actions.specs.declared.relation.Relation.TheVariants.{Equal}
use Rattle.php_actions.specs.Comparisons.{compared_as, identical_as}
use Rattle.php_actions.specs.Contents.{scalar_of, truth_of, text_of_content, number_of, has_entries}
use Rattle.php_memdef.specs.Operations as op
use Rattle.php_memdef.specs.Deciders.{can}
use Rattle.php_actions.specs.Steps.{operand, turned, drops, sink, pushed, replaced, fault, stopped, throws, assigns}

-- what a computation comes to; None where an object's class decides
abbrev pub Computed : Type 0
Computed = Option (Result Scalar Stopped)

abbrev pub joined_texts : Option (List ℕ) → Option (List ℕ) → Computed
joined_texts None t = None
joined_texts (Some s) None = None
joined_texts (Some s) (Some t) = Some (joined (s ++ t))

abbrev pub first_stop : Op → Result ℤ Stopped → Result ℤ Stopped → Result Scalar Stopped
first_stop op (Err e) y = Err e
first_stop op (Ok x) (Err e) = Err e
first_stop op (Ok x) (Ok y) = on_ints op x y

-- of two operands that aren't both scalars
abbrev pub mixed : Op → Content → Content → Computed
mixed Concat x y = joined_texts (text_of_content x) (text_of_content y)
mixed op x y = Some (first_stop op (number_of x) (number_of y))

abbrev pub operated : Option Scalar → Option Scalar → Op → Content → Content → Computed
operated (Some v) (Some w) op x y = Some (arith_of op v w)
operated (Some v) None op x y = mixed op x y
operated None w op x y = mixed op x y

-- the union of two arrays: the entries of the left one, and then those of the right one whose keys it lacks

abbrev pub keys_of : List (Entry ℕ) → List Key
keys_of [] = []
keys_of (e ∷ es) = e.key ∷ keys_of es

abbrev pub keys_lacking : Listing ℕ → List (Entry ℕ) → List Key
keys_lacking t [] = []
keys_lacking t (e ∷ es) = cond (is_some (entry_at t e.key)) (keys_lacking t es) (e.key ∷ keys_lacking t es)

abbrev pub element : ℕ → ℕ → Key → Place
element b n k = record { base = Temp (record { 0 = b }) n; path = At k ∷ [] }

-- under each key a copy of the element of the n-th temporary is put into the array on top
abbrev pub taken_over : ℕ → List Key → Frame → Data → (Data → Move) → Move
taken_over n [] f d go = go d
taken_over n (k ∷ ks) f d go =
    on (can (op.copy f.block (element f.block n k)) d.mem) (copy d.mem f.block (element f.block n k)).0 (λ m.
    assigns (element f.block 1 k) f (with_mem d m) (λ d'. taken_over n ks f d' go))

abbrev pub united : Listing ℕ → Listing ℕ → Frame → Data → Move
united x y f d =
    cond (nat_lt ENTRY_LIMIT (length (keys_of x.entries) + length (keys_lacking x y.entries)))
    (fault ArrayLimit f d)
    (on (can (op.push_array f.block) d.mem) (push_array d.mem f.block) (λ m.
    taken_over 2 (keys_of x.entries) f (with_mem d m) (λ d'.
    taken_over 1 (keys_lacking x y.entries) f d' (λ d''. sink f.block 2 d''.mem (next_with d'')))))

-- the result comes in the place of the two operands, which fall where the computation throws, too
abbrev pub finish_two : Computed → Frame → Data → Move
finish_two None f d = Wrong
finish_two (Some (Ok v)) f d = replaced f.block 2 v d.mem (next_with d)
finish_two (Some (Err (Ends x))) f d = fault x f d
finish_two (Some (Err (Throws kind))) f d = turned f.block 2 d.mem (λ m. drops f.block 2 m (λ m'. throws kind [] f (with_mem d m')))
finish_two (Some (Err NoMemory)) f d = Wrong

abbrev pub united_or : Option (Listing ℕ) → Option (Listing ℕ) → Op → Content → Content → Frame → Data → Move
united_or (Some x) (Some y) op v w f d = united x y f d
united_or (Some x) None op v w f d = finish_two (operated (scalar_of v) (scalar_of w) op v w) f d
united_or None y op v w f d = finish_two (operated (scalar_of v) (scalar_of w) op v w) f d

-- the elements of an operand, where it is an array and the operator unites
abbrev pub elements_to_unite : Op → Content → Option (Listing ℕ)
elements_to_unite Add x = elements_of x
elements_to_unite op x = None

abbrev pub operate_on : Op → Content → Content → Frame → Data → Move
operate_on op x y f d = united_or (elements_to_unite op x) (elements_to_unite op y) op x y f d

-- the result comes in the place of the one operand
abbrev pub finish_one : Computed → Frame → Data → Move
finish_one None f d = Wrong
finish_one (Some (Ok v)) f d = drops f.block 1 d.mem (λ m. pushed f.block v m (next_with d))
finish_one (Some (Err e)) f d = stopped e f d

abbrev pub as_int : Result ℤ Fault → Computed
as_int (Ok z) = Some (Ok (scalar.Int z))
as_int (Err x) = Some (Err (Ends x))

abbrev pub int_of_content : Content → Computed
int_of_content null = as_int (int_of scalar.Null)
int_of_content (truth b) = as_int (int_of (scalar.Bool b))
int_of_content (int i) = as_int (int_of (scalar.Int i))
int_of_content (text bytes) = as_int (int_of (scalar.Str bytes))
int_of_content (array t) = Some (Ok (scalar.Int (bit_of (has_entries t))))
int_of_content (object h) = Some (Err (Throws UNSUPPORTED_OPERANDS))

abbrev pub as_text : Option (List ℕ) → Computed
as_text None = None
as_text (Some t) = Some (Ok (scalar.Str t))

abbrev pub signed : Bool → ℤ → ℤ
signed true z = pos 0 -ℤ z
signed false z = z

abbrev pub sign_of : Bool → Result ℤ Stopped → Result Scalar Stopped
sign_of negative (Ok z) = int_result (signed negative z)
sign_of negative (Err e) = Err e

-- of a scalar; anything else throws this
abbrev pub on_scalar : (Scalar → Result Scalar Stopped) → ErrorKind → Option Scalar → Result Scalar Stopped
on_scalar op kind None = Err (Throws kind)
on_scalar op kind (Some v) = op v

abbrev pub counted_by : Bool → Scalar → Result Scalar Stopped
counted_by true v = counted_up v
counted_by false v = counted_down v

-- one of them alone
abbrev pub differ : Bool → Bool → Bool
differ true b = not b
differ false b = b

abbrev pub with_operand : Option Content → (Content → Move) → Move
with_operand None go = Wrong
with_operand (Some c) go = go c

abbrev pub with_two : Option Content → Option Content → (Content → Content → Move) → Move
with_two None y go = Wrong
with_two (Some x) None go = Wrong
with_two (Some x) (Some y) go = go x y

abbrev pub text_if : Option Content → Option (List ℕ)
text_if None = None
text_if (Some c) = text_of_content c

abbrev pub text_then : Option (List ℕ) → Option (List ℕ) → Option (List ℕ)
text_then None t = None
text_then (Some s) None = None
text_then (Some s) (Some t) = Some (s ++ t)

-- the texts of the n top temporaries, the lowest first
abbrev pub texts_of : Mem → ℕ → ℕ → Option (List ℕ)
texts_of m b zero = Some []
texts_of m b (suc n) = text_then (text_if (operand m b n)) (texts_of m b n)

abbrev pub join_as : Result Scalar Stopped → ℕ → Frame → Data → Move
join_as (Ok v) n f d = drops f.block n d.mem (λ m. pushed f.block v m (next_with d))
join_as (Err e) n f d = stopped e f d

abbrev pub join_if : Option (List ℕ) → ℕ → Frame → Data → Move
join_if None n f d = Wrong
join_if (Some t) n f d = join_as (joined t) n f d

-- the operand that is n temporaries below the top one
abbrev pub below : ℕ → Frame → Data → Option Content
below n f d = operand d.mem f.block n

abbrev pub effect_operator : OperatorAction → Frame → Data → Move
effect_operator (Operate op) f d = with_two (below 1 f d) (below 0 f d) (λ x y. operate_on op x y f d)
effect_operator (Compare relation) f d = with_two (below 1 f d) (below 0 f d) (λ x y. finish_two (Some (compared_as relation (order_in d.mem x y))) f d)
effect_operator (Identical negated) f d = with_two (below 1 f d) (below 0 f d) (λ x y. finish_two (Some (identical_as negated (same_in d.mem x y))) f d)
effect_operator TestCase f d = with_two (below 1 f d) (below 0 f d) (λ x y. finish_one (Some (compared_as Equal (order_in d.mem x y))) f d)
effect_operator ExclusiveOr f d = with_two (below 1 f d) (below 0 f d) (λ x y. finish_two (Some (Ok (scalar.Bool (differ (truth_of x) (truth_of y))))) f d)
effect_operator ToBool f d = with_operand (below 0 f d) (λ x. finish_one (Some (Ok (scalar.Bool (truth_of x)))) f d)
effect_operator Not f d = with_operand (below 0 f d) (λ x. finish_one (Some (Ok (scalar.Bool (not (truth_of x))))) f d)
effect_operator ToInt f d = with_operand (below 0 f d) (λ x. finish_one (int_of_content x) f d)
effect_operator ToText f d = with_operand (below 0 f d) (λ x. finish_one (as_text (text_of_content x)) f d)
effect_operator (Sign negative) f d = with_operand (below 0 f d) (λ x. finish_one (Some (sign_of negative (number_of x))) f d)
effect_operator Complement f d = with_operand (below 0 f d) (λ x. finish_one (Some (on_scalar complement_of UNSUPPORTED_OPERANDS (scalar_of x))) f d)
effect_operator (Count up) f d = with_operand (below 0 f d) (λ x. finish_one (Some (on_scalar (counted_by up) NOT_COUNTABLE (scalar_of x))) f d)
effect_operator (Join n) f d = join_if (texts_of d.mem f.block n) n f d
