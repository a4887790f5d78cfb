-- Temporaries as the operators see them.
use Rattle.std.specs.Prelude.{◌≡◌, ℕ, Bool, true, false, not, List, Option, Some, None, Result, Ok, Err, ℤ, codes}
use Rattle.php_value.specs.declared.fault.Stopped.{Stopped}
use Rattle.php_value.specs.declared.fault.Stopped.TheVariants.{Fault as Ends, Throws, NoMemory}
use Rattle.php_value.specs.declared.error_kind.TheConstants.ErrorKind.{UNSUPPORTED_OPERANDS, NOT_COUNTABLE}
use Rattle.php_value.specs.declared.op.Op.{Op}
use Rattle.php_value.specs.declared.op.Op.TheVariants.{Add, Concat}
use Rattle.php_value.specs.declared.scalar.Scalar.{Scalar}
use Rattle.php_value.specs.declared.scalar.Scalar.TheVariants as scalar
use Rattle.php_value.specs.Conversion.{bool_of, int_of, text_of}
use Rattle.php_value.specs.Key.{bit_of}
use Rattle.php_value.specs.Operator.{arith_of, complement_of}
use Rattle.php_memdef.specs.Contents.{Content, Mem}
use Rattle.php_memdef.specs.Places.{elements_of}
use Rattle.std.specs.Prelude.{is_some}
use Rattle.php_actions.specs.Contents.{scalar_of, truth_of, text_of_content, number_of, or_fault}
use Rattle.php_actions.specs.Steps.{operand, drops, pushed}
use Rattle.php_actions.specs.declared.operators.OperatorAction.{OperatorAction}
use Rattle.php_actions.specs.declared.operators.OperatorAction.TheVariants.{Operate, Compare, Identical, TestCase, ExclusiveOr, ToBool, Not, ToInt, ToText, Sign, Complement, Count, Join}
use Rattle.php_actions.specs.Operators.{Computed, joined_texts, first_stop, as_int, as_text, sign_of, on_scalar, counted_by, int_of_content, with_operand, below, finish_one}
use Rattle.php_actions.specs.Data.{Frame, Data, Move, next_with}
use Rattle.php_vm_actions.specs.declared.did.Did.{Did}
use Rattle.php_vm_actions.specs.declared.did.Did.TheVariants.{NoMemory as Wanting}
use Rattle.php_vm_actions.specs.declared.operands.Operand.{Operand}
use Rattle.php_vm_actions.specs.declared.operands.Operand.TheVariants as operand_is

-- the temporary is there
abbrev pub HasOperand : ℕ → ℕ → Mem → Type 0
HasOperand b n m = (x : Content) × (operand m b n ≡ Some x)

-- what an operand is as a scalar, a truth, a text, a number and an int

abbrev pub scalar_in : Operand → Option Scalar
scalar_in (operand_is.Scalar v) = Some v
scalar_in (operand_is.Array has_entries) = None
scalar_in operand_is.Object = None

abbrev pub truth_in : Operand → Bool
truth_in (operand_is.Scalar v) = bool_of v
truth_in (operand_is.Array has_entries) = has_entries
truth_in operand_is.Object = true

abbrev pub text_in : Operand → Option (List ℕ)
text_in (operand_is.Scalar v) = Some (text_of v)
text_in (operand_is.Array has_entries) = Some (codes "Array")
text_in operand_is.Object = None

abbrev pub number_in : Operand → Result ℤ Stopped
number_in (operand_is.Scalar v) = or_fault (int_of v)
number_in (operand_is.Array has_entries) = Err (Throws UNSUPPORTED_OPERANDS)
number_in operand_is.Object = Err (Throws UNSUPPORTED_OPERANDS)

abbrev pub int_in : Operand → Computed
int_in (operand_is.Scalar v) = as_int (int_of v)
int_in (operand_is.Array has_entries) = Some (Ok (scalar.Int (bit_of has_entries)))
int_in operand_is.Object = Some (Err (Throws UNSUPPORTED_OPERANDS))

abbrev pub is_array : Operand → Bool
is_array (operand_is.Scalar v) = false
is_array (operand_is.Array has_entries) = true
is_array operand_is.Object = false

-- the operand shows all that the operators ask of the content
pub record Sees (o : Operand) (x : Content) : Type 0 where
  pub scalar : scalar_of x ≡ scalar_in o
  pub truth : truth_of x ≡ truth_in o
  pub text : text_of_content x ≡ text_in o
  pub number : number_of x ≡ number_in o
  pub int : int_of_content x ≡ int_in o
  pub array : is_some (elements_of x) ≡ is_array o

-- ---- what is computed

abbrev pub mixed_in : Op → Operand → Operand → Computed
mixed_in Concat o p = joined_texts (text_in o) (text_in p)
mixed_in op o p = Some (first_stop op (number_in o) (number_in p))

abbrev pub operated_in : Op → Operand → Operand → Computed
operated_in op (operand_is.Scalar v) (operand_is.Scalar w) = Some (arith_of op v w)
operated_in op o p = mixed_in op o p

-- of one operand
abbrev pub one_in : OperatorAction → Operand → Computed
one_in ToBool o = Some (Ok (scalar.Bool (truth_in o)))
one_in Not o = Some (Ok (scalar.Bool (not (truth_in o))))
one_in ToInt o = int_in o
one_in ToText o = as_text (text_in o)
one_in (Sign negative) o = Some (sign_of negative (number_in o))
one_in Complement o = Some (on_scalar complement_of UNSUPPORTED_OPERANDS (scalar_in o))
one_in (Count up) o = Some (on_scalar (counted_by up) NOT_COUNTABLE (scalar_in o))
one_in a o = None

-- the same of the content
abbrev pub one_of : OperatorAction → Content → Computed
one_of ToBool x = Some (Ok (scalar.Bool (truth_of x)))
one_of Not x = Some (Ok (scalar.Bool (not (truth_of x))))
one_of ToInt x = int_of_content x
one_of ToText x = as_text (text_of_content x)
one_of (Sign negative) x = Some (sign_of negative (number_of x))
one_of Complement x = Some (on_scalar complement_of UNSUPPORTED_OPERANDS (scalar_of x))
one_of (Count up) x = Some (on_scalar (counted_by up) NOT_COUNTABLE (scalar_of x))
one_of a x = None

-- the result is what was to be computed, unless memory was wanted
abbrev pub Tells : Result Scalar Stopped → Computed → Type 0
Tells (Ok v) c = c ≡ Some (Ok v)
Tells (Err (Ends fault)) c = c ≡ Some (Err (Ends fault))
Tells (Err (Throws kind)) c = c ≡ Some (Err (Throws kind))
Tells (Err NoMemory) c = Unit {0}

-- what is needed to finish with the result, unless memory was wanted
abbrev pub IfTold : Result Scalar Stopped → Type 0 → Type 0
IfTold (Ok v) P = P
IfTold (Err (Ends fault)) P = P
IfTold (Err (Throws kind)) P = P
IfTold (Err NoMemory) P = Unit {0}

-- what is said of an action whose result was told; NoMemory where memory was wanted
abbrev pub FinishedBy : Result Scalar Stopped → Did → Type 0 → Type 0
FinishedBy (Ok v) did P = P
FinishedBy (Err (Ends fault)) did P = P
FinishedBy (Err (Throws kind)) did P = P
FinishedBy (Err NoMemory) did P = did ≡ Wanting

-- two arrays are united by `+`
abbrev pub unites : Op → Operand → Operand → Bool
unites Add (operand_is.Array a) (operand_is.Array b) = true
unites op o p = false

-- an action on one operand
abbrev pub is_one : OperatorAction → Bool
is_one ToBool = true
is_one Not = true
is_one ToInt = true
is_one ToText = true
is_one (Sign negative) = true
is_one Complement = true
is_one (Count up) = true
is_one (Operate op) = false
is_one (Compare relation) = false
is_one (Identical negated) = false
is_one TestCase = false
is_one ExclusiveOr = false
is_one (Join n) = false

abbrev pub one_operand : OperatorAction → Frame → Data → Move
one_operand a f d = with_operand (below 0 f d) (λ x. finish_one (one_of a x) f d)

-- the two top temporaries are there
pub record HasTwo (b : ℕ) (m : Mem) : Type 0 where
  pub left : HasOperand b 1 m
  pub right : HasOperand b 0 m

-- so many temporaries fall, the top first, and a text comes
abbrev pub text_joined : ℕ → List ℕ → Frame → Data → Move
text_joined n t f d = drops f.block n d.mem (λ m. pushed f.block (scalar.Str t) m (next_with d))
