-- Contents as operands: none is an object, and what is computed of them is within its limits.
use Rattle.std.proofs.Common.{ℕ, Bool, true, false, List, ◌++◌, Option, Some, None, Result, Ok, Err, ℤ, arith}
use Rattle.php_value.specs.declared.fault.Fault.{Fault}
use Rattle.php_value.specs.declared.fault.Stopped.{Stopped}
use Rattle.php_value.specs.declared.fault.Stopped.TheVariants.{Fault as Ends, Throws, NoMemory}
use Rattle.php_value.specs.declared.error_kind.ErrorKind.{ErrorKind}
use Rattle.php_value.specs.declared.op.Op.{Op}
use Rattle.php_value.specs.declared.op.Op.TheVariants.{Add, Sub, Mul, Pow, Div, Mod, Shl, Shr, And, Or, Xor, Concat}
use Rattle.php_value.specs.declared.scalar.Scalar.{Scalar}
use Rattle.php_value.specs.declared.scalar.Scalar.TheVariants as scalar
use Rattle.php_value.specs.Conversion.{int_of}
use Rattle.php_value.specs.Key.{bit_of}
use Rattle.php_memdef.specs.Contents.{Content, null, truth, int, text, array, object}
use Rattle.php_memdef.specs.Sound.{IsInt, IsShort, IsSoundContent}
use Rattle.php_memdef.specs.Conditions.{IsScalarWithin}
use Rattle.php_actions.specs.Contents.{scalar_of, text_of_content, or_fault, number_of}
use Rattle.php_actions.specs.Operators.{Computed, joined_texts, first_stop, mixed, operated, as_int, int_of_content, as_text, signed, sign_of, on_scalar}
use Rattle.php_runnable.proofs.Blocks.{IsPlain}
use Rattle.php_runnable.proofs.Numbers.{IsMade, IsIntMade, IsNumberMade, int_result-made, joined-made, decimal-short, on_ints-made, int_of-made, arith-made}

-- a computation that no object's class decides
abbrev pub IsComputed : Computed → Type 0
IsComputed None = ⊥
IsComputed (Some r) = IsMade r

abbrev IsValue : Option Scalar → Type 0
IsValue None = Unit {0}
IsValue (Some v) = IsScalarWithin v

scalar-within : (c : Content) → IsSoundContent c → IsValue (scalar_of c)
scalar-within null h = tt
scalar-within (truth b) h = tt
scalar-within (int i) h = h
scalar-within (text bytes) h = h
scalar-within (array t) h = tt
scalar-within (object n) h = tt

-- a text that isn't too long
abbrev pub IsText : Option (List ℕ) → Type 0
IsText None = ⊥
IsText (Some t) = IsShort t

pub text-made : (c : Content) → IsPlain c → IsSoundContent c → IsText (text_of_content c)
text-made null p h = omega arith
text-made (truth true) p h = omega arith
text-made (truth false) p h = omega arith
text-made (int i) p h = decimal-short i h
text-made (text bytes) p h = h
text-made (array t) p h = omega arith
text-made (object n) p h = absurd p

fault-made : (r : Result ℤ Fault) → IsIntMade r → IsNumberMade (or_fault r)
fault-made (Ok z) h = h
fault-made (Err x) h = tt

number-made : (c : Content) → IsSoundContent c → IsNumberMade (number_of c)
number-made null h = fault-made (int_of scalar.Null) (int_of-made scalar.Null tt)
number-made (truth b) h = fault-made (int_of (scalar.Bool b)) (int_of-made (scalar.Bool b) tt)
number-made (int i) h = fault-made (int_of (scalar.Int i)) (int_of-made (scalar.Int i) h)
number-made (text bytes) h = fault-made (int_of (scalar.Str bytes)) (int_of-made (scalar.Str bytes) h)
number-made (array t) h = tt
number-made (object n) h = tt

stop-made : (op : Op) (x y : Result ℤ Stopped) → IsNumberMade x → IsNumberMade y → IsMade (first_stop op x y)
stop-made op (Err (Ends e)) y h k = tt
stop-made op (Err (Throws kind)) y h k = tt
stop-made op (Err NoMemory) y h k = h
stop-made op (Ok x) (Err (Ends e)) h k = tt
stop-made op (Ok x) (Err (Throws kind)) h k = tt
stop-made op (Ok x) (Err NoMemory) h k = k
stop-made op (Ok x) (Ok y) h k = on_ints-made op x y h k

texts-computed : (s t : Option (List ℕ)) → IsText s → IsText t → IsComputed (joined_texts s t)
texts-computed None t h k = h
texts-computed (Some s) None h k = k
texts-computed (Some s) (Some t) h k = joined-made (s ++ t)

module _ (x y : Content) (p : IsPlain x) (q : IsPlain y) (h : IsSoundContent x) (k : IsSoundContent y) where
  numbers-computed : (op : Op) → IsMade (first_stop op (number_of x) (number_of y))
  numbers-computed op = stop-made op (number_of x) (number_of y) (number-made x h) (number-made y k)

  mixed-computed : (op : Op) → IsComputed (mixed op x y)
  mixed-computed Concat = texts-computed (text_of_content x) (text_of_content y) (text-made x p h) (text-made y q k)
  mixed-computed Add = numbers-computed Add
  mixed-computed Sub = numbers-computed Sub
  mixed-computed Mul = numbers-computed Mul
  mixed-computed Pow = numbers-computed Pow
  mixed-computed Div = numbers-computed Div
  mixed-computed Mod = numbers-computed Mod
  mixed-computed Shl = numbers-computed Shl
  mixed-computed Shr = numbers-computed Shr
  mixed-computed And = numbers-computed And
  mixed-computed Or = numbers-computed Or
  mixed-computed Xor = numbers-computed Xor

  by_scalars : (op : Op) (o r : Option Scalar) → IsValue o → IsValue r → IsComputed (operated o r op x y)
  by_scalars op (Some v) (Some w) i j = arith-made op v w i j
  by_scalars op (Some v) None i j = mixed-computed op
  by_scalars op None r i j = mixed-computed op

  pub operated-computed : (op : Op) → IsComputed (operated (scalar_of x) (scalar_of y) op x y)
  operated-computed op = by_scalars op (scalar_of x) (scalar_of y) (scalar-within x h) (scalar-within y k)

-- ---- of one operand

bit-within : (b : Bool) → IsInt (bit_of b)
bit-within true = record { sfits = omega arith }
bit-within false = record { sfits = omega arith }

as_int-computed : (r : Result ℤ Fault) → IsIntMade r → IsComputed (as_int r)
as_int-computed (Ok z) h = h
as_int-computed (Err x) h = tt

pub int-computed : (c : Content) → IsSoundContent c → IsComputed (int_of_content c)
int-computed null h = as_int-computed (int_of scalar.Null) (int_of-made scalar.Null tt)
int-computed (truth b) h = as_int-computed (int_of (scalar.Bool b)) (int_of-made (scalar.Bool b) tt)
int-computed (int i) h = as_int-computed (int_of (scalar.Int i)) (int_of-made (scalar.Int i) h)
int-computed (text bytes) h = as_int-computed (int_of (scalar.Str bytes)) (int_of-made (scalar.Str bytes) h)
int-computed (array t) h = bit-within _
int-computed (object n) h = tt

pub text-computed : (o : Option (List ℕ)) → IsText o → IsComputed (as_text o)
text-computed None h = h
text-computed (Some t) h = h

sign-made : (negative : Bool) (r : Result ℤ Stopped) → IsNumberMade r → IsMade (sign_of negative r)
sign-made negative (Ok z) h = int_result-made (signed negative z)
sign-made negative (Err (Ends x)) h = tt
sign-made negative (Err (Throws kind)) h = tt
sign-made negative (Err NoMemory) h = h

pub sign-computed : (negative : Bool) (c : Content) → IsSoundContent c → IsMade (sign_of negative (number_of c))
sign-computed negative c h = sign-made negative (number_of c) (number-made c h)

pub scalar-made : (op : Scalar → Result Scalar Stopped) (each : (v : Scalar) → IsScalarWithin v → IsMade (op v)) (kind : ErrorKind) (c : Content) → IsSoundContent c → IsMade (on_scalar op kind (scalar_of c))
scalar-made op each kind c h = by (scalar_of c) (scalar-within c h)
  where
    by : (o : Option Scalar) → IsValue o → IsMade (on_scalar op kind o)
    by None w = tt
    by (Some v) w = each v w
