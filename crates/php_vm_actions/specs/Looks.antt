-- What a look at a temporary shows.
use Rattle.std.specs.Prelude.{nat_lt, Bool, true, false}
use Rattle.php_value.specs.declared.scalar.Scalar.TheVariants as scalar
use Rattle.php_value.specs.Conversion.{bool_of}
use Rattle.php_memdef.specs.declared.answer.Peek.{Peek}
use Rattle.php_memdef.specs.declared.answer.Peek.TheVariants.{Absent, Null, Bool as Truth, Int, Str, Arr, Obj}
use Rattle.php_vm_actions.specs.declared.operands.Operand.{Operand}
use Rattle.php_vm_actions.specs.declared.operands.Operand.TheVariants as operand_is

-- what is missing counts as null
abbrev pub operand_seen : Peek → Operand
operand_seen Absent = operand_is.Scalar scalar.Null
operand_seen Null = operand_is.Scalar scalar.Null
operand_seen (Truth b) = operand_is.Scalar (scalar.Bool b)
operand_seen (Int i) = operand_is.Scalar (scalar.Int i)
operand_seen (Str t) = operand_is.Scalar (scalar.Str t.now)
operand_seen (Arr n) = operand_is.Array (nat_lt 0 n)
operand_seen (Obj h) = operand_is.Object

abbrev pub truth_seen : Peek → Bool
truth_seen Absent = false
truth_seen Null = false
truth_seen (Truth b) = b
truth_seen (Int i) = bool_of (scalar.Int i)
truth_seen (Str t) = bool_of (scalar.Str t.now)
truth_seen (Arr n) = nat_lt 0 n
truth_seen (Obj h) = true

abbrev pub null_seen : Peek → Bool
null_seen Absent = true
null_seen Null = true
null_seen (Truth b) = false
null_seen (Int i) = false
null_seen (Str t) = false
null_seen (Arr n) = false
null_seen (Obj h) = false
