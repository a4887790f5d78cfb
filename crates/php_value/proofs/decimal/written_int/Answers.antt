use Rattle.std.proofs.Common.{ap}
use Rattle.php_value.specs.Decimal.{written_int}
use Rattle.php_value.proofs.Numerals.{parsed, unreadable}
use Rattle.php_value.proofs.decimal.written_int.Goals as goal

pub returns-in-Ok : goal.returns-in-Ok
returns-in-Ok c = rw c.ok.ensures.value (rw (parsed c.in-Ok.text.now c.parse.result c.parse.ensures.value.0) (ap written_int c.in-Ok.ensures.cases.0))

pub returns-in-Err : goal.returns-in-Err
returns-in-Err c = unreadable c.args.bytes.now c.in-Err.ensures.cases.0
