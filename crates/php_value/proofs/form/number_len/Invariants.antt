use Rattle.php_value.proofs.Reading.{IsReading}
use Rattle.php_value.proofs.form.number_len.Given as goal

abbrev pub invariant-loop-i : goal.invariant-loop-i
invariant-loop-i l = IsReading l.bytes l.i l.place l.found
