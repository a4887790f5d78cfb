use Rattle.std.proofs.Common.{◌≡◌, true, drop}
use Rattle.std.specs.List.{list_all}
use Rattle.php_run.specs.Numerals.{is_digit, numeral, numeral_from}
use Rattle.php_run.proofs.words.digits_value.Given as goal

-- the value so far, taken on over the digits that are left, is that of all
abbrev pub invariant-loop-digit : goal.invariant-loop-digit
invariant-loop-digit l = record {
  value_so_far : numeral_from l.value (drop l.digit-index l.digits) ≡ numeral l.digits;
  digits_left : list_all is_digit (drop l.digit-index l.digits) ≡ true;
}
