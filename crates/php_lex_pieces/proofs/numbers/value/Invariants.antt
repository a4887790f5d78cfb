use Rattle.std.proofs.Common.{◌≡◌, ◌≤◌, ◌+◌, drop}
use Rattle.php_lex_pieces.specs.Numbers as spec
use Rattle.php_lex_pieces.proofs.numbers.value.Given as goal

abbrev pub invariant-loop-b : goal.invariant-loop-b
invariant-loop-b l = record {
  goes_on : spec.value_from l.base l.n (drop l.b-index l.digits) ≡ spec.value l.base l.digits;
  small : l.n ≤ l.limit + 256;
}
