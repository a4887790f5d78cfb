use Rattle.std.proofs.Common.{◌≡◌, ◌-◌, ◌≤◌, ◌++◌, false, length, drop}
use Rattle.php_lex_pieces.specs.Comments.{raw_value}
use Rattle.php_lex.proofs.tokens.push_raw.Given as goal

abbrev pub invariant-loop-at : goal.invariant-loop-at
invariant-loop-at l = record {
  told : l.out.items ++ raw_value false (drop l.at l.text) ≡ l.fn.out.items ++ raw_value false l.text;
  within : l.at ≤ length l.text;
}

abbrev pub decreases-loop-at : goal.decreases-loop-at
decreases-loop-at l = length l.text - l.at
