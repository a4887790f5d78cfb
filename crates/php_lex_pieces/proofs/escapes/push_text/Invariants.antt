use Rattle.std.proofs.Common.{◌≡◌, ◌-◌, ◌≤◌, ◌++◌, length, drop}
use Rattle.php_lex_pieces.specs.Delimiters.{delimiter_of}
use Rattle.php_lex_pieces.specs.Templates.{text_value}
use Rattle.php_lex_pieces.proofs.escapes.push_text.Given as goal

abbrev pub invariant-loop-at : goal.invariant-loop-at
invariant-loop-at l = record {
  told : l.out.items ++ text_value (delimiter_of l.by) (drop l.at l.text) ≡ l.fn.out.items ++ text_value (delimiter_of l.by) l.text;
  within : l.at ≤ length l.text;
}

abbrev pub decreases-loop-at : goal.decreases-loop-at
decreases-loop-at l = length l.text - l.at
