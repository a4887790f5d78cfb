use Rattle.std.proofs.Common.{◌≡◌, ◌+◌, ◌-◌, ◌≤◌, length, take, drop}
use Rattle.php_lex.specs.Lines.{line_len}
use Rattle.php_lex.specs.Reading.{lines_after}
use Rattle.php_lex.proofs.lines.line_behind.Given as goal

abbrev pub invariant-loop-end : goal.invariant-loop-end
invariant-loop-end l = record {
  counted : lines_after l.number (take (l.to - l.begin) (drop l.begin l.text)) ≡ lines_after l.fn.line.number (take (l.to - l.at) (drop l.at l.text));
  is : l.end ≡ l.begin + line_len (drop l.begin l.text);
  begins : l.at ≤ l.begin;
  rises : l.begin ≤ l.to;
  within : l.end ≤ length l.text;
  few : l.number ≤ l.fn.line.number + (l.begin - l.at);
}

abbrev pub decreases-loop-end : goal.decreases-loop-end
decreases-loop-end l = l.to - l.begin
