use Rattle.std.proofs.Common.{◌≡◌, ◌+◌, ◌-◌, ◌≤◌, length, drop}
use Rattle.std.specs.List.{prefix_len}
use Rattle.php_lex_pieces.specs.Bytes.{is_in}
use Rattle.php_lex_pieces.proofs.bytes.run.Given as goal

abbrev pub invariant-loop-end : goal.invariant-loop-end
invariant-loop-end l = record {
  counted : (l.end - l.at) + prefix_len (is_in l.class) (drop l.end l.text) ≡ prefix_len (is_in l.class) (drop l.at l.text);
  rises : l.at ≤ l.end;
  within : l.at ≤ length l.text → l.end ≤ length l.text;
}

abbrev pub decreases-loop-end : goal.decreases-loop-end
decreases-loop-end l = length l.text - l.end
