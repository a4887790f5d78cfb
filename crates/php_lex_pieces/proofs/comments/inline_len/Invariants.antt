use Rattle.std.proofs.Common.{◌≡◌, ◌+◌, ◌-◌, ◌≤◌, length, drop}
use Rattle.php_lex_pieces.specs.Bytes.{len_before}
use Rattle.php_lex_pieces.specs.Comments.{begins_tag}
use Rattle.php_lex_pieces.proofs.comments.inline_len.Given as goal

abbrev pub invariant-loop-end : goal.invariant-loop-end
invariant-loop-end l = record {
  counted : l.end + len_before begins_tag (drop l.end l.text) ≡ 0 + len_before begins_tag (drop 0 l.text);
  rises : 0 ≤ l.end;
  within : l.end ≤ length l.text;
}

abbrev pub decreases-loop-end : goal.decreases-loop-end
decreases-loop-end l = length l.text - l.end
