use Rattle.std.proofs.Common.{◌≡◌, ◌+◌, ◌-◌, ◌≤◌, length, drop}
use Rattle.php_lex_pieces.specs.Bytes.{len_before}
use Rattle.php_lex_pieces.specs.Comments.{ends_comment}
use Rattle.php_lex_pieces.proofs.comments.line_comment_len.Given as goal

abbrev pub invariant-loop-end : goal.invariant-loop-end
invariant-loop-end l = record {
  counted : l.end + len_before ends_comment (drop l.end l.text) ≡ l.start + len_before ends_comment (drop l.start l.text);
  rises : l.start ≤ l.end;
  within : l.end ≤ length l.text;
}

abbrev pub decreases-loop-end : goal.decreases-loop-end
decreases-loop-end l = length l.text - l.end
