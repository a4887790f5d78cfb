use Rattle.std.proofs.Common.{◌≡◌, ◌+◌, ◌-◌, ◌≤◌, length, drop}
use Rattle.php_lex_pieces.specs.Bytes.{len_before}
use Rattle.php_lex_pieces.specs.Comments.{ends_block}
use Rattle.php_lex_pieces.proofs.comments.block_end.Given as goal

abbrev pub invariant-loop-end : goal.invariant-loop-end
invariant-loop-end l = record {
  counted : l.end + len_before ends_block (drop l.end l.text) ≡ 2 + len_before ends_block (drop 2 l.text);
  rises : 2 ≤ l.end;
  within : l.end ≤ length l.text;
}

abbrev pub decreases-loop-end : goal.decreases-loop-end
decreases-loop-end l = length l.text - l.end
