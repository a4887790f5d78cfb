use Rattle.std.proofs.Common.{◌≡◌, ◌+◌, ◌-◌, ◌≤◌, length, drop, false}
use Rattle.php_lex_pieces.specs.Comments.{raw_len}
use Rattle.php_lex_pieces.proofs.comments.raw_len.Given as goal

abbrev pub invariant-loop-distance : goal.invariant-loop-distance
invariant-loop-distance l = record {
  counted : l.end + raw_len false (drop l.end l.text) ≡ raw_len false l.text;
  within : l.end ≤ length l.text;
}

abbrev pub decreases-loop-distance : goal.decreases-loop-distance
decreases-loop-distance l = length l.text - l.end
