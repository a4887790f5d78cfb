use Rattle.std.proofs.Common.{◌≡◌, ◌+◌, ◌-◌, ◌≤◌, length, drop}
use Rattle.php_lex.specs.Entry.{AllWithin, tokens_in}
use Rattle.php_lex.specs.Lines.{IsLineAt}
use Rattle.php_lex.specs.Reading.{put_before, read_from, tokens}
use Rattle.php_lex.proofs.CutLemmas.{CutTo}
use Rattle.php_lex.proofs.lexer.lex.Given as goal

abbrev pub invariant-loop-at : goal.invariant-loop-at
invariant-loop-at l = record {
  kept : AllWithin (length l.out.decoded.items) l.out.entries.items;
  read : put_before (tokens_in l.out.decoded.items l.out.entries.items) (read_from 0 l.modes l.line.number (drop l.at l.src)) ≡ tokens l.src;
  within : l.at ≤ length l.src;
  lines : l.line.number ≤ l.at + 1;
  ends : IsLineAt l.src l.at l.line;
  cut : CutTo l.src l.at l.modes l.line.number (tokens_in l.out.decoded.items l.out.entries.items);
}

abbrev pub decreases-loop-at : goal.decreases-loop-at
decreases-loop-at l = length l.src - l.at
