use Rattle.std.proofs.Common.{◌-◌, length}
use Rattle.php_parse_script.specs.Answer.{WordsSoFar}
use Rattle.php_parse_script.proofs.headings.class_words.Given as goal

abbrev pub invariant-loop-words : goal.invariant-loop-words
invariant-loop-words l = WordsSoFar l.reader.room l.reader.tokens.now l.fn.at l.words l.next

abbrev pub decreases-loop-words : goal.decreases-loop-words
decreases-loop-words l = length l.reader.tokens.now - l.next
