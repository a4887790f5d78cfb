use Rattle.std.proofs.Common.{arith}
use Rattle.php_vm_callers.proofs.WordLemmas.{arguments-decided, too_many}
use Rattle.php_vm_callers.proofs.arguments.are_arguments.Goals as goal

pub returns-then-words-le-MOST_WORDS : goal.returns-then-words-le-MOST_WORDS
returns-then-words-le-MOST_WORDS c = arguments-decided c.args.words.now c.are_short.result (omega arith) c.are_short.ensures

pub returns-else-words-le-MOST_WORDS : goal.returns-else-words-le-MOST_WORDS
returns-else-words-le-MOST_WORDS c = too_many c.args.words.now (omega arith)
