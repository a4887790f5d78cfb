use Rattle.std.proofs.Common.{◌-◌, length}
use Rattle.php_parse_signature.specs.Answer.{ParamsSoFar}
use Rattle.php_parse_signature.proofs.params.some_params.Given as goal

abbrev pub invariant-loop-params : goal.invariant-loop-params
invariant-loop-params l = ParamsSoFar l.reader.room l.reader.tokens.now l.fn.at l.params l.next

abbrev pub decreases-loop-params : goal.decreases-loop-params
decreases-loop-params l = length l.reader.tokens.now - l.next
