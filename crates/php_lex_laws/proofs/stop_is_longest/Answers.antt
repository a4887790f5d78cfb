use Rattle.php_lex_laws.proofs.LongestCuts.{stop_longest, longest_stop}
use Rattle.php_lex_laws.proofs.stop_is_longest.Goals as goal

pub returns-clause-longest : goal.returns-clause-longest
returns-clause-longest c = stop_longest

pub returns-clause-back : goal.returns-clause-back
returns-clause-back c = longest_stop
