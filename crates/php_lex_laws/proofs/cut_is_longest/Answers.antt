use Rattle.php_lex_laws.proofs.LongestCuts.{cut_longest, longest_cut}
use Rattle.php_lex_laws.proofs.cut_is_longest.Goals as goal

pub returns-clause-longest : goal.returns-clause-longest
returns-clause-longest c = cut_longest

pub returns-clause-back : goal.returns-clause-back
returns-clause-back c = longest_cut
