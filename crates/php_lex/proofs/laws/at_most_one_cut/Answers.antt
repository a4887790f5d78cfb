use Rattle.php_lex.proofs.CutLemmas.{one_cut}
use Rattle.php_lex.proofs.laws.at_most_one_cut.Goals as goal

pub returns : goal.returns
returns c = one_cut
