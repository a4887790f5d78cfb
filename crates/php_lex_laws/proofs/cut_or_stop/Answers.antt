use Rattle.php_lex_laws.proofs.ExistenceLemmas as existence
use Rattle.php_lex_laws.proofs.cut_or_stop.Goals as goal

pub returns : goal.returns
returns c = existence.cut_or_stop
