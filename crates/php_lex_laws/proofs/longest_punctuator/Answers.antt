use Rattle.php_lex_laws.proofs.SignLemmas.{longest_sign}
use Rattle.php_lex_laws.proofs.longest_punctuator.Goals as goal

pub returns : goal.returns
returns c = longest_sign
