use Rattle.php_lex_laws.proofs.WithinLemmas.{form_within}
use Rattle.php_lex_laws.proofs.form_lies_in_text.Goals as goal

pub returns : goal.returns
returns c = form_within
