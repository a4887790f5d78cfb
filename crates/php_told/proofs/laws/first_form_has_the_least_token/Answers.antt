use Rattle.php_told.proofs.LeastLemmas.{first_is_least}
use Rattle.php_told.proofs.laws.first_form_has_the_least_token.Goals as goal

pub returns : goal.returns
returns c = first_is_least
