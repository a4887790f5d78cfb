use Rattle.php_memplain_copy.proofs.AgreeLemmas.{content_agrees}
use Rattle.php_memplain_copy.proofs.laws.copies_agree.Goals as goal

pub returns : goal.returns
returns c = λ levels m x d stores closed live copies. content_agrees levels m closed x live d stores copies
