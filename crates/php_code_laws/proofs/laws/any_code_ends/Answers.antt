use Rattle.php_code_laws.proofs.EndLemmas.{all_end}
use Rattle.php_code_laws.proofs.laws.any_code_ends.Goals as goal

pub returns : goal.returns
returns c = λ facts program ns d cs kept. all_end facts program ns kept d cs
