use Rattle.php_code.proofs.Examples.{code_examples}
use Rattle.php_code.proofs.laws.worked_examples.Goals as goal

pub returns : goal.returns
returns c = code_examples
