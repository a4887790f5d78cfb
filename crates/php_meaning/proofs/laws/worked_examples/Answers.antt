use Rattle.php_meaning.proofs.Examples.{meaning_examples}
use Rattle.php_meaning.proofs.laws.worked_examples.Goals as goal

pub returns : goal.returns
returns c = meaning_examples
