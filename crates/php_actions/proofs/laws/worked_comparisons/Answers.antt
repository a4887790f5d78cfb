use Rattle.php_actions.proofs.ComparisonExamples.{comparison_examples}
use Rattle.php_actions.proofs.laws.worked_comparisons.Goals as goal

pub returns : goal.returns
returns c = comparison_examples
