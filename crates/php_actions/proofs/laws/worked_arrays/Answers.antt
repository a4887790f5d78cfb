use Rattle.php_actions.proofs.ArrayExamples.{array_examples, union_is_too_large}
use Rattle.php_actions.proofs.laws.worked_arrays.Goals as goal

pub returns-clause-examples : goal.returns-clause-examples
returns-clause-examples c = array_examples

pub returns-clause-limit : goal.returns-clause-limit
returns-clause-limit c = union_is_too_large
