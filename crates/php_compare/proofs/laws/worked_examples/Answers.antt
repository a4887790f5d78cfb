use Rattle.php_compare.proofs.Examples.{plain_examples, array_examples, object_examples, nesting_examples}
use Rattle.php_compare.proofs.laws.worked_examples.Goals as goal

pub returns-clause-plain : goal.returns-clause-plain
returns-clause-plain c = plain_examples

pub returns-clause-arrays : goal.returns-clause-arrays
returns-clause-arrays c = array_examples

pub returns-clause-objects : goal.returns-clause-objects
returns-clause-objects c = object_examples

pub returns-clause-nesting : goal.returns-clause-nesting
returns-clause-nesting c = nesting_examples
