use Rattle.php_actions.proofs.Examples.{stack_examples, place_examples, operator_examples, output_examples, other_examples, plan_examples, run_examples}
use Rattle.php_actions.proofs.laws.worked_examples.Goals as goal

pub returns-clause-stack : goal.returns-clause-stack
returns-clause-stack c = stack_examples

pub returns-clause-places : goal.returns-clause-places
returns-clause-places c = place_examples

pub returns-clause-operators : goal.returns-clause-operators
returns-clause-operators c = operator_examples

pub returns-clause-output : goal.returns-clause-output
returns-clause-output c = output_examples

pub returns-clause-other : goal.returns-clause-other
returns-clause-other c = other_examples

pub returns-clause-plan : goal.returns-clause-plan
returns-clause-plan c = plan_examples

pub returns-clause-runs : goal.returns-clause-runs
returns-clause-runs c = run_examples
