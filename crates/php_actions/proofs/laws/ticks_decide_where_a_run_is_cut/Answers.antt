use Rattle.php_actions.proofs.OutputRules.{only_writes-lem}
use Rattle.php_actions.proofs.AllowanceRules.{allows-lem}
use Rattle.php_actions.proofs.laws.ticks_decide_where_a_run_is_cut.Goals as goal

pub returns-clause-only_writes : goal.returns-clause-only_writes
returns-clause-only_writes c = only_writes-lem

pub returns-clause-allows : goal.returns-clause-allows
returns-clause-allows c = allows-lem
