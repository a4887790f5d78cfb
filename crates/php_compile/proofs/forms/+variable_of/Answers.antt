use Rattle.php_compile.proofs.Variables.{chain_is_none, run_is_none}
use Rattle.php_compile.proofs.forms.+variable_of.Goals as goal

pub returns-else-is_empty : goal.returns-else-is_empty
returns-else-is_empty t c = rw c.in-Chain.is (chain_is_none c.in-Chain.first c.in-Chain.suffixes c.is_empty.result c.is_empty.ensures c.if-is_empty.false)

pub returns-else-is_empty-2 : goal.returns-else-is_empty-2
returns-else-is_empty-2 t c = rw c.in-Run.is (run_is_none c.in-Run.first c.in-Run.links c.is_empty-in-Run.result c.is_empty-in-Run.ensures c.if-is_empty-2.false)
