use Rattle.php_runnable_code.proofs.CodeLemmas.{can-begin}
use Rattle.php_runnable_code.proofs.laws.runs_can_begin.Goals as goal

pub returns : goal.returns
returns g c program allowance words are some m = can-begin program allowance words c.args.block are some (g.M.Memory.means c.args.memory.now) m
