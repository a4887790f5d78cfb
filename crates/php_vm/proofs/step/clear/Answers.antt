use Rattle.php_vm.proofs.EndingLemmas.{can_fall, falls}
use Rattle.php_vm.proofs.step.clear.Goals as goal

pub temps-standing-requires : goal.temps-standing-requires
temps-standing-requires g c = c.requires.block

pub clear_below-requires-clause-can : goal.clear_below-requires-clause-can
clear_below-requires-clause-can g c = can_fall c.args.program.now.facts c.args.frame.now c.temps-standing.result c.below_count-below.result c.below_count-below.ensures.count (g.M.Memory.means c.args.memory.now) c.temps-standing.ensures c.requires.can

pub clear_below-requires-clause-counts : goal.clear_below-requires-clause-counts
clear_below-requires-clause-counts g c = c.below_count-below.ensures.within

pub returns : goal.returns
returns g c = falls c.args.program.now.facts c.args.frame.now c.temps-standing.result c.below_count-below.result c.below_count-below.ensures.count (g.M.Memory.means c.args.memory.now) c.temps-standing.ensures (g.M.Memory.means c.clear_below.new.memory) c.clear_below.ensures
