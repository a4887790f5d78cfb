use Rattle.std.proofs.Common.{refl}
use Rattle.php_vm.proofs.EndingLemmas.{can_unserve, unserved_moves}
use Rattle.php_vm.proofs.step.unserve.Goals as goal

pub clear-requires-clause-block : goal.clear-requires-clause-block
clear-requires-clause-block g c = (c.requires.here.mem, c.requires.stands.mem, c.requires.stands.block)

pub clear-requires-clause-can : goal.clear-requires-clause-can
clear-requires-clause-can g c = can_unserve c.args.program.now.facts (g.M.Memory.means c.args.memory.now) (g.M.Memory.means c.args.memory.now) c.args.state.now c.requires

pub returns-clause-moves : goal.returns-clause-moves
returns-clause-moves g c written = unserved_moves c.args.program.now.facts (g.M.Memory.means c.args.memory.now) (g.M.Memory.means c.clear.new.memory) c.args.state.now _ refl refl refl c.clear.ensures written

pub returns-clause-faults : goal.returns-clause-faults
returns-clause-faults g c n = refl
