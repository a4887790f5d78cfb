use Rattle.std.proofs.Common.{refl}
use Rattle.php_vm.proofs.EndingLemmas.{can_end_body, body_moves}
use Rattle.php_vm.proofs.step.end_body.Goals as goal

pub push-requires : goal.push-requires
push-requires g c = can_end_body (g.M.Memory.means c.args.memory.now) (g.M.Memory.means c.args.memory.now) c.args.state.now c.requires

pub returns-clause-moves : goal.returns-clause-moves
returns-clause-moves g c written = body_moves (g.M.Memory.means c.args.memory.now) (g.M.Memory.means c.push.new.self) c.args.state.now _ refl refl refl c.push.ensures.effect written

pub returns-clause-faults : goal.returns-clause-faults
returns-clause-faults g c n = refl
