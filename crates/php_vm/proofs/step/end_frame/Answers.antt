use Rattle.std.proofs.Common.{refl}
use Rattle.php_vm.proofs.EndingLemmas.{can_shed, shed_moves, may_rest, rest_moves}
use Rattle.php_vm.proofs.step.end_frame.Goals as goal

pub shed-requires : goal.shed-requires
shed-requires g c = can_shed c.args.program.now.facts c.args.state.now (g.M.Memory.means c.args.memory.now) c.requires

pub returns-then-shed-clause-moves : goal.returns-then-shed-clause-moves
returns-then-shed-clause-moves g c = shed_moves c.args.program.now.facts c.args.state.now (g.M.Memory.means c.args.memory.now) (g.M.Memory.means c.shed.new.self) c.shed.result c.shed.ensures.effect c.if-shed.true

pub returns-then-shed-clause-faults : goal.returns-then-shed-clause-faults
returns-then-shed-clause-faults g c n = refl

pub end_rest-requires : goal.end_rest-requires
end_rest-requires g c = may_rest c.args.program.now.facts c.args.state.now (g.M.Memory.means c.args.memory.now) (g.M.Memory.means c.shed.new.self) c.shed.result c.shed.ensures.effect c.if-shed.false c.requires

pub returns-clause-moves : goal.returns-clause-moves
returns-clause-moves g c written =
    rest_moves c.args.program.now.facts c.args.state.now (g.M.Memory.means c.args.memory.now) (g.M.Memory.means c.shed.new.self) c.shed.result c.shed.ensures.effect c.if-shed.false (g.M.Memory.means c.end_rest.new.memory) written c.end_rest.result (c.end_rest.ensures.moves written)

pub returns-clause-faults : goal.returns-clause-faults
returns-clause-faults g c n = c.end_rest.ensures.faults n
