use Rattle.std.proofs.Common.{refl}
use Rattle.php_memdef.specs.Operations as op
use Rattle.php_memdef.specs.Operations.{effect}
use Rattle.php_vm_actions.specs.Acting.{frame_of}
use Rattle.php_vm_actions.proofs.OperatorLemmas.{can_two_throws, two_throws}
use Rattle.php_vm_actions.proofs.operators.throw_two.Goals as goal

pub turn-requires : goal.turn-requires
turn-requires g c = let t = can_two_throws (g.M.Memory.means c.args.memory.now) (g.M.Memory.means c.args.memory.now) (frame_of c.args.frame.now) c.args.kind c.requires in (t.0, t.1, t.2.0)

pub drops-requires : goal.drops-requires
drops-requires g c =
    let t = can_two_throws (g.M.Memory.means c.args.memory.now) (g.M.Memory.means c.args.memory.now) (frame_of c.args.frame.now) c.args.kind c.requires in
    (effect (op.turn c.args.frame.now.block.0 2) t.0, c.turn.ensures.effect t.0 t.1, t.2.1)

pub returns : goal.returns
returns g c =
    two_throws (g.M.Memory.means c.args.memory.now) (g.M.Memory.means c.drops.new.memory) (frame_of c.args.frame.now) c.args.kind c.empty.result c.args.frame.now.line c.empty.ensures refl (λ m h. c.drops.ensures (effect (op.turn c.args.frame.now.block.0 2) m) (c.turn.ensures.effect m h))
