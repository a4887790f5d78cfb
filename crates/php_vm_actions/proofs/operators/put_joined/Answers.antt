use Rattle.php_vm_actions.specs.Acting.{frame_of}
use Rattle.php_vm_actions.proofs.JoinLemmas.{can_drops, acts_put}
use Rattle.php_vm_actions.proofs.operators.put_joined.Goals as goal

pub drops-requires : goal.drops-requires
drops-requires g c = (can_drops (g.M.Memory.means c.args.memory.now) (g.M.Memory.means c.args.memory.now) (frame_of c.args.frame.now) c.args.count c.args.text c.requires).0

pub push-requires : goal.push-requires
push-requires g c = let t = (can_drops (g.M.Memory.means c.args.memory.now) (g.M.Memory.means c.args.memory.now) (frame_of c.args.frame.now) c.args.count c.args.text c.requires).1 (g.M.Memory.means c.drops.new.memory) c.drops.ensures in (t.0, t.1, t.2.0)

pub returns : goal.returns
returns g c = acts_put (g.M.Memory.means c.args.memory.now) (g.M.Memory.means c.push.new.self) (frame_of c.args.frame.now) c.args.count c.args.text (g.M.Memory.means c.drops.new.memory) c.drops.ensures c.push.ensures.effect
