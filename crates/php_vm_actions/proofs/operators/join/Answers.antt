use Rattle.std.proofs.Common.{refl, sym, ◌∙◌}
use Rattle.php_vm_actions.specs.Acting.{frame_of}
use Rattle.php_vm_actions.proofs.JoinLemmas.{can_join, joins_limit, can_put_joined, acts_joined}
use Rattle.php_vm_actions.proofs.operators.join.Goals as goal

pub joined_texts-requires : goal.joined_texts-requires
joined_texts-requires g c = can_join (g.M.Memory.means c.args.memory.now) (g.M.Memory.means c.args.memory.now) (frame_of c.args.frame.now) c.args.count c.requires

pub returns-then-is_too_long : goal.returns-then-is_too_long
returns-then-is_too_long g c = joins_limit (g.M.Memory.means c.args.memory.now) (g.M.Memory.means c.args.memory.now) (frame_of c.args.frame.now) c.args.count c.in-Ok.bytes.items c.in-Ok.ensures _ refl (sym c.is_too_long.ensures ∙ c.if-is_too_long.true)

pub put_joined-requires : goal.put_joined-requires
put_joined-requires g c = can_put_joined (g.M.Memory.means c.args.memory.now) (g.M.Memory.means c.args.memory.now) (frame_of c.args.frame.now) c.args.count c.in-Ok.bytes.items c.in-Ok.ensures c.in-Ok-from_vec.text c.in-Ok-from_vec.ensures (sym c.is_too_long.ensures ∙ c.if-is_too_long.false) c.requires

pub returns-in-Ok-from_vec : goal.returns-in-Ok-from_vec
returns-in-Ok-from_vec g c =
    acts_joined (g.M.Memory.means c.args.memory.now) (g.M.Memory.means c.put_joined.new.memory) (frame_of c.args.frame.now) c.args.count c.in-Ok.bytes.items c.in-Ok.ensures c.in-Ok-from_vec.text c.in-Ok-from_vec.ensures (sym c.is_too_long.ensures ∙ c.if-is_too_long.false) c.put_joined.result c.put_joined.ensures
