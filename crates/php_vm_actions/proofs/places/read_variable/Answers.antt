use Rattle.php_vm_actions.specs.Acting.{frame_of}
use Rattle.php_vm_actions.proofs.VariableLemmas.{can_read, acts_found, can_push_null, acts_absent}
use Rattle.php_vm_actions.proofs.places.read_variable.Goals as goal

pub copy-requires : goal.copy-requires
copy-requires g c = can_read (g.M.Memory.means c.args.memory.now) (g.M.Memory.means c.args.memory.now) (frame_of c.args.frame.now) c.args.name.0 c.variable-place.result c.variable-place.ensures c.requires

pub returns-in-Ok-Found : goal.returns-in-Ok-Found
returns-in-Ok-Found g c = acts_found (g.M.Memory.means c.args.memory.now) (g.M.Memory.means c.copy.new.self) (frame_of c.args.frame.now) c.args.name.0 c.variable-place.result c.variable-place.ensures (rw c.in-Ok-Found.field-0-is at c.in-Ok-Found.ensures.ok)

pub push-requires : goal.push-requires
push-requires g c = can_push_null (g.M.Memory.means c.args.memory.now) (g.M.Memory.means c.copy.new.self) (frame_of c.args.frame.now) c.args.name.0 c.variable-place.result c.variable-place.ensures (rw c.in-Ok-Absent.field-0-is at c.in-Ok-Absent.ensures.ok) c.requires

pub returns-in-Ok-Absent : goal.returns-in-Ok-Absent
returns-in-Ok-Absent g c = acts_absent (g.M.Memory.means c.args.memory.now) (g.M.Memory.means c.copy.new.self) (frame_of c.args.frame.now) c.args.name.0 c.variable-place.result c.variable-place.ensures (g.M.Memory.means c.push.new.self) (rw c.in-Ok-Absent.field-0-is at c.in-Ok-Absent.ensures.ok) c.push.ensures.effect
