use Rattle.std.proofs.Common.{refl}
use Rattle.php_vm_actions.specs.Acting.{frame_of}
use Rattle.php_vm_actions.proofs.VariableLemmas.{acts_done, acts_full, acts_limit}
use Rattle.php_vm_actions.proofs.places.move_into.Goals as goal

pub returns-in-Ok-Done : goal.returns-in-Ok-Done
returns-in-Ok-Done g c = acts_done (g.M.Memory.means c.args.memory.now) (g.M.Memory.means c.assign.new.self) (frame_of c.args.frame.now) c.args.name.0 c.variable-place.result c.variable-place.ensures (rw c.in-Ok-Done.field-0-is at c.in-Ok-Done.ensures.ok)

pub returns-in-Ok-Full : goal.returns-in-Ok-Full
returns-in-Ok-Full g c = acts_full (g.M.Memory.means c.args.memory.now) (g.M.Memory.means c.assign.new.self) (frame_of c.args.frame.now) c.args.name.0 c.variable-place.result c.variable-place.ensures _ _ c.empty.ensures refl (rw c.in-Ok-Full.field-0-is at c.in-Ok-Full.ensures.ok)

pub returns-in-Ok-Limit : goal.returns-in-Ok-Limit
returns-in-Ok-Limit g c = acts_limit (g.M.Memory.means c.args.memory.now) (g.M.Memory.means c.assign.new.self) (frame_of c.args.frame.now) c.args.name.0 c.variable-place.result c.variable-place.ensures _ refl (rw c.in-Ok-Limit.field-0-is at c.in-Ok-Limit.ensures.ok)
