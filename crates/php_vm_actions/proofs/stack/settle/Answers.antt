use Rattle.php_vm_actions.specs.Acting.{frame_of}
use Rattle.php_vm_actions.proofs.ActLemmas.{acts_settle}
use Rattle.php_vm_actions.proofs.stack.settle.Goals as goal

pub returns-in-Ok : goal.returns-in-Ok
returns-in-Ok g c =
    acts_settle (g.M.Memory.means c.args.memory.now) (g.M.Memory.means c.settle.new.self) (frame_of c.args.frame.now) c.is_link.result c.is_link.ensures c.if-not-is_link.false
    c.in-Ok.ensures.ok
