use Rattle.std.proofs.Common.{Some, sym, subst}
use Rattle.php_actions.specs.Operators.{finish_one}
use Rattle.php_vm_actions.specs.Acting.{frame_of}
use Rattle.php_vm_actions.specs.Operands.{Tells, one_of}
use Rattle.php_vm_actions.proofs.OperatorLemmas.{can_look_at_one, can_finish_one, acts_one_told, tells_one, one_same_in}
use Rattle.php_vm_actions.proofs.operators.on_one.Goals as goal

pub operand_at-requires : goal.operand_at-requires
operand_at-requires g c = can_look_at_one (g.M.Memory.means c.args.memory.now) (g.M.Memory.means c.args.memory.now) (frame_of c.args.frame.now) (λ d x. finish_one (one_of c.args.action.now x) (frame_of c.args.frame.now) d) (λ t d. finish_one (Some t) (frame_of c.args.frame.now) d) c.requires

pub finish_one-requires : goal.finish_one-requires
finish_one-requires g c =
    can_finish_one (g.M.Memory.means c.args.memory.now) (g.M.Memory.means c.args.memory.now) (frame_of c.args.frame.now) (λ d x. finish_one (one_of c.args.action.now x) (frame_of c.args.frame.now) d) (λ t d. finish_one (Some t) (frame_of c.args.frame.now) d) c.computed-told.result
    (λ d r x e. tells_one (frame_of c.args.frame.now) d c.computed-told.result (one_of c.args.action.now x) (subst (Tells c.computed-told.result) (sym (one_same_in c.args.action.now c.in-Ok.operand x (c.in-Ok.ensures d.mem r.mem x e))) c.computed-told.ensures)) c.requires

pub returns : goal.returns
returns g c =
    acts_one_told (g.M.Memory.means c.args.memory.now) (g.M.Memory.means c.finish_one.new.memory) (frame_of c.args.frame.now) (λ d x. finish_one (one_of c.args.action.now x) (frame_of c.args.frame.now) d) (λ t d. finish_one (Some t) (frame_of c.args.frame.now) d) c.computed-told.result c.finish_one.result
    (λ d r x e. tells_one (frame_of c.args.frame.now) d c.computed-told.result (one_of c.args.action.now x) (subst (Tells c.computed-told.result) (sym (one_same_in c.args.action.now c.in-Ok.operand x (c.in-Ok.ensures d.mem r.mem x e))) c.computed-told.ensures)) c.finish_one.ensures
