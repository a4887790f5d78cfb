use Rattle.std.proofs.Common.{Some, sym, ◌∙◌}
use Rattle.php_actions.specs.Operators.{finish_two, operate_on}
use Rattle.php_vm_actions.specs.Acting.{frame_of}
use Rattle.php_vm_actions.proofs.OperatorLemmas.{can_look_at_two, can_finish_two, acts_two, operate_comes}
use Rattle.php_vm_actions.proofs.operators.operate.Goals as goal

pub two_operands-requires : goal.two_operands-requires
two_operands-requires g c = can_look_at_two (g.M.Memory.means c.args.memory.now) (g.M.Memory.means c.args.memory.now) (frame_of c.args.frame.now) (λ d x y. operate_on c.args.op x y (frame_of c.args.frame.now) d) (λ t d. finish_two (Some t) (frame_of c.args.frame.now) d) c.requires

pub finish_two-requires : goal.finish_two-requires
finish_two-requires g c = can_finish_two (g.M.Memory.means c.args.memory.now) (g.M.Memory.means c.args.memory.now) (frame_of c.args.frame.now) (λ d x y. operate_on c.args.op x y (frame_of c.args.frame.now) d) (λ t d. finish_two (Some t) (frame_of c.args.frame.now) d) c.operated-told.result (λ d r x y e k. let s = c.in-Ok.ensures d.mem r.mem x y e k in operate_comes c.in-Ok.two.left c.in-Ok.two.right x y (frame_of c.args.frame.now) d s.0 s.1 c.args.op c.operated-told.result (sym c.unites.ensures ∙ c.if-unites.false) c.operated-told.ensures) c.requires

pub returns : goal.returns
returns g c = acts_two (g.M.Memory.means c.args.memory.now) (g.M.Memory.means c.finish_two.new.memory) (frame_of c.args.frame.now) (λ d x y. operate_on c.args.op x y (frame_of c.args.frame.now) d) (λ t d. finish_two (Some t) (frame_of c.args.frame.now) d) c.operated-told.result c.finish_two.result (λ d r x y e k. let s = c.in-Ok.ensures d.mem r.mem x y e k in operate_comes c.in-Ok.two.left c.in-Ok.two.right x y (frame_of c.args.frame.now) d s.0 s.1 c.args.op c.operated-told.result (sym c.unites.ensures ∙ c.if-unites.false) c.operated-told.ensures) c.finish_two.ensures
