use Rattle.std.proofs.Common.{Some}
use Rattle.php_actions.specs.Operators.{finish_one}
use Rattle.php_actions.specs.Comparisons.{compared_as}
use Rattle.php_actions.specs.declared.relation.Relation.TheVariants.{Equal}
use Rattle.php_compare.specs.Ordering.{order_in}
use Rattle.php_vm_actions.specs.Acting.{frame_of}
use Rattle.php_vm_actions.proofs.OperatorLemmas.{can_look_at_two, can_finish_two, acts_two, tells_one}
use Rattle.php_vm_actions.proofs.operators.test_case.Goals as goal

pub compared-told-requires : goal.compared-told-requires
compared-told-requires g c = can_look_at_two (g.M.Memory.means c.args.memory.now) (g.M.Memory.means c.args.memory.now) (frame_of c.args.frame.now) (λ d x y. finish_one (Some (compared_as Equal (order_in d.mem x y))) (frame_of c.args.frame.now) d) (λ t d. finish_one (Some t) (frame_of c.args.frame.now) d) c.requires

pub finish_one-requires : goal.finish_one-requires
finish_one-requires g c = can_finish_two (g.M.Memory.means c.args.memory.now) (g.M.Memory.means c.args.memory.now) (frame_of c.args.frame.now) (λ d x y. finish_one (Some (compared_as Equal (order_in d.mem x y))) (frame_of c.args.frame.now) d) (λ t d. finish_one (Some t) (frame_of c.args.frame.now) d) c.compared-told.result (λ d r x y e k. tells_one (frame_of c.args.frame.now) d c.compared-told.result _ (c.compared-told.ensures d.mem r.mem x y e k)) c.requires

pub returns : goal.returns
returns g c = acts_two (g.M.Memory.means c.args.memory.now) (g.M.Memory.means c.finish_one.new.memory) (frame_of c.args.frame.now) (λ d x y. finish_one (Some (compared_as Equal (order_in d.mem x y))) (frame_of c.args.frame.now) d) (λ t d. finish_one (Some t) (frame_of c.args.frame.now) d) c.compared-told.result c.finish_one.result (λ d r x y e k. tells_one (frame_of c.args.frame.now) d c.compared-told.result _ (c.compared-told.ensures d.mem r.mem x y e k)) c.finish_one.ensures
