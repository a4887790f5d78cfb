use Rattle.std.proofs.Common.{Some, Ok}
use Rattle.php_value.specs.declared.scalar.Scalar.TheVariants as scalar
use Rattle.php_actions.specs.Operators.{finish_two, differ}
use Rattle.php_actions.specs.Contents.{truth_of}
use Rattle.php_vm_actions.specs.Acting.{frame_of}
use Rattle.php_vm_actions.proofs.OperatorLemmas.{can_look_left, can_look_right, can_finish_two, acts_two, exclusive_comes}
use Rattle.php_vm_actions.proofs.operators.exclusive_or.Goals as goal

pub truth_at-left-requires : goal.truth_at-left-requires
truth_at-left-requires g c = can_look_left (g.M.Memory.means c.args.memory.now) (g.M.Memory.means c.args.memory.now) (frame_of c.args.frame.now) (λ d x y. finish_two (Some (Ok (scalar.Bool (differ (truth_of x) (truth_of y))))) (frame_of c.args.frame.now) d) (λ t d. finish_two (Some t) (frame_of c.args.frame.now) d) c.requires

pub truth_at-right-requires : goal.truth_at-right-requires
truth_at-right-requires g c = can_look_right (g.M.Memory.means c.args.memory.now) (g.M.Memory.means c.args.memory.now) (frame_of c.args.frame.now) (λ d x y. finish_two (Some (Ok (scalar.Bool (differ (truth_of x) (truth_of y))))) (frame_of c.args.frame.now) d) (λ t d. finish_two (Some t) (frame_of c.args.frame.now) d) c.requires

pub finish_two-requires : goal.finish_two-requires
finish_two-requires g c = can_finish_two (g.M.Memory.means c.args.memory.now) (g.M.Memory.means c.args.memory.now) (frame_of c.args.frame.now) (λ d x y. finish_two (Some (Ok (scalar.Bool (differ (truth_of x) (truth_of y))))) (frame_of c.args.frame.now) d) (λ t d. finish_two (Some t) (frame_of c.args.frame.now) d) (Ok (scalar.Bool c.differ.result)) (λ d r x y e k. exclusive_comes (frame_of c.args.frame.now) d x y c.truth_at-left.result c.truth_at-right.result c.differ.result (c.truth_at-left.ensures d.mem r.mem x e) (c.truth_at-right.ensures d.mem r.mem y k) c.differ.ensures) c.requires

pub returns : goal.returns
returns g c = acts_two (g.M.Memory.means c.args.memory.now) (g.M.Memory.means c.finish_two.new.memory) (frame_of c.args.frame.now) (λ d x y. finish_two (Some (Ok (scalar.Bool (differ (truth_of x) (truth_of y))))) (frame_of c.args.frame.now) d) (λ t d. finish_two (Some t) (frame_of c.args.frame.now) d) (Ok (scalar.Bool c.differ.result)) c.finish_two.result (λ d r x y e k. exclusive_comes (frame_of c.args.frame.now) d x y c.truth_at-left.result c.truth_at-right.result c.differ.result (c.truth_at-left.ensures d.mem r.mem x e) (c.truth_at-right.ensures d.mem r.mem y k) c.differ.ensures) c.finish_two.ensures
