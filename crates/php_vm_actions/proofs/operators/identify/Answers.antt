use Rattle.std.proofs.Common.{Some}
use Rattle.php_actions.specs.Operators.{finish_two}
use Rattle.php_actions.specs.Comparisons.{identical_as}
use Rattle.php_compare.specs.Identity.{same_in}
use Rattle.php_vm_actions.specs.Acting.{frame_of}
use Rattle.php_vm_actions.proofs.OperatorLemmas.{can_look_at_two, can_finish_two, acts_two, tells_two}
use Rattle.php_vm_actions.proofs.operators.identify.Goals as goal

pub identical-told-requires : goal.identical-told-requires
identical-told-requires g c = can_look_at_two (g.M.Memory.means c.args.memory.now) (g.M.Memory.means c.args.memory.now) (frame_of c.args.frame.now) (λ d x y. finish_two (Some (identical_as c.args.negated (same_in d.mem x y))) (frame_of c.args.frame.now) d) (λ t d. finish_two (Some t) (frame_of c.args.frame.now) d) c.requires

pub finish_two-requires : goal.finish_two-requires
finish_two-requires g c = can_finish_two (g.M.Memory.means c.args.memory.now) (g.M.Memory.means c.args.memory.now) (frame_of c.args.frame.now) (λ d x y. finish_two (Some (identical_as c.args.negated (same_in d.mem x y))) (frame_of c.args.frame.now) d) (λ t d. finish_two (Some t) (frame_of c.args.frame.now) d) c.identical-told.result (λ d r x y e k. tells_two (frame_of c.args.frame.now) d c.identical-told.result _ (c.identical-told.ensures d.mem r.mem x y e k)) c.requires

pub returns : goal.returns
returns g c = acts_two (g.M.Memory.means c.args.memory.now) (g.M.Memory.means c.finish_two.new.memory) (frame_of c.args.frame.now) (λ d x y. finish_two (Some (identical_as c.args.negated (same_in d.mem x y))) (frame_of c.args.frame.now) d) (λ t d. finish_two (Some t) (frame_of c.args.frame.now) d) c.identical-told.result c.finish_two.result (λ d r x y e k. tells_two (frame_of c.args.frame.now) d c.identical-told.result _ (c.identical-told.ensures d.mem r.mem x y e k)) c.finish_two.ensures
