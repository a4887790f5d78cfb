use Rattle.std.proofs.Common.{refl, arith}
use Rattle.php_vm.proofs.StepLemmas.{may_look, may_drop, chooses_yes, chooses_no}
use Rattle.php_vm.proofs.step.branch.Goals as goal

pub truth_at-truth-requires : goal.truth_at-truth-requires
truth_at-truth-requires g c = may_look (g.M.Memory.means c.args.memory.now) (g.M.Memory.means c.args.memory.now) c.args.state.now c.args.state.now c.args.by c.requires

pub drop_top-requires : goal.drop_top-requires
drop_top-requires g c = may_drop (g.M.Memory.means c.args.memory.now) (g.M.Memory.means c.args.memory.now) c.args.state.now c.args.state.now c.args.by c.requires

pub returns-then-truth : goal.returns-then-truth
returns-then-truth g c =
    chooses_yes (g.M.Memory.means c.args.memory.now) (g.M.Memory.means c.drop_top.new.self) c.args.state.now _ c.args.by c.drop_top.ensures.effect c.in-Some.next (refl, (refl, refl)) c.truth_at-truth.result c.truth_at-truth.ensures c.if-truth.true
    (let e = c.in-Some.ensures in omega (arith, e))

pub returns : goal.returns
returns g c =
    chooses_no (g.M.Memory.means c.args.memory.now) (g.M.Memory.means c.drop_top.new.self) c.args.state.now _ c.args.by c.drop_top.ensures.effect c.in-Some-place_behind.past (refl, (refl, refl)) c.truth_at-truth.result c.truth_at-truth.ensures c.if-truth.false c.in-Some-place_behind.ensures
