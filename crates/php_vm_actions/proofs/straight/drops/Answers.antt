use Rattle.std.proofs.Common.{◌≡◌, List, subst}
use Rattle.php_memdef.specs.Operations.{Operation, effect}
use Rattle.php_memdef.specs.Operations as op
use Rattle.php_vm_actions.specs.Straight.{CanAll, all, drops_of}
use Rattle.php_vm_actions.proofs.StraightLemmas.{drops_left}
use Rattle.php_vm_actions.proofs.straight.drops.Goals as goal

pub drop_top-requires : goal.drop_top-requires
drop_top-requires g c =
    let can = c.loop-left.invariant.can in
    (can.0, can.1, (subst (λ (os : List Operation). CanAll os can.0) (drops_left c.args.block.0 _ c.loop-left-test.true) can.2).0)

pub loop-left-preserved : goal.loop-left-preserved
loop-left-preserved g c =
    let can = c.loop-left.invariant.can in
    let more = subst (λ (os : List Operation). CanAll os can.0) (drops_left c.args.block.0 _ c.loop-left-test.true) can.2 in
    record {
      can = (effect (op.drop_top c.args.block.0) can.0, c.drop_top.ensures.effect can.0 can.1, more.1);
      leads = λ m h.
          let r = c.loop-left.invariant.leads m h in
          (effect (op.drop_top c.args.block.0) r.0, c.drop_top.ensures.effect r.0 r.1, subst (λ (os : List Operation). all os r.0 ≡ all (drops_of c.args.block.0 c.args.count) m) (drops_left c.args.block.0 _ c.loop-left-test.true) r.2);
    }
