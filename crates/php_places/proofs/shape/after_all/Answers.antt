use Rattle.std.proofs.Common.{length, ◌≤◌, arith}
use Rattle.php_places.specs.Shapes as spec
use Rattle.php_places.proofs.Lists.{step_plain, end_plain}
use Rattle.php_places.proofs.shape.after_all.Goals as goal

pub loop-suffix-preserved : goal.loop-suffix-preserved
loop-suffix-preserved c =
    step_plain spec.after c.args.suffixes.now c.loop-suffix.suffix-index c.suffix-item.result _ _ _ c.loop-suffix-test.true c.suffix-item.is c.loop-suffix.invariant c.after-shape.ensures

pub returns : goal.returns
returns c =
    let past : length c.args.suffixes.now ≤ c.loop-suffix.suffix-index = omega arith in
    end_plain spec.after c.args.suffixes.now c.loop-suffix.suffix-index _ _ past c.loop-suffix.invariant
