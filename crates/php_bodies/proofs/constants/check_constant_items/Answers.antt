use Rattle.std.proofs.Common.{map, length, ◌≤◌, arith, ap, sym, ◌∙◌}
use Rattle.php_ast.specs.statement.View.{constant_view}
use Rattle.php_legality.proofs.SequenceLemmas.{elements_are}
use Rattle.php_bodies.specs.Own as spec
use Rattle.php_places.specs.Over.{over}
use Rattle.php_places.proofs.Lists.{step_over, end_over}
use Rattle.php_bodies.proofs.constants.check_constant_items.Goals as goal

pub loop-item-init : goal.loop-item-init
loop-item-init c = ap (λ ys. over (spec.met_constant_value) ys c.args.met) (sym (elements_are constant_view c.args.items.now))

pub loop-item-preserved : goal.loop-item-preserved
loop-item-preserved c =
    step_over (spec.met_constant_value) constant_view c.args.items.now c.loop-item.item-index c.item-item.result _ _ _ c.loop-item-test.true c.item-item.is c.loop-item.invariant (c.check_constant-first.ensures)

pub returns : goal.returns
returns c =
    let past : length c.args.items.now ≤ c.loop-item.item-index = omega arith in
    end_over (spec.met_constant_value) constant_view c.args.items.now c.loop-item.item-index _ _ past c.loop-item.invariant
