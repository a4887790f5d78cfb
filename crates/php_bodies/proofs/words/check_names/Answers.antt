use Rattle.std.proofs.Common.{map, length, ◌≤◌, arith, ap, sym, ◌∙◌}
use Rattle.php_ast.specs.statement.View.{name_view}
use Rattle.php_legality.proofs.SequenceLemmas.{elements_are}
use Rattle.php_bodies.specs.Own as spec
use Rattle.php_places.specs.Over.{over}
use Rattle.php_places.proofs.Lists.{step_over, end_over}
use Rattle.php_bodies.proofs.words.check_names.Goals as goal

pub loop-name-init : goal.loop-name-init
loop-name-init c = ap (λ ys. over (spec.met_name c.args.in_class) ys c.args.met) (sym (elements_are name_view c.args.names.now))

pub loop-name-preserved : goal.loop-name-preserved
loop-name-preserved c =
    step_over (spec.met_name c.args.in_class) name_view c.args.names.now c.loop-name.name-index c.name-item.result _ _ _ c.loop-name-test.true c.name-item.is c.loop-name.invariant (c.check_name-first.ensures)

pub returns : goal.returns
returns c =
    let past : length c.args.names.now ≤ c.loop-name.name-index = omega arith in
    end_over (spec.met_name c.args.in_class) name_view c.args.names.now c.loop-name.name-index _ _ past c.loop-name.invariant
