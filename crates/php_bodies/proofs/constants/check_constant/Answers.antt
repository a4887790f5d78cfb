use Rattle.php_ast.specs.expression.View.{spot_view, view}
use Rattle.php_bodies.proofs.TestLemmas.{constant, not_constant}
use Rattle.php_bodies.proofs.constants.check_constant.Goals as goal

pub returns-then-is_constant : goal.returns-then-is_constant
returns-then-is_constant c = constant (view c.args.e.now) c.args.met c.is_constant.result c.is_constant.ensures c.if-is_constant.true

pub returns-else-is_constant : goal.returns-else-is_constant
returns-else-is_constant c =
    not_constant (view c.args.e.now) c.args.met c.fault_if.result c.is_constant.result (spot_view c.first_spot.result) c.is_constant.ensures c.if-is_constant.false c.first_spot.ensures c.fault_if.ensures
