use Rattle.php_ast.specs.statement.View.{name_view}
use Rattle.php_bodies.proofs.TestLemmas.{in_class, outside_class}
use Rattle.php_bodies.proofs.words.check_name.Goals as goal

pub returns-then-in_class : goal.returns-then-in_class
returns-then-in_class c = in_class c.args.in_class (name_view c.args.name.now) c.args.met c.if-in_class.true

pub returns-else-in_class : goal.returns-else-in_class
returns-else-in_class c =
    outside_class c.args.in_class c.is_inner_name.result (name_view c.args.name.now) c.args.met c.fault_if.result c.if-in_class.false c.is_inner_name.ensures c.fault_if.ensures
