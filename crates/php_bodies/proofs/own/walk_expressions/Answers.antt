use Rattle.std.proofs.Common.{◌∙◌, ap}
use Rattle.php_ast.specs.statement.View.{sequence, variable_view, constant_view}
use Rattle.php_legality.specs.Lists.{elements}
use Rattle.php_places.specs.Over.{over}
use Rattle.php_bodies.specs.Own as spec
use Rattle.php_bodies.proofs.Views.{walked_static, walked_const, walked_for}
use Rattle.php_bodies.proofs.own.walk_expressions.Goals as goal

pub returns-in-Static : goal.returns-in-Static
returns-in-Static c =
    rw c.in-Static.is
    (c.walk_variables.ensures ∙ ap (λ xs. over (spec.met_variable c.args.scope) (elements (sequence variable_view xs)) c.args.met) c.as_slice-in-Static.ensures
    ∙ walked_static c.args.scope c.in-Static.field-0 c.in-Static.variables c.args.met)

pub returns-in-Const : goal.returns-in-Const
returns-in-Const c =
    rw c.in-Const.is
    (c.walk_constant_items.ensures ∙ ap (λ xs. over (spec.met_constant_item c.args.scope) (elements (sequence constant_view xs)) c.args.met) c.as_slice-in-Const.ensures
    ∙ walked_const c.args.scope c.in-Const.field-0 c.in-Const.items c.args.met)

pub returns-in-For : goal.returns-in-For
returns-in-For c = rw c.in-For.is (c.walk_for_head.ensures ∙ walked_for c.args.scope c.in-For.field-0 c.in-For.head c.in-For.field-2 c.args.met)
