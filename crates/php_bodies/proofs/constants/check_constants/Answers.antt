use Rattle.std.proofs.Common.{◌∙◌, ap}
use Rattle.php_ast.specs.statement.View.{sequence, variable_view, constant_view}
use Rattle.php_legality.specs.Lists.{elements}
use Rattle.php_places.specs.Over.{over}
use Rattle.php_bodies.specs.Own as spec
use Rattle.php_bodies.proofs.Views.{checked_static, checked_const}
use Rattle.php_bodies.proofs.constants.check_constants.Goals as goal

pub returns-in-Static : goal.returns-in-Static
returns-in-Static c =
    rw c.in-Static.is
    (c.check_variables.ensures ∙ ap (λ xs. over spec.met_first_value (elements (sequence variable_view xs)) c.args.met) c.as_slice.ensures
    ∙ checked_static c.in-Static.field-0 c.in-Static.variables c.args.met)

pub returns-in-Const : goal.returns-in-Const
returns-in-Const c =
    rw c.in-Const.is
    (c.check_constant_items.ensures ∙ ap (λ xs. over spec.met_constant_value (elements (sequence constant_view xs)) c.args.met) c.as_slice-in-Const.ensures
    ∙ checked_const c.in-Const.field-0 c.in-Const.items c.args.met)
