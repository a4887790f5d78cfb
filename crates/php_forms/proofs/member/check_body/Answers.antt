use Rattle.std.proofs.Common.{◌∙◌, ap}
use Rattle.php_ast.specs.declaration.View.{method_view}
use Rattle.php_ast.specs.expression.View.{spot_view}
use Rattle.php_legality.specs.declared.kind.Kind.TheVariants as kind
use Rattle.php_places.specs.Met.{where_bad}
use Rattle.php_forms.proofs.WordLemmas.{at_word}
use Rattle.php_forms.proofs.member.check_body.Goals as goal

pub returns-in-Method : goal.returns-in-Method
returns-in-Method c =
    rw c.in-Method.is
    (c.fault_if.ensures ∙ ap (λ b. where_bad b kind.BadUse (spot_view c.in-Method.method.name.spot) c.args.met) c.is_bad_body.ensures
    ∙ at_word _ c.in-Method.method.name c.args.met)
