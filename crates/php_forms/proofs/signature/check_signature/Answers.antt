use Rattle.std.proofs.Common.{◌∙◌, ap}
use Rattle.php_ast.specs.declaration.View.{param_view, type_view}
use Rattle.php_ast.specs.statement.View.{optional, sequence}
use Rattle.php_legality.specs.Lists.{elements}
use Rattle.php_legality.specs.Declarations.{signature_scope}
use Rattle.php_places.specs.Over.{over}
use Rattle.php_forms.specs.Signatures.{met_default, met_constant_default, met_optional_type, met_declared, before_params, met_param, met_signature}
use Rattle.php_forms.proofs.signature.check_signature.Goals as goal

pub returns : goal.returns
unfolding met_signature
returns c =
    let params = elements (sequence param_view c.as_slice-params.result.now) in
    ap (λ p. p.first) c.pass_params.ensures
    ∙ ap (λ m. (over met_param params (before_params m)).first)
    (c.check_optional_type-met.ensures
    ∙ ap (met_optional_type c.args.in_class (optional type_view c.args.s.now.result))
    (c.check_types-met.ensures
    ∙ ap (over (met_declared c.args.in_class) params)
    (c.check_defaults-met.ensures
    ∙ ap (over met_constant_default params) (c.walk_defaults-met.ensures ∙ ap (λ scope. over (met_default scope) params c.args.met) c.signature_scope.ensures))))
    ∙ ap
    (λ xs.
    (over met_param (elements (sequence param_view xs))
    (before_params
    (met_optional_type c.args.in_class (optional type_view c.args.s.now.result)
    (over (met_declared c.args.in_class) (elements (sequence param_view xs))
    (over met_constant_default (elements (sequence param_view xs)) (over (met_default (signature_scope c.args.in_class)) (elements (sequence param_view xs)) c.args.met)))))).first)
    c.as_slice-params.ensures
