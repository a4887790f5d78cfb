use Rattle.std.proofs.Common.{refl, arith}
use Rattle.std.proofs.lemmas.Result.{err_from_is_err_and}
use Rattle.php_grammar.specs.expression.Machine.{binary_open}
use Rattle.php_parse_expression.proofs.Joins.{binary_opens, binary_spans}
use Rattle.php_parse_expression.proofs.operators.binary.Goals as goal

pub returns-in_err-to_right : goal.returns-in_err-to_right
returns-in_err-to_right g c = λ f start spans is.
    let q = err_from_is_err_and c.from_residual.result c.from_residual.ensures.1 in
    rw (q.1, q.2) (c.in_err-to_right.ensures c.args.least c.requires.near f start spans is)

pub returns : goal.returns
returns g c = λ f start spans is.
    let o = c.requires.here in (
      record {
        form = binary_open c.args.op f;
        reads = binary_opens o.token c.args.op f o.stands.is o.role_is c.requires.near (omega arith) c.args.parser.now.deep;
        least_is = refl;
        right_is = refl;
        as_deep = λ d. omega (arith, c.depth_of.ensures.is, c.depth_of.ensures.most, c.if-depth_of-eq1.false);
        arrow = refl;
        shown = λ x y behind right. binary_spans c.args.parser.now.reader.tokens.now _ _ _ c.args.op f y start c.args.left.next behind refl spans right;
        ends_is = λ x. refl;
        bare_is = λ x. refl;
        ahead = omega (arith, spans.sized);
        within = omega (arith, o.stands.within);
      },
      omega arith,
    )
