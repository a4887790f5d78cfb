use Rattle.std.proofs.Common.{◌+◌, ◌-◌, ◌∙◌, refl, ap, arith, inr}
use Rattle.std.proofs.lemmas.Result.{err_from_is_err_and}
use Rattle.php_ast.specs.expression.Proper.{edge, right}
use Rattle.php_ast.specs.expression.Tree.{binary}
use Rattle.php_grammar.proofs.expression.Fill.{binary_bound}
use Rattle.php_grammar.specs.expression.Machine.{binary_open}
use Rattle.php_parse_operands.proofs.Fails.{within}
use Rattle.php_parse_expression.proofs.Joins.{binary_opens, binary_spans, right_bounds}
use Rattle.php_parse_prefixes.proofs.Fronts.{operator_reads, operator_rests}
use Rattle.php_parse_expression.proofs.operators.to_right.Goals as goal

pub returns-in_err-right : goal.returns-in_err-right
returns-in_err-right g c = λ least near f start spans is.
    let o = c.requires.here in
    let b = right_bounds c.args.op in
    let l = c.right_of.ensures ∙ ap right c.row_of-row.ensures in
    let q = err_from_is_err_and c.from_residual.result c.from_residual.ensures.1 in
    rw (q.1, q.2) (within c.args.parser.now.reader.tokens.now c.args.left.next (c.args.left.next + 1) (c.args.parser.now.reader.room - 1) c.right_of.result (binary_open c.args.op f) c.in_err-right.field-0.0 (omega arith) (inr (omega (arith, near, binary_bound c.args.op)))
    (omega (arith, l)) (λ d. omega (arith, c.requires.deeper, c.args.parser.now.deep))
    (binary_opens o.token c.args.op f o.stands.is o.role_is near (omega arith) c.args.parser.now.deep) c.in_err-right.ensures)

pub returns : goal.returns
returns g c = λ least near f start spans is.
    let o = c.requires.here in
    let b = right_bounds c.args.op in
    let r = c.in_ok-right.ensures in
    let l = c.right_of.ensures ∙ ap right c.row_of-row.ensures in
    let d = c.edge_of.ensures ∙ ap edge c.row_of-row.ensures in
    record {
      form = binary c.args.op f r.form;
      spans = binary_spans c.args.parser.now.reader.tokens.now _ _ _ c.args.op f r.form start c.args.left.next _ c.in_ok-binary_expr.ensures.shown spans r.spans;
      reads = operator_reads (binary_open c.args.op f) r.form (c.args.parser.now.reader.room - 1) c.right_of.result (omega (arith, near, binary_bound c.args.op)) (omega (arith, b.0)) (omega (arith, b.1)) (omega (arith, l)) (λ h. refl) (λ d. omega (arith, c.requires.deeper, c.args.parser.now.deep))
          (binary_opens o.token c.args.op f o.stands.is o.role_is near (omega arith) c.args.parser.now.deep) r.reads r.rests;
      edge_is = omega (arith, r.edge_is, d);
      rests = operator_rests (binary_open c.args.op f) r.form c.right_of.result _ (omega (arith, b.0)) (omega (arith, b.1)) (omega (arith, l)) r.rests;
      follows = r.follows;
      bare = r.bare;
      ahead = omega (arith, r.ahead);
      within = r.within;
      deep = c.args.parser.now.deep;
    }
