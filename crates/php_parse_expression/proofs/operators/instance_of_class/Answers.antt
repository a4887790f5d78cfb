use Rattle.std.proofs.Common.{◌+◌, ◌∙◌, refl, arith, sym}
use Rattle.std.proofs.lemmas.Result.{err_from_is_err_and}
use Rattle.php_ast.specs.expression.Tree.{instance_of}
use Rattle.php_parse_expression.proofs.Joins.{instance_opens, instance_reads, instance_halts, instance_fails, instance_spans, instance_rests}
use Rattle.php_parse_expression.proofs.operators.instance_of_class.Goals as goal

pub returns-in_err-class : goal.returns-in_err-class
returns-in_err-class g c = λ least near f start spans is.
    let o = c.requires.here in
    let q = err_from_is_err_and c.from_residual.result c.from_residual.ensures.1 in
    rw (q.1, q.2) (instance_fails c.args.parser.now.reader.tokens.now c.args.left.next (c.args.left.next + 1) f c.in_err-class.field-0.0 (omega arith) near
    (instance_opens o.token f o.stands.is o.role_is near (omega arith) c.args.parser.now.deep) c.in_err-class.ensures)

pub returns-then-class : goal.returns-then-class
returns-then-class g c = λ least near f start spans is.
    let o = c.requires.here in
    let r = c.in_ok-class.ensures in
    let call = r.call_is ∙ c.if-class.true in
    record {
      halts = instance_halts f r.form near (instance_opens o.token f o.stands.is o.role_is near (omega arith) c.args.parser.now.deep) r.reads call (r.call_open call) r.rests;
      ahead = omega (arith, r.ahead);
      within = r.within;
    }

pub returns : goal.returns
returns g c = λ least near f start spans is.
    let o = c.requires.here in
    let r = c.in_ok-class.ensures in
    record {
      form = instance_of f r.form;
      spans = instance_spans c.args.parser.now.reader.tokens.now _ _ _ f r.form start c.args.left.next _ c.in_ok-instance_of_expr.ensures.shown spans r.spans;
      reads = instance_reads f r.form near (instance_opens o.token f o.stands.is o.role_is near (omega arith) c.args.parser.now.deep) r.reads (r.call_is ∙ c.if-class.false) r.rests;
      edge_is = sym c.instance_of_edge.ensures;
      rests = instance_rests (instance_of f r.form) _ refl;
      follows = r.follows;
      bare = λ h. cc;
      ahead = omega (arith, r.ahead);
      within = r.within;
      deep = c.args.parser.now.deep;
    }
