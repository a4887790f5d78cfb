use Rattle.std.proofs.Common.{◌+◌, ◌-◌, refl, arith, inr}
use Rattle.std.proofs.lemmas.Result.{err_from_is_err_and}
use Rattle.php_parse_operands.proofs.Fails.{within}
use Rattle.php_ast.specs.expression.Tree.{assign, by_value}
use Rattle.php_grammar.specs.expression.Machine.{assign_open}
use Rattle.php_parse_prefixes.proofs.Fronts.{operator_reads, operator_rests, value_opens, assign_spans}
use Rattle.php_parse_prefixes.proofs.prefixes.assign_value.Goals as goal

pub returns-in_err-value : goal.returns-in_err-value
returns-in_err-value g c = λ f start spans low.
    let o = c.requires.here in
    let q = err_from_is_err_and c.from_residual.result c.from_residual.ensures.1 in
    rw (q.1, q.2) (within c.args.parser.now.reader.tokens.now c.args.left.next (c.args.left.next + 1) (c.args.parser.now.reader.room - 1) c.value_power.result (assign_open (by_value c.args.op) f) c.in_err-value.field-0.0 (omega arith) (inr (omega arith)) (omega arith) (λ d. omega arith)
    (value_opens o.token c.args.op f o.stands.is o.role_is low c.requires.no_reference c.args.parser.now.deep) c.in_err-value.ensures)

pub returns : goal.returns
returns g c = λ f start spans low.
    let o = c.requires.here in
    let r = c.in_ok-value.ensures in
    record {
      form = assign (by_value c.args.op) f r.form;
      spans = assign_spans c.args.parser.now.reader.tokens.now _ _ _ (by_value c.args.op) f r.form start c.args.left.next _ _ c.in_ok-assign_expr.ensures.shown spans r.spans refl;
      reads = operator_reads (assign_open (by_value c.args.op) f) r.form (c.args.parser.now.reader.room - 1) c.value_power.result (omega arith) (omega arith) (omega arith) c.value_power.ensures (λ h. refl) (λ d. omega arith)
          (value_opens o.token c.args.op f o.stands.is o.role_is low c.requires.no_reference c.args.parser.now.deep) r.reads r.rests;
      edge_is = omega (arith, r.edge_is);
      rests = operator_rests (assign_open (by_value c.args.op) f) r.form c.value_power.result _ (omega arith) (omega arith) c.value_power.ensures r.rests;
      follows = r.follows;
      bare = r.bare;
      ahead = omega (arith, r.ahead);
      within = r.within;
      deep = c.args.parser.now.deep;
    }
