use Rattle.std.proofs.Common.{◌+◌, ◌-◌, refl, arith, inr}
use Rattle.std.proofs.lemmas.Result.{err_from_is_err_and}
use Rattle.php_parse_operands.proofs.Fails.{within}
use Rattle.php_ast.specs.expression.Tree.{prefix}
use Rattle.php_grammar.specs.expression.Machine.{prefix_open}
use Rattle.php_grammar.proofs.expression.Fill.{prefix_bound}
use Rattle.php_parse_prefixes.proofs.Fronts.{operator_reads, operator_rests, prefix_opens, prefix_spans}
use Rattle.php_parse_prefixes.proofs.prefixes.prefix.Goals as goal

pub returns-in_err-operand : goal.returns-in_err-operand
returns-in_err-operand g c =
    let o = c.requires.here in
    let q = err_from_is_err_and c.from_residual.result c.from_residual.ensures.1 in
    rw (q.1, q.2) (within c.args.parser.now.reader.tokens.now c.args.at (c.args.at + 1) (c.args.parser.now.reader.room - 1) (c.prefix_power_of-power.result + 1) (prefix_open c.args.op) c.in_err-operand.field-0.0 (omega arith) (inr (omega arith)) (omega (arith, prefix_bound c.args.op)) (λ d. omega arith)
    (prefix_opens o.token c.args.op o.stands.is o.role_is c.args.parser.now.deep) c.in_err-operand.ensures)

pub returns : goal.returns
returns g c =
    let o = c.requires.here in
    let op = c.args.op in
    let r = c.in_ok-operand.ensures in
    let bound = prefix_bound c.args.op in
    record {
      form = prefix tt c.args.op r.form;
      spans = prefix_spans c.args.parser.now.reader.tokens.now _ _ _ c.args.op r.form c.args.at _ c.in_ok-prefix_expr.ensures.shown c.spot.ensures r.spans;
      reads = operator_reads (prefix_open c.args.op) r.form (c.args.parser.now.reader.room - 1) (c.prefix_power_of-power.result + 1) (omega arith) (omega arith) (omega (arith, prefix_bound c.args.op)) (omega arith) (λ h. refl) (λ d. omega arith)
          (prefix_opens o.token c.args.op o.stands.is o.role_is c.args.parser.now.deep) r.reads r.rests;
      edge_is = omega (arith, r.edge_is);
      rests = operator_rests (prefix_open c.args.op) r.form (c.prefix_power_of-power.result + 1) _ (omega arith) (omega (arith, prefix_bound c.args.op)) (omega arith) r.rests;
      follows = r.follows;
      bare = r.bare;
      ahead = omega (arith, r.ahead);
      within = r.within;
      deep = c.args.parser.now.deep;
    }
