use Rattle.std.proofs.Common.{◌+◌, ◌-◌, refl, arith, inr}
use Rattle.std.proofs.lemmas.Result.{err_from_is_err_and}
use Rattle.php_parse_operands.proofs.Fails.{within}
use Rattle.php_ast.specs.expression.Tree.{yield_pair}
use Rattle.php_grammar.specs.expression.Machine.{yield_value_open}
use Rattle.php_parse_prefixes.proofs.Fronts.{operator_reads, operator_rests, pair_opens, pair_spans}
use Rattle.php_parse_prefixes.proofs.prefixes.yield_pair.Goals as goal

pub returns-in_err-value : goal.returns-in_err-value
returns-in_err-value g c = λ k spans.
    let o = c.requires.arrow in
    let q = err_from_is_err_and c.from_residual.result c.from_residual.ensures.1 in
    rw (q.1, q.2) (within c.args.parser.now.reader.tokens.now c.args.key.next (c.args.key.next + 1) (c.args.parser.now.reader.room - 1) c.yielded_power.result (yield_value_open k) c.in_err-value.field-0.0 (omega arith) (inr (omega arith)) (omega arith) (λ d. omega arith)
    (pair_opens o.token k o.stands.is o.role_is c.requires.deep) c.in_err-value.ensures)

pub returns : goal.returns
returns g c = λ k spans.
    let o = c.requires.arrow in
    let r = c.in_ok-value.ensures in
    record {
      form = yield_pair tt k r.form;
      spans = pair_spans c.args.parser.now.reader.tokens.now _ _ _ _ k r.form c.args.at c.args.key.next _ c.in_ok-yield_pair_expr.ensures.shown c.spot.ensures spans r.spans;
      reads = operator_reads (yield_value_open k) r.form (c.args.parser.now.reader.room - 1) c.yielded_power.result (omega arith) (omega arith) (omega arith) c.yielded_power.ensures (λ h. refl) (λ d. omega arith)
          (pair_opens o.token k o.stands.is o.role_is c.requires.deep) r.reads r.rests;
      edge_is = omega (arith, r.edge_is);
      rests = operator_rests (yield_value_open k) r.form c.yielded_power.result _ (omega arith) (omega arith) c.yielded_power.ensures r.rests;
      follows = r.follows;
      bare = r.bare;
      ahead = omega (arith, r.ahead);
      within = r.within;
      deep = c.args.parser.now.deep;
    }
