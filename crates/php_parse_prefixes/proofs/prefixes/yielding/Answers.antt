use Rattle.std.proofs.Common.{◌∷◌}
use Rattle.std.proofs.Common.{◌+◌, ◌-◌, ◌∙◌, refl, arith, inl, inr, ap, sym}
use Rattle.std.proofs.lemmas.Result.{err_from_is_err_and}
use Rattle.php_ast.specs.expression.Proper.{free}
use Rattle.php_grammar.specs.expression.Role.{ends_yield}
use Rattle.php_parse_operands.proofs.Heads.{follows_head}
use Rattle.php_parse_operands.proofs.Fails.{within}
use Rattle.php_ast.specs.expression.Tree.{yield_nothing, yield_value}
use Rattle.php_grammar.specs.expression.Machine.{yield_open, expects, holds}
use Rattle.php_grammar.specs.expression.Laws.{head_continuation}
use Rattle.php_reader.specs.Seen.{rest}
use Rattle.php_parse_operands.proofs.Moves.{leads, inside}
use Rattle.php_parse_prefixes.proofs.Founds.{behind}
use Rattle.php_parse_prefixes.proofs.Fronts.{operator_reads, operator_rests, yield_opens, yield_nothing_reads, yield_ends_low, yield_spans, arrow_is}
use Rattle.php_parse_prefixes.proofs.prefixes.yielding.Goals as goal

pub returns-in-Some : goal.returns-in-Some
returns-in-Some g c =
    let o = c.requires.here in
    let l = (rw c.in-Some.is at c.lone_yield.ensures) c.args.parser.now.reader.tokens.now (c.args.at + 1) c.due_at-due.ensures.marks in
    let alone = ap ends_yield (follows_head c.args.parser.now.reader.tokens.now (c.args.at + 1) _ l.0) ∙ l.1 in
    record {
      form = yield_nothing tt;
      spans = record { shown = c.yield_nothing_expr.ensures.shown ∙ ap yield_nothing c.spot.ensures; sized = omega arith };
      reads = yield_nothing_reads o.token o.stands.is o.role_is alone c.args.parser.now.deep;
      edge_is = refl;
      rests = inl (yield_ends_low (head_continuation (rest c.args.parser.now.reader.tokens.now (c.args.at + 1))) alone);
      follows = l.0;
      bare = λ h. alone;
      ahead = omega arith;
      within = omega (arith, o.stands.within);
      deep = c.args.parser.now.deep;
    }

pub returns-in_err-value : goal.returns-in_err-value
returns-in_err-value g c =
    let o = c.requires.here in
    let q = err_from_is_err_and c.from_residual.result c.from_residual.ensures.1 in
    rw (q.1, q.2) (within c.args.parser.now.reader.tokens.now c.args.at (c.args.at + 1) (c.args.parser.now.reader.room - 1) c.yielded_power.result yield_open c.in_err-value.field-0.0 (omega arith) (inr (omega arith)) (omega arith) (λ d. omega arith)
    (yield_opens o.token o.stands.is o.role_is ((rw c.in_default.is at c.lone_yield.ensures) _ _ c.due_at-due.ensures.marks) c.args.parser.now.deep) c.in_err-value.ensures)

pub yield_pair-requires-clause-arrow : goal.yield_pair-requires-clause-arrow
yield_pair-requires-clause-arrow g c = c.if-closed_by.ensures.yes refl _ _ c.in_ok-value.ensures.follows

pub returns-then-closed_by : goal.returns-then-closed_by
returns-then-closed_by g c =
    let o = c.requires.here in
    let r = c.in_ok-value.ensures in
    behind free c.args.parser.now.reader.tokens.now c.args.at c.args.at _ (λ s. holds r.form (yield_open ∷ s)) _ (omega (arith, r.ahead))
    (leads (λ s. expects (yield_open ∷ s)) (yield_opens o.token o.stands.is o.role_is ((rw c.in_default.is at c.lone_yield.ensures) _ _ c.due_at-due.ensures.marks) c.args.parser.now.deep)
    (inside (c.args.parser.now.reader.room - 1) c.yielded_power.result yield_open (inr (omega arith)) (omega arith) (λ d. omega arith) r.reads))
    (c.yield_pair.ensures r.form r.spans)

pub returns : goal.returns
returns g c =
    let o = c.requires.here in
    let r = c.in_ok-value.ensures in
    let shut = c.if-closed_by.ensures.no refl _ _ r.follows in
    record {
      form = yield_value tt r.form;
      spans = yield_spans c.args.parser.now.reader.tokens.now _ _ _ r.form c.args.at _ c.in_ok-yield_value_expr.ensures.shown c.spot-2.ensures r.spans;
      reads = operator_reads yield_open r.form (c.args.parser.now.reader.room - 1) c.yielded_power.result (omega arith) (omega arith) (omega arith) c.yielded_power.ensures (λ h. absurd (shut (arrow_is _ h))) (λ d. omega arith)
          (yield_opens o.token o.stands.is o.role_is ((rw c.in_default.is at c.lone_yield.ensures) _ _ c.due_at-due.ensures.marks) c.args.parser.now.deep) r.reads r.rests;
      edge_is = omega (arith, r.edge_is);
      rests = operator_rests yield_open r.form c.yielded_power.result _ (omega arith) (omega arith) c.yielded_power.ensures r.rests;
      follows = r.follows;
      bare = r.bare;
      ahead = omega (arith, r.ahead);
      within = r.within;
      deep = c.args.parser.now.deep;
    }
