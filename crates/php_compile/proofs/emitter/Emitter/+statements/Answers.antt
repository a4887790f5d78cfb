use Rattle.std.proofs.Common.{length, ◌≤◌, arith}
use Rattle.php_weights.proofs.Expressions.{part_weight}
use Rattle.php_weights.proofs.Statements.{same, statement_weight}
use Rattle.php_compile.proofs.CodeLoops.{statements_code_kept, statements_code_whole, statements_peak_kept, statements_peak_whole}
use Rattle.php_compile.proofs.emitter.Emitter.+statements.Goals as goal

pub put_statements-put_statement-requires : goal.put_statements-put_statement-requires
put_statements-put_statement-requires t c =
    let h = part_weight same statement_weight c.args.body.now c.loop-s.s-index c.s-item.result c.loop-s-test.true c.s-item.is in
    (omega (arith, h), tt)

pub put_statements-loop-s-preserved : goal.put_statements-loop-s-preserved
put_statements-loop-s-preserved t c = (
  statements_code_kept c.args.names.now.keys c.args.standing _ _ _ c.args.body.now c.loop-s.s-index c.s-item.result c.loop-s-test.true c.s-item.is c.loop-s.invariant.0 c.in_ok-put_statement.ensures.code,
  statements_peak_kept c.args.names.now.keys c.args.standing _ _ _ c.args.body.now c.loop-s.s-index c.s-item.result c.loop-s-test.true c.s-item.is c.loop-s.invariant.1 c.in_ok-put_statement.ensures.peak,
)

pub put_statements-returns-clause-code : goal.put_statements-returns-clause-code
put_statements-returns-clause-code t c =
    let over : length c.args.body.now ≤ c.loop-s.s-index = omega arith in
    statements_code_whole c.args.names.now.keys c.args.standing _ _ c.args.body.now c.loop-s.s-index over c.loop-s.invariant.0

pub put_statements-returns-clause-peak : goal.put_statements-returns-clause-peak
put_statements-returns-clause-peak t c =
    let over : length c.args.body.now ≤ c.loop-s.s-index = omega arith in
    statements_peak_whole c.args.names.now.keys c.args.standing _ _ c.args.body.now c.loop-s.s-index over c.loop-s.invariant.1
