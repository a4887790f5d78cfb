use Rattle.std.proofs.Common.{length, ◌≤◌, arith}
use Rattle.php_weights.proofs.Expressions.{part_weight}
use Rattle.php_weights.proofs.Statements.{same, statement_weight}
use Rattle.php_compile.proofs.NameLoops.{statements_kept, statements_whole}
use Rattle.php_compile.proofs.naming.+names_of_statements.Goals as goal

pub name_statements-name_statement-requires : goal.name_statements-name_statement-requires
name_statements-name_statement-requires t c =
    let h = part_weight same statement_weight c.args.body.now c.loop-s.s-index c.s-item.result c.loop-s-test.true c.s-item.is in
    (omega (arith, h), tt)

pub name_statements-loop-s-preserved : goal.name_statements-loop-s-preserved
name_statements-loop-s-preserved t c =
    statements_kept _ _ _ c.args.body.now c.loop-s.s-index c.s-item.result c.loop-s-test.true c.s-item.is c.loop-s.invariant c.in_ok-name_statement.ensures

pub name_statements-returns : goal.name_statements-returns
name_statements-returns t c =
    let over : length c.args.body.now ≤ c.loop-s.s-index = omega arith in
    statements_whole _ _ c.args.body.now c.loop-s.s-index over c.loop-s.invariant
