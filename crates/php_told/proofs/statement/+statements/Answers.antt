use Rattle.std.proofs.Common.{map, arith, refl, ap, ◌∙◌}
use Rattle.php_ast.specs.expression.View.{view}
use Rattle.php_ast.specs.statement.View.{statement_view}
use Rattle.php_weights.proofs.Expressions.{heavier}
use Rattle.php_weights.proofs.Statements.{same, statement_weight}
use Rattle.php_told.specs.First.{first_in, first_in_statement}
use Rattle.php_told.specs.Parts.{first_of}
use Rattle.php_told.proofs.Lists.{echo_first, block_first}
use Rattle.php_told.proofs.statement.+statements.Goals as goal

pub first_in_statement-returns-in-Block : goal.first_in_statement-returns-in-Block
first_in_statement-returns-in-Block t c =
    rw c.in-Block.is
    (c.first_in_statements.ensures ∙ ap (λ xs. first_of first_in_statement (map statement_view xs)) c.as_slice.ensures ∙ block_first c.in-Block.field-0 c.in-Block.statements)

pub first_in_statement-returns-in-Echo : goal.first_in_statement-returns-in-Echo
first_in_statement-returns-in-Echo t c =
    rw c.in-Echo.is (c.first_in_values.ensures ∙ ap (λ xs. first_of first_in (map view xs)) c.as_slice-in-Echo.ensures ∙ echo_first c.in-Echo.field-0 c.in-Echo.values)

pub first_in_statements-first_in_statement-requires : goal.first_in_statements-first_in_statement-requires
first_in_statements-first_in_statement-requires t c =
    let h = heavier same statement_weight c.args.statements.now c.args.statements.now c.loop-statement.statement-index c.statement-item.result refl c.loop-statement-test.true c.statement-item.is in
    (omega (arith, h), tt)
