use Rattle.std.proofs.Common.{refl}
use Rattle.php_first_tree.specs.Expression.{sum_view}
use Rattle.php_first_parse.proofs.Commands.{value_open}
use Rattle.php_first_parse.proofs.statements.assignment.Goals as goal

pub returns-then-not-sees-2 : goal.returns-then-not-sees-2
returns-then-not-sees-2 c =
    let equals = c.if-not-sees.ensures.yes refl in
    let value = rw c.in-Some.is at c.in_ok-value.ensures in
    value_open c.args.number equals.0 (sum_view c.in-Some.value.tree) _ _ _ equals.1 value.spelled value.ends (c.if-not-sees-2.ensures.no refl)
