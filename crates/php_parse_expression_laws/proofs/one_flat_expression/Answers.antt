use Rattle.php_parse_expression_laws.proofs.Unique.{one_flat_expression}
use Rattle.php_parse_expression_laws.proofs.one_flat_expression.Goals as goal

pub returns : goal.returns
returns c = one_flat_expression
