use Rattle.php_parse_expression_laws.proofs.Unique.{one_answer}
use Rattle.php_parse_expression_laws.proofs.one_answer.Goals as goal

pub returns : goal.returns
returns c = one_answer
