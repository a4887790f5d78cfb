use Rattle.php_parse_script_laws.proofs.Answers.{one_expression_answer}
use Rattle.php_parse_script_laws.proofs.one_expression_answer.Goals as goal

pub returns : goal.returns
returns c = one_expression_answer
