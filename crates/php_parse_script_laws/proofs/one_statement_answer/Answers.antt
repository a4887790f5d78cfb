use Rattle.php_parse_script_laws.proofs.Answers.{one_statement_answer}
use Rattle.php_parse_script_laws.proofs.one_statement_answer.Goals as goal

pub returns : goal.returns
returns c = one_statement_answer
