use Rattle.php_parse_script_laws.proofs.Answers.{one_script_answer}
use Rattle.php_parse_script_laws.proofs.one_script_answer.Goals as goal

pub returns : goal.returns
returns c = one_script_answer
