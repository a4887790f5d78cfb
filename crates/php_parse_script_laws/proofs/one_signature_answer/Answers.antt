use Rattle.php_parse_script_laws.proofs.Answers.{one_signature_answer}
use Rattle.php_parse_script_laws.proofs.one_signature_answer.Goals as goal

pub returns : goal.returns
returns c = one_signature_answer
