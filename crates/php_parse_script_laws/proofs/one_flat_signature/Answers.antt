use Rattle.php_parse_script_laws.proofs.Answers.{one_flat_signature}
use Rattle.php_parse_script_laws.proofs.one_flat_signature.Goals as goal

pub returns : goal.returns
returns c = one_flat_signature
