use Rattle.php_parse_script_laws.proofs.Answers.{one_flat_script}
use Rattle.php_parse_script_laws.proofs.one_flat_script.Goals as goal

pub returns : goal.returns
returns c = one_flat_script
