use Rattle.php_flat.proofs.Nodes.{flat_empty}
use Rattle.php_parse_simple.proofs.build.blank_statement.Goals as goal

pub returns-clause-flat : goal.returns-clause-flat
returns-clause-flat c = flat_empty c.args.spot
