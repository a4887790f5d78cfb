use Rattle.php_flat.proofs.Nodes.{flat_global}
use Rattle.php_parse_simple.proofs.build.globals_statement.Goals as goal

pub returns-clause-flat : goal.returns-clause-flat
returns-clause-flat c = flat_global c.args.spot c.args.names
