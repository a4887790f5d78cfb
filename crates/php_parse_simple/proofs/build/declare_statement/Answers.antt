use Rattle.php_flat.proofs.Nodes.{flat_declare}
use Rattle.php_parse_simple.proofs.build.declare_statement.Goals as goal

pub returns-clause-flat : goal.returns-clause-flat
returns-clause-flat c = flat_declare c.args.spot c.args.name _
