use Rattle.php_flat.proofs.Nodes.{flat_inline}
use Rattle.php_parse_simple.proofs.build.inline_statement.Goals as goal

pub returns-clause-flat : goal.returns-clause-flat
returns-clause-flat c = flat_inline c.args.spot c.args.text
