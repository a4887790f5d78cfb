use Rattle.std.proofs.Common.{◌∙◌}
use Rattle.php_build.proofs.Flats.{both}
use Rattle.php_flat.proofs.Nodes.{flat_foreach}
use Rattle.php_parse_simple.proofs.build.foreach_statement.Goals as goal

pub returns-clause-flat : goal.returns-clause-flat
returns-clause-flat c = flat_foreach c.args.spot c.args.head c.args.body ∙ both c.requires.head c.requires.body
