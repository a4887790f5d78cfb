use Rattle.std.proofs.Common.{◌∙◌}
use Rattle.php_build.proofs.Flats.{both}
use Rattle.php_flat.proofs.Nodes.{flat_for}
use Rattle.php_parse_simple.proofs.build.for_statement.Goals as goal

pub returns-clause-flat : goal.returns-clause-flat
returns-clause-flat c = flat_for c.args.spot c.args.head c.args.body ∙ both c.requires.head c.requires.body
