use Rattle.std.proofs.Common.{◌∙◌}
use Rattle.php_build.proofs.Flats.{both}
use Rattle.php_flat.proofs.Nodes.{flat_while}
use Rattle.php_parse_simple.proofs.build.while_statement.Goals as goal

pub returns-clause-flat : goal.returns-clause-flat
returns-clause-flat c = flat_while c.args.spot c.args.test c.args.body ∙ both c.requires.test c.requires.body
