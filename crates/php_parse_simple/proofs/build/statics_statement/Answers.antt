use Rattle.std.proofs.Common.{◌∙◌}
use Rattle.php_flat.proofs.Nodes.{flat_static}
use Rattle.php_parse_simple.proofs.build.statics_statement.Goals as goal

pub returns-clause-flat : goal.returns-clause-flat
returns-clause-flat c = flat_static c.args.spot c.args.variables ∙ c.requires
