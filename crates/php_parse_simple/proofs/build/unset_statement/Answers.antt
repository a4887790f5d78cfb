use Rattle.std.proofs.Common.{◌∙◌}
use Rattle.php_flat.proofs.Nodes.{flat_unset}
use Rattle.php_parse_simple.proofs.build.unset_statement.Goals as goal

pub returns-clause-flat : goal.returns-clause-flat
returns-clause-flat c = flat_unset c.args.spot c.args.places ∙ c.requires
