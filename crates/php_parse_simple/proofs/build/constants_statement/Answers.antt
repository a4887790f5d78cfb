use Rattle.std.proofs.Common.{◌∙◌}
use Rattle.php_flat.proofs.Nodes.{flat_const}
use Rattle.php_parse_simple.proofs.build.constants_statement.Goals as goal

pub returns-clause-flat : goal.returns-clause-flat
returns-clause-flat c = flat_const c.args.spot c.args.constants ∙ c.requires
