use Rattle.std.proofs.Common.{◌∙◌}
use Rattle.php_flat.proofs.Nodes.{flat_expression}
use Rattle.php_parse_simple.proofs.build.line_statement.Goals as goal

pub returns-clause-flat : goal.returns-clause-flat
returns-clause-flat c = flat_expression c.args.spot c.args.expr ∙ c.requires
