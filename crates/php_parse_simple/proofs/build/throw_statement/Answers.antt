use Rattle.std.proofs.Common.{◌∙◌}
use Rattle.php_flat.proofs.Nodes.{flat_throw}
use Rattle.php_parse_simple.proofs.build.throw_statement.Goals as goal

pub returns-clause-flat : goal.returns-clause-flat
returns-clause-flat c = flat_throw c.args.spot c.args.expr ∙ c.requires
