use Rattle.std.proofs.Common.{◌∙◌}
use Rattle.php_flat.proofs.Nodes.{flat_echo}
use Rattle.php_parse_simple.proofs.build.echo_statement.Goals as goal

pub returns-clause-flat : goal.returns-clause-flat
returns-clause-flat c = flat_echo c.args.spot c.args.values ∙ c.requires
