use Rattle.std.proofs.Common.{◌∙◌}
use Rattle.php_flat.proofs.Nodes.{flat_block}
use Rattle.php_parse_simple.proofs.build.block_statement.Goals as goal

pub returns-clause-flat : goal.returns-clause-flat
returns-clause-flat c = flat_block c.args.spot c.args.body ∙ c.requires
