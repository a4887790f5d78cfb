use Rattle.std.proofs.Common.{◌∙◌}
use Rattle.php_parse_simple.proofs.Flats.{all_three}
use Rattle.php_flat.proofs.Nodes.{flat_try}
use Rattle.php_parse_simple.proofs.build.try_statement.Goals as goal

pub returns-clause-flat : goal.returns-clause-flat
returns-clause-flat c = flat_try c.args.spot c.args.body c.args.catches c.args.last ∙ all_three _ _ _ c.requires.body c.requires.catches c.requires.last
