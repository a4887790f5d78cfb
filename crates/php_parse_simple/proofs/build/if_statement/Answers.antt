use Rattle.std.proofs.Common.{◌∙◌}
use Rattle.php_parse_simple.proofs.Flats.{all_four}
use Rattle.php_flat.proofs.Nodes.{flat_if}
use Rattle.php_parse_simple.proofs.build.if_statement.Goals as goal

pub returns-clause-flat : goal.returns-clause-flat
returns-clause-flat c = flat_if c.args.spot c.args.test c.args.body c.args.parts c.args.last ∙ all_four _ _ _ _ c.requires.test c.requires.body c.requires.parts c.requires.last
