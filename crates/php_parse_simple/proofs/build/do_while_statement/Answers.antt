use Rattle.std.proofs.Common.{◌∙◌}
use Rattle.php_build.proofs.Flats.{both}
use Rattle.php_flat.proofs.Nodes.{flat_do_while}
use Rattle.php_parse_simple.proofs.build.do_while_statement.Goals as goal

pub returns-clause-flat : goal.returns-clause-flat
returns-clause-flat c = flat_do_while c.args.spot c.args.body c.args.test ∙ both c.requires.body c.requires.test
