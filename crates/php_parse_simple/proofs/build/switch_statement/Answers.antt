use Rattle.std.proofs.Common.{◌∙◌}
use Rattle.php_build.proofs.Flats.{both}
use Rattle.php_flat.proofs.Nodes.{flat_switch}
use Rattle.php_parse_simple.proofs.build.switch_statement.Goals as goal

pub returns-clause-flat : goal.returns-clause-flat
returns-clause-flat c = flat_switch c.args.spot c.args.value c.args.form c.args.cases ∙ both c.requires.value c.requires.cases
