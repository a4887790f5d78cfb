use Rattle.std.proofs.Common.{◌∙◌}
use Rattle.php_flat.proofs.Nodes.{flat_return, flat_break, flat_continue}
use Rattle.php_parse_simple.proofs.build.jump_statement.Goals as goal

pub returns-in-Return-clause-flat : goal.returns-in-Return-clause-flat
returns-in-Return-clause-flat c = flat_return c.args.spot c.args.value ∙ c.requires

pub returns-in-Break-clause-flat : goal.returns-in-Break-clause-flat
returns-in-Break-clause-flat c = flat_break c.args.spot c.args.value ∙ c.requires

pub returns-in-Continue-clause-flat : goal.returns-in-Continue-clause-flat
returns-in-Continue-clause-flat c = flat_continue c.args.spot c.args.value ∙ c.requires
