use Rattle.php_parse_expression.proofs.Onwards.{no_operator}
use Rattle.php_parse_expression.proofs.expression.operator_of.Goals as goal

pub returns-in_default : goal.returns-in_default
returns-in_default c = λ tokens at follows. no_operator tokens at c.args.behind c.args.least c.args.edge c.requires follows c.in_default.not-Infix
