use Rattle.std.proofs.Common.{rules}
use Rattle.php_parse_simple.proofs.expression.expression.Goals as goal

pub returns : goal.returns
returns c = search rules
