use Rattle.php_parse_prefixes.proofs.Onwards.{unchanged}
use Rattle.php_parse_prefixes.proofs.prefixes.change_of.Goals as goal

pub returns-in_default : goal.returns-in_default
returns-in_default c = λ tokens at follows. unchanged tokens at c.args.behind follows c.in_default.not-Assign c.in_default.not-Count
