use Rattle.php_parse_operands.proofs.Heads.{no_suffix}
use Rattle.php_parse_operands.proofs.suffixes.suffix_of.Goals as goal

pub returns-in_default : goal.returns-in_default
returns-in_default c = λ tokens at follows. no_suffix tokens at c.args.behind c.args.edge follows c.in_default.not-Suffix
