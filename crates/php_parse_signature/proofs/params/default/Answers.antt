use Rattle.php_parse_signature.proofs.Defaults.{default_answers}
use Rattle.php_parse_signature.proofs.params.default.Goals as goal

pub returns : goal.returns
returns c = default_answers c.args.reader.now c.args.at c.read_expression.result c.requires.deep c.read_expression.ensures
