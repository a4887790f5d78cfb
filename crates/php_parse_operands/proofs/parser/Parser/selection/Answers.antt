use Rattle.php_parse_operands.proofs.parser.Parser.selection.Goals as goal

pub returns : goal.returns
returns g c = λ f start sized low. c.property.ensures f start sized low
