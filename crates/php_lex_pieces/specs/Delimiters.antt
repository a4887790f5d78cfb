-- How the code keeps what ends a template.
use Rattle.php_lex_pieces.specs.declared.escapes.Delimiter.{Delimiter}
use Rattle.php_lex_pieces.specs.declared.escapes.Delimiter.TheVariants as Kept
use Rattle.php_lex_pieces.specs.Templates as Templates

abbrev pub delimiter_of : Delimiter → Templates.Delimiter
delimiter_of Kept.Quote = Templates.quote
delimiter_of (Kept.Label name) = Templates.label name.now
