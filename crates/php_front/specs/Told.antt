-- The cause that a failure of one of the calls is. Want of memory is the same in each.
use Rattle.std.specs.Prelude.{List}
use Rattle.php_token.specs.Token.{Token}
use Rattle.php_lex.specs.declared.fail.LexFail.{LexFail}
use Rattle.php_lex.specs.declared.fail.LexFail.TheVariants as lex_fail
use Rattle.php_reader.specs.Line.{line_at}
use Rattle.php_reader.specs.declared.fail.ParseFail.{ParseFail}
use Rattle.php_reader.specs.declared.fail.ParseFail.TheVariants as parse_fail
use Rattle.php_names.specs.declared.fail.NameFail.{NameFail}
use Rattle.php_names.specs.declared.fail.NameFail.TheVariants as name_fail
use Rattle.php_front.specs.declared.fail.ReadFail.{ReadFail}
use Rattle.php_front.specs.declared.fail.ReadFail.TheVariants as fail

abbrev pub of_lex : LexFail → ReadFail
of_lex (lex_fail.Unclosed line) = fail.Lex (lex_fail.Unclosed line)
of_lex (lex_fail.BadByte line) = fail.Lex (lex_fail.BadByte line)
of_lex (lex_fail.FloatLiteral line) = fail.Lex (lex_fail.FloatLiteral line)
of_lex (lex_fail.IntTooLarge line) = fail.Lex (lex_fail.IntTooLarge line)
of_lex (lex_fail.BadEscape line) = fail.Lex (lex_fail.BadEscape line)
of_lex lex_fail.NoMemory = fail.NoMemory

abbrev pub of_parse : ParseFail → ReadFail
of_parse (parse_fail.Syntax at line) = fail.Parse (parse_fail.Syntax at line)
of_parse (parse_fail.TooDeep at line) = fail.Parse (parse_fail.TooDeep at line)
of_parse parse_fail.NoMemory = fail.NoMemory

-- with the line of the token at the place
abbrev pub of_check : List Token → NameFail → ReadFail
of_check found (name_fail.NotAPlace line at) = fail.Name (name_fail.NotAPlace (line_at found at) at)
of_check found (name_fail.BadBreak line at) = fail.Name (name_fail.BadBreak (line_at found at) at)
of_check found (name_fail.JumpFromFinally line at) = fail.Name (name_fail.JumpFromFinally (line_at found at) at)
of_check found (name_fail.Duplicate line at) = fail.Name (name_fail.Duplicate (line_at found at) at)
of_check found (name_fail.BadConstant line at) = fail.Name (name_fail.BadConstant (line_at found at) at)
of_check found (name_fail.BadList line at) = fail.Name (name_fail.BadList (line_at found at) at)
of_check found (name_fail.BadUse line at) = fail.Name (name_fail.BadUse (line_at found at) at)
of_check found (name_fail.TooManyNames line at) = fail.Name (name_fail.TooManyNames (line_at found at) at)
of_check found name_fail.NoMemory = fail.NoMemory
