use Rattle.php_first_parse.proofs.Commands.{no_part}
use Rattle.php_first_parse.proofs.statements.part.Goals as goal

pub returns-in_default-2 : goal.returns-in_default-2
returns-in_default-2 c =
    let seen = c.in-Some.ensures in
    no_part c.in-Some.lexeme seen.0 _ _ c.in_default-lexeme.not-Text seen.1 (rw c.in_default-2.is at c.in_ok-value.ensures)
