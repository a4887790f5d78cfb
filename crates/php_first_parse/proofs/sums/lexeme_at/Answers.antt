use Rattle.php_first_parse.proofs.sums.lexeme_at.Goals as goal

pub returns-in-Some : goal.returns-in-Some
returns-in-Some c = (c.in-Some.token.line, c.in-Some.ensures.0, c.in-Some.ensures.1)
