use Rattle.php_parse_statement.proofs.statement.+read_statement.Given as goal

abbrev pub decreases-read_statement : goal.decreases-read_statement
decreases-read_statement l = l.reader.now.room
