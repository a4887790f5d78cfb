use Rattle.php_parse_expression.proofs.expression.+read_begun.Given as goal

abbrev pub decreases-read_begun : goal.decreases-read_begun
decreases-read_begun l = l.reader.now.room
