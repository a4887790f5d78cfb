use Rattle.php_parse_script.proofs.Heads.{item_shown}
use Rattle.php_parse_script.proofs.items.item.Goals as goal

pub statement-requires-clause-here : goal.statement-requires-clause-here
statement-requires-clause-here c = item_shown c.args.reader.now.tokens.now c.args.at c.requires.here (rw c.in-Statement.is at c.item_at.ensures)
