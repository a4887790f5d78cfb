use Rattle.php_reader.specs.Seen.{rest}
use Rattle.php_parse_simple.proofs.Sees.{shows_ending, no_ending_here}
use Rattle.php_parse_simple.proofs.look.ends.Goals as goal

pub returns-clause-yes : goal.returns-clause-yes
returns-clause-yes c = λ is. shows_ending c.args.tokens.now c.args.at c.args.closer (c.ends_with.ensures.yes is)

pub returns-clause-no : goal.returns-clause-no
returns-clause-no c = λ is. no_ending_here (rest c.args.tokens.now c.args.at) c.args.closer (c.ends_with.ensures.no is)
