use Rattle.php_reader.proofs.look.ends_with.Goals as goal

pub returns-clause-yes : goal.returns-clause-yes
returns-clause-yes c = λ h. c.closed_by.ensures.yes h c.args.tokens.now c.args.at c.next_at.ensures
