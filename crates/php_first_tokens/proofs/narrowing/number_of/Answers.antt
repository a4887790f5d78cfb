use Rattle.php_first_tokens.proofs.Names.{joins, numbered}
use Rattle.php_first_tokens.proofs.narrowing.number_of.Goals as goal

pub returns-clause-names : goal.returns-clause-names
returns-clause-names c = joins c.args.names.now.keys c.insert_full.new.self.keys c.args.name c.in_ok-number.ensures.keys

pub returns-clause-number : goal.returns-clause-number
returns-clause-number c =
    let e = c.in_ok-number.ensures in
    numbered c.args.names.now.keys c.insert_full.new.self.keys c.args.name c.in_ok-number.number e.keys e.index
