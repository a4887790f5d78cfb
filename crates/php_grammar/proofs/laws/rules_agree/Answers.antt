use Rattle.php_grammar.proofs.expression.RulesAgree as rules
use Rattle.php_grammar.proofs.laws.rules_agree.Goals as goal

pub returns : goal.returns
returns c = rules.rules_agree
