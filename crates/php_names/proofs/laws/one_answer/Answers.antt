use Rattle.php_names.proofs.AnswerLemmas as lemma
use Rattle.php_names.proofs.laws.one_answer.Goals as goal

pub returns-clause-token : goal.returns-clause-token
returns-clause-token c = lemma.one_token

pub returns-clause-whole : goal.returns-clause-whole
returns-clause-whole c = lemma.one_answer
