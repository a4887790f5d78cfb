use Rattle.php_lex.proofs.CutLemmas.{cut_reads, stop_reads}
use Rattle.php_lex.proofs.laws.cut_decides.Goals as goal

pub returns-clause-tokens : goal.returns-clause-tokens
returns-clause-tokens c = cut_reads

pub returns-clause-fault : goal.returns-clause-fault
returns-clause-fault c = stop_reads
