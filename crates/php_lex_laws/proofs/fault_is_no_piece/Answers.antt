use Rattle.php_lex_laws.proofs.LongestLemmas.{at_fault}
use Rattle.php_lex_laws.proofs.fault_is_no_piece.Goals as goal

pub returns : goal.returns
returns c = at_fault
