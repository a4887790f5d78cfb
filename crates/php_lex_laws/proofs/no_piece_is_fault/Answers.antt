use Rattle.php_lex_laws.proofs.LongestLemmas.{fault_is}
use Rattle.php_lex_laws.proofs.no_piece_is_fault.Goals as goal

pub returns : goal.returns
returns c = fault_is
