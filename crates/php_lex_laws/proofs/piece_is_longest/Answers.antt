use Rattle.php_lex_laws.proofs.LongestLemmas.{is_longest}
use Rattle.php_lex_laws.proofs.piece_is_longest.Goals as goal

pub returns : goal.returns
returns c = is_longest
