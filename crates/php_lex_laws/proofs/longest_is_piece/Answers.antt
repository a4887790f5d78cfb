use Rattle.std.proofs.Common.{refl, arith}
use Rattle.php_lex_laws.specs.Longest.{given}
use Rattle.php_lex_laws.proofs.GivenLemmas.{given_len}
use Rattle.php_lex_laws.proofs.LongestLemmas.{longest_is}
use Rattle.php_lex_laws.proofs.WithinLemmas.{form_within}
use Rattle.php_lex_laws.proofs.longest_is_piece.Goals as goal

pub returns : goal.returns
returns c mode line text n form at =
    let within = form_within mode form text n at.has in
    (given mode form line text n, (longest_is mode line text n form (omega (arith, within.0, within.1)) at, (given_len mode form line text n, refl)))
