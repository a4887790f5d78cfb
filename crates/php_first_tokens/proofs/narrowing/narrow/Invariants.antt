use Rattle.php_first_tokens.specs.Lexemes.{names_of}
use Rattle.php_first_tokens.proofs.Rest.{Reached}
use Rattle.php_first_tokens.proofs.narrowing.narrow.Given as goal

-- the names and tokens are those of the front up to the place
abbrev pub invariant-loop-at : goal.invariant-loop-at
invariant-loop-at l = record {
  reached : Reached l.tokens (names_of l.names.keys) l.at l.firsts.items;
}
