-- The tokens of a script are those of the first language in at most one way.
use Rattle.std.proofs.Common.{◌≡◌, List, Some, sym, ◌∙◌}
use Rattle.php_token.specs.Token as whole
use Rattle.php_first_tokens.specs.declared.token.Token.{Token}
use Rattle.php_first_tokens.specs.Lexemes.{AreFirst}

pub one_narrowing : (found : List whole.Token) (firsts others : List Token) → AreFirst found firsts → AreFirst found others → firsts ≡ others
one_narrowing found firsts others are other_are =
    let same : Some firsts ≡ Some others = sym are ∙ other_are in
    cc
