use Rattle.std.proofs.Common.{refl}
use Rattle.php_token.specs.Token.{token_at}
use Rattle.php_parse_simple.proofs.Sees.{as_shown, as_hidden}
use Rattle.php_parse_simple.proofs.look.sees_as.Goals as goal

pub returns-clause-yes : goal.returns-clause-yes
returns-clause-yes c =
    as_shown c.args.tokens.now c.args.at c.is_as.result (c.if-not-stands.ensures.yes refl) ((rw c.kind.ensures at c.is_as.ensures) (token_at c.args.tokens.now c.args.at).text (token_at c.args.tokens.now c.args.at).int)

pub returns-clause-no : goal.returns-clause-no
returns-clause-no c =
    as_hidden c.args.tokens.now c.args.at c.is_as.result (c.if-not-stands.ensures.yes refl) ((rw c.kind.ensures at c.is_as.ensures) (token_at c.args.tokens.now c.args.at).text (token_at c.args.tokens.now c.args.at).int)
