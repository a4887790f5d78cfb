use Rattle.std.proofs.Common.{arith}
use Rattle.php_token.specs.Token.{token_at}
use Rattle.php_reader.specs.RoleView.{start_view}
use Rattle.php_reader.specs.Seen.{rest}
use Rattle.php_parse_expression.proofs.Onwards.{begun, start_some}
use Rattle.php_parse_simple.proofs.Sees.{sunk_deep}
use Rattle.php_parse_simple.proofs.expression.sunk.Goals as goal

pub returns-in_default : goal.returns-in_default
returns-in_default c =
    let b = begun c.args.tokens.now c.args.at (start_view c.start_at.result (token_at c.args.tokens.now c.args.at).text) (start_some c.start_at.result (token_at c.args.tokens.now c.args.at).text c.in_default.not-Nothing) c.start_at.ensures in
    record { halts = sunk_deep b.token _ (rest c.args.tokens.now c.args.at) b.stands.is b.begins; ahead = omega arith; within = c.requires }
