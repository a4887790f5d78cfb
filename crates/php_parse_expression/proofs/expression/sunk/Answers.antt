use Rattle.std.proofs.Common.{arith}
use Rattle.php_token.specs.Token.{token_at}
use Rattle.php_reader.specs.RoleView.{start_view}
use Rattle.php_parse_expression.proofs.Founds.{sinks_here}
use Rattle.php_parse_expression.proofs.Onwards.{begun, start_some}
use Rattle.php_parse_expression.proofs.expression.sunk.Goals as goal

pub returns-in_default : goal.returns-in_default
returns-in_default c = λ least low.
    let b = begun c.args.tokens.now c.args.at (start_view c.args.start (token_at c.args.tokens.now c.args.at).text) (start_some c.args.start (token_at c.args.tokens.now c.args.at).text c.in_default.not-Nothing) c.requires.starts in
    record { halts = sinks_here b.token low b.stands.is b.begins; ahead = omega arith; within = c.requires.within }
