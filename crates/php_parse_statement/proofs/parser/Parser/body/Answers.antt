use Rattle.std.proofs.Common.{sym, ◌∙◌}
use Rattle.php_token.specs.Token.{token_at}
use Rattle.php_parse_statement.proofs.Lists.{body_block, body_deeper, no_block, starts_head}
use Rattle.php_parse_statement.proofs.parser.Parser.body.Goals as goal

pub returns-in-Block : goal.returns-in-Block
returns-in-Block g c = body_block c.args.self.now.reader c.args.at c.block.result c.block.ensures

pub returns-in_default : goal.returns-in_default
returns-in_default g c =
    let text = (token_at c.args.self.now.reader.tokens.now c.args.at).text in
    body_deeper c.args.self.now.reader c.args.at c.deeper.result c.args.self.now.deep
    (λ e. no_block c.begun_at.result text c.in_default.not-Block (sym (starts_head c.args.self.now.reader.tokens.now c.args.at c.begun_at.result text c.begun_at.ensures) ∙ e)) c.deeper.ensures
