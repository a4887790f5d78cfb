use Rattle.std.proofs.Common.{sym, ◌∙◌, ap}
use Rattle.php_token.specs.Token.{token_at}
use Rattle.php_reader.specs.RoleView.{start_view}
use Rattle.php_reader.specs.Seen.{head_beginning}
use Rattle.php_parse_expression.proofs.Onwards.{begun, start_some}
use Rattle.php_parse_statement.proofs.Chosen.{no_expression}
use Rattle.php_parse_statement.proofs.Lists.{starts_head}
use Rattle.php_parse_statement.proofs.Outermost.{brace_sunk, form_sunk, expression_sunk, nothing_sunk}
use Rattle.php_parse_statement.proofs.rows.sunk.Goals as goal

pub returns-then-sees_brace : goal.returns-then-sees_brace
returns-then-sees_brace c = brace_sunk c.args.tokens.now c.args.at c.if-sees_brace.ensures

pub returns-in_default : goal.returns-in_default
returns-in_default c =
    let text = (token_at c.args.tokens.now c.args.at).text in
    form_sunk c.args.tokens.now c.args.at c.requires (λ e. no_expression c.begun_at.result text c.in_default.not-Expression (sym (starts_head c.args.tokens.now c.args.at c.begun_at.result text c.begun_at.ensures) ∙ e))
