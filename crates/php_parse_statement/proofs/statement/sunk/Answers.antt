use Rattle.php_token.specs.Token.{token_at}
use Rattle.php_parse_simple.proofs.Plain.{line_due}
use Rattle.php_parse_statement.proofs.Chosen.{form_answers, statement_sinks}
use Rattle.php_parse_statement.proofs.statement.sunk.Goals as goal

pub line-requires-clause-due : goal.line-requires-clause-due
line-requires-clause-due c = line_due (rw c.in-Expression.is at c.begun_at.ensures)

pub returns-in-Expression : goal.returns-in-Expression
returns-in-Expression c =
    let text = (token_at c.args.reader.now.tokens.now c.args.at).text in
    form_answers c.args.reader.now c.args.at c.begun_at.result text c.line.result (λ e. let is = c.in-Expression.is in cc) c.begun_at.ensures c.line.ensures

pub returns-in_default : goal.returns-in_default
returns-in_default c =
    let text = (token_at c.args.reader.now.tokens.now c.args.at).text in
    statement_sinks c.args.reader.now c.args.at c.begun_at.result text c.requires.none c.requires.within c.in_default.not-Expression c.begun_at.ensures
