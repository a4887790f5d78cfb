use Rattle.std.proofs.Common.{Ok, sym}
use Rattle.php_token.specs.Token.{token_at}
use Rattle.php_parse_simple.proofs.Plain.{line_due}
use Rattle.php_parse_statement.proofs.Chosen.{block_answers, form_answers}
use Rattle.php_parse_statement.proofs.parser.Parser.statement.Goals as goal

pub returns-in-Block : goal.returns-in-Block
returns-in-Block g c =
    let text = (token_at c.args.self.now.reader.tokens.now c.args.at).text in
    block_answers c.args.self.now.reader c.args.at c.begun_at.result text c.block.result c.in-Block.is c.begun_at.ensures c.block.ensures

pub line-requires-clause-due : goal.line-requires-clause-due
line-requires-clause-due g c = line_due (rw c.in-Expression.is at c.begun_at.ensures)

pub returns-in-Blank : goal.returns-in-Blank
returns-in-Blank g c =
    let text = (token_at c.args.self.now.reader.tokens.now c.args.at).text in
    form_answers c.args.self.now.reader c.args.at c.begun_at.result text (Ok c.blank.result) (λ e. let is = c.in-Blank.is in cc) c.begun_at.ensures c.blank.ensures

pub returns-in-Inline : goal.returns-in-Inline
returns-in-Inline g c =
    let text = (token_at c.args.self.now.reader.tokens.now c.args.at).text in
    form_answers c.args.self.now.reader c.args.at c.begun_at.result text c.inline.result (λ e. let is = c.in-Inline.is in cc) c.begun_at.ensures c.inline.ensures

pub returns-in-Echo : goal.returns-in-Echo
returns-in-Echo g c =
    let text = (token_at c.args.self.now.reader.tokens.now c.args.at).text in
    form_answers c.args.self.now.reader c.args.at c.begun_at.result text c.echo.result (λ e. let is = c.in-Echo.is in cc) c.begun_at.ensures c.echo.ensures

pub returns-in-Globals : goal.returns-in-Globals
returns-in-Globals g c =
    let text = (token_at c.args.self.now.reader.tokens.now c.args.at).text in
    form_answers c.args.self.now.reader c.args.at c.begun_at.result text c.globals.result (λ e. let is = c.in-Globals.is in cc) c.begun_at.ensures c.globals.ensures

pub returns-in-Statics : goal.returns-in-Statics
returns-in-Statics g c =
    let text = (token_at c.args.self.now.reader.tokens.now c.args.at).text in
    form_answers c.args.self.now.reader c.args.at c.begun_at.result text c.statics.result (λ e. let is = c.in-Statics.is in cc) c.begun_at.ensures c.statics.ensures

pub returns-in-Unset : goal.returns-in-Unset
returns-in-Unset g c =
    let text = (token_at c.args.self.now.reader.tokens.now c.args.at).text in
    form_answers c.args.self.now.reader c.args.at c.begun_at.result text c.unset.result (λ e. let is = c.in-Unset.is in cc) c.begun_at.ensures c.unset.ensures

pub returns-in-Constants : goal.returns-in-Constants
returns-in-Constants g c =
    let text = (token_at c.args.self.now.reader.tokens.now c.args.at).text in
    form_answers c.args.self.now.reader c.args.at c.begun_at.result text c.constants.result (λ e. let is = c.in-Constants.is in cc) c.begun_at.ensures c.constants.ensures

pub returns-in-Jump : goal.returns-in-Jump
returns-in-Jump g c =
    let text = (token_at c.args.self.now.reader.tokens.now c.args.at).text in
    form_answers c.args.self.now.reader c.args.at c.begun_at.result text c.jump.result (λ e. let is = c.in-Jump.is in cc) c.begun_at.ensures c.jump.ensures

pub returns-in-Throw : goal.returns-in-Throw
returns-in-Throw g c =
    let text = (token_at c.args.self.now.reader.tokens.now c.args.at).text in
    form_answers c.args.self.now.reader c.args.at c.begun_at.result text c.throw.result (λ e. let is = c.in-Throw.is in cc) c.begun_at.ensures c.throw.ensures

pub returns-in-If : goal.returns-in-If
returns-in-If g c =
    let text = (token_at c.args.self.now.reader.tokens.now c.args.at).text in
    form_answers c.args.self.now.reader c.args.at c.begun_at.result text c.condition.result (λ e. let is = c.in-If.is in cc) c.begun_at.ensures c.condition.ensures

pub returns-in-While : goal.returns-in-While
returns-in-While g c =
    let text = (token_at c.args.self.now.reader.tokens.now c.args.at).text in
    form_answers c.args.self.now.reader c.args.at c.begun_at.result text c.while_loop.result (λ e. let is = c.in-While.is in cc) c.begun_at.ensures c.while_loop.ensures

pub returns-in-Do : goal.returns-in-Do
returns-in-Do g c =
    let text = (token_at c.args.self.now.reader.tokens.now c.args.at).text in
    form_answers c.args.self.now.reader c.args.at c.begun_at.result text c.do_while.result (λ e. let is = c.in-Do.is in cc) c.begun_at.ensures c.do_while.ensures

pub returns-in-For : goal.returns-in-For
returns-in-For g c =
    let text = (token_at c.args.self.now.reader.tokens.now c.args.at).text in
    form_answers c.args.self.now.reader c.args.at c.begun_at.result text c.for_loop.result (λ e. let is = c.in-For.is in cc) c.begun_at.ensures c.for_loop.ensures

pub returns-in-Foreach : goal.returns-in-Foreach
returns-in-Foreach g c =
    let text = (token_at c.args.self.now.reader.tokens.now c.args.at).text in
    form_answers c.args.self.now.reader c.args.at c.begun_at.result text c.foreach.result (λ e. let is = c.in-Foreach.is in cc) c.begun_at.ensures c.foreach.ensures

pub returns-in-Switch : goal.returns-in-Switch
returns-in-Switch g c =
    let text = (token_at c.args.self.now.reader.tokens.now c.args.at).text in
    form_answers c.args.self.now.reader c.args.at c.begun_at.result text c.switch.result (λ e. let is = c.in-Switch.is in cc) c.begun_at.ensures c.switch.ensures

pub returns-in-Try : goal.returns-in-Try
returns-in-Try g c =
    let text = (token_at c.args.self.now.reader.tokens.now c.args.at).text in
    form_answers c.args.self.now.reader c.args.at c.begun_at.result text c.try_block.result (λ e. let is = c.in-Try.is in cc) c.begun_at.ensures c.try_block.ensures

pub returns-in-Declare : goal.returns-in-Declare
returns-in-Declare g c =
    let text = (token_at c.args.self.now.reader.tokens.now c.args.at).text in
    form_answers c.args.self.now.reader c.args.at c.begun_at.result text c.declare.result (λ e. let is = c.in-Declare.is in cc) c.begun_at.ensures c.declare.ensures

pub returns-in-Expression : goal.returns-in-Expression
returns-in-Expression g c =
    let text = (token_at c.args.self.now.reader.tokens.now c.args.at).text in
    form_answers c.args.self.now.reader c.args.at c.begun_at.result text c.line.result (λ e. let is = c.in-Expression.is in cc) c.begun_at.ensures c.line.ensures
