use Rattle.std.proofs.Common.{sym, subst}
use Rattle.php_grammar.specs.expression.Machine.{expects}
use Rattle.php_parse_operands.specs.Answer.{Fails}
use Rattle.php_reader.specs.Seen.{rest}
use Rattle.php_parse_expression.proofs.expression.+read_begun.Goals as goal

pub returns-then-reader-eq0 : goal.returns-then-reader-eq0
returns-then-reader-eq0 t c =
    subst (λ k. Fails k c.args.least (λ s. expects s) (rest c.args.reader.now.tokens.now c.args.at) c.args.reader.now.tokens.now c.args.at c.sunk.result) (sym c.if-reader-eq0.true) (c.sunk.ensures c.args.least c.requires.small)
