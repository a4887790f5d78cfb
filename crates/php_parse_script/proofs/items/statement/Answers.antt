use Rattle.std.proofs.Common.{refl, arith}
use Rattle.std.proofs.lemmas.Result.{err_from_is_err_and}
use Rattle.php_grammar_laws.proofs.Instances.{scripts_lend_statements}
use Rattle.php_parse_statement.proofs.Outermost.{outermost, outermost_fails}
use Rattle.php_parse_script.proofs.Inside.{statement_answers, statement_fails}
use Rattle.php_parse_script.proofs.items.statement.Goals as goal

pub returns-in_err-read : goal.returns-in_err-read
returns-in_err-read c =
    let q = err_from_is_err_and c.from_residual.result c.from_residual.ensures.1 in
    rw (q.1, q.2) (statement_fails scripts_lend_statements c.args.reader.now.room c.args.reader.now.tokens.now c.args.at c.in_err-read.field-0.0 c.requires.here (omega (arith, c.requires.deep))
    (λ n is. outermost_fails c.args.reader.now c.args.at n c.in_err-read.field-0.0 c.in_err-read.ensures is))

pub returns : goal.returns
returns c =
    statement_answers scripts_lend_statements c.args.reader.now c.args.at c.in_ok-read.read _ c.requires.here c.requires.deep (λ n is. outermost c.args.reader.now c.args.at n c.in_ok-read.read c.in_ok-read.ensures is) c.statement_item.ensures.shown refl
