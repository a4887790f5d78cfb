use Rattle.std.proofs.Common.{refl}
use Rattle.std.proofs.lemmas.Result.{err_from_is_err_and}
use Rattle.php_grammar_laws.proofs.Instances.{scripts_lend_functions}
use Rattle.php_parse_script.proofs.Inside.{function_answers, function_fails}
use Rattle.php_parse_script.proofs.items.function.Goals as goal

pub returns-in_err-read : goal.returns-in_err-read
returns-in_err-read c =
    let q = err_from_is_err_and c.from_residual.result c.from_residual.ensures.1 in
    rw (q.1, q.2) (function_fails scripts_lend_functions c.args.reader.now.room c.args.reader.now.tokens.now c.args.at c.in_err-read.field-0.0 c.requires.here c.in_err-read.ensures)

pub returns : goal.returns
returns c = function_answers scripts_lend_functions c.args.reader.now c.args.at c.in_ok-read.read _ c.requires.here c.in_ok-read.ensures c.function_item.ensures.shown refl
