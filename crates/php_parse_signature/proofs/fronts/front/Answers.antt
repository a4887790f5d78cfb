use Rattle.std.proofs.lemmas.Result.{err_from_is_err_and}
use Rattle.php_parse_signature.proofs.Heads.{front_fails}
use Rattle.php_parse_signature.proofs.fronts.front.Goals as goal

pub returns-in_err-name : goal.returns-in_err-name
returns-in_err-name c =
    let q = err_from_is_err_and c.from_residual-in_err-name.result c.from_residual-in_err-name.ensures.1 in
    rw (q.1, q.2) (front_fails c.args.reader.now.tokens.now c.args.at _ _ _ c.in_err-name.field-0.0 c.in_ok-typed.ensures c.reference-reference.ensures c.variadic-variadic.ensures c.in_err-name.ensures)
