use Rattle.std.proofs.lemmas.Result.{err_from_is_err_and}
use Rattle.php_parse_expression.proofs.operators.operator.Goals as goal

pub returns-in_err-instance_of-in-InstanceOf : goal.returns-in_err-instance_of-in-InstanceOf
returns-in_err-instance_of-in-InstanceOf g c = λ f start spans is.
    let q = err_from_is_err_and c.from_residual.result c.from_residual.ensures.1 in
    rw (q.1, q.2) (c.in_err-instance_of-in-InstanceOf.ensures c.args.least (rw c.in-InstanceOf.is at c.requires.near) f start spans is)
