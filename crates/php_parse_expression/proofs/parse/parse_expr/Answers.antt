use Rattle.std.proofs.Common.{◌-◌, arith}
use Rattle.php_parse_expression.proofs.Exactly.{is_read, is_refused}
use Rattle.php_parse_expression.proofs.parse.parse_expr.Goals as goal

pub returns-in-Ok : goal.returns-in-Ok
returns-in-Ok c = record {
  read = is_read c.args.depth (129 - c.args.depth) (128 - c.args.depth) c.args.tokens.now c.args.at c.in-Ok.read (omega arith) (omega arith) c.in-Ok.ensures;
  flat = c.in-Ok.read.flat;
  refused = tt;
}

pub returns-in-Err : goal.returns-in-Err
returns-in-Err c = record {
  read = tt;
  flat = tt;
  refused = is_refused c.args.depth (129 - c.args.depth) (128 - c.args.depth) c.args.tokens.now c.args.at c.in-Err.stop _ (omega arith) (omega arith) c.in-Err.ensures c.with_line.ensures;
}
