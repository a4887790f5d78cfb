use Rattle.std.proofs.Common.{◌-◌, arith}
use Rattle.php_parse_statement.proofs.Exactly.{is_read, is_refused}
use Rattle.php_parse_statement.proofs.Outermost.{outermost_at, outermost_fails_at}
use Rattle.php_parse_statement.proofs.parse.parse_statement.Goals as goal

pub returns-in-Ok : goal.returns-in-Ok
returns-in-Ok c = record {
  read = is_read c.args.depth (128 - c.args.depth) c.args.tokens.now c.args.at c.in-Ok.read (omega arith) (outermost_at (129 - c.args.depth) c.args.tokens.now c.args.at (128 - c.args.depth) c.in-Ok.read c.in-Ok.ensures (omega arith));
  flat = c.in-Ok.read.flat;
  refused = tt;
}

pub returns-in-Err : goal.returns-in-Err
returns-in-Err c = record {
  read = tt;
  flat = tt;
  refused = is_refused c.args.depth (128 - c.args.depth) c.args.tokens.now c.args.at c.in-Err.stop _ (omega arith) (outermost_fails_at (129 - c.args.depth) c.args.tokens.now c.args.at (128 - c.args.depth) c.in-Err.stop c.in-Err.ensures (omega arith)) c.with_line.ensures;
}
