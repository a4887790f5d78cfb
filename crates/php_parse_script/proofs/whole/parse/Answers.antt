use Rattle.php_grammar_laws.proofs.Knowns.{script_walk_ends}
use Rattle.php_parse_script.proofs.Exactly.{is_read, is_refused}
use Rattle.php_parse_script.proofs.whole.parse.Goals as goal

pub returns-in-Ok : goal.returns-in-Ok
returns-in-Ok c = record {
  read = is_read script_walk_ends c.args.tokens.now c.in-Ok.read.script c.in-Ok.ensures;
  flat = c.in-Ok.read.flat;
  refused = tt;
}

pub returns-in-Err : goal.returns-in-Err
returns-in-Err c = record {
  read = tt;
  flat = tt;
  refused = is_refused script_walk_ends c.args.tokens.now c.in-Err.stop _ c.in-Err.ensures c.with_line.ensures;
}
