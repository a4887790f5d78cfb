use Rattle.std.proofs.Common.{arith}
use Rattle.php_lex.proofs.LineLemmas.{found_end, no_end}
use Rattle.php_lex.proofs.lines.line_end.Goals as goal

pub returns-in-Some-clause-value : goal.returns-in-Some-clause-value
returns-in-Some-clause-value c =
    let found = c.in-Some.ensures in
    found_end c.args.text.now c.args.at c.in-Some.distance (omega (arith, found.0.high)) found.0.before found.1

pub returns-in-None-clause-value : goal.returns-in-None-clause-value
returns-in-None-clause-value c = no_end c.args.text.now c.args.at c.requires c.in-None.ensures
