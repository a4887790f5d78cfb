use Rattle.std.proofs.Common.{arith}
use Rattle.memchr.specs.Find.{is_byte3}
use Rattle.php_lex_pieces.proofs.RunLemmas.{skips_to, skips_all}
use Rattle.php_lex_pieces.proofs.search.next_of_three.Goals as goal

pub returns-in-Some-clause-skips : goal.returns-in-Some-clause-skips
returns-in-Some-clause-skips c =
    let found = c.in-Some.ensures in
    skips_to (is_byte3 c.args.first c.args.second c.args.third) c.args.text.now c.args.at c.in-Some.distance c.requires (omega (arith, found.0.high)) found.0.before

pub returns-in-None-clause-skips : goal.returns-in-None-clause-skips
returns-in-None-clause-skips c = skips_all (is_byte3 c.args.first c.args.second c.args.third) c.args.text.now c.args.at c.requires c.in-None.ensures
