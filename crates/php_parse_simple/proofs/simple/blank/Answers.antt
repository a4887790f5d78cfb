use Rattle.std.proofs.Common.{refl, arith}
use Rattle.php_ast.specs.statement.Tree.{blank}
use Rattle.php_grammar.specs.statement.Role.{at_blank}
use Rattle.php_parse_simple.proofs.Plain.{begins, blank_spans}
use Rattle.php_parse_simple.proofs.simple.blank.Goals as goal

pub returns : goal.returns
returns c =
    let h = c.requires.here in
    record {
      form = blank tt;
      spans = blank_spans c.args.reader.now.tokens.now _ _ c.args.at c.blank_statement.ensures.shown c.spot.ensures;
      reads = begins at_blank h.token h.stands.is h.role_is (λ o. refl) (λ o. refl) c.requires.some;
      ahead = omega arith;
      within = omega (arith, h.stands.within);
    }
