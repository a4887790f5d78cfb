use Rattle.std.proofs.Common.{refl, arith}
use Rattle.php_token.specs.Token.{token_at}
use Rattle.php_ast.specs.statement.Tree.{inline}
use Rattle.php_grammar.specs.statement.Role.{at_inline}
use Rattle.php_parse_simple.proofs.Plain.{begins, inline_spans}
use Rattle.php_parse_simple.proofs.simple.inline.Goals as goal

pub returns : goal.returns
returns c =
    let h = c.requires.here in
    let text = (token_at c.args.reader.now.tokens.now c.args.at).text in
    record {
      form = inline tt text;
      spans = inline_spans c.args.reader.now.tokens.now _ _ _ text c.args.at c.inline_statement.ensures.shown c.spot.ensures c.in_ok-text.ensures;
      reads = begins (at_inline text) h.token h.stands.is h.role_is (λ o. refl) (λ o. refl) c.requires.some;
      ahead = omega arith;
      within = omega (arith, h.stands.within);
    }
