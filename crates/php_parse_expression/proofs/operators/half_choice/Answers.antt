use Rattle.std.proofs.Common.{refl, arith}
use Rattle.php_grammar.specs.expression.Machine.{else_open}
use Rattle.php_parse_expression.proofs.Joins.{else_begins, choice_spans}
use Rattle.php_parse_expression.proofs.operators.half_choice.Goals as goal

pub returns : goal.returns
returns g c = λ deep f m start spans more.
    let e = c.requires.colon in (
      record {
        form = else_open f m;
        reads = else_begins f m e.token e.stands.is e.role_is deep;
        least_is = refl;
        right_is = refl;
        as_deep = λ d. refl;
        arrow = refl;
        shown = λ x y behind right. rw c.in_ok-new.ensures (choice_spans c.args.parser.now.reader.tokens.now _ _ _ _ f m y start c.args.left.next c.args.middle.next behind refl spans more right);
        ends_is = λ x. refl;
        bare_is = λ x. refl;
        ahead = omega (arith, spans.sized, more.sized);
        within = omega (arith, e.stands.within);
      },
      omega arith,
    )
