use Rattle.std.proofs.Common.{◌+◌, refl, ap, arith}
use Rattle.std.proofs.lemmas.Result.{err_from_is_err_and}
use Rattle.php_ast.specs.expression.Tree.{none, and, plain}
use Rattle.php_ast.specs.statement.Tree.{echo}
use Rattle.php_grammar.specs.statement.Role.{at_echo}
use Rattle.php_grammar.specs.statement.Forms.{of_echo, as_value, done}
use Rattle.php_grammar.specs.statement.Machine.{expected, filled}
use Rattle.php_parse_simple.proofs.Fails.{later}
use Rattle.php_parse_simple.proofs.Moves.{leads, leads_halts}
use Rattle.php_parse_simple.proofs.Plain.{begins, echo_stuck, echo_spans, values_lead, values_unended}
use Rattle.php_parse_simple.proofs.simple.echo.Goals as goal

pub returns-in_err-values : goal.returns-in_err-values
returns-in_err-values c =
    let h = c.requires.here in
    let q = err_from_is_err_and c.from_residual.result c.from_residual.ensures.1 in
    rw (q.1, q.2) (later c.args.reader.now.tokens.now c.args.at (c.args.at + 1) (λ o. expected (as_value of_echo none) o) c.in_err-values.field-0.0 (omega arith)
    (begins at_echo h.token h.stands.is h.role_is (λ o. refl) (λ o. refl) c.requires.some) (c.in_err-values.ensures of_echo))

pub returns-then-not-ends : goal.returns-then-not-ends
returns-then-not-ends c =
    let h = c.requires.here in
    let r = c.in_ok-values.ensures in
    rw c.discard.ensures (record {
      halts = leads_halts (λ o. expected (as_value of_echo none) o) (begins at_echo h.token h.stands.is h.role_is (λ o. refl) (λ o. refl) c.requires.some)
          (values_unended of_echo c.args.reader.now.room r.items r.last (λ o. refl) (r.reads of_echo) (λ o. echo_stuck r.items r.last o _ r.no_comma (c.if-not-ends.ensures.no refl)));
      ahead = omega (arith, r.ahead);
      within = r.within;
    })

pub returns : goal.returns
returns c =
    let h = c.requires.here in
    let r = c.in_ok-values.ensures in
    let e = c.if-not-ends.ensures.yes refl in
    let all = and r.items plain r.last in
    record {
      form = echo tt all;
      spans = echo_spans c.args.reader.now.tokens.now _ _ _ all c.args.at _ c.echo_statement.ensures.shown c.spot.ensures r.shown r.sized;
      reads = leads (λ o. expected (as_value of_echo none) o) (begins at_echo h.token h.stands.is h.role_is (λ o. refl) (λ o. refl) c.requires.some)
          (values_lead of_echo c.args.reader.now.room r.items r.last e.token (λ o. done (echo tt all) o) (λ o. refl) r.some (r.reads of_echo) e.stands.is (λ o. ap (filled (as_value of_echo r.items) r.last o) e.role_is));
      ahead = omega (arith, r.ahead);
      within = omega (arith, e.stands.within);
    }

pub echo_statement-requires : goal.echo_statement-requires
echo_statement-requires c = c.in_ok-values.ensures.flat
