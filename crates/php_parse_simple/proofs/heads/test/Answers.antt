use Rattle.std.proofs.Common.{◌+◌, ◌-◌, [], refl, ap, arith}
use Rattle.std.proofs.lemmas.Result.{err_from_is_err_and}
use Rattle.php_grammar.specs.statement.Role.{left_paren}
use Rattle.php_grammar.specs.statement.Forms.{as_test}
use Rattle.php_grammar.specs.statement.Machine.{expected, filled, tested}
use Rattle.php_parse_simple.proofs.Fails.{later, failed}
use Rattle.php_parse_simple.proofs.Inside.{read_leads, read_unclosed}
use Rattle.php_parse_simple.proofs.Moves.{leads, leads_halts, due_halts, due_outside}
use Rattle.php_parse_simple.proofs.Targets.{test_stuck}
use Rattle.php_parse_simple.proofs.heads.test.Goals as goal

pub returns-then-not-sees : goal.returns-then-not-sees
returns-then-not-sees c = λ head. record {
  halts = due_halts left_paren [] (λ o. expected (as_test head) o) c.if-not-sees.ensures;
  ahead = omega arith;
  within = c.requires.within;
}

pub returns-in_err-read : goal.returns-in_err-read
returns-in_err-read c =
    let s = c.if-not-sees.ensures in
    let q = err_from_is_err_and c.from_residual.result c.from_residual.ensures.1 in
    rw (q.1, q.2) (λ head. later c.args.reader.now.tokens.now c.args.at (c.args.at + 1) (λ o. expected (as_test head) o) c.in_err-read.field-0.0 (omega arith)
    (due_outside left_paren [] (λ o. expected (as_test head) o) s.token s.stands.is s.role_is (λ o. refl) (λ d. refl) c.requires.some)
    (failed _ _ (as_test head) (c.args.reader.now.room - 1) c.args.reader.now.tokens.now (c.args.at + 1) c.in_err-read.field-0.0 (λ o. omega (arith, c.requires.some)) c.in_err-read.ensures))

pub returns-then-not-ends : goal.returns-then-not-ends
returns-then-not-ends c =
    let s = c.if-not-sees.ensures in
    let r = c.in_ok-read.ensures in
    rw c.unclosed.ensures (λ head. record {
      halts = leads_halts (λ o. expected (as_test head) o) (due_outside left_paren [] (λ o. expected (as_test head) o) s.token s.stands.is s.role_is (λ o. refl) (λ d. refl) c.requires.some)
          (read_unclosed (as_test head) (c.args.reader.now.room - 1) r.form (λ o. omega (arith, c.requires.some)) r.reads (λ o. test_stuck head r.form o _ (c.if-not-ends.ensures.no refl)));
      ahead = omega (arith, r.ahead);
      within = r.within;
    })

pub returns : goal.returns
returns c =
    let s = c.if-not-sees.ensures in
    let r = c.in_ok-read.ensures in
    let e = c.if-not-ends.ensures.yes refl in
    record {
      form = r.form;
      shown = r.spans.shown;
      sized = omega (arith, r.spans.sized);
      reads = λ head. leads (λ o. expected (as_test head) o) (due_outside left_paren [] (λ o. expected (as_test head) o) s.token s.stands.is s.role_is (λ o. refl) (λ d. refl) c.requires.some)
          (read_leads (as_test head) (c.args.reader.now.room - 1) r.form e.token (λ o. tested head r.form o) (λ o. omega (arith, c.requires.some)) r.some r.reads e.stands.is (λ o. ap (filled (as_test head) r.form o) e.role_is));
      ahead = omega (arith, r.ahead);
      within = omega (arith, e.stands.within);
      flat = c.in_ok-read.read.flat;
    }
