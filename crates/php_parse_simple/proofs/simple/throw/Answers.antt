use Rattle.std.proofs.Common.{◌+◌, refl, ap, arith}
use Rattle.std.proofs.lemmas.Result.{err_from_is_err_and}
use Rattle.php_ast.specs.statement.Tree.{throw}
use Rattle.php_grammar.specs.statement.Role.{at_throw}
use Rattle.php_grammar.specs.statement.Forms.{as_thrown, done}
use Rattle.php_grammar.specs.statement.Machine.{expected, filled}
use Rattle.php_parse_simple.proofs.Fails.{later, failed}
use Rattle.php_parse_simple.proofs.Inside.{read_leads, read_unclosed}
use Rattle.php_parse_simple.proofs.Moves.{leads, leads_halts}
use Rattle.php_parse_simple.proofs.Plain.{begins, thrown_stuck, throw_spans}
use Rattle.php_parse_simple.proofs.simple.throw.Goals as goal

pub returns-in_err-read : goal.returns-in_err-read
returns-in_err-read c =
    let h = c.requires.here in
    let q = err_from_is_err_and c.from_residual.result c.from_residual.ensures.1 in
    rw (q.1, q.2) (later c.args.reader.now.tokens.now c.args.at (c.args.at + 1) (λ o. expected as_thrown o) c.in_err-read.field-0.0 (omega arith)
    (begins at_throw h.token h.stands.is h.role_is (λ o. refl) (λ o. refl) c.requires.some)
    (failed _ _ as_thrown c.args.reader.now.room c.args.reader.now.tokens.now (c.args.at + 1) c.in_err-read.field-0.0 (λ o. refl) c.in_err-read.ensures))

pub returns-then-not-ends : goal.returns-then-not-ends
returns-then-not-ends c =
    let h = c.requires.here in
    let r = c.in_ok-read.ensures in
    rw c.unclosed.ensures (record {
      halts = leads_halts (λ o. expected as_thrown o) (begins at_throw h.token h.stands.is h.role_is (λ o. refl) (λ o. refl) c.requires.some)
          (read_unclosed as_thrown c.args.reader.now.room r.form (λ o. refl) r.reads (λ o. thrown_stuck r.form o _ (c.if-not-ends.ensures.no refl)));
      ahead = omega (arith, r.ahead);
      within = r.within;
    })

pub returns : goal.returns
returns c =
    let h = c.requires.here in
    let r = c.in_ok-read.ensures in
    let e = c.if-not-ends.ensures.yes refl in
    record {
      form = throw tt r.form;
      spans = throw_spans c.args.reader.now.tokens.now _ _ _ r.form c.args.at _ c.throw_statement.ensures.shown c.spot.ensures r.spans;
      reads = leads (λ o. expected as_thrown o) (begins at_throw h.token h.stands.is h.role_is (λ o. refl) (λ o. refl) c.requires.some)
          (read_leads as_thrown c.args.reader.now.room r.form e.token (λ o. done (throw tt r.form) o) (λ o. refl) r.some r.reads e.stands.is (λ o. ap (filled as_thrown r.form o) e.role_is));
      ahead = omega (arith, r.ahead);
      within = omega (arith, e.stands.within);
    }
