use Rattle.std.proofs.Common.{◌+◌, refl, ap, arith}
use Rattle.std.proofs.lemmas.Result.{err_from_is_err_and}
use Rattle.std.proofs.Common.{None, Some}
use Rattle.php_ast.specs.statement.Tree.{jump}
use Rattle.php_grammar.specs.statement.Role.{at_jump}
use Rattle.php_grammar.specs.statement.Forms.{as_jump, past_jump, done}
use Rattle.php_grammar.specs.statement.Machine.{expected, filled}
use Rattle.php_parse_simple.specs.RoleView.{jump_view}
use Rattle.php_parse_simple.proofs.Fails.{later, failed}
use Rattle.php_parse_simple.proofs.Inside.{read_leads, read_unclosed}
use Rattle.php_parse_simple.proofs.Moves.{leads, leads_halts}
use Rattle.php_parse_simple.proofs.Plain.{begins, jump_due, jump_ends, jump_stuck, jump_spans, jump_alone_spans}
use Rattle.php_parse_simple.proofs.simple.jump.Goals as goal

pub returns-then-sees : goal.returns-then-sees
returns-then-sees c =
    let h = c.requires.here in
    let kind = jump_view c.args.kind in
    let s = c.if-sees.ensures in
    record {
      form = jump tt kind None;
      spans = jump_alone_spans c.args.reader.now.tokens.now _ _ kind c.args.at c.jump_statement.ensures.shown c.spot.ensures;
      reads = leads (λ o. past_jump kind o) (begins (at_jump kind) h.token h.stands.is h.role_is (λ o. refl) (λ o. refl) c.requires.some) (jump_ends kind s.token s.stands.is s.role_is c.requires.some);
      ahead = omega arith;
      within = omega (arith, s.stands.within);
    }

pub returns-in_err-read : goal.returns-in_err-read
returns-in_err-read c =
    let h = c.requires.here in
    let kind = jump_view c.args.kind in
    let q = err_from_is_err_and c.from_residual.result c.from_residual.ensures.1 in
    rw (q.1, q.2) (later c.args.reader.now.tokens.now c.args.at (c.args.at + 1) (λ o. expected (as_jump kind) o) c.in_err-read.field-0.0 (omega arith)
    (leads (λ o. past_jump kind o) (begins (at_jump kind) h.token h.stands.is h.role_is (λ o. refl) (λ o. refl) c.requires.some) (jump_due kind c.if-sees.ensures))
    (failed _ _ (as_jump kind) c.args.reader.now.room c.args.reader.now.tokens.now (c.args.at + 1) c.in_err-read.field-0.0 (λ o. refl) c.in_err-read.ensures))

pub returns-then-not-ends : goal.returns-then-not-ends
returns-then-not-ends c =
    let h = c.requires.here in
    let kind = jump_view c.args.kind in
    let r = c.in_ok-read.ensures in
    rw c.unclosed.ensures (record {
      halts = leads_halts (λ o. expected (as_jump kind) o) (leads (λ o. past_jump kind o) (begins (at_jump kind) h.token h.stands.is h.role_is (λ o. refl) (λ o. refl) c.requires.some) (jump_due kind c.if-sees.ensures))
          (read_unclosed (as_jump kind) c.args.reader.now.room r.form (λ o. refl) r.reads (λ o. jump_stuck kind r.form o _ (c.if-not-ends.ensures.no refl)));
      ahead = omega (arith, r.ahead);
      within = r.within;
    })

pub returns : goal.returns
returns c =
    let h = c.requires.here in
    let kind = jump_view c.args.kind in
    let r = c.in_ok-read.ensures in
    let e = c.if-not-ends.ensures.yes refl in
    record {
      form = jump tt kind (Some r.form);
      spans = jump_spans c.args.reader.now.tokens.now _ _ kind _ r.form c.args.at _ c.jump_statement-2.ensures.shown c.spot-2.ensures r.spans;
      reads = leads (λ o. expected (as_jump kind) o) (leads (λ o. past_jump kind o) (begins (at_jump kind) h.token h.stands.is h.role_is (λ o. refl) (λ o. refl) c.requires.some) (jump_due kind c.if-sees.ensures))
          (read_leads (as_jump kind) c.args.reader.now.room r.form e.token (λ o. done (jump tt kind (Some r.form)) o) (λ o. refl) r.some r.reads e.stands.is (λ o. ap (filled (as_jump kind) r.form o) e.role_is));
      ahead = omega (arith, r.ahead);
      within = omega (arith, e.stands.within);
    }
