use Rattle.std.proofs.Common.{◌+◌, ◌-◌, Some, ap, ◌∙◌, arith}
use Rattle.std.proofs.lemmas.Result.{err_from_is_err_and}
use Rattle.php_ast.specs.statement.Tree.{no_statement}
use Rattle.php_grammar.specs.statement.Forms.{as_label, of_case, due_in_list}
use Rattle.php_grammar.specs.statement.Machine.{expected, filled}
use Rattle.php_parse_simple.specs.LabelAnswer.{label_behind}
use Rattle.php_parse_simple.proofs.Fails.{later, failed}
use Rattle.php_parse_simple.proofs.Inside.{read_leads, read_unclosed}
use Rattle.php_parse_simple.proofs.Moves.{leads, leads_halts}
use Rattle.php_parse_simple.proofs.Cased.{case_opens, label_sinks, label_filled, label_stuck}
use Rattle.php_parse_simple.proofs.labels.label.Goals as goal

pub returns-then-reader-eq1 : goal.returns-then-reader-eq1
returns-then-reader-eq1 c =
    let h = c.requires.here in
    λ e form cases. record {
      halts = label_sinks c.args.is_default e form cases h.token h.stands.is h.role_is c.if-reader-eq1.true;
      ahead = omega arith;
      within = omega (arith, h.stands.within);
    }

pub returns-in_err-read : goal.returns-in_err-read
returns-in_err-read c =
    let h = c.requires.here in
    let q = err_from_is_err_and c.from_residual.result c.from_residual.ensures.1 in
    rw (q.1, q.2) (λ e form cases. later c.args.reader.now.tokens.now c.args.at (c.args.at + 1) (λ o. expected (as_label e form cases) o) c.in_err-read.field-0.0 (omega arith)
    (case_opens e form cases h.token h.stands.is (h.role_is ∙ ap label_behind c.if-is_default.false) (omega (arith, c.requires.some, c.if-reader-eq1.false)))
    (failed _ _ (as_label e form cases) (c.args.reader.now.room - 1) c.args.reader.now.tokens.now (c.args.at + 1) c.in_err-read.field-0.0 (λ o. omega (arith, c.requires.some)) c.in_err-read.ensures))

pub returns-in_default-case_end : goal.returns-in_default-case_end
returns-in_default-case_end c =
    let h = c.requires.here in
    let r = c.in_ok-read.ensures in
    let s = c.in_default-case_end.ensures in
    rw c.unclosed.ensures (λ e form cases. record {
      halts = leads_halts (λ o. expected (as_label e form cases) o)
          (case_opens e form cases h.token h.stands.is (h.role_is ∙ ap label_behind c.if-is_default.false) (omega (arith, c.requires.some, c.if-reader-eq1.false)))
          (read_unclosed (as_label e form cases) (c.args.reader.now.room - 1) r.form (λ o. omega (arith, c.requires.some)) r.reads (λ o. label_stuck e form cases r.form o _ s.0 s.1));
      ahead = omega (arith, r.ahead);
      within = r.within;
    })

pub returns : goal.returns
returns c =
    let h = c.requires.here in
    let r = c.in_ok-read.ensures in
    let s = c.in-Some-case_end.ensures in
    record {
      label = Some r.form;
      shown = ap Some r.spans.shown;
      sized = omega (arith, r.spans.sized);
      reads = λ e form cases. leads (λ o. expected (as_label e form cases) o)
          (case_opens e form cases h.token h.stands.is (h.role_is ∙ ap label_behind c.if-is_default.false) (omega (arith, c.requires.some, c.if-reader-eq1.false)))
          (read_leads (as_label e form cases) (c.args.reader.now.room - 1) r.form s.token (λ o. due_in_list (of_case e form cases (Some r.form) c.in-Some-case_end.end) no_statement o) (λ o. omega (arith, c.requires.some)) r.some r.reads s.stands.is
          (λ o. ap (filled (as_label e form cases) r.form o) s.role_is ∙ label_filled e form cases r.form o c.in-Some-case_end.end));
      ahead = omega (arith, r.ahead);
      within = omega (arith, s.stands.within);
    }
