use Rattle.std.proofs.Common.{◌+◌, ◌-◌, [], refl, ap, arith}
use Rattle.std.proofs.lemmas.Result.{err_from_is_err_and}
use Rattle.php_grammar.specs.statement.Role.{left_paren}
use Rattle.php_grammar.specs.statement.Forms.{as_walked, past_as}
use Rattle.php_grammar.specs.statement.Machine.{expected, filled}
use Rattle.php_parse_simple.proofs.Fails.{later, failed}
use Rattle.php_parse_simple.proofs.Inside.{read_leads, read_unclosed}
use Rattle.php_parse_simple.proofs.Flats.{all_three}
use Rattle.php_parse_simple.proofs.Moves.{leads, leads_halts, due_halts, due_outside}
use Rattle.php_parse_simple.proofs.Targets.{walked_stuck, key_shift, target_shift}
use Rattle.php_parse_simple.proofs.heads.foreach_head.Goals as goal

pub returns-then-not-sees : goal.returns-then-not-sees
returns-then-not-sees c = record { halts = due_halts left_paren [] (λ o. expected as_walked o) c.if-not-sees.ensures; ahead = omega arith; within = c.requires.within }

pub returns-in_err-walked : goal.returns-in_err-walked
returns-in_err-walked c =
    let s = c.if-not-sees.ensures in
    let q = err_from_is_err_and c.from_residual.result c.from_residual.ensures.1 in
    rw (q.1, q.2) (later c.args.reader.now.tokens.now c.args.at (c.args.at + 1) (λ o. expected as_walked o) c.in_err-walked.field-0.0 (omega arith)
    (due_outside left_paren [] (λ o. expected as_walked o) s.token s.stands.is s.role_is (λ o. refl) (λ d. refl) c.requires.some)
    (failed _ _ as_walked (c.args.reader.now.room - 1) c.args.reader.now.tokens.now (c.args.at + 1) c.in_err-walked.field-0.0 (λ o. omega (arith, c.requires.some)) c.in_err-walked.ensures))

pub returns-then-not-sees_as : goal.returns-then-not-sees_as
returns-then-not-sees_as c =
    let s = c.if-not-sees.ensures in
    let w = c.in_ok-walked.ensures in
    rw c.unclosed.ensures (record {
      halts = leads_halts (λ o. expected as_walked o) (due_outside left_paren [] (λ o. expected as_walked o) s.token s.stands.is s.role_is (λ o. refl) (λ d. refl) c.requires.some)
          (read_unclosed as_walked (c.args.reader.now.room - 1) w.form (λ o. omega (arith, c.requires.some)) w.reads (λ o. walked_stuck w.form o _ (c.if-not-sees_as.ensures.no refl)));
      ahead = omega (arith, w.ahead);
      within = w.within;
    })

pub returns-in_err-turn : goal.returns-in_err-turn
returns-in_err-turn c =
    let s = c.if-not-sees.ensures in
    let w = c.in_ok-walked.ensures in
    let a = c.if-not-sees_as.ensures.yes refl in
    let q = err_from_is_err_and c.from_residual-in_err-turn.result c.from_residual-in_err-turn.ensures.1 in
    rw (q.1, q.2) (later c.args.reader.now.tokens.now c.args.at _ (λ o. past_as w.form o) c.in_err-turn.field-0.0 (omega (arith, w.ahead))
    (leads (λ o. expected as_walked o) (due_outside left_paren [] (λ o. expected as_walked o) s.token s.stands.is s.role_is (λ o. refl) (λ d. refl) c.requires.some)
    (read_leads as_walked (c.args.reader.now.room - 1) w.form a.token (λ o. past_as w.form o) (λ o. omega (arith, c.requires.some)) w.some w.reads a.stands.is (λ o. ap (filled as_walked w.form o) a.role_is)))
    (c.in_err-turn.ensures w.form))

pub returns : goal.returns
returns c =
    let s = c.if-not-sees.ensures in
    let w = c.in_ok-walked.ensures in
    let a = c.if-not-sees_as.ensures.yes refl in
    let t = c.in_ok-turn.ensures in
    record {
      walked = w.form;
      key = t.key;
      value = t.value;
      walked_shown = w.spans.shown;
      key_shown = key_shift c.args.reader.now.tokens.now _ _ _ t.key t.key_shown (omega (arith, w.spans.sized));
      value_shown = target_shift c.args.reader.now.tokens.now _ _ _ t.value t.value_shown (omega (arith, w.spans.sized));
      sized = omega (arith, w.spans.sized, t.sized);
      reads = leads (λ o. past_as w.form o)
          (leads (λ o. expected as_walked o) (due_outside left_paren [] (λ o. expected as_walked o) s.token s.stands.is s.role_is (λ o. refl) (λ d. refl) c.requires.some)
          (read_leads as_walked (c.args.reader.now.room - 1) w.form a.token (λ o. past_as w.form o) (λ o. omega (arith, c.requires.some)) w.some w.reads a.stands.is (λ o. ap (filled as_walked w.form o) a.role_is)))
          (t.reads w.form);
      ahead = omega (arith, w.ahead, t.ahead);
      within = t.within;
      flat = all_three _ _ _ c.in_ok-walked.walked.flat c.in_ok-turn.turn.flat_key c.in_ok-turn.turn.flat_value;
    }
