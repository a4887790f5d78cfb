use Rattle.std.proofs.Common.{◌+◌, ◌-◌, refl, ap, arith}
use Rattle.std.proofs.lemmas.Result.{err_from_is_err_and}
use Rattle.std.proofs.Common.{[], ◌∷◌}
use Rattle.php_ast.specs.expression.Tree.{none, and, plain}
use Rattle.php_ast.specs.statement.Tree.{unset}
use Rattle.php_grammar.specs.statement.Role.{at_unset, left_paren, fixed_semicolon}
use Rattle.php_grammar.specs.statement.Forms.{of_unset, as_value, due, done}
use Rattle.php_grammar.specs.statement.Machine.{expected, filled}
use Rattle.php_parse_simple.proofs.Fails.{later, outwards}
use Rattle.php_parse_simple.proofs.Moves.{leads, leads_halts, due_halts, due_outside}
use Rattle.php_parse_simple.proofs.Plain.{begins, unset_stuck, unset_spans, values_lead, values_unended}
use Rattle.php_parse_simple.proofs.simple.unset.Goals as goal

pub returns-then-not-sees : goal.returns-then-not-sees
returns-then-not-sees c =
    let h = c.requires.here in
    record {
      halts = leads_halts (λ o. due (left_paren ∷ []) (expected (as_value of_unset none) o)) (begins at_unset h.token h.stands.is h.role_is (λ o. refl) (λ o. refl) c.requires.some)
          (due_halts left_paren [] (λ o. expected (as_value of_unset none) o) c.if-not-sees.ensures);
      ahead = omega arith;
      within = omega (arith, h.stands.within);
    }

pub returns-in_err-places : goal.returns-in_err-places
returns-in_err-places c =
    let h = c.requires.here in
    let s = c.if-not-sees.ensures in
    let q = err_from_is_err_and c.from_residual.result c.from_residual.ensures.1 in
    rw (q.1, q.2) (later c.args.reader.now.tokens.now c.args.at (c.args.at + 1 + 1) (λ o. expected (as_value of_unset none) o) c.in_err-places.field-0.0 (omega arith)
    (leads (λ o. due (left_paren ∷ []) (expected (as_value of_unset none) o)) (begins at_unset h.token h.stands.is h.role_is (λ o. refl) (λ o. refl) c.requires.some)
    (due_outside left_paren [] (λ o. expected (as_value of_unset none) o) s.token s.stands.is s.role_is (λ o. refl) (λ d. refl) c.requires.some))
    (outwards _ _ c.args.reader.now.room (c.args.reader.now.room - 1) _ _ c.args.reader.now.tokens.now (c.args.at + 1 + 1) c.in_err-places.field-0.0 (λ o. omega (arith, c.requires.some)) (c.in_err-places.ensures of_unset)))

pub returns-then-not-ends : goal.returns-then-not-ends
returns-then-not-ends c =
    let h = c.requires.here in
    let s = c.if-not-sees.ensures in
    let r = c.in_ok-places.ensures in
    rw c.discard.ensures (record {
      halts = leads_halts (λ o. expected (as_value of_unset none) o)
          (leads (λ o. due (left_paren ∷ []) (expected (as_value of_unset none) o)) (begins at_unset h.token h.stands.is h.role_is (λ o. refl) (λ o. refl) c.requires.some)
          (due_outside left_paren [] (λ o. expected (as_value of_unset none) o) s.token s.stands.is s.role_is (λ o. refl) (λ d. refl) c.requires.some))
          (values_unended of_unset (c.args.reader.now.room - 1) r.items r.last (λ o. omega (arith, c.requires.some)) (r.reads of_unset) (λ o. unset_stuck r.items r.last o _ r.no_comma (c.if-not-ends.ensures.no refl)));
      ahead = omega (arith, r.ahead);
      within = r.within;
    })

pub returns-then-not-sees-2 : goal.returns-then-not-sees-2
returns-then-not-sees-2 c =
    let h = c.requires.here in
    let s = c.if-not-sees.ensures in
    let r = c.in_ok-places.ensures in
    let e = c.if-not-ends.ensures.yes refl in
    let all = and r.items plain r.last in
    rw c.discard-then-not-sees-2.ensures (record {
      halts = leads_halts (λ o. due (fixed_semicolon ∷ []) (done (unset tt all) o))
          (leads (λ o. expected (as_value of_unset none) o)
          (leads (λ o. due (left_paren ∷ []) (expected (as_value of_unset none) o)) (begins at_unset h.token h.stands.is h.role_is (λ o. refl) (λ o. refl) c.requires.some)
          (due_outside left_paren [] (λ o. expected (as_value of_unset none) o) s.token s.stands.is s.role_is (λ o. refl) (λ d. refl) c.requires.some))
          (values_lead of_unset (c.args.reader.now.room - 1) r.items r.last e.token (λ o. due (fixed_semicolon ∷ []) (done (unset tt all) o)) (λ o. omega (arith, c.requires.some)) r.some (r.reads of_unset) e.stands.is (λ o. ap (filled (as_value of_unset r.items) r.last o) e.role_is)))
          (due_halts fixed_semicolon [] (λ o. done (unset tt all) o) c.if-not-sees-2.ensures);
      ahead = omega (arith, r.ahead);
      within = omega (arith, e.stands.within);
    })

pub returns : goal.returns
returns c =
    let h = c.requires.here in
    let s = c.if-not-sees.ensures in
    let r = c.in_ok-places.ensures in
    let e = c.if-not-ends.ensures.yes refl in
    let f = c.if-not-sees-2.ensures in
    let all = and r.items plain r.last in
    record {
      form = unset tt all;
      spans = unset_spans c.args.reader.now.tokens.now _ _ _ all c.args.at _ c.unset_statement.ensures.shown c.spot.ensures r.shown r.sized;
      reads = leads (λ o. due (fixed_semicolon ∷ []) (done (unset tt all) o))
          (leads (λ o. expected (as_value of_unset none) o)
          (leads (λ o. due (left_paren ∷ []) (expected (as_value of_unset none) o)) (begins at_unset h.token h.stands.is h.role_is (λ o. refl) (λ o. refl) c.requires.some)
          (due_outside left_paren [] (λ o. expected (as_value of_unset none) o) s.token s.stands.is s.role_is (λ o. refl) (λ d. refl) c.requires.some))
          (values_lead of_unset (c.args.reader.now.room - 1) r.items r.last e.token (λ o. due (fixed_semicolon ∷ []) (done (unset tt all) o)) (λ o. omega (arith, c.requires.some)) r.some (r.reads of_unset) e.stands.is (λ o. ap (filled (as_value of_unset r.items) r.last o) e.role_is)))
          (due_outside fixed_semicolon [] (λ o. done (unset tt all) o) f.token f.stands.is f.role_is (λ o. refl) (λ d. refl) c.requires.some);
      ahead = omega (arith, r.ahead);
      within = omega (arith, f.stands.within);
    }

pub unset_statement-requires : goal.unset_statement-requires
unset_statement-requires c = c.in_ok-places.ensures.flat
