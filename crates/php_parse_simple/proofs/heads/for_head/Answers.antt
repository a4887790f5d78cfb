use Rattle.std.proofs.Common.{◌+◌, ◌-◌, [], refl, arith}
use Rattle.std.proofs.lemmas.Result.{err_from_is_err_and}
use Rattle.php_grammar.specs.statement.Role.{left_paren}
use Rattle.php_grammar.specs.statement.Forms.{of_starts, of_tests, of_steps, for_loop, due_value, past_loop}
use Rattle.php_grammar.specs.statement.Depth.{statement_depth}
use Rattle.php_parse_simple.proofs.Fails.{later, outwards}
use Rattle.php_parse_simple.proofs.Flats.{all_three}
use Rattle.php_parse_simple.proofs.Moves.{leads, due_halts, due_outside}
use Rattle.php_parse_simple.proofs.Targets.{starts_ended, tests_ended, steps_ended, inwards, items_shift}
use Rattle.php_parse_simple.proofs.heads.for_head.Goals as goal

pub returns-then-not-sees : goal.returns-then-not-sees
returns-then-not-sees c = record { halts = due_halts left_paren [] (λ o. due_value of_starts o) c.if-not-sees.ensures; ahead = omega arith; within = c.requires.within }

pub returns-in_err-starts : goal.returns-in_err-starts
returns-in_err-starts c =
    let s = c.if-not-sees.ensures in
    let q = err_from_is_err_and c.from_residual.result c.from_residual.ensures.1 in
    rw (q.1, q.2) (later c.args.reader.now.tokens.now c.args.at (c.args.at + 1) (λ o. due_value of_starts o) c.in_err-starts.field-0.0 (omega arith)
    (due_outside left_paren [] (λ o. due_value of_starts o) s.token s.stands.is s.role_is (λ o. refl) (λ d. refl) c.requires.some)
    (outwards statement_depth (λ o. 1 + statement_depth o) c.args.reader.now.room (c.args.reader.now.room - 1) _ _ c.args.reader.now.tokens.now _ c.in_err-starts.field-0.0 (λ o. omega (arith, c.requires.some))
    (c.in_err-starts.ensures of_starts (λ items o. due_value (of_tests items) o) starts_ended)))

pub returns-in_err-tests : goal.returns-in_err-tests
returns-in_err-tests c =
    let s = c.if-not-sees.ensures in
    let a = c.in_ok-starts.ensures in
    let q = err_from_is_err_and c.from_residual-in_err-tests.result c.from_residual-in_err-tests.ensures.1 in
    rw (q.1, q.2) (later c.args.reader.now.tokens.now c.args.at _ (λ o. due_value (of_tests a.items) o) c.in_err-tests.field-0.0 (omega (arith, a.sized))
    (leads (λ o. due_value of_starts o) (due_outside left_paren [] (λ o. due_value of_starts o) s.token s.stands.is s.role_is (λ o. refl) (λ d. refl) c.requires.some)
    (inwards c.requires.some (a.reads of_starts (λ items o. due_value (of_tests items) o) starts_ended)))
    (outwards statement_depth (λ o. 1 + statement_depth o) c.args.reader.now.room (c.args.reader.now.room - 1) _ _ c.args.reader.now.tokens.now _ c.in_err-tests.field-0.0 (λ o. omega (arith, c.requires.some))
    (c.in_err-tests.ensures (of_tests a.items) (λ items o. due_value (of_steps a.items items) o) (tests_ended a.items))))

pub returns-in_err-steps : goal.returns-in_err-steps
returns-in_err-steps c =
    let s = c.if-not-sees.ensures in
    let a = c.in_ok-starts.ensures in
    let b = c.in_ok-tests.ensures in
    let q = err_from_is_err_and c.from_residual-in_err-steps.result c.from_residual-in_err-steps.ensures.1 in
    rw (q.1, q.2) (later c.args.reader.now.tokens.now c.args.at _ (λ o. due_value (of_steps a.items b.items) o) c.in_err-steps.field-0.0 (omega (arith, a.sized, b.sized))
    (leads (λ o. due_value (of_tests a.items) o)
    (leads (λ o. due_value of_starts o) (due_outside left_paren [] (λ o. due_value of_starts o) s.token s.stands.is s.role_is (λ o. refl) (λ d. refl) c.requires.some)
    (inwards c.requires.some (a.reads of_starts (λ items o. due_value (of_tests items) o) starts_ended)))
    (inwards c.requires.some (b.reads (of_tests a.items) (λ items o. due_value (of_steps a.items items) o) (tests_ended a.items))))
    (outwards statement_depth (λ o. 1 + statement_depth o) c.args.reader.now.room (c.args.reader.now.room - 1) _ _ c.args.reader.now.tokens.now _ c.in_err-steps.field-0.0 (λ o. omega (arith, c.requires.some))
    (c.in_err-steps.ensures (of_steps a.items b.items) (λ items o. past_loop (for_loop a.items b.items items) o) (steps_ended a.items b.items))))

pub returns : goal.returns
returns c =
    let s = c.if-not-sees.ensures in
    let a = c.in_ok-starts.ensures in
    let b = c.in_ok-tests.ensures in
    let d = c.in_ok-steps.ensures in
    record {
      starts = a.items;
      tests = b.items;
      steps = d.items;
      starts_shown = a.shown;
      tests_shown = items_shift c.args.reader.now.tokens.now _ _ _ b.items b.shown (omega (arith, a.sized));
      steps_shown = items_shift c.args.reader.now.tokens.now _ _ _ d.items d.shown (omega (arith, a.sized, b.sized));
      sized = omega (arith, a.sized, b.sized, d.sized);
      reads = leads (λ o. due_value (of_steps a.items b.items) o)
          (leads (λ o. due_value (of_tests a.items) o)
          (leads (λ o. due_value of_starts o) (due_outside left_paren [] (λ o. due_value of_starts o) s.token s.stands.is s.role_is (λ o. refl) (λ d. refl) c.requires.some)
          (inwards c.requires.some (a.reads of_starts (λ items o. due_value (of_tests items) o) starts_ended)))
          (inwards c.requires.some (b.reads (of_tests a.items) (λ items o. due_value (of_steps a.items items) o) (tests_ended a.items))))
          (inwards c.requires.some (d.reads (of_steps a.items b.items) (λ items o. past_loop (for_loop a.items b.items items) o) (steps_ended a.items b.items)));
      within = d.within;
      flat = all_three _ _ _ a.flat b.flat d.flat;
    }
