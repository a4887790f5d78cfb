use Rattle.std.proofs.Common.{◌+◌, ◌-◌, Some, None, refl, ap, arith}
use Rattle.std.proofs.lemmas.Result.{err_from_is_err_and}
use Rattle.php_grammar.specs.statement.Forms.{as_first, as_second, past_as, past_key, past_loop, foreach_loop}
use Rattle.php_grammar.specs.statement.Machine.{filled}
use Rattle.php_grammar.specs.statement.Depth.{statement_depth}
use Rattle.php_parse_simple.proofs.Fails.{later, outwards}
use Rattle.php_parse_simple.proofs.Moves.{leads, leads_halts}
use Rattle.php_parse_simple.proofs.Targets.{first_place, second_place, target_leads, target_halts, first_stuck, second_stuck, target_shift}
use Rattle.php_parse_simple.proofs.heads.turn.Goals as goal

pub returns-in_err-first : goal.returns-in_err-first
returns-in_err-first c =
    let q = err_from_is_err_and c.from_residual.result c.from_residual.ensures.1 in
    rw (q.1, q.2) (λ walked. outwards statement_depth (λ o. 1 + statement_depth o) c.args.reader.now.room (c.args.reader.now.room - 1) _ _ c.args.reader.now.tokens.now _ c.in_err-first.field-0.0 (λ o. omega (arith, c.requires.some))
    (c.in_err-first.ensures (λ o. past_as walked o) (as_first walked) (first_place walked)))

pub returns-then-ends : goal.returns-then-ends
returns-then-ends c =
    let f = c.in_ok-first.ensures in
    let e = c.if-ends.ensures.yes refl in
    record {
      key = None;
      value = f.target;
      key_shown = refl;
      value_shown = target_shift c.args.reader.now.tokens.now _ _ _ f.target f.shown (omega arith);
      sized = omega (arith, f.sized);
      reads = λ walked. target_leads (λ o. past_as walked o) (as_first walked f.target.is_reference) f.target.place e.token (λ o. past_loop (foreach_loop walked None f.target) o) c.requires.some (λ d. refl)
          (f.reads (λ o. past_as walked o) (as_first walked) (first_place walked)) e.stands.is (λ o. ap (filled (as_first walked f.target.is_reference) f.target.place o) e.role_is);
      ahead = omega (arith, f.ahead);
      within = omega (arith, e.stands.within);
    }

pub returns-then-not-ends : goal.returns-then-not-ends
returns-then-not-ends c =
    let f = c.in_ok-first.ensures in
    rw c.unended.ensures (λ walked. record {
      halts = target_halts (λ o. past_as walked o) (as_first walked f.target.is_reference) f.target.place (omega (arith, c.requires.some)) (f.reads (λ o. past_as walked o) (as_first walked) (first_place walked))
          (λ o. first_stuck walked f.target.is_reference f.target.place o _ (c.if-ends.ensures.no refl) (c.if-not-ends.ensures.no refl));
      ahead = omega (arith, f.ahead);
      within = f.within;
    })

pub returns-in_err-second : goal.returns-in_err-second
returns-in_err-second c =
    let f = c.in_ok-first.ensures in
    let e = c.if-not-ends.ensures.yes refl in
    let q = err_from_is_err_and c.from_residual-in_err-second.result c.from_residual-in_err-second.ensures.1 in
    rw (q.1, q.2) (λ walked. later c.args.reader.now.tokens.now c.args.at _ (λ o. past_key walked f.target o) c.in_err-second.field-0.0 (omega (arith, f.ahead))
    (target_leads (λ o. past_as walked o) (as_first walked f.target.is_reference) f.target.place e.token (λ o. past_key walked f.target o) c.requires.some (λ d. refl)
    (f.reads (λ o. past_as walked o) (as_first walked) (first_place walked)) e.stands.is (λ o. ap (filled (as_first walked f.target.is_reference) f.target.place o) e.role_is))
    (outwards statement_depth (λ o. 1 + statement_depth o) c.args.reader.now.room (c.args.reader.now.room - 1) _ _ c.args.reader.now.tokens.now _ c.in_err-second.field-0.0 (λ o. omega (arith, c.requires.some))
    (c.in_err-second.ensures (λ o. past_key walked f.target o) (as_second walked f.target) (second_place walked f.target))))

pub returns-then-not-ends-2 : goal.returns-then-not-ends-2
returns-then-not-ends-2 c =
    let f = c.in_ok-first.ensures in
    let e = c.if-not-ends.ensures.yes refl in
    let r = c.in_ok-second.ensures in
    rw (c.let_go.ensures, c.unended-stop.ensures) (λ walked. record {
      halts = leads_halts (λ o. past_key walked f.target o)
          (target_leads (λ o. past_as walked o) (as_first walked f.target.is_reference) f.target.place e.token (λ o. past_key walked f.target o) c.requires.some (λ d. refl)
          (f.reads (λ o. past_as walked o) (as_first walked) (first_place walked)) e.stands.is (λ o. ap (filled (as_first walked f.target.is_reference) f.target.place o) e.role_is))
          (target_halts (λ o. past_key walked f.target o) (as_second walked f.target r.target.is_reference) r.target.place (omega (arith, c.requires.some))
          (r.reads (λ o. past_key walked f.target o) (as_second walked f.target) (second_place walked f.target))
          (λ o. second_stuck walked f.target r.target.is_reference r.target.place o _ (c.if-not-ends-2.ensures.no refl)));
      ahead = omega (arith, f.ahead, r.ahead);
      within = r.within;
    })

pub returns : goal.returns
returns c =
    let f = c.in_ok-first.ensures in
    let e = c.if-not-ends.ensures.yes refl in
    let r = c.in_ok-second.ensures in
    let m = c.if-not-ends-2.ensures.yes refl in
    record {
      key = Some f.target;
      value = r.target;
      key_shown = ap Some (target_shift c.args.reader.now.tokens.now _ _ _ f.target f.shown (omega arith));
      value_shown = target_shift c.args.reader.now.tokens.now _ _ _ r.target r.shown (omega (arith, f.sized));
      sized = omega (arith, f.sized, r.sized);
      reads = λ walked. leads (λ o. past_key walked f.target o)
          (target_leads (λ o. past_as walked o) (as_first walked f.target.is_reference) f.target.place e.token (λ o. past_key walked f.target o) c.requires.some (λ d. refl)
          (f.reads (λ o. past_as walked o) (as_first walked) (first_place walked)) e.stands.is (λ o. ap (filled (as_first walked f.target.is_reference) f.target.place o) e.role_is))
          (target_leads (λ o. past_key walked f.target o) (as_second walked f.target r.target.is_reference) r.target.place m.token (λ o. past_loop (foreach_loop walked (Some f.target) r.target) o) c.requires.some (λ d. refl)
          (r.reads (λ o. past_key walked f.target o) (as_second walked f.target) (second_place walked f.target)) m.stands.is (λ o. ap (filled (as_second walked f.target r.target.is_reference) r.target.place o) m.role_is));
      ahead = omega (arith, f.ahead, r.ahead);
      within = omega (arith, m.stands.within);
    }
