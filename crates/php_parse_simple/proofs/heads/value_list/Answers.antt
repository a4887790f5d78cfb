use Rattle.std.proofs.Common.{◌+◌, map, refl, ap, arith}
use Rattle.std.proofs.lemmas.Result.{err_from_is_err_and}
use Rattle.php_ast.specs.expression.Tree.{none, and, plain}
use Rattle.php_ast.specs.expression.View.{view, values_from}
use Rattle.php_build.specs.Flat.{are_flat}
use Rattle.php_grammar.specs.statement.Forms.{as_value}
use Rattle.php_grammar.specs.statement.Machine.{expected}
use Rattle.php_grammar.specs.statement.Depth.{statement_depth, values_depth}
use Rattle.php_parse_simple.proofs.Fails.{later, outwards}
use Rattle.php_parse_simple.proofs.Moves.{leads, leads_halts}
use Rattle.php_parse_simple.proofs.Plain.{values_lead, values_unended}
use Rattle.php_parse_simple.proofs.Targets.{none_ends, none_sinks, value_due, ended_fills, ended_stuck}
use Rattle.php_parse_simple.proofs.heads.value_list.Goals as goal

pub returns-then-reader-eq0 : goal.returns-then-reader-eq0
returns-then-reader-eq0 c =
    let e = c.if-ends.ensures.yes refl in
    λ values to is. record { halts = none_sinks values c.args.end to e.token is e.stands.is e.role_is c.if-reader-eq0.true; ahead = omega arith; within = c.requires.within }

pub returns-then-ends : goal.returns-then-ends
returns-then-ends c =
    let e = c.if-ends.ensures.yes refl in
    record {
      items = none;
      shown = ap (λ l. values_from none (map view l)) c.new.ensures;
      sized = omega arith;
      reads = λ values to is. none_ends values c.args.end to e.token is e.stands.is e.role_is (omega (arith, c.if-reader-eq0.false));
      within = omega (arith, e.stands.within);
      flat = ap are_flat c.new.ensures;
    }

pub returns-in_err-list : goal.returns-in_err-list
returns-in_err-list c =
    let q = err_from_is_err_and c.from_residual.result c.from_residual.ensures.1 in
    rw (q.1, q.2) (λ values to is. later c.args.reader.now.tokens.now c.args.at c.args.at (λ o. expected (as_value values none) o) c.in_err-list.field-0.0 (omega arith)
    (value_due values c.args.end to is (c.if-ends.ensures.no refl))
    (outwards (λ o. 1 + statement_depth o) (λ o. values_depth values (statement_depth o)) c.args.reader.now.room c.args.reader.now.room _ _ c.args.reader.now.tokens.now c.args.at c.in_err-list.field-0.0
    (λ o. ap (λ d. d + c.args.reader.now.room) (is.inside (statement_depth o))) (c.in_err-list.ensures values)))

pub returns-then-not-ends : goal.returns-then-not-ends
returns-then-not-ends c =
    let r = c.in_ok-list.ensures in
    rw c.discard.ensures (λ values to is. record {
      halts = leads_halts (λ o. expected (as_value values none) o) (value_due values c.args.end to is (c.if-ends.ensures.no refl))
          (values_unended values c.args.reader.now.room r.items r.last (λ o. ap (λ d. d + c.args.reader.now.room) (is.inside (statement_depth o))) (r.reads values)
          (λ o. ended_stuck values c.args.end to r.items r.last o _ is r.no_comma (c.if-not-ends.ensures.no refl)));
      ahead = omega (arith, r.ahead);
      within = r.within;
    })

pub returns : goal.returns
returns c =
    let r = c.in_ok-list.ensures in
    let e = c.if-not-ends.ensures.yes refl in
    record {
      items = and r.items plain r.last;
      shown = r.shown;
      sized = omega (arith, r.sized);
      reads = λ values to is. leads (λ o. expected (as_value values none) o) (value_due values c.args.end to is (c.if-ends.ensures.no refl))
          (values_lead values c.args.reader.now.room r.items r.last e.token (λ o. to (and r.items plain r.last) o) (λ o. ap (λ d. d + c.args.reader.now.room) (is.inside (statement_depth o))) r.some (r.reads values) e.stands.is
          (λ o. ended_fills values c.args.end to r.items r.last o e.token is c.requires.other e.role_is));
      within = omega (arith, e.stands.within);
      flat = r.flat;
    }
