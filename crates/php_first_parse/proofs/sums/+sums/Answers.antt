use Rattle.std.proofs.Common.{refl, arith}
use Rattle.php_first_tree.specs.Expression.{product_view, sum_view}
use Rattle.php_first_parse.proofs.Levels.{unclosed, closed, factor_missing, factor_read, one_product, term_missing, term_read}
use Rattle.php_first_parse.proofs.sums.+sums.Goals as goal

pub group-returns-then-not-sees : goal.group-returns-then-not-sees
group-returns-then-not-sees t c =
    let inside = rw c.in-Some.is at c.in_ok-inside.ensures in
    unclosed c.args.depth (sum_view c.in-Some.inside.tree) _ _ (omega arith) inside.spelled inside.ends (c.if-not-sees.ensures.no refl)

pub group-returns : goal.group-returns
group-returns t c =
    let inside = rw c.in-Some.is at c.in_ok-inside.ensures in
    let close = c.if-not-sees.ensures.yes refl in
    record {
      spelled = closed c.args.depth c.in-Some.inside.tree _ _ _ _ close.0 (omega arith) inside.spelled close.1 c.in_ok-new.ensures;
      ahead = omega (arith, inside.ahead);
      within = omega (arith, close.2);
    }

pub product-returns-in_default-2 : goal.product-returns-in_default-2
product-returns-in_default-2 t c =
    let star = c.loop-alloc-test.ensures.yes refl in
    factor_missing c.args.depth _ _ _ _ star.0 c.loop-alloc.invariant.spelled star.1 (rw c.in_default-2.is at c.in_ok-factor.ensures)

pub product-loop-alloc-preserved : goal.product-loop-alloc-preserved
product-loop-alloc-preserved t c =
    let star = c.loop-alloc-test.ensures.yes refl in
    let more = rw c.in-Some-2.is at c.in_ok-factor.ensures in
    record {
      spelled = factor_read c.args.depth _ c.loop-alloc.rest _ c.in-Some-2.factor.tree _ _ _ _ star.0 c.loop-alloc.invariant.spelled star.1 more.spelled c.in_ok-push.ensures.ok;
      ahead = omega (arith, more.ahead);
      within = more.within;
    }

pub sum-loop-sign-init : goal.sum-loop-sign-init
sum-loop-sign-init t c =
    let first = rw c.in-Some.is at c.in_ok-first.ensures in
    record {
      spelled = rw c.new-rest.ensures (one_product c.args.depth (product_view c.in-Some.first.tree) _ _ first.spelled);
      ends = first.ends;
      ahead = first.ahead;
      within = first.within;
    }

pub sum-returns-in_default-2 : goal.sum-returns-in_default-2
sum-returns-in_default-2 t c =
    let sign = c.in-Some-sign_at.ensures in
    term_missing c.args.depth _ c.in-Some-sign_at.sign _ _ _ sign.0 c.loop-sign.invariant.spelled sign.1 (rw c.in_default-2.is at c.in_ok-term.ensures)

pub sum-loop-sign-preserved : goal.sum-loop-sign-preserved
sum-loop-sign-preserved t c =
    let sign = c.in-Some-sign_at.ensures in
    let more = rw c.in-Some-2.is at c.in_ok-term.ensures in
    record {
      spelled = term_read c.args.depth c.in-Some.first.tree c.loop-sign.rest _ (record { sign = c.in-Some-sign_at.sign; product = c.in-Some-2.term.tree }) _ _ _ _ sign.0 c.loop-sign.invariant.spelled sign.1 more.spelled c.in_ok-push.ensures.ok;
      ends = more.ends;
      ahead = omega (arith, more.ahead);
      within = more.within;
    }
