use Rattle.std.proofs.Common.{map, ◌∙◌, refl, arith}
use Rattle.php_first_tree.specs.Expression.{part_view}
use Rattle.php_first_parse.proofs.Commands.{part_open, part_read, part_spells, echoed}
use Rattle.php_first_parse.proofs.statements.echo.Goals as goal

pub returns-then-sees : goal.returns-then-sees
returns-then-sees c =
    let end = c.if-sees.ensures.yes refl in
    let part = rw c.in-Some.is at c.in_ok-read.ensures in
    record {
      spelled = echoed c.loop-parts.parts _ c.in-Some.read.tree end.0 _ _ _ _ c.loop-parts.invariant.spelled part.spelled end.1 c.in_ok-push.ensures.ok;
      ahead = omega (arith, part.ahead, c.loop-parts.invariant.ahead);
      within = omega (arith, end.2);
    }

pub returns-then-not-sees : goal.returns-then-not-sees
returns-then-not-sees c =
    let part = rw c.in-Some.is at c.in_ok-read.ensures in
    λ done line. c.loop-parts.invariant.leads done line
    ∙ part_open (part_view c.in-Some.read.tree) _ _ part.spelled part.ends (c.if-sees.ensures.no refl) (c.if-not-sees.ensures.no refl) done line (map part_view c.loop-parts.parts)

pub loop-parts-preserved : goal.loop-parts-preserved
loop-parts-preserved c =
    let comma = c.if-not-sees.ensures.yes refl in
    let part = rw c.in-Some.is at c.in_ok-read.ensures in
    record {
      spelled = part_spells c.loop-parts.parts _ c.in-Some.read.tree comma.0 _ _ _ _ c.loop-parts.invariant.spelled part.spelled comma.1 c.in_ok-push.ensures.ok;
      leads = λ done line. c.loop-parts.invariant.leads done line
          ∙ part_read c.loop-parts.parts _ c.in-Some.read.tree comma.0 _ _ _ part.spelled comma.1 c.in_ok-push.ensures.ok done line;
      ahead = omega (arith, part.ahead, c.loop-parts.invariant.ahead);
      within = omega (arith, comma.2);
    }
