use Rattle.std.proofs.Common.{◌≤◌, map, length, arith, ◌∙◌, ap}
use Rattle.php_ast.specs.expression.View.{view}
use Rattle.php_places.specs.Over.{over}
use Rattle.php_places.proofs.Lists.{step_over, end_over}
use Rattle.php_first_forms.specs.Forms.{or_else}
use Rattle.php_first_forms.specs.Links.{with_part}
use Rattle.php_first_forms.specs.Noted.{noted}
use Rattle.php_first_forms.proofs.script.left_in_parts.Goals as goal

pub loop-part-preserved : goal.loop-part-preserved
loop-part-preserved c =
    let one = c.or_else-first.ensures ∙ ap (λ x. or_else (noted c.loop-part.first) x) c.left_in_part.ensures in
    step_over with_part view c.args.parts.now c.loop-part.part-index c.part-item.result _ _ _ c.loop-part-test.true c.part-item.is c.loop-part.invariant one

pub returns : goal.returns
returns c =
    let past : length c.args.parts.now ≤ c.loop-part.part-index = omega arith in
    end_over with_part view c.args.parts.now c.loop-part.part-index _ _ past c.loop-part.invariant
