use Rattle.std.proofs.Common.{length, ◌≤◌, ◌∙◌, ap, sym, arith}
use Rattle.php_ast.specs.statement.View.{variable_view}
use Rattle.php_legality.proofs.SequenceLemmas.{elements_are}
use Rattle.php_duplicates.specs.Over.{over}
use Rattle.php_duplicates.specs.Met.{see_variable}
use Rattle.php_duplicates.proofs.Lists.{step_over, end_over}
use Rattle.php_duplicates.proofs.member.see_variables.Goals as goal

pub loop-variable-preserved : goal.loop-variable-preserved
loop-variable-preserved c =
    step_over see_variable variable_view c.args.variables.now c.loop-variable.variable-index c.variable-item.result _ _ _ c.loop-variable-test.true c.variable-item.is c.loop-variable.invariant c.in_ok-see_name.ensures

pub returns : goal.returns
returns c =
    let past : length c.args.variables.now ≤ c.loop-variable.variable-index = omega arith in
    end_over see_variable variable_view c.args.variables.now c.loop-variable.variable-index _ _ past c.loop-variable.invariant
    ∙ ap (λ ys. over see_variable ys c.args.seen.now) (sym (elements_are variable_view c.args.variables.now))
