use Rattle.std.proofs.Common.{◌≡◌, ◌∙◌, sym, ap, subst, IfOk}
use Rattle.php_ast.specs.expression.View.{view, with_link}
use Rattle.php_ast.specs.expression.Parts.{link_with}
use Rattle.php_build.proofs.Flats.{flat_run}
use Rattle.php_build.proofs.Runs.{view_run}
use Rattle.php_build.proofs.build.link_expr.Goals as goal

pub continued_run_expr-requires-clause-run : goal.continued_run_expr-requires-clause-run
continued_run_expr-requires-clause-run c = flat_run c.args.left c.in-Run.first c.in-Run.links c.in-Run.is c.requires.left

pub returns-in-Run-clause-shown : goal.returns-in-Run-clause-shown
returns-in-Run-clause-shown c =
    subst (λ v. IfOk c.continued_run_expr.result (λ e. view e ≡ with_link v (link_with view c.args.link))) (sym (ap view c.in-Run.is ∙ view_run c.in-Run.first c.in-Run.links)) c.continued_run_expr.ensures.shown
