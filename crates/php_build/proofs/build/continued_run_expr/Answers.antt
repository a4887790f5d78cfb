use Rattle.std.proofs.Common.{◌≡◌, ◌∙◌, sym, ap, subst, IfOk}
use Rattle.php_ast.specs.expression.View.{view, with_link}
use Rattle.php_ast.specs.expression.Parts.{link_with}
use Rattle.php_build.specs.Flat.{starts_run}
use Rattle.php_build.proofs.Views.{link_push}
use Rattle.php_build.proofs.Flats.{run_flat, run_push}
use Rattle.php_build.proofs.Runs.{view_run}
use Rattle.php_build.proofs.build.continued_run_expr.Goals as goal

pub begun_run_expr-requires-clause-first : goal.begun_run_expr-requires-clause-first
begun_run_expr-requires-clause-first c = run_flat c.args.first c.args.links c.requires.run

pub returns-then-not-continues-clause-shown : goal.returns-then-not-continues-clause-shown
returns-then-not-continues-clause-shown c =
    subst (λ v. IfOk c.begun_run_expr.result (λ e. view e ≡ with_link v (link_with view c.args.link))) (view_run c.args.first c.args.links) c.begun_run_expr.ensures.shown

pub run_expr-requires : goal.run_expr-requires
run_expr-requires c =
    run_push c.args.first c.args.links _ c.args.link c.in_ok-push.ensures.ok c.requires.run
    (ap (λ p. starts_run p c.args.links) (sym c.power_of.ensures) ∙ sym c.continues.ensures ∙ c.if-not-continues.false) c.requires.link

pub returns : goal.returns
returns c = record {
  shown = c.run_expr.ensures.shown ∙ link_push (view c.args.first) c.args.links c.push.new.self c.args.link c.in_ok-push.ensures.ok;
  flat = c.run_expr.ensures.flat;
}
