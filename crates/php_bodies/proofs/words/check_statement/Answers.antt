use Rattle.std.proofs.Common.{◌∙◌, ap}
use Rattle.php_ast.specs.statement.View.{statement_view}
use Rattle.php_legality.specs.Statements.{own_constants}
use Rattle.php_places.specs.Over.{over}
use Rattle.php_bodies.specs.Own.{met_constant, met_words, met_own}
use Rattle.php_bodies.proofs.words.check_statement.Goals as goal

pub returns : goal.returns
unfolding met_own
returns c =
    c.check_words.ensures
    ∙ ap (met_words c.args.scope (statement_view c.args.s.now))
    (c.check_constants-met.ensures ∙ ap (over met_constant (own_constants (statement_view c.args.s.now))) c.walk_expressions-met.ensures)
