use Rattle.std.proofs.Common.{◌∙◌, map}
use Rattle.php_ast.specs.expression.Tree.{none}
use Rattle.php_ast.specs.expression.View.{view}
use Rattle.php_places.specs.Uses.{use_view}
use Rattle.php_bodies.proofs.OwnLemmas.{values_met}
use Rattle.php_bodies.proofs.own.walk_list_of.Goals as goal

pub returns : goal.returns
returns c = c.walk_values.ensures ∙ values_met c.args.scope (use_view c.args.usage) none (map view c.args.es.now) c.args.met
