-- The note of a spot that was found.
use Rattle.std.specs.Prelude.{Option, Some, None, List, [], ◌∷◌}
use Rattle.php_ast.specs.declared.spot.Spot.{Spot}
use Rattle.php_ast.specs.expression.View.{Note, spot_view}

abbrev pub spots : Option Spot → List Note
spots None = []
spots (Some spot) = spot_view spot ∷ []
