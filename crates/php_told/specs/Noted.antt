-- The note of a token that may be there.
use Rattle.std.specs.Prelude.{Option, Some, None}
use Rattle.php_ast.specs.declared.spot.Spot.{Spot}
use Rattle.php_ast.specs.expression.View.{Note, spot_view}

abbrev pub noted : Option Spot → Option Note
noted None = None
noted (Some spot) = Some (spot_view spot)
