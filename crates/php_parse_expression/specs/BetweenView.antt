-- What an operator between two sides comes to.
use Rattle.std.specs.Prelude.{Bool, true, ◌&&◌}
use Rattle.php_ast.specs.declared.expression.Expr.{Expr}
use Rattle.php_ast.specs.expression.Tree.{Tree, binary, choice, short_choice}
use Rattle.php_ast.specs.declared.power.Row.{Row}
use Rattle.php_ast.specs.Power.{binary_row, choice_row}
use Rattle.php_ast.specs.expression.View.{Note, view}
use Rattle.php_parse_expression.specs.declared.pending.Between.{Between}
use Rattle.php_parse_expression.specs.declared.pending.Between.TheVariants as between
use Rattle.php_build.specs.Flat.{is_flat}

abbrev pub row_between : Between → Row
row_between (between.Binary op) = binary_row op
row_between between.ShortChoice = choice_row
row_between (between.Choice middle) = choice_row

abbrev pub between_view : Between → Tree Note → Tree Note → Tree Note
between_view (between.Binary op) l r = binary op l r
between_view between.ShortChoice l r = short_choice l r
between_view (between.Choice middle) l r = choice l (view middle) r

abbrev pub is_flat_between : Between → Bool
is_flat_between (between.Choice middle) = is_flat middle
is_flat_between _ = true

abbrev pub are_flat_sides : Expr → Between → Bool
are_flat_sides left b = is_flat left && is_flat_between b
