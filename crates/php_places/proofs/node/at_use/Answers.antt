use Rattle.std.proofs.Common.{◌∙◌, ap, sym}
use Rattle.php_ast.specs.expression.View.{view}
use Rattle.php_places.specs.Shapes.{fits, is_bad_list}
use Rattle.php_places.specs.Uses.{use_view}
use Rattle.php_places.proofs.ShapeLemmas.{fits_is, bad_list_is}
use Rattle.php_places.proofs.UseLemmas.{seen_use, right_use}
use Rattle.php_places.proofs.node.at_use.Goals as goal

pub returns-then-is_right : goal.returns-then-is_right
returns-then-is_right c =
    right_use (use_view c.args.usage) (view c.args.e.now) c.args.met c.fits-fits.result c.is_bad_list-is_bad.result c.is_right.result
    (c.fits-fits.ensures ∙ ap (fits c.args.usage) c.shape_of-shape.ensures ∙ fits_is c.args.usage (view c.args.e.now))
    (c.is_bad_list-is_bad.ensures ∙ ap (is_bad_list c.args.usage) c.shape_of-shape.ensures ∙ bad_list_is c.args.usage (view c.args.e.now))
    c.is_right.ensures (sym c.if-is_right.true)

pub returns-else-is_right : goal.returns-else-is_right
returns-else-is_right c =
    c.at_spot.ensures
    ∙ seen_use (use_view c.args.usage) (view c.args.e.now) c.args.met c.fits-fits.result c.is_bad_list-is_bad.result _
    (c.fits-fits.ensures ∙ ap (fits c.args.usage) c.shape_of-shape.ensures ∙ fits_is c.args.usage (view c.args.e.now))
    (c.is_bad_list-is_bad.ensures ∙ ap (is_bad_list c.args.usage) c.shape_of-shape.ensures ∙ bad_list_is c.args.usage (view c.args.e.now))
    c.first_spot.ensures
