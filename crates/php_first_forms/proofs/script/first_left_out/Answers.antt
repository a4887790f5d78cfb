use Rattle.std.proofs.Common.{None, map, ap, ◌∙◌}
use Rattle.php_ast.specs.declaration.View.{item_view}
use Rattle.php_places.specs.Over.{over}
use Rattle.php_first_forms.specs.Links.{with_item}
use Rattle.php_first_forms.proofs.Lists.{script_is}
use Rattle.php_first_forms.proofs.script.first_left_out.Goals as goal

pub returns : goal.returns
returns c = c.left_in_items.ensures ∙ ap (λ xs. over with_item (map item_view xs) None) c.as_slice.ensures ∙ script_is c.args.script.now
