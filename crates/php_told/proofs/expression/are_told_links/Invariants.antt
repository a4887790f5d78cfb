use Rattle.std.specs.List.{list_all}
use Rattle.std.proofs.Common.{◌≡◌, map, drop}
use Rattle.php_ast.specs.expression.View.{view}
use Rattle.php_ast.specs.expression.Parts.{link_with}
use Rattle.php_told.specs.Parts.{is_told_link}
use Rattle.php_told.proofs.expression.are_told_links.Given as goal

abbrev pub invariant-loop-link : goal.invariant-loop-link
invariant-loop-link l = list_all is_told_link (map (link_with view) (drop l.link-index l.links)) ≡ list_all is_told_link (map (link_with view) l.links)
