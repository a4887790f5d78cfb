-- The view of a run.
use Rattle.std.proofs.Common.{◌≡◌, List, map, refl, sym, ◌∙◌, ap}
use Rattle.php_ast.specs.declared.expression.Expr.{Expr}
use Rattle.php_ast.specs.declared.expression.Expr.TheVariants.{Run, rolls-Run}
use Rattle.php_ast.specs.declared.expression.Expr.TheOpen.{Expr-F}
use Rattle.php_ast.specs.declared.expression.Expr.TheFolds.{fold-roll-Expr}
use Rattle.php_ast.specs.declared.expression.Link.{Link}
use Rattle.php_ast.specs.expression.Tree.{Tree}
use Rattle.php_ast.specs.expression.View.{Note, view, view_step, with_links}
use Rattle.php_ast.specs.expression.Parts.{link_with}
use Rattle.php_ast.proofs.Views.{map_same, link_same}

pub view_run : (e : Expr) (links : List (Link Expr)) → view (Run e links) ≡ with_links (view e) (map (link_with view) links)
view_run e links =
    ap view (sym (rolls-Run e links)) ∙ fold-roll-Expr (Tree Note) view_step (Expr-F.Run e links)
    ∙ ap (with_links (view e)) (map_same _ _ (link_same _ (λ op k. refl) (λ a b. refl) (λ b. refl)) links)
