-- The view of a block.
use Rattle.std.proofs.Common.{◌≡◌, List, map, sym, ◌∙◌, ap}
use Rattle.php_ast.specs.declared.spot.Spot.{Spot}
use Rattle.php_ast.specs.expression.View.{Note, spot_view}
use Rattle.php_ast.specs.declared.statement.Stmt.{Stmt}
use Rattle.php_ast.specs.declared.statement.Stmt.TheVariants.{Block, rolls-Block}
use Rattle.php_ast.specs.declared.statement.Stmt.TheOpen.{Stmt-F}
use Rattle.php_ast.specs.declared.statement.Stmt.TheFolds.{fold-roll-Stmt}
use Rattle.php_ast.specs.statement.Tree.{Statement, block}
use Rattle.php_ast.specs.statement.View.{list_view, statement_view, statement_step}

pub view_block : (spot : Spot) (body : List Stmt) → statement_view (Block spot body) ≡ block (spot_view spot) (list_view (map statement_view body))
view_block spot body = ap statement_view (sym (rolls-Block spot body)) ∙ fold-roll-Stmt (Statement Note) statement_step (Stmt-F.Block spot body)
