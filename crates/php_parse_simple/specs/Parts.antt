-- Parts of statements of the program, with the trees of the statements and expressions in them.
use Rattle.std.specs.Prelude.{List, map}
use Rattle.php_ast.specs.declared.statement.Stmt.{Stmt}
use Rattle.php_ast.specs.declared.statement.ElseIf.{ElseIf}
use Rattle.php_ast.specs.declared.statement.Body.{Body}
use Rattle.php_ast.specs.declared.statement.Body.TheVariants as body_form
use Rattle.php_ast.specs.declared.statement.Case.{Case}
use Rattle.php_ast.specs.declared.statement.Catch.{Catch}
use Rattle.php_ast.specs.expression.View.{Note}
use Rattle.php_ast.specs.statement.Tree.{Statement}
use Rattle.php_ast.specs.statement.View.{statement_view}

abbrev pub elseif_parts : ElseIf Stmt → ElseIf (Statement Note)
elseif_parts p = record { test = p.test; body = statement_view p.body }

abbrev pub elseif_list_parts : ElseIf (List Stmt) → ElseIf (List (Statement Note))
elseif_list_parts p = record { test = p.test; body = map statement_view p.body }

abbrev pub body_parts : Body Stmt → Body (Statement Note)
body_parts (body_form.Single s) = body_form.Single (statement_view s)
body_parts (body_form.Colon ss) = body_form.Colon (map statement_view ss)

abbrev pub case_parts : Case Stmt → Case (Statement Note)
case_parts c = record { spot = c.spot; value = c.value; end = c.end; body = map statement_view c.body }

abbrev pub catch_parts : Catch Stmt → Catch (Statement Note)
catch_parts c = record { classes = c.classes; variable = c.variable; body = map statement_view c.body }
