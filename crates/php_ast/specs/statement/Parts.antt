-- Parts of statements of the program with a function at each statement in them.
use Rattle.std.specs.Prelude.{List, map}
use Rattle.php_ast.specs.declared.statement.Stmt.{Stmt}
use Rattle.php_ast.specs.declared.statement.ElseIf.{ElseIf}
use Rattle.php_ast.specs.declared.statement.Body.{Body}
use Rattle.php_ast.specs.declared.statement.Body.TheVariants as body_form
use Rattle.php_ast.specs.declared.statement.Case.{Case}
use Rattle.php_ast.specs.declared.statement.Catch.{Catch}

abbrev pub elseif_with : {A : Type 0} → (Stmt → A) → ElseIf Stmt → ElseIf A
elseif_with f p = record { test = p.test; body = f p.body }

abbrev pub elseif_list_with : {A : Type 0} → (Stmt → A) → ElseIf (List Stmt) → ElseIf (List A)
elseif_list_with f p = record { test = p.test; body = map f p.body }

abbrev pub body_with : {A : Type 0} → (Stmt → A) → Body Stmt → Body A
body_with f (body_form.Single s) = body_form.Single (f s)
body_with f (body_form.Colon ss) = body_form.Colon (map f ss)

abbrev pub case_with : {A : Type 0} → (Stmt → A) → Case Stmt → Case A
case_with f c = record { spot = c.spot; value = c.value; end = c.end; body = map f c.body }

abbrev pub catch_with : {A : Type 0} → (Stmt → A) → Catch Stmt → Catch A
catch_with f c = record { classes = c.classes; variable = c.variable; body = map f c.body }
