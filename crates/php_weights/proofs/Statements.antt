-- How large a statement is: what a walk over it uses up.
use Rattle.std.proofs.Common.{ℕ, ◌+◌, Option, Some, None}
use Rattle.php_ast.specs.declared.statement.Stmt.{Stmt, fold-Stmt}
use Rattle.php_ast.specs.declared.statement.Stmt.TheOpen.{Stmt-F}
use Rattle.php_ast.specs.declared.statement.ElseIf.{ElseIf}
use Rattle.php_ast.specs.declared.statement.Body.{Body}
use Rattle.php_ast.specs.declared.statement.Body.TheVariants as body_form
use Rattle.php_ast.specs.declared.statement.Case.{Case}
use Rattle.php_ast.specs.declared.statement.Catch.{Catch}
use Rattle.std.specs.Prelude.{List}
use Rattle.php_weights.proofs.Expressions.{total}

abbrev pub same : ℕ → ℕ
same n = n

abbrev pub elseif_weight : ElseIf ℕ → ℕ
elseif_weight p = p.body

abbrev pub elseif_list_weight : ElseIf (List ℕ) → ℕ
elseif_list_weight p = total same p.body

abbrev pub body_weight : Body ℕ → ℕ
body_weight (body_form.Single n) = n
body_weight (body_form.Colon ns) = total same ns

abbrev pub case_weight : Case ℕ → ℕ
case_weight c = total same c.body

abbrev pub catch_weight : Catch ℕ → ℕ
catch_weight c = total same c.body

abbrev pub last_weight : Option ℕ → ℕ
last_weight None = 0
last_weight (Some n) = n

abbrev pub last_list_weight : Option (List ℕ) → ℕ
last_list_weight None = 0
last_list_weight (Some ns) = total same ns

abbrev pub statement_weight_step : Stmt-F ℕ → ℕ
statement_weight_step (Stmt-F.Block spot ns) = total same ns + 1
statement_weight_step (Stmt-F.If spot test body parts last) = body + total elseif_weight parts + last_weight last + 1
statement_weight_step (Stmt-F.IfColon spot test body parts last) = total same body + total elseif_list_weight parts + last_list_weight last + 1
statement_weight_step (Stmt-F.While spot test body) = body_weight body + 1
statement_weight_step (Stmt-F.DoWhile spot body test) = body + 1
statement_weight_step (Stmt-F.For spot head body) = body_weight body + 1
statement_weight_step (Stmt-F.Foreach spot head body) = body_weight body + 1
statement_weight_step (Stmt-F.Switch spot e form cases) = total case_weight cases + 1
statement_weight_step (Stmt-F.Try spot body catches last) = total same body + total catch_weight catches + last_list_weight last + 1
statement_weight_step _ = 0

abbrev pub statement_weight : Stmt → ℕ
statement_weight = fold-Stmt ℕ statement_weight_step
