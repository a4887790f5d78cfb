-- Which statements of the program are flat: all expressions in them are. What a statement may have any number of, its types
-- keep side by side in lists: statements, values, names, `elseif` parts, cases and `catch` parts.
use Rattle.std.specs.Prelude.{Bool, true, ◌&&◌, Option, Some, None, List, map}
use Rattle.std.specs.List.{list_all}
use Rattle.php_ast.specs.declared.expression.Expr.{Expr}
use Rattle.php_ast.specs.declared.statement.Stmt.{Stmt, fold-Stmt}
use Rattle.php_ast.specs.declared.statement.Stmt.TheOpen.{Stmt-F}
use Rattle.php_ast.specs.declared.statement.VariableItem.{VariableItem}
use Rattle.php_ast.specs.declared.statement.ConstantItem.{ConstantItem}
use Rattle.php_ast.specs.declared.statement.ElseIf.{ElseIf}
use Rattle.php_ast.specs.declared.statement.Body as rust_body
use Rattle.php_ast.specs.declared.statement.Body.TheVariants as body_form
use Rattle.php_ast.specs.declared.statement.ForHead.{ForHead}
use Rattle.php_ast.specs.declared.statement.ForeachHead.{ForeachHead}
use Rattle.php_ast.specs.declared.statement.Target as rust_target
use Rattle.php_ast.specs.declared.statement.Case.{Case}
use Rattle.php_ast.specs.declared.statement.Catch.{Catch}
use Rattle.php_build.specs.Flat.{is_flat, are_flat}

-- ---- parts without statements

abbrev pub is_flat_optional : Option Expr → Bool
is_flat_optional None = true
is_flat_optional (Some e) = is_flat e

abbrev pub is_flat_variable : VariableItem → Bool
is_flat_variable x = is_flat_optional x.value

abbrev pub is_flat_constant : ConstantItem → Bool
is_flat_constant x = is_flat x.value

abbrev pub is_flat_target : rust_target.Target → Bool
is_flat_target t = is_flat t.place

abbrev pub is_flat_key : Option rust_target.Target → Bool
is_flat_key None = true
is_flat_key (Some t) = is_flat_target t

abbrev pub is_flat_for : ForHead → Bool
is_flat_for head = are_flat head.starts && are_flat head.tests && are_flat head.steps

abbrev pub is_flat_foreach : ForeachHead → Bool
is_flat_foreach head = is_flat head.walked && is_flat_key head.key && is_flat_target head.value

-- ---- parts whose statements are known to be flat or not

abbrev pub all_flat : List Bool → Bool
all_flat = list_all (λ b. b)

abbrev pub optional_flat : Option Bool → Bool
optional_flat None = true
optional_flat (Some b) = b

abbrev pub list_flat : Option (List Bool) → Bool
list_flat None = true
list_flat (Some bs) = all_flat bs

abbrev pub elseif_flat : ElseIf Bool → Bool
elseif_flat p = is_flat p.test && p.body

abbrev pub elseif_list_flat : ElseIf (List Bool) → Bool
elseif_list_flat p = is_flat p.test && all_flat p.body

abbrev pub body_flat : rust_body.Body Bool → Bool
body_flat (body_form.Single b) = b
body_flat (body_form.Colon bs) = all_flat bs

abbrev pub case_flat : Case Bool → Bool
case_flat c = is_flat_optional c.value && all_flat c.body

abbrev pub catch_flat : Catch Bool → Bool
catch_flat c = all_flat c.body

-- one node
abbrev pub statement_flat : Stmt-F Bool → Bool
statement_flat (Stmt-F.Block spot ss) = all_flat ss
statement_flat (Stmt-F.Empty spot) = true
statement_flat (Stmt-F.Inline spot text) = true
statement_flat (Stmt-F.Expression spot e) = is_flat e
statement_flat (Stmt-F.Echo spot es) = are_flat es
statement_flat (Stmt-F.Global spot names) = true
statement_flat (Stmt-F.Static spot items) = list_all is_flat_variable items
statement_flat (Stmt-F.Unset spot es) = are_flat es
statement_flat (Stmt-F.Const spot items) = list_all is_flat_constant items
statement_flat (Stmt-F.Return spot e) = is_flat_optional e
statement_flat (Stmt-F.Throw spot e) = is_flat e
statement_flat (Stmt-F.Break spot e) = is_flat_optional e
statement_flat (Stmt-F.Continue spot e) = is_flat_optional e
statement_flat (Stmt-F.If spot test body parts last) = is_flat test && body && list_all elseif_flat parts && optional_flat last
statement_flat (Stmt-F.IfColon spot test body parts last) = is_flat test && all_flat body && list_all elseif_list_flat parts && list_flat last
statement_flat (Stmt-F.While spot test body) = is_flat test && body_flat body
statement_flat (Stmt-F.DoWhile spot body test) = body && is_flat test
statement_flat (Stmt-F.For spot head body) = is_flat_for head && body_flat body
statement_flat (Stmt-F.Foreach spot head body) = is_flat_foreach head && body_flat body
statement_flat (Stmt-F.Switch spot e form cases) = is_flat e && list_all case_flat cases
statement_flat (Stmt-F.Try spot body catches last) = all_flat body && list_all catch_flat catches && list_flat last
statement_flat (Stmt-F.Declare spot n value) = true

abbrev pub is_flat_statement : Stmt → Bool
is_flat_statement = fold-Stmt Bool statement_flat

-- ---- parts of the program's statements

abbrev pub are_flat_statements : List Stmt → Bool
are_flat_statements ss = all_flat (map is_flat_statement ss)

abbrev pub is_flat_elseif : ElseIf Stmt → Bool
is_flat_elseif p = is_flat p.test && is_flat_statement p.body

abbrev pub is_flat_elseif_list : ElseIf (List Stmt) → Bool
is_flat_elseif_list p = is_flat p.test && are_flat_statements p.body

abbrev pub is_flat_last : Option Stmt → Bool
is_flat_last None = true
is_flat_last (Some s) = is_flat_statement s

abbrev pub is_flat_list : Option (List Stmt) → Bool
is_flat_list None = true
is_flat_list (Some ss) = are_flat_statements ss

abbrev pub is_flat_body : rust_body.Body Stmt → Bool
is_flat_body (body_form.Single s) = is_flat_statement s
is_flat_body (body_form.Colon ss) = are_flat_statements ss

abbrev pub is_flat_case : Case Stmt → Bool
is_flat_case c = is_flat_optional c.value && are_flat_statements c.body

abbrev pub is_flat_catch : Catch Stmt → Bool
is_flat_catch c = are_flat_statements c.body
