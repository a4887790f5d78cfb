-- Back from the trees of the grammar to the flat statements and scripts of the program.
use Rattle.std.proofs.Common.{List, [], ◌∷◌, ◌++◌, Option, Some, None}
use Rattle.php_ast.specs.declared.spot.Spot.{Spot}
use Rattle.php_ast.specs.declared.spot.Name as rust_name
use Rattle.php_ast.specs.declared.expression.Expr.{Expr}
use Rattle.php_ast.specs.declared.statement.Stmt.{Stmt}
use Rattle.php_ast.specs.declared.statement.Stmt.TheOpen.{Stmt-F}
use Rattle.php_ast.specs.declared.statement.Stmt.TheViews.{roll-Stmt}
use Rattle.php_ast.specs.declared.statement.VariableItem.{VariableItem}
use Rattle.php_ast.specs.declared.statement.ConstantItem.{ConstantItem}
use Rattle.php_ast.specs.declared.statement.ElseIf.{ElseIf}
use Rattle.php_ast.specs.declared.statement.Body as rust_body
use Rattle.php_ast.specs.declared.statement.Body.TheVariants as body_form
use Rattle.php_ast.specs.declared.statement.Target as rust_target
use Rattle.php_ast.specs.declared.statement.Case.{Case}
use Rattle.php_ast.specs.declared.statement.Catch.{Catch}
use Rattle.php_ast.specs.expression.Tree.{Tree}
use Rattle.php_ast.specs.expression.View.{Note}
use Rattle.php_ast.specs.statement.Tree.{Sequence, empty, then_also, Name, Variable, Constant, Target, Jump, returning, breaking, continuing}
use Rattle.php_ast.specs.statement.Tree.{Statement, block, blank, inline, expression, echo, globals, statics, unset, constants, jump, throw, if_only, if_else, if_lists, if_else_lists, while, do_while, for, foreach, switch, try_catch, try_finally, declares}
use Rattle.php_ast.specs.statement.Tree.{Statements, no_statement, and_statement, ElseIfs, no_elseif, and_elseif, ElseIfLists, no_elseif_list, and_elseif_list, Body, single, list_behind_colon, Cases, no_case, and_case, Catches, no_catch, and_catch}
use Rattle.php_ast.specs.statement.View.{optional}
use Rattle.php_parse_expression_laws.proofs.Unview.{close, unview, unview_values, spot_at, name_at}

-- ---- parts without statements

abbrev pub expr_of : Tree Note → Expr
expr_of t = close (unview t)

abbrev pub elements : {A B : Type 0} → (A → B) → Sequence A → List B
elements f empty = []
elements f (then_also xs x) = elements f xs ++ f x ∷ []

abbrev pub name_of : Name Note → rust_name.Name
name_of n = name_at n.note n.text

abbrev pub variable_of : Variable Note → VariableItem
variable_of x = record { name = name_of x.name; value = optional expr_of x.value }

abbrev pub constant_of : Constant Note → ConstantItem
constant_of x = record { name = name_of x.name; value = expr_of x.value }

abbrev pub target_of : Target Note → rust_target.Target
target_of t = record { is_reference = t.is_reference; place = expr_of t.place }

abbrev pub jump_of : Spot → Jump → Option Expr → Stmt
jump_of spot returning e = roll-Stmt (Stmt-F.Return spot e)
jump_of spot breaking e = roll-Stmt (Stmt-F.Break spot e)
jump_of spot continuing e = roll-Stmt (Stmt-F.Continue spot e)

-- ---- statements

abbrev mutual
  pub statement_of : Statement Note → Stmt
  statement_of (block n ss) = roll-Stmt (Stmt-F.Block (spot_at n) (statements_of ss))
  statement_of (blank n) = roll-Stmt (Stmt-F.Empty (spot_at n))
  statement_of (inline n text) = roll-Stmt (Stmt-F.Inline (spot_at n) text)
  statement_of (expression n e) = roll-Stmt (Stmt-F.Expression (spot_at n) (expr_of e))
  statement_of (echo n es) = roll-Stmt (Stmt-F.Echo (spot_at n) (unview_values es))
  statement_of (globals n names) = roll-Stmt (Stmt-F.Global (spot_at n) (elements name_of names))
  statement_of (statics n items) = roll-Stmt (Stmt-F.Static (spot_at n) (elements variable_of items))
  statement_of (unset n es) = roll-Stmt (Stmt-F.Unset (spot_at n) (unview_values es))
  statement_of (constants n items) = roll-Stmt (Stmt-F.Const (spot_at n) (elements constant_of items))
  statement_of (jump n way e) = jump_of (spot_at n) way (optional expr_of e)
  statement_of (throw n e) = roll-Stmt (Stmt-F.Throw (spot_at n) (expr_of e))
  statement_of (if_only n test body parts) = roll-Stmt (Stmt-F.If (spot_at n) (expr_of test) (statement_of body) (elseifs_of parts) None)
  statement_of (if_else n test body parts last) = roll-Stmt (Stmt-F.If (spot_at n) (expr_of test) (statement_of body) (elseifs_of parts) (Some (statement_of last)))
  statement_of (if_lists n test body parts) = roll-Stmt (Stmt-F.IfColon (spot_at n) (expr_of test) (statements_of body) (elseif_lists_of parts) None)
  statement_of (if_else_lists n test body parts last) =
      roll-Stmt (Stmt-F.IfColon (spot_at n) (expr_of test) (statements_of body) (elseif_lists_of parts) (Some (statements_of last)))
  statement_of (while n test body) = roll-Stmt (Stmt-F.While (spot_at n) (expr_of test) (body_of body))
  statement_of (do_while n body test) = roll-Stmt (Stmt-F.DoWhile (spot_at n) (statement_of body) (expr_of test))
  statement_of (for n starts tests steps body) =
      roll-Stmt (Stmt-F.For (spot_at n) (record { starts = unview_values starts; tests = unview_values tests; steps = unview_values steps }) (body_of body))
  statement_of (foreach n walked key value body) =
      roll-Stmt (Stmt-F.Foreach (spot_at n) (record { walked = expr_of walked; key = optional target_of key; value = target_of value }) (body_of body))
  statement_of (switch n e form cases) = roll-Stmt (Stmt-F.Switch (spot_at n) (expr_of e) form (cases_of cases))
  statement_of (try_catch n body catches) = roll-Stmt (Stmt-F.Try (spot_at n) (statements_of body) (catches_of catches) None)
  statement_of (try_finally n body catches last) = roll-Stmt (Stmt-F.Try (spot_at n) (statements_of body) (catches_of catches) (Some (statements_of last)))
  statement_of (declares n name value) = roll-Stmt (Stmt-F.Declare (spot_at n) (name_of name) value)

  pub statements_of : Statements Note → List Stmt
  statements_of no_statement = []
  statements_of (and_statement before s) = statements_of before ++ statement_of s ∷ []

  pub elseifs_of : ElseIfs Note → List (ElseIf Stmt)
  elseifs_of no_elseif = []
  elseifs_of (and_elseif before test body) = elseifs_of before ++ record { test = expr_of test; body = statement_of body } ∷ []

  pub elseif_lists_of : ElseIfLists Note → List (ElseIf (List Stmt))
  elseif_lists_of no_elseif_list = []
  elseif_lists_of (and_elseif_list before test body) = elseif_lists_of before ++ record { test = expr_of test; body = statements_of body } ∷ []

  pub body_of : Body Note → rust_body.Body Stmt
  body_of (single s) = body_form.Single (statement_of s)
  body_of (list_behind_colon ss) = body_form.Colon (statements_of ss)

  pub cases_of : Cases Note → List (Case Stmt)
  cases_of no_case = []
  cases_of (and_case before n value end body) = cases_of before ++ record { spot = spot_at n; value = optional expr_of value; end = end; body = statements_of body } ∷ []

  pub catches_of : Catches Note → List (Catch Stmt)
  catches_of no_catch = []
  catches_of (and_catch before classes variable body) =
      catches_of before ++ record { classes = elements name_of classes; variable = name_of variable; body = statements_of body } ∷ []
