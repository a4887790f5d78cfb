-- The trees that statements of the program stand for.
use Rattle.std.specs.Prelude.{List, [], ◌∷◌, Option, Some, None, map}
use Rattle.php_ast.specs.declared.spot.Name as rust_name
use Rattle.php_ast.specs.declared.expression.Expr.{Expr}
use Rattle.php_ast.specs.declared.statement.Stmt.{Stmt, fold-Stmt}
use Rattle.php_ast.specs.declared.statement.Stmt.TheOpen.{Stmt-F}
use Rattle.php_ast.specs.declared.statement.VariableItem.{VariableItem}
use Rattle.php_ast.specs.declared.statement.ConstantItem.{ConstantItem}
use Rattle.php_ast.specs.declared.statement.ElseIf.{ElseIf}
use Rattle.php_ast.specs.declared.statement.Body as rust_body
use Rattle.php_ast.specs.declared.statement.Body.TheVariants as body_form
use Rattle.php_ast.specs.declared.statement.Target as rust_target
use Rattle.php_ast.specs.declared.statement.Case.{Case}
use Rattle.php_ast.specs.declared.statement.Catch.{Catch}
use Rattle.php_ast.specs.expression.Tree.{Tree, Items, none}
use Rattle.php_ast.specs.expression.View.{Note, spot_view, values_from, view}
use Rattle.php_ast.specs.statement.Tree.{Sequence, empty, then_also, Name, Variable, Constant, Target, returning, breaking, continuing}
use Rattle.php_ast.specs.statement.Tree.{Statement, block, blank, inline, expression, echo, globals, statics, unset, constants, jump, throw, if_only, if_else, if_lists, if_else_lists, while, do_while, for, foreach, switch, try_catch, try_finally, declares}
use Rattle.php_ast.specs.statement.Tree.{Statements, no_statement, and_statement, ElseIfs, no_elseif, and_elseif, ElseIfLists, no_elseif_list, and_elseif_list, Body, single, list_behind_colon, Cases, no_case, and_case, Catches, no_catch, and_catch}

-- ---- sequences and optional parts

abbrev pub sequence_from : {A : Type 0} → Sequence A → List A → Sequence A
sequence_from before [] = before
sequence_from before (x ∷ xs) = sequence_from (then_also before x) xs

abbrev pub sequence : {A B : Type 0} → (A → B) → List A → Sequence B
sequence f xs = sequence_from empty (map f xs)

abbrev pub optional : {A B : Type 0} → (A → B) → Option A → Option B
optional f None = None
optional f (Some x) = Some (f x)

abbrev pub name_view : rust_name.Name → Name Note
name_view n = record { note = spot_view n.spot; text = n.text }

abbrev pub names_view : List rust_name.Name → Sequence (Name Note)
names_view = sequence name_view

abbrev pub values_view : List Expr → Items Note
values_view es = values_from none (map view es)

abbrev pub variable_view : VariableItem → Variable Note
variable_view x = record { name = name_view x.name; value = optional view x.value }

abbrev pub constant_view : ConstantItem → Constant Note
constant_view x = record { name = name_view x.name; value = view x.value }

abbrev pub target_view : rust_target.Target → Target Note
target_view t = record { is_reference = t.is_reference; place = view t.place }

-- ---- statements

abbrev pub statements_from : Statements Note → List (Statement Note) → Statements Note
statements_from before [] = before
statements_from before (s ∷ ss) = statements_from (and_statement before s) ss

abbrev pub list_view : List (Statement Note) → Statements Note
list_view = statements_from no_statement

abbrev pub elseifs_from : ElseIfs Note → List (ElseIf (Statement Note)) → ElseIfs Note
elseifs_from before [] = before
elseifs_from before (p ∷ ps) = elseifs_from (and_elseif before (view p.test) p.body) ps

abbrev pub elseif_lists_from : ElseIfLists Note → List (ElseIf (List (Statement Note))) → ElseIfLists Note
elseif_lists_from before [] = before
elseif_lists_from before (p ∷ ps) = elseif_lists_from (and_elseif_list before (view p.test) (list_view p.body)) ps

abbrev pub body_view : rust_body.Body (Statement Note) → Body Note
body_view (body_form.Single s) = single s
body_view (body_form.Colon ss) = list_behind_colon (list_view ss)

abbrev pub cases_from : Cases Note → List (Case (Statement Note)) → Cases Note
cases_from before [] = before
cases_from before (c ∷ cs) = cases_from (and_case before (spot_view c.spot) (optional view c.value) c.end (list_view c.body)) cs

abbrev pub catches_from : Catches Note → List (Catch (Statement Note)) → Catches Note
catches_from before [] = before
catches_from before (c ∷ cs) = catches_from (and_catch before (names_view c.classes) (name_view c.variable) (list_view c.body)) cs

abbrev pub if_view : Note → Tree Note → Statement Note → ElseIfs Note → Option (Statement Note) → Statement Note
if_view at test body parts None = if_only at test body parts
if_view at test body parts (Some last) = if_else at test body parts last

abbrev pub if_lists_view : Note → Tree Note → Statements Note → ElseIfLists Note → Option (List (Statement Note)) → Statement Note
if_lists_view at test body parts None = if_lists at test body parts
if_lists_view at test body parts (Some last) = if_else_lists at test body parts (list_view last)

abbrev pub try_view : Note → Statements Note → Catches Note → Option (List (Statement Note)) → Statement Note
try_view at body catches None = try_catch at body catches
try_view at body catches (Some last) = try_finally at body catches (list_view last)

-- one node, whose parts are trees already
abbrev pub statement_step : Stmt-F (Statement Note) → Statement Note
statement_step (Stmt-F.Block spot ss) = block (spot_view spot) (list_view ss)
statement_step (Stmt-F.Empty spot) = blank (spot_view spot)
statement_step (Stmt-F.Inline spot text) = inline (spot_view spot) text
statement_step (Stmt-F.Expression spot e) = expression (spot_view spot) (view e)
statement_step (Stmt-F.Echo spot es) = echo (spot_view spot) (values_view es)
statement_step (Stmt-F.Global spot names) = globals (spot_view spot) (names_view names)
statement_step (Stmt-F.Static spot items) = statics (spot_view spot) (sequence variable_view items)
statement_step (Stmt-F.Unset spot es) = unset (spot_view spot) (values_view es)
statement_step (Stmt-F.Const spot items) = constants (spot_view spot) (sequence constant_view items)
statement_step (Stmt-F.Return spot e) = jump (spot_view spot) returning (optional view e)
statement_step (Stmt-F.Throw spot e) = throw (spot_view spot) (view e)
statement_step (Stmt-F.Break spot e) = jump (spot_view spot) breaking (optional view e)
statement_step (Stmt-F.Continue spot e) = jump (spot_view spot) continuing (optional view e)
statement_step (Stmt-F.If spot test body parts last) = if_view (spot_view spot) (view test) body (elseifs_from no_elseif parts) last
statement_step (Stmt-F.IfColon spot test body parts last) =
    if_lists_view (spot_view spot) (view test) (list_view body) (elseif_lists_from no_elseif_list parts) last
statement_step (Stmt-F.While spot test body) = while (spot_view spot) (view test) (body_view body)
statement_step (Stmt-F.DoWhile spot body test) = do_while (spot_view spot) body (view test)
statement_step (Stmt-F.For spot head body) =
    for (spot_view spot) (values_view head.starts) (values_view head.tests) (values_view head.steps) (body_view body)
statement_step (Stmt-F.Foreach spot head body) =
    foreach (spot_view spot) (view head.walked) (optional target_view head.key) (target_view head.value) (body_view body)
statement_step (Stmt-F.Switch spot e form cases) = switch (spot_view spot) (view e) form (cases_from no_case cases)
statement_step (Stmt-F.Try spot body catches last) = try_view (spot_view spot) (list_view body) (catches_from no_catch catches) last
statement_step (Stmt-F.Declare spot n value) = declares (spot_view spot) (name_view n) value

abbrev pub statement_view : Stmt → Statement Note
statement_view = fold-Stmt (Statement Note) statement_step

abbrev pub statements_view : List Stmt → Statements Note
statements_view ss = list_view (map statement_view ss)
