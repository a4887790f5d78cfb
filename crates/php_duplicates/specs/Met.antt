-- The first duplicate behind those met so far, form by form.
use Rattle.std.specs.Prelude.{ℕ, Bool, true, false, ◌||◌, ◌&&◌, Option, Some, None, List, [], ◌∷◌}
use Rattle.php_ast.specs.declared.statement.Case.{Case}
use Rattle.php_ast.specs.declared.expression.Expr.{Expr}
use Rattle.php_ast.specs.declared.spot.Spot.{Spot}
use Rattle.php_ast.specs.expression.View.{Note, spot_view}
use Rattle.php_ast.specs.statement.Tree.{Name, Variable, Statement, block, if_only, if_else, if_lists, if_else_lists, while, do_while, for, foreach, switch, try_catch, try_finally}
use Rattle.php_ast.specs.statement.Tree.{Statements, no_statement, and_statement, ElseIfs, no_elseif, and_elseif, ElseIfLists, no_elseif_list, and_elseif_list, Body, single, list_behind_colon, Cases, no_case, and_case, Catches, no_catch, and_catch}
use Rattle.php_ast.specs.declaration.Tree.{Param, Signature, ClassConstant, Method, Member, class_constants, method, properties, Item, of_statement, of_function, of_class, of_interface, of_trait}
use Rattle.php_legality.specs.declared.fault.Fault.{Fault}
use Rattle.php_legality.specs.Lists.{elements, where_true}
use Rattle.php_legality.specs.First.{first_from}
use Rattle.php_legality.specs.Declarations.{member_name}
use Rattle.php_legality.specs.Rows.{defaults_in, later_defaults}
use Rattle.php_legality.specs.Taken.{is_one_of}
use Rattle.std.specs.Prelude.{map, drop}
use Rattle.php_duplicates.specs.Over.{over}
use Rattle.php_duplicates.specs.declared.taken.Taken.TheVariants.{LibraryFunctions, PreludeFunctions, BuiltInClasses}
use Rattle.php_duplicates.specs.NamesTaken.{names_taken}
use Rattle.php_duplicates.specs.Saw.{Saw, duplicate_at, saw_alike, saw_same, first_among}

-- ---- labels of a `switch`

abbrev pub is_default : {A : Type 0} → Option A → Bool
is_default None = true
is_default (Some e) = false

-- behind labels among which a `default` is or isn't
abbrev pub labels : {A : Type 0} → Bool → List (Case A) → Option Fault → Option Fault
labels has [] met = met
labels has (c ∷ cs) met =
    labels (has || is_default c.value) cs (first_from met (where_true (has && is_default c.value) (duplicate_at (spot_view c.spot))))

unfoldable pub met_labels : Cases Note → Option Fault → Option Fault
met_labels cases met = first_from met (map duplicate_at (drop 1 (defaults_in cases)))

-- ---- statements

abbrev mutual
  pub met_statement : Statement Note → Option Fault → Option Fault
  met_statement (block at body) met = met_list body met
  met_statement (if_only at test body parts) met = met_elseifs parts (met_statement body met)
  met_statement (if_else at test body parts last) met = met_statement last (met_elseifs parts (met_statement body met))
  met_statement (if_lists at test body parts) met = met_elseif_lists parts (met_list body met)
  met_statement (if_else_lists at test body parts last) met = met_list last (met_elseif_lists parts (met_list body met))
  met_statement (while at test body) met = met_body body met
  met_statement (do_while at body test) met = met_statement body met
  met_statement (for at starts tests steps body) met = met_body body met
  met_statement (foreach at walked key value body) met = met_body body met
  met_statement (switch at e form cases) met = met_cases cases (met_labels cases met)
  met_statement (try_catch at body catches) met = met_catches catches (met_list body met)
  met_statement (try_finally at body catches last) met = met_list last (met_catches catches (met_list body met))
  met_statement _ met = met

  pub met_list : Statements Note → Option Fault → Option Fault
  met_list no_statement met = met
  met_list (and_statement body s) met = met_statement s (met_list body met)

  pub met_elseifs : ElseIfs Note → Option Fault → Option Fault
  met_elseifs no_elseif met = met
  met_elseifs (and_elseif parts test body) met = met_statement body (met_elseifs parts met)

  pub met_elseif_lists : ElseIfLists Note → Option Fault → Option Fault
  met_elseif_lists no_elseif_list met = met
  met_elseif_lists (and_elseif_list parts test body) met = met_list body (met_elseif_lists parts met)

  pub met_body : Body Note → Option Fault → Option Fault
  met_body (single s) met = met_statement s met
  met_body (list_behind_colon body) met = met_list body met

  pub met_cases : Cases Note → Option Fault → Option Fault
  met_cases no_case met = met
  met_cases (and_case cases at label end body) met = met_list body (met_cases cases met)

  pub met_catches : Catches Note → Option Fault → Option Fault
  met_catches no_catch met = met
  met_catches (and_catch catches classes variable body) met = met_list body (met_catches catches met)

-- what may be absent
abbrev pub met_else : Option (Statement Note) → Option Fault → Option Fault
met_else None met = met
met_else (Some s) met = met_statement s met

abbrev pub met_last : Option (Statements Note) → Option Fault → Option Fault
met_last None met = met
met_last (Some body) met = met_list body met

-- ---- functions and classes

abbrev pub members_in : Item Note → List (Member Note)
members_in (of_class c) = elements c.members
members_in (of_interface i) = elements i.members
members_in (of_trait t) = elements t.members
members_in _ = []

abbrev pub see_function : Item Note → Saw → Saw
see_function (of_function g) s = saw_alike g.name s
see_function _ s = s

abbrev pub see_class : Item Note → Saw → Saw
see_class (of_class c) s = saw_alike c.name s
see_class (of_interface i) s = saw_alike i.name s
see_class (of_trait t) s = saw_alike t.name s
see_class _ s = s

-- a name that is taken already
unfoldable pub met_name : List (List ℕ) → Name Note → Option Fault → Option Fault
met_name names n met = first_from met (where_true (is_one_of names n.text) (duplicate_at n.note))

abbrev pub taken_function : List (List ℕ) → Item Note → Option Fault → Option Fault
taken_function names (of_function g) met = met_name names g.name met
taken_function names _ met = met

abbrev pub taken_class : List (List ℕ) → Item Note → Option Fault → Option Fault
taken_class names (of_class c) met = met_name names c.name met
taken_class names (of_interface i) met = met_name names i.name met
taken_class names (of_trait t) met = met_name names t.name met
taken_class names _ met = met

-- ---- members and parameters

abbrev pub see_method : Member Note → Saw → Saw
see_method (method m) s = saw_alike (member_name m.name) s
see_method _ s = s

abbrev pub see_variable : Variable Note → Saw → Saw
see_variable x s = saw_same x.name s

abbrev pub see_property : Member Note → Saw → Saw
see_property (properties modifiers variables) s = over see_variable (elements variables) s
see_property _ s = s

abbrev pub see_class_constant : ClassConstant Note → Saw → Saw
see_class_constant c s = saw_same (member_name c.name) s

abbrev pub see_constant : Member Note → Saw → Saw
see_constant (class_constants modifiers items) s = over see_class_constant (elements items) s
see_constant _ s = s

abbrev pub see_param : Param Note → Saw → Saw
see_param p s = saw_same p.name s

abbrev pub met_signature : Signature Note → Option Fault → Option Fault
met_signature s met = first_among see_param (elements s.params) met

abbrev pub met_method : Member Note → Option Fault → Option Fault
met_method (method m) met = met_signature m.signature met
met_method _ met = met

-- of the items of a script
abbrev pub met_methods : Item Note → Option Fault → Option Fault
met_methods item met = first_among see_method (members_in item) met

abbrev pub met_properties : Item Note → Option Fault → Option Fault
met_properties item met = first_among see_property (members_in item) met

abbrev pub met_constants : Item Note → Option Fault → Option Fault
met_constants item met = first_among see_constant (members_in item) met

abbrev pub met_params : Item Note → Option Fault → Option Fault
met_params (of_function g) met = met_signature g.signature met
met_params item met = over met_method (members_in item) met

-- ---- bodies

abbrev pub met_member_body : Member Note → Option Fault → Option Fault
met_member_body (method m) met = met_last m.body met
met_member_body _ met = met

abbrev pub met_bodies : Item Note → Option Fault → Option Fault
met_bodies (of_statement s) met = met_statement s met
met_bodies (of_function g) met = met_list g.body met
met_bodies item met = over met_member_body (members_in item) met

-- ---- the whole

abbrev pub met_names : List (Item Note) → Option Fault → Option Fault
met_names items met =
    over (taken_class (names_taken BuiltInClasses)) items
    (first_among see_class items
    (over (taken_function (names_taken PreludeFunctions)) items
    (over (taken_function (names_taken LibraryFunctions)) items
    (first_among see_function items met))))

abbrev pub met_members : List (Item Note) → Option Fault → Option Fault
met_members items met = over met_params items (over met_constants items (over met_properties items (over met_methods items met)))

abbrev pub met_script : List (Item Note) → Option Fault
met_script items = over met_bodies items (met_members items (met_names items None))
