-- The statements of a body, those inside others too, with what stands around each, and their own expressions.
use Rattle.std.specs.Prelude.{cond, List, [], ◌∷◌, ◌++◌, map, flat_map}
use Rattle.php_ast.specs.expression.Tree.{Tree, Items, none, and, skip}
use Rattle.php_ast.specs.statement.Tree.{Sequence, Name, Variable, Constant, Target, Statement, block, blank, inline, expression, echo, globals, statics, unset, constants, jump, throw, if_only, if_else, if_lists, if_else_lists, while, do_while, for, foreach, switch, try_catch, try_finally, declares}
use Rattle.php_ast.specs.statement.Tree.{Statements, no_statement, and_statement, ElseIfs, no_elseif, and_elseif, ElseIfLists, no_elseif_list, and_elseif_list, Body, single, list_behind_colon, Cases, no_case, and_case, Catches, no_catch, and_catch}
use Rattle.php_legality.specs.Lists.{elements, where_some}
use Rattle.php_legality.specs.Expressions.{Use, valued, assigned, changed, removed, Used, used}

-- what a `break` may leave, and what it may not
pub data Around : Type 0 where
  loop_or_switch : Around
  finally_block : Around

-- a statement, and what stands around it in its body, the innermost first
pub record Inside (S : Type 0) : Type 0 where
  pub around : List Around
  pub statement : Statement S

-- those inside a statement
abbrev mutual
  pub inside : {S : Type 0} → List Around → Statement S → List (Inside S)
  inside around (block at body) = inside_list around body
  inside around (if_only at test body parts) = record { around = around; statement = body } ∷ inside around body ++ inside_elseifs around parts
  inside around (if_else at test body parts last) =
      record { around = around; statement = body } ∷ inside around body ++ inside_elseifs around parts
      ++ record { around = around; statement = last } ∷ inside around last
  inside around (if_lists at test body parts) = inside_list around body ++ inside_elseif_lists around parts
  inside around (if_else_lists at test body parts last) =
      inside_list around body ++ inside_elseif_lists around parts ++ inside_list around last
  inside around (while at test body) = inside_body (loop_or_switch ∷ around) body
  inside around (do_while at body test) =
      record { around = loop_or_switch ∷ around; statement = body } ∷ inside (loop_or_switch ∷ around) body
  inside around (for at starts tests steps body) = inside_body (loop_or_switch ∷ around) body
  inside around (foreach at walked key value body) = inside_body (loop_or_switch ∷ around) body
  inside around (switch at e form cases) = inside_cases (loop_or_switch ∷ around) cases
  inside around (try_catch at body catches) = inside_list around body ++ inside_catches around catches
  inside around (try_finally at body catches last) =
      inside_list around body ++ inside_catches around catches ++ inside_list (finally_block ∷ around) last
  inside around _ = []

  pub inside_list : {S : Type 0} → List Around → Statements S → List (Inside S)
  inside_list around no_statement = []
  inside_list around (and_statement body s) = inside_list around body ++ record { around = around; statement = s } ∷ inside around s

  pub inside_elseifs : {S : Type 0} → List Around → ElseIfs S → List (Inside S)
  inside_elseifs around no_elseif = []
  inside_elseifs around (and_elseif parts test body) =
      inside_elseifs around parts ++ record { around = around; statement = body } ∷ inside around body

  pub inside_elseif_lists : {S : Type 0} → List Around → ElseIfLists S → List (Inside S)
  inside_elseif_lists around no_elseif_list = []
  inside_elseif_lists around (and_elseif_list parts test body) = inside_elseif_lists around parts ++ inside_list around body

  pub inside_body : {S : Type 0} → List Around → Body S → List (Inside S)
  inside_body around (single s) = record { around = around; statement = s } ∷ inside around s
  inside_body around (list_behind_colon body) = inside_list around body

  pub inside_cases : {S : Type 0} → List Around → Cases S → List (Inside S)
  inside_cases around no_case = []
  inside_cases around (and_case cases at label end body) = inside_cases around cases ++ inside_list around body

  pub inside_catches : {S : Type 0} → List Around → Catches S → List (Inside S)
  inside_catches around no_catch = []
  inside_catches around (and_catch catches classes variable body) = inside_catches around catches ++ inside_list around body

-- a statement and those inside it
abbrev pub all_inside : {S : Type 0} → List Around → Statement S → List (Inside S)
all_inside around s = record { around = around; statement = s } ∷ inside around s

-- ---- the expressions of a statement that stand in no other expression and in no other statement

abbrev pub values : {S : Type 0} → Use → Items S → List (Used S)
values u none = []
values u (and items lead e) = values u items ++ used u e ∷ []
values u (skip items) = values u items

abbrev pub target_used : {S : Type 0} → Target S → Used S
target_used t = used (cond t.is_reference changed assigned) t.place

abbrev pub elseif_tests : {S : Type 0} → ElseIfs S → List (Used S)
elseif_tests no_elseif = []
elseif_tests (and_elseif parts test body) = elseif_tests parts ++ used valued test ∷ []

abbrev pub elseif_list_tests : {S : Type 0} → ElseIfLists S → List (Used S)
elseif_list_tests no_elseif_list = []
elseif_list_tests (and_elseif_list parts test body) = elseif_list_tests parts ++ used valued test ∷ []

abbrev pub labels : {S : Type 0} → Cases S → List (Used S)
labels no_case = []
labels (and_case cases at label end body) = labels cases ++ where_some (λ e. used valued e ∷ []) label

-- the values that variables begin with, and those of constants
abbrev pub first_values : {S : Type 0} → Sequence (Variable S) → List (Tree S)
first_values variables = flat_map (λ x. where_some (λ e. e ∷ []) x.value) (elements variables)

abbrev pub constant_values : {S : Type 0} → Sequence (Constant S) → List (Tree S)
constant_values items = map (λ x. x.value) (elements items)

abbrev pub as_values : {S : Type 0} → List (Tree S) → List (Used S)
as_values es = map (used valued) es

abbrev pub own : {S : Type 0} → Statement S → List (Used S)
own (block at body) = []
own (blank at) = []
own (inline at text) = []
own (expression at e) = used valued e ∷ []
own (echo at es) = values valued es
own (globals at names) = []
own (statics at variables) = as_values (first_values variables)
own (unset at es) = values removed es
own (constants at items) = as_values (constant_values items)
own (jump at kind value) = where_some (λ e. used valued e ∷ []) value
own (throw at e) = used valued e ∷ []
own (if_only at test body parts) = used valued test ∷ elseif_tests parts
own (if_else at test body parts last) = used valued test ∷ elseif_tests parts
own (if_lists at test body parts) = used valued test ∷ elseif_list_tests parts
own (if_else_lists at test body parts last) = used valued test ∷ elseif_list_tests parts
own (while at test body) = used valued test ∷ []
own (do_while at body test) = used valued test ∷ []
own (for at starts tests steps body) = values valued starts ++ values valued tests ++ values valued steps
own (foreach at walked key value body) = used valued walked ∷ where_some (λ t. target_used t ∷ []) key ++ target_used value ∷ []
own (switch at e form cases) = used valued e ∷ labels cases
own (try_catch at body catches) = []
own (try_finally at body catches last) = []
own (declares at name value) = []

-- those that must be constant
abbrev pub own_constants : {S : Type 0} → Statement S → List (Tree S)
own_constants (statics at variables) = first_values variables
own_constants (constants at items) = constant_values items
own_constants _ = []

-- the names of classes in the `catch` parts of a statement
abbrev pub caught_in : {S : Type 0} → Catches S → List (Name S)
caught_in no_catch = []
caught_in (and_catch catches classes variable body) = caught_in catches ++ elements classes

abbrev pub caught : {S : Type 0} → Statement S → List (Name S)
caught (try_catch at body catches) = caught_in catches
caught (try_finally at body catches last) = caught_in catches
caught _ = []
