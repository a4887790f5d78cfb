-- The first fault of `break` and `continue` behind those met so far, form by form.
use Rattle.std.specs.Prelude.{ℕ, nat_lt, ◌||◌, Option, Some, None, List, [], ◌∷◌, ◌++◌}
use Rattle.php_ast.specs.expression.Tree.{Tree}
use Rattle.php_ast.specs.expression.View.{Note}
use Rattle.php_ast.specs.statement.Tree.{Statement, block, jump, if_only, if_else, if_lists, if_else_lists, while, do_while, for, foreach, switch, try_catch, try_finally, breaking, continuing}
use Rattle.php_ast.specs.statement.Tree.{Statements, no_statement, and_statement, ElseIfs, no_elseif, and_elseif, ElseIfLists, no_elseif_list, and_elseif_list, Body, single, list_behind_colon, Cases, no_case, and_case, Catches, no_catch, and_catch}
use Rattle.php_ast.specs.declaration.Tree.{Method, Member, method, Item, of_statement, of_function, of_class, of_interface, of_trait}
use Rattle.php_legality.specs.declared.kind.Kind.TheVariants as kind
use Rattle.php_legality.specs.declared.fault.Fault.{Fault}
use Rattle.php_legality.specs.Lists.{elements, where_true}
use Rattle.php_legality.specs.First.{fault_at, first_from}
use Rattle.php_legality.specs.Statements.{Around, loop_or_switch, finally_block}
use Rattle.php_legality.specs.Rows.{level, is_bad_level, leaves_finally, loops_in_finally}

-- the faults of one jump
abbrev pub jump_faults : List Around → Note → ℕ → List Fault
jump_faults around at n =
    where_true (is_bad_level n around) (fault_at kind.BadBreak at) ++ where_true (leaves_finally n (loops_in_finally around)) (fault_at kind.JumpFromFinally at)

unfoldable pub met_jump : List Around → Note → Option (Tree Note) → Option Fault → Option Fault
met_jump around at e met = first_from met (jump_faults around at (level e))

abbrev mutual
  pub met_statement : List Around → Statement Note → Option Fault → Option Fault
  met_statement around (block at body) met = met_list around body met
  met_statement around (jump at breaking e) met = met_jump around at e met
  met_statement around (jump at continuing e) met = met_jump around at e met
  met_statement around (if_only at test body parts) met = met_elseifs around parts (met_statement around body met)
  met_statement around (if_else at test body parts last) met = met_statement around last (met_elseifs around parts (met_statement around body met))
  met_statement around (if_lists at test body parts) met = met_elseif_lists around parts (met_list around body met)
  met_statement around (if_else_lists at test body parts last) met =
      met_list around last (met_elseif_lists around parts (met_list around body met))
  met_statement around (while at test body) met = met_body (loop_or_switch ∷ around) body met
  met_statement around (do_while at body test) met = met_statement (loop_or_switch ∷ around) body met
  met_statement around (for at starts tests steps body) met = met_body (loop_or_switch ∷ around) body met
  met_statement around (foreach at walked key value body) met = met_body (loop_or_switch ∷ around) body met
  met_statement around (switch at e form cases) met = met_cases (loop_or_switch ∷ around) cases met
  met_statement around (try_catch at body catches) met = met_catches around catches (met_list around body met)
  met_statement around (try_finally at body catches last) met =
      met_list (finally_block ∷ around) last (met_catches around catches (met_list around body met))
  met_statement around _ met = met

  pub met_list : List Around → Statements Note → Option Fault → Option Fault
  met_list around no_statement met = met
  met_list around (and_statement body s) met = met_statement around s (met_list around body met)

  pub met_elseifs : List Around → ElseIfs Note → Option Fault → Option Fault
  met_elseifs around no_elseif met = met
  met_elseifs around (and_elseif parts test body) met = met_statement around body (met_elseifs around parts met)

  pub met_elseif_lists : List Around → ElseIfLists Note → Option Fault → Option Fault
  met_elseif_lists around no_elseif_list met = met
  met_elseif_lists around (and_elseif_list parts test body) met = met_list around body (met_elseif_lists around parts met)

  pub met_body : List Around → Body Note → Option Fault → Option Fault
  met_body around (single s) met = met_statement around s met
  met_body around (list_behind_colon body) met = met_list around body met

  pub met_cases : List Around → Cases Note → Option Fault → Option Fault
  met_cases around no_case met = met
  met_cases around (and_case cases at label end body) met = met_list around body (met_cases around cases met)

  pub met_catches : List Around → Catches Note → Option Fault → Option Fault
  met_catches around no_catch met = met
  met_catches around (and_catch catches classes variable body) met = met_list around body (met_catches around catches met)

-- what may be absent
abbrev pub met_else : List Around → Option (Statement Note) → Option Fault → Option Fault
met_else around None met = met
met_else around (Some s) met = met_statement around s met

abbrev pub met_last : List Around → Option (Statements Note) → Option Fault → Option Fault
met_last around None met = met
met_last around (Some body) met = met_list around body met

-- elements one after the other
abbrev pub over : {A : Type 0} → (A → Option Fault → Option Fault) → List A → Option Fault → Option Fault
over each [] met = met
over each (x ∷ xs) met = over each xs (each x met)

-- ---- declarations

abbrev pub met_method_body : Option (Statements Note) → Option Fault → Option Fault
met_method_body body met = met_last [] body met

abbrev pub met_member : Member Note → Option Fault → Option Fault
met_member (method m) met = met_method_body m.body met
met_member _ met = met

abbrev pub met_item : Item Note → Option Fault → Option Fault
met_item (of_statement s) met = met_statement [] s met
met_item (of_function g) met = met_list [] g.body met
met_item (of_class c) met = over met_member (elements c.members) met
met_item (of_interface i) met = over met_member (elements i.members) met
met_item (of_trait t) met = over met_member (elements t.members) met
