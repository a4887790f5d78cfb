-- The first fault of statements, behind those met so far, form by form.
use Rattle.std.specs.Prelude.{Option, Some, None}
use Rattle.php_ast.specs.expression.View.{Note}
use Rattle.php_ast.specs.statement.Tree.{Statement, block, if_only, if_else, if_lists, if_else_lists, while, do_while, for, foreach, switch, try_catch, try_finally}
use Rattle.php_ast.specs.statement.Tree.{Statements, no_statement, and_statement, ElseIfs, no_elseif, and_elseif, ElseIfLists, no_elseif_list, and_elseif_list, Body, single, list_behind_colon, Cases, no_case, and_case, Catches, no_catch, and_catch}
use Rattle.php_legality.specs.declared.fault.Fault.{Fault}
use Rattle.php_legality.specs.declared.scope.Scope.{Scope}
use Rattle.php_bodies.specs.Own.{met_own}

-- the statements inside one
abbrev mutual
  pub met_parts : Scope → Statement Note → Option Fault → Option Fault
  met_parts scope (block at body) met = met_list scope body met
  met_parts scope (if_only at test body parts) met = met_elseifs scope parts (met_parts scope body (met_own scope body met))
  met_parts scope (if_else at test body parts last) met = met_parts scope last (met_own scope last (met_elseifs scope parts (met_parts scope body (met_own scope body met))))
  met_parts scope (if_lists at test body parts) met = met_elseif_lists scope parts (met_list scope body met)
  met_parts scope (if_else_lists at test body parts last) met =
      met_list scope last (met_elseif_lists scope parts (met_list scope body met))
  met_parts scope (while at test body) met = met_body scope body met
  met_parts scope (do_while at body test) met = met_parts scope body (met_own scope body met)
  met_parts scope (for at starts tests steps body) met = met_body scope body met
  met_parts scope (foreach at walked key value body) met = met_body scope body met
  met_parts scope (switch at e form cases) met = met_cases scope cases met
  met_parts scope (try_catch at body catches) met = met_catches scope catches (met_list scope body met)
  met_parts scope (try_finally at body catches last) met =
      met_list scope last (met_catches scope catches (met_list scope body met))
  met_parts scope _ met = met

  pub met_list : Scope → Statements Note → Option Fault → Option Fault
  met_list scope no_statement met = met
  met_list scope (and_statement body s) met = met_parts scope s (met_own scope s (met_list scope body met))

  pub met_elseifs : Scope → ElseIfs Note → Option Fault → Option Fault
  met_elseifs scope no_elseif met = met
  met_elseifs scope (and_elseif parts test body) met = met_parts scope body (met_own scope body (met_elseifs scope parts met))

  pub met_elseif_lists : Scope → ElseIfLists Note → Option Fault → Option Fault
  met_elseif_lists scope no_elseif_list met = met
  met_elseif_lists scope (and_elseif_list parts test body) met = met_list scope body (met_elseif_lists scope parts met)

  pub met_body : Scope → Body Note → Option Fault → Option Fault
  met_body scope (single s) met = met_parts scope s (met_own scope s met)
  met_body scope (list_behind_colon body) met = met_list scope body met

  pub met_cases : Scope → Cases Note → Option Fault → Option Fault
  met_cases scope no_case met = met
  met_cases scope (and_case cases at label end body) met = met_list scope body (met_cases scope cases met)

  pub met_catches : Scope → Catches Note → Option Fault → Option Fault
  met_catches scope no_catch met = met
  met_catches scope (and_catch catches classes variable body) met = met_list scope body (met_catches scope catches met)

abbrev pub met_statement : Scope → Statement Note → Option Fault → Option Fault
met_statement scope s met = met_parts scope s (met_own scope s met)

-- what may be absent
abbrev pub met_else : Scope → Option (Statement Note) → Option Fault → Option Fault
met_else scope None met = met
met_else scope (Some s) met = met_statement scope s met

abbrev pub met_last : Scope → Option (Statements Note) → Option Fault → Option Fault
met_last scope None met = met
met_last scope (Some body) met = met_list scope body met
