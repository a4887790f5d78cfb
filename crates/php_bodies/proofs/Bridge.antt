-- What the walk meets, form by form, is the first of the faults of all statements.
use Rattle.std.proofs.Common.{◌≡◌, Option, List, [], ◌∷◌, ◌++◌, flat_map, refl, sym, ◌∙◌, ap}
use Rattle.php_ast.specs.expression.View.{Note}
use Rattle.php_ast.specs.statement.Tree.{Statement, block, blank, inline, expression, echo, globals, statics, unset, constants, jump, throw, if_only, if_else, if_lists, if_else_lists, while, do_while, for, foreach, switch, try_catch, try_finally, declares}
use Rattle.php_ast.specs.statement.Tree.{Statements, no_statement, and_statement, ElseIfs, no_elseif, and_elseif, ElseIfLists, no_elseif_list, and_elseif_list, Body, single, list_behind_colon, Cases, no_case, and_case, Catches, no_catch, and_catch}
use Rattle.php_legality.specs.declared.fault.Fault.{Fault}
use Rattle.php_legality.specs.declared.scope.Scope.{Scope}
use Rattle.php_legality.specs.First.{first_from}
use Rattle.php_legality.specs.Statements.{Around, loop_or_switch, finally_block, Inside, inside, inside_list, inside_elseifs, inside_elseif_lists, inside_body, inside_cases, inside_catches, all_inside}
use Rattle.php_legality.proofs.FirstLemmas.{first_from_joined}
use Rattle.php_legality.proofs.HasLemmas.{flat_map_joined}
use Rattle.php_bodies.specs.Own.{met_own}
use Rattle.php_bodies.specs.Met.{met_parts, met_statement, met_list, met_elseifs, met_elseif_lists, met_body, met_cases, met_catches}
use Rattle.php_bodies.specs.Sites.{site_faults, faults_in}
use Rattle.php_bodies.proofs.OwnBridge.{own_met}

-- one part behind another one
behind : (scope : Scope) (met one two : Option Fault) (xs ys : List (Inside Note)) → one ≡ first_from met (faults_in scope xs) → two ≡ first_from one (faults_in scope ys)
    → two ≡ first_from met (faults_in scope (xs ++ ys))
behind scope met one two xs ys first second =
    second ∙ ap (λ m. first_from m (faults_in scope ys)) first ∙ sym (first_from_joined met (faults_in scope xs) (faults_in scope ys))
    ∙ ap (first_from met) (sym (flat_map_joined (λ x. site_faults scope x.statement) xs ys))

-- a statement, and then those inside it
itself : (scope : Scope) (around : List Around) (s : Statement Note) (met two : Option Fault) → two ≡ first_from (met_own scope s met) (faults_in scope (inside around s))
    → two ≡ first_from met (faults_in scope (record { around = around; statement = s } ∷ inside around s))
itself scope around s met two rest =
    rest ∙ ap (λ m. first_from m (faults_in scope (inside around s))) (own_met scope s met) ∙ sym (first_from_joined met (site_faults scope s) (faults_in scope (inside around s)))

mutual
  parts_met : (scope : Scope) (around : List Around) (s : Statement Note) (met : Option Fault) → met_parts scope s met ≡ first_from met (faults_in scope (inside around s))
  parts_met scope around (block at body) met = list_met scope around body met
  parts_met scope around (blank at) met = refl
  parts_met scope around (inline at text) met = refl
  parts_met scope around (expression at e) met = refl
  parts_met scope around (echo at es) met = refl
  parts_met scope around (globals at names) met = refl
  parts_met scope around (statics at variables) met = refl
  parts_met scope around (unset at es) met = refl
  parts_met scope around (constants at items) met = refl
  parts_met scope around (jump at kind e) met = refl
  parts_met scope around (throw at e) met = refl
  parts_met scope around (if_only at test body parts) met =
      behind scope met _ _ (record { around = around; statement = body } ∷ inside around body) (inside_elseifs around parts)
      (itself scope around body met _ (parts_met scope around body (met_own scope body met))) (elseifs_met scope around parts _)
  parts_met scope around (if_else at test body parts last) met =
      behind scope met _ _ ((record { around = around; statement = body } ∷ inside around body) ++ inside_elseifs around parts) (record { around = around; statement = last } ∷ inside around last)
      (behind scope met _ _ (record { around = around; statement = body } ∷ inside around body) (inside_elseifs around parts)
      (itself scope around body met _ (parts_met scope around body (met_own scope body met))) (elseifs_met scope around parts _))
      (itself scope around last _ _ (parts_met scope around last (met_own scope last _)))
  parts_met scope around (if_lists at test body parts) met =
      behind scope met _ _ (inside_list around body) (inside_elseif_lists around parts) (list_met scope around body met) (elseif_lists_met scope around parts _)
  parts_met scope around (if_else_lists at test body parts last) met =
      behind scope met _ _ (inside_list around body ++ inside_elseif_lists around parts) (inside_list around last)
      (behind scope met _ _ (inside_list around body) (inside_elseif_lists around parts) (list_met scope around body met) (elseif_lists_met scope around parts _)) (list_met scope around last _)
  parts_met scope around (while at test body) met = body_met scope (loop_or_switch ∷ around) body met
  parts_met scope around (do_while at body test) met =
      itself scope (loop_or_switch ∷ around) body met _ (parts_met scope (loop_or_switch ∷ around) body (met_own scope body met))
  parts_met scope around (for at starts tests steps body) met = body_met scope (loop_or_switch ∷ around) body met
  parts_met scope around (foreach at walked key value body) met = body_met scope (loop_or_switch ∷ around) body met
  parts_met scope around (switch at e form cases) met = cases_met scope (loop_or_switch ∷ around) cases met
  parts_met scope around (try_catch at body catches) met =
      behind scope met _ _ (inside_list around body) (inside_catches around catches) (list_met scope around body met) (catches_met scope around catches _)
  parts_met scope around (try_finally at body catches last) met =
      behind scope met _ _ (inside_list around body ++ inside_catches around catches) (inside_list (finally_block ∷ around) last)
      (behind scope met _ _ (inside_list around body) (inside_catches around catches) (list_met scope around body met) (catches_met scope around catches _))
      (list_met scope (finally_block ∷ around) last _)
  parts_met scope around (declares at name n) met = refl

  pub list_met : (scope : Scope) (around : List Around) (body : Statements Note) (met : Option Fault) → met_list scope body met ≡ first_from met (faults_in scope (inside_list around body))
  list_met scope around no_statement met = refl
  list_met scope around (and_statement body s) met =
      behind scope met _ _ (inside_list around body) (record { around = around; statement = s } ∷ inside around s) (list_met scope around body met)
      (itself scope around s _ _ (parts_met scope around s (met_own scope s _)))

  elseifs_met : (scope : Scope) (around : List Around) (parts : ElseIfs Note) (met : Option Fault) → met_elseifs scope parts met ≡ first_from met (faults_in scope (inside_elseifs around parts))
  elseifs_met scope around no_elseif met = refl
  elseifs_met scope around (and_elseif parts test body) met =
      behind scope met _ _ (inside_elseifs around parts) (record { around = around; statement = body } ∷ inside around body) (elseifs_met scope around parts met)
      (itself scope around body _ _ (parts_met scope around body (met_own scope body _)))

  elseif_lists_met : (scope : Scope) (around : List Around) (parts : ElseIfLists Note) (met : Option Fault)
      → met_elseif_lists scope parts met ≡ first_from met (faults_in scope (inside_elseif_lists around parts))
  elseif_lists_met scope around no_elseif_list met = refl
  elseif_lists_met scope around (and_elseif_list parts test body) met =
      behind scope met _ _ (inside_elseif_lists around parts) (inside_list around body) (elseif_lists_met scope around parts met) (list_met scope around body _)

  body_met : (scope : Scope) (around : List Around) (body : Body Note) (met : Option Fault) → met_body scope body met ≡ first_from met (faults_in scope (inside_body around body))
  body_met scope around (single s) met = itself scope around s met _ (parts_met scope around s (met_own scope s met))
  body_met scope around (list_behind_colon body) met = list_met scope around body met

  cases_met : (scope : Scope) (around : List Around) (cases : Cases Note) (met : Option Fault) → met_cases scope cases met ≡ first_from met (faults_in scope (inside_cases around cases))
  cases_met scope around no_case met = refl
  cases_met scope around (and_case cases at label end body) met =
      behind scope met _ _ (inside_cases around cases) (inside_list around body) (cases_met scope around cases met) (list_met scope around body _)

  catches_met : (scope : Scope) (around : List Around) (catches : Catches Note) (met : Option Fault)
      → met_catches scope catches met ≡ first_from met (faults_in scope (inside_catches around catches))
  catches_met scope around no_catch met = refl
  catches_met scope around (and_catch catches classes variable body) met =
      behind scope met _ _ (inside_catches around catches) (inside_list around body) (catches_met scope around catches met) (list_met scope around body _)

pub statement_met : (scope : Scope) (around : List Around) (s : Statement Note) (met : Option Fault) → met_statement scope s met ≡ first_from met (faults_in scope (all_inside around s))
statement_met scope around s met = itself scope around s met _ (parts_met scope around s (met_own scope s met))
