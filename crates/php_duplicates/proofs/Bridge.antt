-- What the walk over statements meets, form by form, is the first of the duplicates of all statements.
use Rattle.std.proofs.Common.{◌≡◌, Option, Some, None, List, [], ◌∷◌, ◌++◌, map, flat_map, drop, refl, sym, ◌∙◌, ap}
use Rattle.php_ast.specs.declared.statement.SwitchForm.{SwitchForm}
use Rattle.php_ast.specs.expression.Tree.{Tree}
use Rattle.php_ast.specs.expression.View.{Note}
use Rattle.php_ast.specs.statement.Tree.{Statement, block, blank, inline, expression, echo, globals, statics, unset, constants, jump, throw, if_only, if_else, if_lists, if_else_lists, while, do_while, for, foreach, switch, try_catch, try_finally, declares}
use Rattle.php_ast.specs.statement.Tree.{Statements, no_statement, and_statement, ElseIfs, no_elseif, and_elseif, ElseIfLists, no_elseif_list, and_elseif_list, Body, single, list_behind_colon, Cases, no_case, and_case, Catches, no_catch, and_catch}
use Rattle.php_legality.specs.declared.fault.Fault.{Fault}
use Rattle.php_legality.specs.First.{first_from}
use Rattle.php_legality.specs.Statements.{Around, loop_or_switch, finally_block, Inside, inside, inside_list, inside_elseifs, inside_elseif_lists, inside_body, inside_cases, inside_catches, all_inside}
use Rattle.php_legality.specs.Rows.{defaults_in, later_defaults}
use Rattle.php_legality.proofs.FirstLemmas.{first_from_joined}
use Rattle.php_legality.proofs.HasLemmas.{flat_map_joined}
use Rattle.php_duplicates.specs.Saw.{duplicate_at}
use Rattle.php_duplicates.specs.Met.{met_labels, met_statement, met_list, met_elseifs, met_elseif_lists, met_body, met_cases, met_catches}

-- the duplicates at a statement
abbrev pub labels_of : Inside Note → List Fault
labels_of x = map duplicate_at (later_defaults x.statement)

abbrev pub faults_in : List (Inside Note) → List Fault
faults_in xs = flat_map labels_of xs

-- ---- joints

-- one part behind another one
behind : (met one two : Option Fault) (xs ys : List (Inside Note)) → one ≡ first_from met (faults_in xs) → two ≡ first_from one (faults_in ys) → two ≡ first_from met (faults_in (xs ++ ys))
behind met one two xs ys first second =
    second ∙ ap (λ m. first_from m (faults_in ys)) first ∙ sym (first_from_joined met (faults_in xs) (faults_in ys)) ∙ ap (first_from met) (sym (flat_map_joined labels_of xs ys))

-- a statement without labels, in front of what is inside it
alone : (around : List Around) (s : Statement Note) (met r : Option Fault) → later_defaults s ≡ []
    → r ≡ first_from met (faults_in (inside around s)) → r ≡ first_from met (faults_in (all_inside around s))
alone around s met r none is = is ∙ ap (λ ns. first_from met (map duplicate_at ns ++ faults_in (inside around s))) (sym none)

-- a `switch`: its labels, and then what is inside it
labelled : (around : List Around) (at : Note) (e : Tree Note) (form : SwitchForm) (cases : Cases Note) (met : Option Fault)
    → met_cases cases (met_labels cases met) ≡ first_from (met_labels cases met) (faults_in (inside_cases (loop_or_switch ∷ around) cases))
    → met_cases cases (met_labels cases met) ≡ first_from met (faults_in (all_inside around (switch at e form cases)))
unfolding met_labels
labelled around at e form cases met is =
    is ∙ sym (first_from_joined met (map duplicate_at (drop 1 (defaults_in cases))) (faults_in (inside_cases (loop_or_switch ∷ around) cases)))

-- ---- form by form

mutual
  pub statement_met : (around : List Around) (s : Statement Note) (met : Option Fault) → met_statement s met ≡ first_from met (faults_in (all_inside around s))
  statement_met around (block at body) met = alone around (block at body) met _ refl (list_met around body met)
  statement_met around (blank at) met = refl
  statement_met around (inline at text) met = refl
  statement_met around (expression at e) met = refl
  statement_met around (echo at es) met = refl
  statement_met around (globals at names) met = refl
  statement_met around (statics at variables) met = refl
  statement_met around (unset at es) met = refl
  statement_met around (constants at items) met = refl
  statement_met around (jump at way e) met = refl
  statement_met around (throw at e) met = refl
  statement_met around (if_only at test body parts) met =
      alone around (if_only at test body parts) met _ refl
      (behind met _ _ (all_inside around body) (inside_elseifs around parts) (statement_met around body met) (elseifs_met around parts _))
  statement_met around (if_else at test body parts last) met =
      alone around (if_else at test body parts last) met _ refl
      (behind met _ _ (all_inside around body ++ inside_elseifs around parts) (all_inside around last)
      (behind met _ _ (all_inside around body) (inside_elseifs around parts) (statement_met around body met) (elseifs_met around parts _)) (statement_met around last _))
  statement_met around (if_lists at test body parts) met =
      alone around (if_lists at test body parts) met _ refl
      (behind met _ _ (inside_list around body) (inside_elseif_lists around parts) (list_met around body met) (elseif_lists_met around parts _))
  statement_met around (if_else_lists at test body parts last) met =
      alone around (if_else_lists at test body parts last) met _ refl
      (behind met _ _ (inside_list around body ++ inside_elseif_lists around parts) (inside_list around last)
      (behind met _ _ (inside_list around body) (inside_elseif_lists around parts) (list_met around body met) (elseif_lists_met around parts _)) (list_met around last _))
  statement_met around (while at test body) met = alone around (while at test body) met _ refl (body_met (loop_or_switch ∷ around) body met)
  statement_met around (do_while at body test) met = alone around (do_while at body test) met _ refl (statement_met (loop_or_switch ∷ around) body met)
  statement_met around (for at starts tests steps body) met = alone around (for at starts tests steps body) met _ refl (body_met (loop_or_switch ∷ around) body met)
  statement_met around (foreach at walked key value body) met = alone around (foreach at walked key value body) met _ refl (body_met (loop_or_switch ∷ around) body met)
  statement_met around (switch at e form cases) met =
      labelled around at e form cases met (cases_met (loop_or_switch ∷ around) cases (met_labels cases met))
  statement_met around (try_catch at body catches) met =
      alone around (try_catch at body catches) met _ refl
      (behind met _ _ (inside_list around body) (inside_catches around catches) (list_met around body met) (catches_met around catches _))
  statement_met around (try_finally at body catches last) met =
      alone around (try_finally at body catches last) met _ refl
      (behind met _ _ (inside_list around body ++ inside_catches around catches) (inside_list (finally_block ∷ around) last)
      (behind met _ _ (inside_list around body) (inside_catches around catches) (list_met around body met) (catches_met around catches _)) (list_met (finally_block ∷ around) last _))
  statement_met around (declares at name n) met = refl

  pub list_met : (around : List Around) (body : Statements Note) (met : Option Fault) → met_list body met ≡ first_from met (faults_in (inside_list around body))
  list_met around no_statement met = refl
  list_met around (and_statement body s) met = behind met _ _ (inside_list around body) (all_inside around s) (list_met around body met) (statement_met around s _)

  elseifs_met : (around : List Around) (parts : ElseIfs Note) (met : Option Fault) → met_elseifs parts met ≡ first_from met (faults_in (inside_elseifs around parts))
  elseifs_met around no_elseif met = refl
  elseifs_met around (and_elseif parts test body) met = behind met _ _ (inside_elseifs around parts) (all_inside around body) (elseifs_met around parts met) (statement_met around body _)

  elseif_lists_met : (around : List Around) (parts : ElseIfLists Note) (met : Option Fault) → met_elseif_lists parts met ≡ first_from met (faults_in (inside_elseif_lists around parts))
  elseif_lists_met around no_elseif_list met = refl
  elseif_lists_met around (and_elseif_list parts test body) met = behind met _ _ (inside_elseif_lists around parts) (inside_list around body) (elseif_lists_met around parts met) (list_met around body _)

  body_met : (around : List Around) (body : Body Note) (met : Option Fault) → met_body body met ≡ first_from met (faults_in (inside_body around body))
  body_met around (single s) met = statement_met around s met
  body_met around (list_behind_colon body) met = list_met around body met

  cases_met : (around : List Around) (cases : Cases Note) (met : Option Fault) → met_cases cases met ≡ first_from met (faults_in (inside_cases around cases))
  cases_met around no_case met = refl
  cases_met around (and_case cases at label end body) met = behind met _ _ (inside_cases around cases) (inside_list around body) (cases_met around cases met) (list_met around body _)

  catches_met : (around : List Around) (catches : Catches Note) (met : Option Fault) → met_catches catches met ≡ first_from met (faults_in (inside_catches around catches))
  catches_met around no_catch met = refl
  catches_met around (and_catch catches classes variable body) met =
      behind met _ _ (inside_catches around catches) (inside_list around body) (catches_met around catches met) (list_met around body _)
