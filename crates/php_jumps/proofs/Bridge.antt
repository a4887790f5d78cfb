-- What the walk meets, form by form, is the first of the faults of all statements.
use Rattle.std.proofs.Common.{◌≡◌, ℕ, Bool, true, false, Option, Some, None, List, [], ◌∷◌, ◌++◌, map, flat_map, refl, sym, ◌∙◌, ap}
use Rattle.php_ast.specs.expression.Tree.{Tree}
use Rattle.php_ast.specs.expression.View.{Note}
use Rattle.php_ast.specs.statement.Tree.{Statement, block, blank, inline, expression, echo, globals, statics, unset, constants, jump, throw, if_only, if_else, if_lists, if_else_lists, while, do_while, for, foreach, switch, try_catch, try_finally, declares, returning, breaking, continuing}
use Rattle.php_ast.specs.statement.Tree.{Statements, no_statement, and_statement, ElseIfs, no_elseif, and_elseif, ElseIfLists, no_elseif_list, and_elseif_list, Body, single, list_behind_colon, Cases, no_case, and_case, Catches, no_catch, and_catch}
use Rattle.php_legality.specs.declared.kind.Kind.TheVariants as kind
use Rattle.php_legality.specs.declared.fault.Fault.{Fault}
use Rattle.php_legality.specs.Lists.{where_true}
use Rattle.php_legality.specs.First.{fault_at, first_from}
use Rattle.php_legality.specs.Statements.{Around, loop_or_switch, finally_block, Inside, inside, inside_list, inside_elseifs, inside_elseif_lists, inside_body, inside_cases, inside_catches, all_inside}
use Rattle.php_legality.specs.Rows.{level, at_break, is_bad_level, leaves_finally, loops_in_finally}
use Rattle.php_legality.proofs.FirstLemmas.{first_from_joined}
use Rattle.php_legality.proofs.HasLemmas.{flat_map_joined}
use Rattle.php_jumps.specs.Met.{jump_faults, met_jump, met_statement, met_list, met_elseifs, met_elseif_lists, met_body, met_cases, met_catches}

-- the faults of the two kinds at a statement
abbrev pub bad_levels : Inside Note → List Fault
bad_levels x = map (fault_at kind.BadBreak) (at_break (λ n. is_bad_level n x.around) x.statement)

abbrev pub ways_out : Inside Note → List Fault
ways_out x = map (fault_at kind.JumpFromFinally) (at_break (λ n. leaves_finally n (loops_in_finally x.around)) x.statement)

abbrev pub both : Inside Note → List Fault
both x = bad_levels x ++ ways_out x

abbrev pub faults_in : List (Inside Note) → List Fault
faults_in xs = flat_map both xs

mapped : (t : Bool) (f : Note → Fault) (at : Note) → where_true t (f at) ≡ map f (where_true t at)
mapped true f at = refl
mapped false f at = refl

-- ---- joints

-- one part behind another one
pub behind : (met one two : Option Fault) (xs ys : List (Inside Note)) → one ≡ first_from met (faults_in xs) → two ≡ first_from one (faults_in ys) → two ≡ first_from met (faults_in (xs ++ ys))
behind met one two xs ys first second =
    second ∙ ap (λ m. first_from m (faults_in ys)) first ∙ sym (first_from_joined met (faults_in xs) (faults_in ys)) ∙ ap (first_from met) (sym (flat_map_joined both xs ys))

-- a statement without a jump, in front of what is inside it
pub alone : (around : List Around) (s : Statement Note) (met r : Option Fault) → both (record { around = around; statement = s }) ≡ []
    → r ≡ first_from met (faults_in (inside around s)) → r ≡ first_from met (faults_in (all_inside around s))
alone around s met r none is = is ∙ ap (λ fs. first_from met (fs ++ faults_in (inside around s))) (sym none)

jumped : (around : List Around) (at : Note) (e : Option (Tree Note)) (met : Option Fault)
    → met_jump around at e met ≡ first_from met ((map (fault_at kind.BadBreak) (where_true (is_bad_level (level e) around) at) ++ map (fault_at kind.JumpFromFinally) (where_true (leaves_finally (level e) (loops_in_finally around)) at)) ++ [])
unfolding met_jump
jumped around at e met =
    ap (λ xs. first_from met (xs ++ where_true (leaves_finally (level e) (loops_in_finally around)) (fault_at kind.JumpFromFinally at))) (mapped (is_bad_level (level e) around) (fault_at kind.BadBreak) at)
    ∙ ap (λ ys. first_from met (map (fault_at kind.BadBreak) (where_true (is_bad_level (level e) around) at) ++ ys)) (mapped (leaves_finally (level e) (loops_in_finally around)) (fault_at kind.JumpFromFinally) at)
    ∙ ap (first_from met) (sym (nothing_behind (map (fault_at kind.BadBreak) (where_true (is_bad_level (level e) around) at) ++ map (fault_at kind.JumpFromFinally) (where_true (leaves_finally (level e) (loops_in_finally around)) at))))
  where
    nothing_behind : {A : Type 0} (xs : List A) → xs ++ [] ≡ xs
    nothing_behind [] = refl
    nothing_behind (x ∷ xs) = ap (λ ys. x ∷ ys) (nothing_behind xs)

-- ---- form by form

mutual
  pub statement_met : (around : List Around) (s : Statement Note) (met : Option Fault) → met_statement around s met ≡ first_from met (faults_in (all_inside around s))
  statement_met around (block at body) met = alone around (block at body) met _ refl (list_met around body met)
  statement_met around (blank at) met = refl
  statement_met around (inline at text) met = refl
  statement_met around (expression at e) met = refl
  statement_met around (echo at es) met = refl
  statement_met around (globals at names) met = refl
  statement_met around (statics at variables) met = refl
  statement_met around (unset at es) met = refl
  statement_met around (constants at items) met = refl
  statement_met around (jump at returning e) met = refl
  statement_met around (jump at breaking e) met = jumped around at e met
  statement_met around (jump at continuing e) met = jumped around at e met
  statement_met around (throw at e) met = refl
  statement_met around (if_only at test body parts) met =
      alone around (if_only at test body parts) met _ refl
      (behind met _ _ (all_inside around body) (inside_elseifs around parts) (statement_met around body met) (elseifs_met around parts _))
  statement_met around (if_else at test body parts last) met =
      alone around (if_else at test body parts last) met _ refl
      (behind met _ _ (all_inside around body ++ inside_elseifs around parts) (all_inside around last)
      (behind met _ _ (all_inside around body) (inside_elseifs around parts) (statement_met around body met) (elseifs_met around parts _)) (statement_met around last _))
  statement_met around (if_lists at test body parts) met =
      alone around (if_lists at test body parts) met _ refl
      (behind met _ _ (inside_list around body) (inside_elseif_lists around parts) (list_met around body met) (elseif_lists_met around parts _))
  statement_met around (if_else_lists at test body parts last) met =
      alone around (if_else_lists at test body parts last) met _ refl
      (behind met _ _ (inside_list around body ++ inside_elseif_lists around parts) (inside_list around last)
      (behind met _ _ (inside_list around body) (inside_elseif_lists around parts) (list_met around body met) (elseif_lists_met around parts _)) (list_met around last _))
  statement_met around (while at test body) met = alone around (while at test body) met _ refl (body_met (loop_or_switch ∷ around) body met)
  statement_met around (do_while at body test) met = alone around (do_while at body test) met _ refl (statement_met (loop_or_switch ∷ around) body met)
  statement_met around (for at starts tests steps body) met = alone around (for at starts tests steps body) met _ refl (body_met (loop_or_switch ∷ around) body met)
  statement_met around (foreach at walked key value body) met = alone around (foreach at walked key value body) met _ refl (body_met (loop_or_switch ∷ around) body met)
  statement_met around (switch at e form cases) met = alone around (switch at e form cases) met _ refl (cases_met (loop_or_switch ∷ around) cases met)
  statement_met around (try_catch at body catches) met =
      alone around (try_catch at body catches) met _ refl
      (behind met _ _ (inside_list around body) (inside_catches around catches) (list_met around body met) (catches_met around catches _))
  statement_met around (try_finally at body catches last) met =
      alone around (try_finally at body catches last) met _ refl
      (behind met _ _ (inside_list around body ++ inside_catches around catches) (inside_list (finally_block ∷ around) last)
      (behind met _ _ (inside_list around body) (inside_catches around catches) (list_met around body met) (catches_met around catches _)) (list_met (finally_block ∷ around) last _))
  statement_met around (declares at name n) met = refl

  pub list_met : (around : List Around) (body : Statements Note) (met : Option Fault) → met_list around body met ≡ first_from met (faults_in (inside_list around body))
  list_met around no_statement met = refl
  list_met around (and_statement body s) met = behind met _ _ (inside_list around body) (all_inside around s) (list_met around body met) (statement_met around s _)

  elseifs_met : (around : List Around) (parts : ElseIfs Note) (met : Option Fault) → met_elseifs around parts met ≡ first_from met (faults_in (inside_elseifs around parts))
  elseifs_met around no_elseif met = refl
  elseifs_met around (and_elseif parts test body) met = behind met _ _ (inside_elseifs around parts) (all_inside around body) (elseifs_met around parts met) (statement_met around body _)

  elseif_lists_met : (around : List Around) (parts : ElseIfLists Note) (met : Option Fault) → met_elseif_lists around parts met ≡ first_from met (faults_in (inside_elseif_lists around parts))
  elseif_lists_met around no_elseif_list met = refl
  elseif_lists_met around (and_elseif_list parts test body) met = behind met _ _ (inside_elseif_lists around parts) (inside_list around body) (elseif_lists_met around parts met) (list_met around body _)

  body_met : (around : List Around) (body : Body Note) (met : Option Fault) → met_body around body met ≡ first_from met (faults_in (inside_body around body))
  body_met around (single s) met = statement_met around s met
  body_met around (list_behind_colon body) met = list_met around body met

  cases_met : (around : List Around) (cases : Cases Note) (met : Option Fault) → met_cases around cases met ≡ first_from met (faults_in (inside_cases around cases))
  cases_met around no_case met = refl
  cases_met around (and_case cases at label end body) met = behind met _ _ (inside_cases around cases) (inside_list around body) (cases_met around cases met) (list_met around body _)

  catches_met : (around : List Around) (catches : Catches Note) (met : Option Fault) → met_catches around catches met ≡ first_from met (faults_in (inside_catches around catches))
  catches_met around no_catch met = refl
  catches_met around (and_catch catches classes variable body) met =
      behind met _ _ (inside_catches around catches) (inside_list around body) (catches_met around catches met) (list_met around body _)
