-- Steps of the machine of statements that lead on: where a statement is due, at the end of lists, and behind a statement.
use Rattle.std.proofs.Common.{◌≡◌, ℕ, Bool, true, false, Option, Some, None, List, [], ◌∷◌, ◌++◌, refl, sym, ◌∙◌, ap, arith, ltb-true}
use Rattle.std.specs.Prelude.{nat_lt}
use Rattle.php_token.specs.declared.kind.Punct.TheVariants as mark
use Rattle.php_ast.specs.declared.statement.SwitchForm.{SwitchForm}
use Rattle.php_ast.specs.declared.statement.SwitchForm.TheVariants as switch_form
use Rattle.php_ast.specs.Symbol.{Symbol, punct}
use Rattle.php_ast.specs.statement.Spelling.{spell_statement, spell_statements}
use Rattle.php_ast.specs.statement.Proper.{takes_else, last_takes, last_list, NoListTakes, AreProperCases, AreProperLists, IsProper, AreProper}
use Rattle.php_ast.specs.expression.Proper.{Proper}
use Rattle.php_ast.specs.statement.Tree.{Statement, try_catch}
use Rattle.php_ast.specs.statement.Tree.{Statements, and_statement, ElseIfLists, no_elseif_list, and_elseif_list, Cases, and_case, Catches, no_catch, and_catch}
use Rattle.php_grammar.specs.expression.Machine.{Nothing, Form, State, expects, advance, pick}
use Rattle.php_grammar.specs.Run.{if_some}
use Rattle.php_grammar.specs.statement.Reading.{form_rest}
use Rattle.php_grammar.specs.statement.Forms.{Loop, while_loop, for_loop, foreach_loop, StatementList, of_block, of_if, of_elseif, of_else, of_loop, of_case, of_try, of_catch, of_finally, list_open, if_open, elseif_open, else_open, loop_open, do_open, OpenStatement, Around, ExpressionPlace, as_line, in_expression, completed_statement}
use Rattle.php_grammar.specs.statement.Role.{StatementBeginning, at_block, at_blank, at_inline, at_echo, at_globals, at_statics, at_unset, at_constants, at_jump, at_throw, at_if, at_while, at_do, at_for, at_foreach, at_switch, at_try, at_declare, at_expression, statement_beginning, Behind, by_else, by_elseif, by_while, by_case, by_default, by_brace, by_endif, by_endwhile, by_endfor, by_endforeach, by_endswitch, by_catch, by_finally, behind, body_strength}
use Rattle.php_grammar.specs.statement.Machine.{least_strength, ReachedStatement, released_bodies, entered, begun, begin, case_step, lists_step, loop_end, list_end, list_step, form_step, past_statement, block_step}
use Rattle.php_grammar.proofs.expression.SoundSteps.{LeadsOn}
use Rattle.php_grammar.proofs.expression.Soundness.{every_step_leads}
use Rattle.php_grammar_laws.proofs.Appends.{nothing}
use Rattle.php_grammar_laws.proofs.Wholes.{IsInner}
use Rattle.php_grammar_laws.proofs.Begins.{Front, Same, with_one, next, Leads, either_leads}
use Rattle.php_grammar_laws.proofs.Says.{StatementSays, statement_says, BehindSays, behind_says}
use Rattle.php_grammar_laws.proofs.statement.Sound.{loop_front, try_front, switch_front, elseif_list_front, list_front, open_front, around_front, place_front, SoundLoop, SoundTry, SoundList, SoundOpen, SoundAround, SoundPlace, Reached}

-- ---- an expression begins

pub nothing_read : IsInner (expects [])
nothing_read = record { sound = tt; appends = nothing }

entered_by : (place : ExpressionPlace) (o : Around) (t : Symbol) (f : Front) (x : Option State) → SoundAround o → SoundPlace place → Same (λ w. around_front o (place_front place w)) f
    → LeadsOn (expects []) t x → Leads Reached (with_one f t) (if_some x (λ m. Some (in_expression place m o)))
entered_by place o t f None a p same leads = tt
entered_by place o t f (Some m) a p same leads = (
  (a, p, record { sound = leads.0; appends = record { at = λ v w. sym (leads.1 (v ++ w)) ∙ ap (λ u. u ++ w) (leads.1 v) } }),
  λ w. ap (λ u. around_front o (place_front place u)) (sym (leads.1 w)) ∙ same (t ∷ w),
)

pub entered_leads : (place : ExpressionPlace) (o : Around) (t : Symbol) (f : Front) → SoundAround o → SoundPlace place → Same (λ w. around_front o (place_front place w)) f
    → Leads Reached (with_one f t) (entered place o t)
entered_leads place o t f a p same = entered_by place o t f (advance (expects []) t) a p same (every_step_leads (expects []) t tt)

-- ---- a statement begins

begun_leads : (x : StatementBeginning) (o : Around) (t : Symbol) (f : Front) → StatementSays x t → SoundAround o → Same (around_front o) f → Leads Reached (with_one f t) (begun x o t)
begun_leads at_block o t f is a same = ((a, tt, tt, refl), λ w. next (around_front o) f t _ is same w)
begun_leads at_blank o t f is a same = ((a, tt, refl), λ w. next (around_front o) f t _ is same w)
begun_leads (at_inline text) o t f is a same = ((a, tt, refl), λ w. next (around_front o) f t _ is same w)
begun_leads at_echo o t f is a same = ((a, (tt, (tt, tt)), nothing_read), λ w. next (around_front o) f t _ is same w)
begun_leads at_globals o t f is a same = ((a, tt), λ w. next (around_front o) f t _ is same w)
begun_leads at_statics o t f is a same = (a, λ w. next (around_front o) f t _ is same w)
begun_leads at_unset o t f is a same = ((a, (tt, (tt, tt)), nothing_read), λ w. next (around_front o) f t _ is same (punct mark.LeftParen ∷ w))
begun_leads at_constants o t f is a same = ((a, tt), λ w. next (around_front o) f t _ is same w)
begun_leads (at_jump kind) o t f is a same = (a, λ w. next (around_front o) f t _ is same w)
begun_leads at_throw o t f is a same = ((a, tt, nothing_read), λ w. next (around_front o) f t _ is same w)
begun_leads at_if o t f is a same = ((a, tt, nothing_read), λ w. next (around_front o) f t _ is same (punct mark.LeftParen ∷ w))
begun_leads at_while o t f is a same = ((a, tt, nothing_read), λ w. next (around_front o) f t _ is same (punct mark.LeftParen ∷ w))
begun_leads at_do o t f is a same = ((tt, a), λ w. next (around_front o) f t _ is same w)
begun_leads at_for o t f is a same = ((a, tt, tt), λ w. next (around_front o) f t _ is same (punct mark.LeftParen ∷ w))
begun_leads at_foreach o t f is a same = ((a, tt, nothing_read), λ w. next (around_front o) f t _ is same (punct mark.LeftParen ∷ w))
begun_leads at_switch o t f is a same = ((a, tt, nothing_read), λ w. next (around_front o) f t _ is same (punct mark.LeftParen ∷ w))
begun_leads at_try o t f is a same = ((a, tt, tt, refl), λ w. next (around_front o) f t _ is same (punct mark.LeftBrace ∷ w))
begun_leads at_declare o t f is a same = ((a, tt), λ w. next (around_front o) f t _ is same (punct mark.LeftParen ∷ w))
begun_leads at_expression o t f is a same = entered_leads as_line o t f a tt same

pub begin_leads : (o : Around) (t : Symbol) (f : Front) → SoundAround o → Same (around_front o) f → Leads Reached (with_one f t) (begin o t)
begin_leads o t f a same = begun_leads (statement_beginning t) o t f (statement_says t) a same

-- ---- the end of a list

pub case_leads : (x : Behind) (e : Form) (form : SwitchForm) (cases : Cases Nothing) (o : Around) (t : Symbol) (f : Front) → BehindSays x t → SoundAround o → Proper e → AreProperCases cases
    → Same (λ w. around_front o (switch_front e form cases w)) f → Leads Reached (with_one f t) (case_step e form cases o x)
case_leads by_case e form cases o t f is a p q same = ((a, (p, q), nothing_read), λ w. next (λ v. around_front o (switch_front e form cases v)) f t _ is same w)
case_leads by_default e form cases o t f is a p q same = ((a, p, q), λ w. next (λ v. around_front o (switch_front e form cases v)) f t _ is same w)
case_leads by_brace e switch_form.Braces cases o t f is a p q same = ((a, (p, q), refl), λ w. next (λ v. around_front o (switch_front e switch_form.Braces cases v)) f t _ is same w)
case_leads by_brace e switch_form.Colon cases o t f is a p q same = tt
case_leads by_endswitch e switch_form.Colon cases o t f is a p q same =
    ((a, (p, q), refl), λ w. next (λ v. around_front o (switch_front e switch_form.Colon cases v)) f t _ is same (punct mark.Semicolon ∷ w))
case_leads by_endswitch e switch_form.Braces cases o t f is a p q same = tt
case_leads _ e switch_form.Braces cases o t f is a p q same = tt
case_leads _ e switch_form.Colon cases o t f is a p q same = tt

-- lists of an `if`, of which the last one takes no `else` where one stands behind it
pub record SoundLists (x : Behind) (e : Form) (first : Statements Nothing) (lists : ElseIfLists Nothing) : Type 0 where
  pub test : Proper e
  pub body : AreProper first
  pub parts : AreProperLists lists
  pub none_takes : NoListTakes (last_takes first) lists
  pub last : body_strength x ≡ 1 → last_list (last_takes first) lists ≡ false

lists_leads : (x : Behind) (test : Form) (body : Statements Nothing) (parts : ElseIfLists Nothing) (o : Around) (t : Symbol) (f : Front) → BehindSays x t → SoundAround o → SoundLists x test body parts
    → Same (λ w. around_front o (elseif_list_front test body parts w)) f → Leads Reached (with_one f t) (lists_step test body parts o x)
lists_leads by_elseif test body parts o t f is a h same =
    ((a, (h.test, h.body, h.parts, h.none_takes, h.last refl), nothing_read), λ w. next (λ v. around_front o (elseif_list_front test body parts v)) f t _ is same (punct mark.LeftParen ∷ w))
lists_leads by_else test body parts o t f is a h same =
    ((a, (h.test, h.body, h.parts, h.none_takes, h.last refl), tt, refl), λ w. next (λ v. around_front o (elseif_list_front test body parts v)) f t _ is same (punct mark.Colon ∷ w))
lists_leads by_endif test body parts o t f is a h same =
    ((a, (h.test, h.body, h.parts, h.none_takes), refl), λ w. next (λ v. around_front o (elseif_list_front test body parts v)) f t _ is same (punct mark.Semicolon ∷ w))
lists_leads _ test body parts o t f is a h same = tt

loop_end_leads : (x : Behind) (loop : Loop) (ss : Statements Nothing) (o : Around) (t : Symbol) (f : Front) → BehindSays x t → SoundAround o → SoundLoop loop → AreProper ss
    → Same (λ w. around_front o (loop_front loop (punct mark.Colon ∷ spell_statements ss w))) f → Leads Reached (with_one f t) (loop_end loop ss o x)
loop_end_leads by_endwhile (while_loop test) ss o t f is a h p same =
    ((a, (h, p), refl), λ w. next (λ v. around_front o (loop_front (while_loop test) (punct mark.Colon ∷ spell_statements ss v))) f t _ is same (punct mark.Semicolon ∷ w))
loop_end_leads by_endfor (for_loop b c d) ss o t f is a h p same =
    ((a, (h.0, h.1, h.2, p), refl), λ w. next (λ v. around_front o (loop_front (for_loop b c d) (punct mark.Colon ∷ spell_statements ss v))) f t _ is same (punct mark.Semicolon ∷ w))
loop_end_leads by_endforeach (foreach_loop e key value) ss o t f is a h p same =
    ((a, (h.0, h.1, h.2, h.3, p), refl), λ w. next (λ v. around_front o (loop_front (foreach_loop e key value) (punct mark.Colon ∷ spell_statements ss v))) f t _ is same (punct mark.Semicolon ∷ w))
loop_end_leads _ (while_loop test) ss o t f is a h p same = tt
loop_end_leads _ (for_loop b c d) ss o t f is a h p same = tt
loop_end_leads _ (foreach_loop e key value) ss o t f is a h p same = tt

list_end_leads : (list : StatementList) (x : Behind) (ss : Statements Nothing) (o : Around) (t : Symbol) (f : Front) → BehindSays x t → SoundAround o → SoundList list → AreProper ss
    → (body_strength x ≡ 1 → last_takes ss ≡ false) → Same (λ w. around_front o (list_front list (spell_statements ss w))) f → Leads Reached (with_one f t) (list_end list ss o x)
list_end_leads of_block by_brace ss o t f is a h p last same = ((a, p, refl), λ w. next (λ v. around_front o (list_front of_block (spell_statements ss v))) f t _ is same w)
list_end_leads of_block _ ss o t f is a h p last same = tt
list_end_leads (of_if test) x ss o t f is a h p last same =
    lists_leads x test ss no_elseif_list o t f is a (record { test = h; body = p; parts = tt; none_takes = tt; last = last }) same
list_end_leads (of_elseif test body parts e) x ss o t f is a h p last same =
    lists_leads x test body (and_elseif_list parts e ss) o t f is a
    (record { test = h.0.0; body = h.0.1; parts = (h.0.2, h.1, p); none_takes = (h.0.3, h.0.4); last = last }) same
list_end_leads (of_else test body parts) by_endif ss o t f is a h p last same =
    ((a, (h.0, h.1, h.2, h.3, h.4, p), refl), λ w. next (λ v. around_front o (list_front (of_else test body parts) (spell_statements ss v))) f t _ is same (punct mark.Semicolon ∷ w))
list_end_leads (of_else test body parts) _ ss o t f is a h p last same = tt
list_end_leads (of_loop loop) x ss o t f is a h p last same = loop_end_leads x loop ss o t f is a h p same
list_end_leads (of_case e form cases label end) x ss o t f is a h p last same = case_leads x e form (and_case cases tt label end ss) o t f is a h.0 (h.1, h.2, p) same
list_end_leads of_try by_brace ss o t f is a h p last same = ((a, (p, tt)), λ w. next (λ v. around_front o (list_front of_try (spell_statements ss v))) f t _ is same w)
list_end_leads of_try _ ss o t f is a h p last same = tt
list_end_leads (of_catch body catches classes n) by_brace ss o t f is a h p last same =
    ((a, (h.0.0, (h.0.1, h.1, p))), λ w. next (λ v. around_front o (list_front (of_catch body catches classes n) (spell_statements ss v))) f t _ is same w)
list_end_leads (of_catch body catches classes n) _ ss o t f is a h p last same = tt
list_end_leads (of_finally body catches) by_brace ss o t f is a h p last same =
    ((a, (h.0, h.1, p), refl), λ w. next (λ v. around_front o (list_front (of_finally body catches) (spell_statements ss v))) f t _ is same w)
list_end_leads (of_finally body catches) _ ss o t f is a h p last same = tt

pub list_leads : (list : StatementList) (ss : Statements Nothing) (o : Around) (t : Symbol) (f : Front) → SoundAround o → SoundList list → AreProper ss
    → (body_strength (behind t) ≡ 1 → last_takes ss ≡ false) → Same (λ w. around_front o (list_front list (spell_statements ss w))) f → Leads Reached (with_one f t) (list_step list ss o t)
list_leads list ss o t f a h p last same =
    either_leads Reached (with_one f t) (list_end list ss o (behind t)) (begin (list_open list ss ∷ o) t)
    (list_end_leads list (behind t) ss o t f (behind_says t) a h p last same) (begin_leads (list_open list ss ∷ o) t f ((h, p), a) same)

-- ---- bodies that a symbol ends

pub completed_proper : (f : OpenStatement) (a : Statement Nothing) → SoundOpen f → IsProper a → IsProper (completed_statement f a)
completed_proper (list_open of_block ss) a h p = (h.1, p)
completed_proper (list_open (of_if test) ss) a h p = (h.0, (h.1, p), tt, tt)
completed_proper (list_open (of_elseif test body parts last) ss) a h p = (h.0.0.0, h.0.0.1, (h.0.0.2, h.0.1, (h.1, p)), (h.0.0.3, h.0.0.4))
completed_proper (list_open (of_else test body parts) ss) a h p = (h.0.0, h.0.1, h.0.2, h.0.3, h.0.4, (h.1, p))
completed_proper (list_open (of_loop (while_loop test)) ss) a h p = (h.0, (h.1, p))
completed_proper (list_open (of_loop (for_loop b c d)) ss) a h p = (h.0.0, h.0.1, h.0.2, (h.1, p))
completed_proper (list_open (of_loop (foreach_loop e key value)) ss) a h p = (h.0.0, h.0.1, h.0.2, h.0.3, (h.1, p))
completed_proper (list_open (of_case e form cases label end) ss) a h p = (h.0.0, (h.0.1, h.0.2, (h.1, p)))
completed_proper (list_open of_try ss) a h p = ((h.1, p), tt, tt)
completed_proper (list_open (of_catch body catches classes n) ss) a h p = (h.0.0.0, refl, (h.0.0.1, h.0.1, (h.1, p)))
completed_proper (list_open (of_finally body catches) ss) a h p = (h.0.0, h.0.1, (h.1, p))
completed_proper (if_open test) a h p = (h, p, tt, tt)
completed_proper (elseif_open test body parts last) a h p = (h.0.0, h.0.1, (h.0.2, h.1, p), (h.0.3, h.0.4))
completed_proper (else_open test body parts) a h p = (h.0, h.1, h.2, h.3, h.4, p)
completed_proper (loop_open (while_loop test)) a h p = (h, p)
completed_proper (loop_open (for_loop b c d)) a h p = (h.0, h.1, h.2, p)
completed_proper (loop_open (foreach_loop e key value)) a h p = (h.0, h.1, h.2, h.3, p)
completed_proper do_open a h p = (p, tt)

pub completed_spells : (f : OpenStatement) (a : Statement Nothing) (w : List Symbol) → spell_statement (completed_statement f a) w ≡ open_front f (spell_statement a (form_rest f w))
completed_spells (list_open of_block ss) a w = refl
completed_spells (list_open (of_if test) ss) a w = refl
completed_spells (list_open (of_elseif test body parts last) ss) a w = refl
completed_spells (list_open (of_else test body parts) ss) a w = refl
completed_spells (list_open (of_loop (while_loop test)) ss) a w = refl
completed_spells (list_open (of_loop (for_loop b c d)) ss) a w = refl
completed_spells (list_open (of_loop (foreach_loop e key value)) ss) a w = refl
completed_spells (list_open (of_case e form cases label end) ss) a w = refl
completed_spells (list_open of_try ss) a w = refl
completed_spells (list_open (of_catch body catches classes n) ss) a w = refl
completed_spells (list_open (of_finally body catches) ss) a w = refl
completed_spells (if_open test) a w = refl
completed_spells (elseif_open test body parts last) a w = refl
completed_spells (else_open test body parts) a w = refl
completed_spells (loop_open (while_loop test)) a w = refl
completed_spells (loop_open (for_loop b c d)) a w = refl
completed_spells (loop_open (foreach_loop e key value)) a w = refl
completed_spells do_open a w = refl

-- a body that a symbol ends needs nothing more
rests_none : (n : ℕ) (f : OpenStatement) (w : List Symbol) → nat_lt n (least_strength f) ≡ true → form_rest f w ≡ w
rests_none n (list_open list ss) w h = absurd (omega (arith, ltb-true n 0 h))
rests_none n do_open w h = absurd (omega (arith, ltb-true n 0 h))
rests_none n (if_open test) w h = refl
rests_none n (elseif_open test body parts last) w h = refl
rests_none n (else_open test body parts) w h = refl
rests_none n (loop_open loop) w h = refl

-- what an `else` ends takes none
takes_none : (f : OpenStatement) (a : Statement Nothing) → nat_lt 1 (least_strength f) ≡ true → takes_else a ≡ false → takes_else (completed_statement f a) ≡ false
takes_none (list_open list ss) a h no_else = cc
takes_none do_open a h no_else = cc
takes_none (if_open test) a h no_else = cc
takes_none (elseif_open test body parts last) a h no_else = cc
takes_none (else_open test body parts) a h no_else = no_else
takes_none (loop_open (while_loop test)) a h no_else = no_else
takes_none (loop_open (for_loop b c d)) a h no_else = no_else
takes_none (loop_open (foreach_loop e key value)) a h no_else = no_else

record Releases (n : ℕ) (o : Around) (a : Statement Nothing) (r : ReachedStatement) : Type 0 where
  around : SoundAround r.around
  proper : IsProper r.tree
  same : (w : List Symbol) → around_front r.around (spell_statement r.tree w) ≡ around_front o (spell_statement a w)
  takes : n ≡ 1 → takes_else a ≡ false → takes_else r.tree ≡ false

taken_by : (n : ℕ) (f : OpenStatement) (a : Statement Nothing) → nat_lt n (least_strength f) ≡ true → n ≡ 1 → takes_else a ≡ false → takes_else (completed_statement f a) ≡ false
taken_by n f a h one no_else = takes_none f a (ap (λ k. nat_lt k (least_strength f)) (sym one) ∙ h) no_else

releases_by : (b : Bool) (n : ℕ) (f : OpenStatement) (o : Around) (a : Statement Nothing) → nat_lt n (least_strength f) ≡ b → SoundAround (f ∷ o) → IsProper a
    → ((c : Statement Nothing) → IsProper c → Releases n o c (released_bodies n o c))
    → Releases n (f ∷ o) a (pick b (released_bodies n o (completed_statement f a)) (record { tree = a; around = f ∷ o }))
releases_by true n f o a is h p below =
    let r : Releases n o (completed_statement f a) (released_bodies n o (completed_statement f a)) = below (completed_statement f a) (completed_proper f a h.0 p) in
    record {
      around = r.around;
      proper = r.proper;
      same = λ w. r.same w ∙ ap (around_front o) (completed_spells f a w ∙ ap (λ u. open_front f (spell_statement a u)) (rests_none n f w is));
      takes = λ one no_else. r.takes one (taken_by n f a is one no_else);
    }
releases_by false n f o a is h p below = record { around = h; proper = p; same = λ w. refl; takes = λ one no_else. no_else }

releases : (n : ℕ) (o : Around) (a : Statement Nothing) → SoundAround o → IsProper a → Releases n o a (released_bodies n o a)
releases n [] a h p = record { around = h; proper = p; same = λ w. refl; takes = λ one no_else. no_else }
releases n (f ∷ o) a h p = releases_by (nat_lt n (least_strength f)) n f o a refl h p (λ c q. releases n o c h.1 q)

-- ---- behind a statement

form_leads : (x : Behind) (o : Around) (a : Statement Nothing) (t : Symbol) (f : Front) → BehindSays x t → x ≡ behind t → SoundAround o → IsProper a → (body_strength x ≡ 1 → takes_else a ≡ false)
    → Same (λ w. around_front o (spell_statement a w)) f → Leads Reached (with_one f t) (form_step a o t x)
form_leads x (list_open list ss ∷ o) a t f is seen h p last same = list_leads list (and_statement ss a) o t f h.1 h.0.0 (h.0.1, p) (λ s. last (ap body_strength seen ∙ s)) same
form_leads by_else (if_open test ∷ o) a t f is seen h p last same =
    (((h.0, p, tt, tt, last refl), h.1), λ w. next (λ v. around_front (if_open test ∷ o) (spell_statement a v)) f t _ is same w)
form_leads by_elseif (if_open test ∷ o) a t f is seen h p last same =
    ((h.1, (h.0, p, tt, tt, last refl), nothing_read), λ w. next (λ v. around_front (if_open test ∷ o) (spell_statement a v)) f t _ is same (punct mark.LeftParen ∷ w))
form_leads by_else (elseif_open test body parts e ∷ o) a t f is seen h p last same =
    (((h.0.0.0, h.0.0.1, (h.0.0.2, h.0.1, p), (h.0.0.3, h.0.0.4), last refl), h.1), λ w. next (λ v. around_front (elseif_open test body parts e ∷ o) (spell_statement a v)) f t _ is same w)
form_leads by_elseif (elseif_open test body parts e ∷ o) a t f is seen h p last same = (
  (h.1, (h.0.0.0, h.0.0.1, (h.0.0.2, h.0.1, p), (h.0.0.3, h.0.0.4), last refl), nothing_read),
  λ w. next (λ v. around_front (elseif_open test body parts e ∷ o) (spell_statement a v)) f t _ is same (punct mark.LeftParen ∷ w),
)
form_leads by_while (do_open ∷ o) a t f is seen h p last same =
    ((h.1, p, nothing_read), λ w. next (λ v. around_front (do_open ∷ o) (spell_statement a v)) f t _ is same (punct mark.LeftParen ∷ w))
form_leads _ [] a t f is seen h p last same = tt
form_leads _ (if_open test ∷ o) a t f is seen h p last same = tt
form_leads _ (elseif_open test body parts e ∷ o) a t f is seen h p last same = tt
form_leads _ (else_open test body parts ∷ o) a t f is seen h p last same = tt
form_leads _ (loop_open loop ∷ o) a t f is seen h p last same = tt
form_leads _ (do_open ∷ o) a t f is seen h p last same = tt

pub past_leads : (a : Statement Nothing) (o : Around) (t : Symbol) (f : Front) → SoundAround o → IsProper a → takes_else a ≡ false → Same (λ w. around_front o (spell_statement a w)) f
    → Leads Reached (with_one f t) (past_statement a o t)
past_leads a o t f h p no_else same =
    let n : ℕ = body_strength (behind t) in
    let r : Releases n o a (released_bodies n o a) = releases n o a h p in
    form_leads (behind t) (released_bodies n o a).around (released_bodies n o a).tree t f (behind_says t) refl r.around r.proper (λ one. r.takes one no_else) (λ w. r.same w ∙ same w)

pub block_leads : (x : Behind) (body : Statements Nothing) (catches : Catches Nothing) (o : Around) (t : Symbol) (f : Front) → BehindSays x t → SoundAround o → SoundTry body catches
    → Same (λ w. around_front o (try_front body catches w)) f → Leads Reached (with_one f t) (block_step body catches o t x)
block_leads by_catch body catches o t f is a h same = ((a, h), λ w. next (λ v. around_front o (try_front body catches v)) f t _ is same (punct mark.LeftParen ∷ w))
block_leads by_finally body catches o t f is a h same = ((a, h, tt, refl), λ w. next (λ v. around_front o (try_front body catches v)) f t _ is same (punct mark.LeftBrace ∷ w))
block_leads _ body no_catch o t f is a h same = tt
block_leads _ body (and_catch catches classes n ss) o t f is a h same =
    past_leads (try_catch tt body (and_catch catches classes n ss)) o t f a (h.0, refl, h.1) refl same
