-- Tests, loops and the bodies of an `if`.
use Rattle.std.proofs.Common.{◌≡◌, ◌≢◌, ◌≤◌, ℕ, ◌+◌, true, false, Option, Some, None, List, [], ◌∷◌, ◌++◌, map, refl, sym, ◌∙◌, ap, arith}
use Rattle.std.specs.Prelude.{nat_lt}
use Rattle.php_token.specs.Token.{Token}
use Rattle.php_ast.specs.declared.statement.Stmt.{Stmt}
use Rattle.php_ast.specs.declared.statement.ElseIf.{ElseIf}
use Rattle.php_ast.specs.Symbol.{Symbol}
use Rattle.php_ast.specs.expression.Tree.{Tree}
use Rattle.php_ast.specs.expression.View.{Note, view}
use Rattle.php_ast.specs.expression.Placed.{size, noted, notes_of}
use Rattle.php_ast.specs.statement.Tree.{Statement, while, do_while, if_only, if_else, ElseIfs, no_elseif, and_elseif, Body, single, list_behind_colon, Statements, no_statement}
use Rattle.php_ast.specs.statement.View.{elseifs_from, if_view, optional}
use Rattle.php_ast.specs.statement.Placed.{size_body, noted_body, size_statement, noted_statement, size_elseifs, noted_elseifs, size_head}
use Rattle.php_grammar.specs.declared.closer.Closer.TheVariants as ender
use Rattle.php_grammar.specs.expression.Role.{is_colon}
use Rattle.php_grammar.specs.expression.Machine.{Nothing, Form, pick}
use Rattle.php_grammar.specs.statement.Laws.{head_behind}
use Rattle.php_grammar.specs.statement.Role.{Behind, by_else, by_elseif, by_while, by_endwhile, by_endfor, by_endforeach, behind, body_strength, ends_outside, Ending, closer}
use Rattle.php_grammar.specs.statement.Forms.{Loop, while_loop, for_loop, foreach_loop, of_if, of_loop, OpenStatement, list_open, if_open, elseif_open, else_open, loop_open, do_open, Around, Head, do_head, elseif_head, as_test, due_statement, done, due_in_list, past_if, past_loop, looped, completed_statement}
use Rattle.php_grammar.specs.statement.Machine.{begin, filled, headed, listing, list_end, loop_end, before_semicolon, released_bodies, reached_step, least_strength, advance_statement}
use Rattle.php_grammar.specs.statement.Depth.{statement_depth, begin_depth, form_depth, kept_bodies, statement_depth_at}
use Rattle.php_reader.specs.Seen.{test}
use Rattle.php_parse_simple.specs.Answer.{SpansStatement}
use Rattle.php_parse_statement.specs.FormAnswer.{loop_behind, behind_parts, if_form, size_last}
use Rattle.php_parse_simple.specs.Parts.{elseif_parts}
use Rattle.php_grammar_laws.specs.Walks.{short, walk_statement}
use Rattle.php_parse_simple.specs.Walk.{Leads, Halts}
use Rattle.php_parse_simple.proofs.Moves.{sticks, alike, move}

-- ---- the body of a loop

loop_in : (n : ℕ) (loop : Loop) (o : Around) (w : List Symbol) → test is_colon w ≡ false → walk_statement n (past_loop loop o) w ≡ walk_statement n (due_statement (loop_open loop ∷ o)) w
loop_in n loop o [] h = refl
loop_in n loop o (t ∷ w) h =
    alike n (past_loop loop o) (due_statement (loop_open loop ∷ o)) t w (ap (λ b. pick b (Some (listing (of_loop loop) o)) (begin (loop_open loop ∷ o) t)) h)
    (ap (λ b. pick b (statement_depth o) (begin_depth (loop_open loop ∷ o) t)) h) refl

pub loop_enters : {room : ℕ} {w : List Symbol} (loop : Loop) → test is_colon w ≡ false → Leads statement_depth room (λ o. past_loop loop o) w (λ o. due_statement (loop_open loop ∷ o)) w
loop_enters {room} {w} loop h = record { same = λ n o is. loop_in n loop o w h }

-- no symbol leaves the body of a loop, or that of an `else`, open
weak : (x : Behind) → nat_lt (body_strength x) 2 ≡ true
weak by_else = refl
weak by_elseif = refl
weak _ = refl

loop_out : (n : ℕ) (loop : Loop) (a : Statement Nothing) (o : Around) (w : List Symbol) → walk_statement n (done a (loop_open loop ∷ o)) w ≡ walk_statement n (done (looped loop (single a)) o) w
loop_out n loop a o [] = refl
loop_out n loop a o (t ∷ w) =
    alike n (done a (loop_open loop ∷ o)) (done (looped loop (single a)) o) t w
    (ap (λ b. reached_step (pick b (released_bodies (body_strength (behind t)) o (looped loop (single a))) (record { tree = a; around = loop_open loop ∷ o })) t (behind t)) (weak (behind t)))
    (ap (λ b. form_depth (pick b (kept_bodies (body_strength (behind t)) o) (loop_open loop ∷ o)) t) (weak (behind t)))
    refl

pub loop_ends : {room : ℕ} {w : List Symbol} (loop : Loop) (a : Statement Nothing) → Leads statement_depth room (λ o. done a (loop_open loop ∷ o)) w (λ o. done (looped loop (single a)) o) w
loop_ends {room} {w} loop a = record { same = λ n o is. loop_out n loop a o w }

pub loop_colon : {room : ℕ} {x w : List Symbol} (loop : Loop) (t : Symbol) → x ≡ t ∷ w → is_colon t ≡ true → 1 ≤ room → Leads statement_depth room (λ o. past_loop loop o) x (λ o. due_in_list (of_loop loop) no_statement o) w
loop_colon loop t is h roomy =
    move t is (λ o. ap (λ b. pick b (Some (listing (of_loop loop) o)) (begin (loop_open loop ∷ o) t)) h) (λ n o at. omega (arith, ap (λ b. pick b (statement_depth o) (begin_depth (loop_open loop ∷ o) t)) h))

pub loop_word : (loop : Loop) (b : Behind) (ss : Statements Nothing) (o : Around) → loop_behind loop ≡ b → list_end (of_loop loop) ss o b ≡ Some (before_semicolon (looped loop (list_behind_colon ss)) o)
loop_word loop b ss o is = ap (list_end (of_loop loop) ss o) (sym is) ∙ own_word loop ss o
  where
    own_word : (loop : Loop) (ss : Statements Nothing) (o : Around) → loop_end loop ss o (loop_behind loop) ≡ Some (before_semicolon (looped loop (list_behind_colon ss)) o)
    own_word (while_loop e) ss o = refl
    own_word (for_loop a b c) ss o = refl
    own_word (foreach_loop e key value) ss o = refl

pub loop_other : (loop : Loop) (b x : Behind) (ss : Statements Nothing) (o : Around) → loop_behind loop ≡ b → x ≢ b → list_end (of_loop loop) ss o x ≡ None
loop_other loop b x ss o is h = other_word loop x ss o (λ e. h (e ∙ is))
  where
    other_word : (loop : Loop) (x : Behind) (ss : Statements Nothing) (o : Around) → x ≢ loop_behind loop → loop_end loop ss o x ≡ None
    other_word (while_loop e) by_endwhile ss o h = absurd (h refl)
    other_word (while_loop e) _ ss o h = refl
    other_word (for_loop a b c) by_endfor ss o h = absurd (h refl)
    other_word (for_loop a b c) _ ss o h = refl
    other_word (foreach_loop e key value) by_endforeach ss o h = absurd (h refl)
    other_word (foreach_loop e key value) _ ss o h = refl

pub end_outside : (loop : Loop) (b : Behind) → loop_behind loop ≡ b → ends_outside b ≡ true
end_outside loop b is = ap ends_outside (sym is) ∙ own_outside loop
  where
    own_outside : (loop : Loop) → ends_outside (loop_behind loop) ≡ true
    own_outside (while_loop e) = refl
    own_outside (for_loop a b c) = refl
    own_outside (foreach_loop e key value) = refl

pub while_spans : (tokens : List Token) (made : Statement Note) (spot : Note) (e : Tree Note) (shown : Body Note) (form : Form) (body : Body Nothing) (at place next : ℕ) → made ≡ while spot e shown → spot ≡ (notes_of tokens).token at
    → e ≡ noted (notes_of tokens) (at + 1 + 1) form → at + 1 + size form + 2 ≡ place → shown ≡ noted_body (notes_of tokens) place body → place + size_body body ≡ next → SpansStatement tokens made (while tt form body) at next
while_spans tokens made spot e shown form body at place next is noted_is test_is where_is body_is sized = record {
  shown = is ∙ ap (λ n. while n e shown) noted_is
      ∙ ap (λ z. while ((notes_of tokens).token at) z shown) (test_is ∙ ap (λ k. noted (notes_of tokens) k form) (omega arith))
      ∙ ap (while ((notes_of tokens).token at) (noted (notes_of tokens) (at + 2) form)) (body_is ∙ ap (λ k. noted_body (notes_of tokens) k body) (omega arith));
  sized = omega arith;
}

-- ---- `do`

do_step : (x : Behind) (a : Statement Nothing) (o : Around) (t : Symbol) → x ≢ by_while → reached_step (released_bodies (body_strength x) (do_open ∷ o) a) t x ≡ None
do_step by_while a o t h = absurd (h refl)
do_step by_else a o t h = refl
do_step by_elseif a o t h = refl
do_step _ a o t h = refl

do_lacks : (n : ℕ) (a : Statement Nothing) (o : Around) (w : List Symbol) → head_behind w ≢ by_while → walk_statement n (done a (do_open ∷ o)) w ≡ short w
do_lacks n a o [] h = refl
do_lacks n a o (t ∷ w) h = sticks n (done a (do_open ∷ o)) t w (do_step (behind t) a o t h)

pub do_halts : {room : ℕ} {w : List Symbol} (a : Statement Nothing) → head_behind w ≢ by_while → Halts false statement_depth room (λ o. done a (do_open ∷ o)) w w
do_halts {room} {w} a h = record { same = λ n o is. do_lacks n a o w h }

pub do_on : {room : ℕ} {x w : List Symbol} (a : Statement Nothing) (t : Symbol) → x ≡ t ∷ w → behind t ≡ by_while → 1 ≤ room → Leads statement_depth room (λ o. done a (do_open ∷ o)) x (λ o. headed (do_head a) o) w
do_on a t is h roomy =
    move t is (λ o. ap (λ x. reached_step (released_bodies (body_strength x) (do_open ∷ o) a) t x) h) (λ n o at. omega (arith, ap (λ x. form_depth (kept_bodies (body_strength x) (do_open ∷ o)) t) h))

pub do_spans : (tokens : List Token) (made : Statement Note) (spot : Note) (shown : Statement Note) (e : Tree Note) (a : Statement Nothing) (form : Form) (at place next : ℕ) → made ≡ do_while spot shown e → spot ≡ (notes_of tokens).token at
    → shown ≡ noted_statement (notes_of tokens) (at + 1) a → at + 1 + size_statement a ≡ place → e ≡ noted (notes_of tokens) (place + 1 + 1) form → place + 1 + size form + 2 ≡ next → SpansStatement tokens made (do_while tt a form) at (next + 1)
do_spans tokens made spot shown e a form at place next is noted_is body_is where_is test_is sized = record {
  shown = is ∙ ap (λ n. do_while n shown e) noted_is ∙ ap (λ z. do_while ((notes_of tokens).token at) z e) body_is
      ∙ ap (do_while ((notes_of tokens).token at) (noted_statement (notes_of tokens) (at + 1) a)) (test_is ∙ ap (λ k. noted (notes_of tokens) k form) (omega arith));
  sized = omega arith;
}

-- ---- the bodies of an `if`

parts_over : (x : Behind) → x ≢ by_else → x ≢ by_elseif → body_strength x ≡ 0
parts_over by_else a b = absurd (a refl)
parts_over by_elseif a b = absurd (b refl)
parts_over _ a b = refl

only_out : (n : ℕ) (f : OpenStatement) (a : Statement Nothing) (o : Around) (t : Symbol) (w : List Symbol) → least_strength f ≡ 1 → body_strength (behind t) ≡ 0
    → walk_statement n (done a (f ∷ o)) (t ∷ w) ≡ walk_statement n (done (completed_statement f a) o) (t ∷ w)
only_out n (if_open e) a o t w weak_is none =
    alike n (done a (if_open e ∷ o)) (done (completed_statement (if_open e) a) o) t w
    (ap (λ s. reached_step (pick (nat_lt s 1) (released_bodies (body_strength (behind t)) o (completed_statement (if_open e) a)) (record { tree = a; around = if_open e ∷ o })) t (behind t)) none)
    (ap (λ s. form_depth (pick (nat_lt s 1) (kept_bodies (body_strength (behind t)) o) (if_open e ∷ o)) t) none)
    refl
only_out n (elseif_open e b parts last) a o t w weak_is none =
    alike n (done a (elseif_open e b parts last ∷ o)) (done (completed_statement (elseif_open e b parts last) a) o) t w
    (ap (λ s. reached_step (pick (nat_lt s 1) (released_bodies (body_strength (behind t)) o (completed_statement (elseif_open e b parts last) a)) (record { tree = a; around = elseif_open e b parts last ∷ o })) t (behind t)) none)
    (ap (λ s. form_depth (pick (nat_lt s 1) (kept_bodies (body_strength (behind t)) o) (elseif_open e b parts last ∷ o)) t) none)
    refl
only_out n (else_open e b parts) a o t w weak_is none = absurd (omega arith)
only_out n (loop_open loop) a o t w weak_is none = absurd (omega arith)
only_out n (list_open list ss) a o t w weak_is none = absurd (omega arith)
only_out n do_open a o t w weak_is none = absurd (omega arith)

parts_out : (n : ℕ) (e : Form) (body : Statement Nothing) (parts : ElseIfs Nothing) (o : Around) (w : List Symbol) → head_behind w ≢ by_else → head_behind w ≢ by_elseif
    → walk_statement n (behind_parts e body parts o) w ≡ walk_statement n (done (if_only tt e body parts) o) w
parts_out n e body no_elseif o [] p q = refl
parts_out n e body (and_elseif parts last a) o [] p q = refl
parts_out n e body no_elseif o (t ∷ w) p q = only_out n (if_open e) body o t w refl (parts_over (behind t) p q)
parts_out n e body (and_elseif parts last a) o (t ∷ w) p q = only_out n (elseif_open e body parts last) a o t w refl (parts_over (behind t) p q)

pub parts_end : {room : ℕ} {w : List Symbol} (e : Form) (body : Statement Nothing) (parts : ElseIfs Nothing) → head_behind w ≢ by_else → head_behind w ≢ by_elseif
    → Leads statement_depth room (λ o. behind_parts e body parts o) w (λ o. done (if_only tt e body parts) o) w
parts_end {room} {w} e body parts p q = record { same = λ n o is. parts_out n e body parts o w p q }

else_step : (e : Form) (body : Statement Nothing) (parts : ElseIfs Nothing) (o : Around) (t : Symbol) → behind t ≡ by_else → advance_statement (behind_parts e body parts o) t ≡ Some (due_statement (else_open e body parts ∷ o))
else_step e body no_elseif o t h = ap (λ x. reached_step (released_bodies (body_strength x) (if_open e ∷ o) body) t x) h
else_step e body (and_elseif parts last a) o t h = ap (λ x. reached_step (released_bodies (body_strength x) (elseif_open e body parts last ∷ o) a) t x) h

elseif_step : (e : Form) (body : Statement Nothing) (parts : ElseIfs Nothing) (o : Around) (t : Symbol) → behind t ≡ by_elseif → advance_statement (behind_parts e body parts o) t ≡ Some (headed (elseif_head e body parts) o)
elseif_step e body no_elseif o t h = ap (λ x. reached_step (released_bodies (body_strength x) (if_open e ∷ o) body) t x) h
elseif_step e body (and_elseif parts last a) o t h = ap (λ x. reached_step (released_bodies (body_strength x) (elseif_open e body parts last ∷ o) a) t x) h

parts_deep : (e : Form) (body : Statement Nothing) (parts : ElseIfs Nothing) (o : Around) (t : Symbol) → body_strength (behind t) ≡ 1 → statement_depth_at (behind_parts e body parts o) t ≡ statement_depth o
parts_deep e body no_elseif o t h = ap (λ s. form_depth (kept_bodies s (if_open e ∷ o)) t) h
parts_deep e body (and_elseif parts last a) o t h = ap (λ s. form_depth (kept_bodies s (elseif_open e body parts last ∷ o)) t) h

pub parts_else : {room : ℕ} {x w : List Symbol} (e : Form) (body : Statement Nothing) (parts : ElseIfs Nothing) (t : Symbol) → x ≡ t ∷ w → behind t ≡ by_else → 1 ≤ room
    → Leads statement_depth room (λ o. behind_parts e body parts o) x (λ o. due_statement (else_open e body parts ∷ o)) w
parts_else e body parts t is h roomy = move t is (λ o. else_step e body parts o t h) (λ n o at. omega (arith, parts_deep e body parts o t (ap body_strength h)))

pub parts_elseif : {room : ℕ} {x w : List Symbol} (e : Form) (body : Statement Nothing) (parts : ElseIfs Nothing) (t : Symbol) → x ≡ t ∷ w → behind t ≡ by_elseif → 1 ≤ room
    → Leads statement_depth room (λ o. behind_parts e body parts o) x (λ o. headed (elseif_head e body parts) o) w
parts_elseif e body parts t is h roomy = move t is (λ o. elseif_step e body parts o t h) (λ n o at. omega (arith, parts_deep e body parts o t (ap body_strength h)))

else_out : (n : ℕ) (e : Form) (body : Statement Nothing) (parts : ElseIfs Nothing) (a : Statement Nothing) (o : Around) (w : List Symbol)
    → walk_statement n (done a (else_open e body parts ∷ o)) w ≡ walk_statement n (done (if_else tt e body parts a) o) w
else_out n e body parts a o [] = refl
else_out n e body parts a o (t ∷ w) =
    alike n (done a (else_open e body parts ∷ o)) (done (if_else tt e body parts a) o) t w
    (ap (λ b. reached_step (pick b (released_bodies (body_strength (behind t)) o (if_else tt e body parts a)) (record { tree = a; around = else_open e body parts ∷ o })) t (behind t)) (weak (behind t)))
    (ap (λ b. form_depth (pick b (kept_bodies (body_strength (behind t)) o) (else_open e body parts ∷ o)) t) (weak (behind t)))
    refl

pub else_ends : {room : ℕ} {w : List Symbol} (e : Form) (body : Statement Nothing) (parts : ElseIfs Nothing) (a : Statement Nothing)
    → Leads statement_depth room (λ o. done a (else_open e body parts ∷ o)) w (λ o. done (if_else tt e body parts a) o) w
else_ends {room} {w} e body parts a = record { same = λ n o is. else_out n e body parts a o w }

-- ---- `elseif` parts that grow

elseifs_end : (before : ElseIfs Note) (xs : List (ElseIf (Statement Note))) (x : ElseIf (Statement Note)) → elseifs_from before (xs ++ x ∷ []) ≡ and_elseif (elseifs_from before xs) (view x.test) x.body
elseifs_end before [] x = refl
elseifs_end before (y ∷ xs) x = elseifs_end (and_elseif before (view y.test) y.body) xs x

parts_map : (xs : List (ElseIf Stmt)) (x : ElseIf Stmt) → map elseif_parts (xs ++ x ∷ []) ≡ map elseif_parts xs ++ elseif_parts x ∷ []
parts_map [] x = refl
parts_map (y ∷ xs) x = ap (λ v. elseif_parts y ∷ v) (parts_map xs x)

pub elseifs_more : (tokens : List Token) (at place behind : ℕ) (parts : ElseIfs Nothing) (e : Form) (a : Statement Nothing) (xs new : List (ElseIf Stmt)) (x : ElseIf Stmt) → new ≡ xs ++ x ∷ []
    → elseifs_from no_elseif (map elseif_parts xs) ≡ noted_elseifs (notes_of tokens) at parts → at + size_elseifs parts ≡ place
    → view x.test ≡ noted (notes_of tokens) (place + 1 + 1) e → place + 1 + size e + 2 ≡ behind → (elseif_parts x).body ≡ noted_statement (notes_of tokens) behind a
    → elseifs_from no_elseif (map elseif_parts new) ≡ noted_elseifs (notes_of tokens) at (and_elseif parts e a)
elseifs_more tokens at place behind parts e a xs new x grown shown sized test_is where_is body_is =
    ap (λ l. elseifs_from no_elseif (map elseif_parts l)) grown ∙ ap (elseifs_from no_elseif) (parts_map xs x) ∙ elseifs_end no_elseif (map elseif_parts xs) (elseif_parts x)
    ∙ ap (λ z. and_elseif z (view x.test) (elseif_parts x).body) shown
    ∙ ap (λ z. and_elseif (noted_elseifs (notes_of tokens) at parts) z (elseif_parts x).body) (test_is ∙ ap (λ k. noted (notes_of tokens) k e) (omega arith))
    ∙ ap (and_elseif (noted_elseifs (notes_of tokens) at parts) (noted (notes_of tokens) (at + size_elseifs parts + 2) e)) (body_is ∙ ap (λ k. noted_statement (notes_of tokens) k a) (omega arith))

-- ---- where the parts of an `if` stand

pub parts_shift : (tokens : List Token) (place : ℕ) (parts : ElseIfs Nothing) (xs : ElseIfs Note) (at : ℕ) (a : Statement Nothing) → xs ≡ noted_elseifs (notes_of tokens) place parts → at + size_statement a ≡ place
    → xs ≡ noted_elseifs (notes_of tokens) (at + size_statement a) parts
parts_shift tokens place parts xs at a shown is = shown ∙ ap (λ k. noted_elseifs (notes_of tokens) k parts) (sym is)

pub last_shown : (tokens : List Token) (place behind : ℕ) (made : Statement Note) (at : ℕ) (a : Statement Nothing) (parts : ElseIfs Nothing) (last : Statement Nothing) → at + size_statement a ≡ place → place + size_elseifs parts ≡ behind
    → made ≡ noted_statement (notes_of tokens) (behind + 1) last → made ≡ noted_statement (notes_of tokens) (at + size_statement a + size_elseifs parts + 1) last
last_shown tokens place behind made at a parts last first second shown = shown ∙ ap (λ k. noted_statement (notes_of tokens) k last) (omega arith)

pub if_spans : (tokens : List Token) (made : Statement Note) (spot : Note) (e : Tree Note) (body : Statement Note) (parts : ElseIfs Note) (last : Option (Statement Note)) (form : Form) (a : Statement Nothing) (ps : ElseIfs Nothing) (l : Option (Statement Nothing)) (at place next : ℕ)
    → made ≡ if_view spot e body parts last → spot ≡ (notes_of tokens).token at → e ≡ noted (notes_of tokens) (at + 1 + 1) form → at + 1 + size form + 2 ≡ place
    → body ≡ noted_statement (notes_of tokens) place a → parts ≡ noted_elseifs (notes_of tokens) (place + size_statement a) ps
    → last ≡ optional (noted_statement (notes_of tokens) (place + size_statement a + size_elseifs ps + 1)) l → place + size_statement a + size_elseifs ps + size_last l ≡ next
    → SpansStatement tokens made (if_form form a ps l) at next
if_spans tokens made spot e body parts last form a ps None at place next is noted_is test_is where_is body_is parts_is last_is sized = record {
  shown = is ∙ ap (if_view spot e body parts) last_is ∙ ap (λ n. if_only n e body parts) noted_is
      ∙ ap (λ z. if_only ((notes_of tokens).token at) z body parts) (test_is ∙ ap (λ k. noted (notes_of tokens) k form) (omega arith))
      ∙ ap (λ z. if_only ((notes_of tokens).token at) (noted (notes_of tokens) (at + 2) form) z parts) (body_is ∙ ap (λ k. noted_statement (notes_of tokens) k a) (omega arith))
      ∙ ap (if_only ((notes_of tokens).token at) (noted (notes_of tokens) (at + 2) form) (noted_statement (notes_of tokens) (at + size_head form) a)) (parts_is ∙ ap (λ k. noted_elseifs (notes_of tokens) k ps) (omega arith));
  sized = omega arith;
}
if_spans tokens made spot e body parts last form a ps (Some l) at place next is noted_is test_is where_is body_is parts_is last_is sized = record {
  shown = is ∙ ap (if_view spot e body parts) last_is ∙ ap (λ n. if_else n e body parts (noted_statement (notes_of tokens) (place + size_statement a + size_elseifs ps + 1) l)) noted_is
      ∙ ap (λ z. if_else ((notes_of tokens).token at) z body parts (noted_statement (notes_of tokens) (place + size_statement a + size_elseifs ps + 1) l)) (test_is ∙ ap (λ k. noted (notes_of tokens) k form) (omega arith))
      ∙ ap (λ z. if_else ((notes_of tokens).token at) (noted (notes_of tokens) (at + 2) form) z parts (noted_statement (notes_of tokens) (place + size_statement a + size_elseifs ps + 1) l)) (body_is ∙ ap (λ k. noted_statement (notes_of tokens) k a) (omega arith))
      ∙ ap (λ z. if_else ((notes_of tokens).token at) (noted (notes_of tokens) (at + 2) form) (noted_statement (notes_of tokens) (at + size_head form) a) z (noted_statement (notes_of tokens) (place + size_statement a + size_elseifs ps + 1) l)) (parts_is ∙ ap (λ k. noted_elseifs (notes_of tokens) k ps) (omega arith))
      ∙ ap (λ k. if_else ((notes_of tokens).token at) (noted (notes_of tokens) (at + 2) form) (noted_statement (notes_of tokens) (at + size_head form) a) (noted_elseifs (notes_of tokens) (at + size_head form + size_statement a) ps) (noted_statement (notes_of tokens) k l)) (omega arith);
  sized = omega arith;
}

pub if_enters : {room : ℕ} {w : List Symbol} (e : Form) → test is_colon w ≡ false → Leads statement_depth room (λ o. past_if e o) w (λ o. due_statement (if_open e ∷ o)) w
if_enters {room} {w} e h = record { same = λ n o is. if_in n e o w h }
  where
    if_in : (n : ℕ) (e : Form) (o : Around) (w : List Symbol) → test is_colon w ≡ false → walk_statement n (past_if e o) w ≡ walk_statement n (due_statement (if_open e ∷ o)) w
    if_in n e o [] h = refl
    if_in n e o (t ∷ w) h =
        alike n (past_if e o) (due_statement (if_open e ∷ o)) t w (ap (λ b. pick b (Some (listing (of_if e) o)) (begin (if_open e ∷ o) t)) h)
        (ap (λ b. pick b (statement_depth o) (begin_depth (if_open e ∷ o) t)) h) refl
