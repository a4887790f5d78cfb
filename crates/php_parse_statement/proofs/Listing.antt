-- The lists of an `if`.
use Rattle.std.proofs.Common.{◌≡◌, ◌≢◌, ◌≤◌, ℕ, ◌+◌, true, Option, Some, None, List, [], ◌∷◌, ◌++◌, map, refl, sym, ◌∙◌, ap, arith}
use Rattle.php_token.specs.Token.{Token}
use Rattle.php_ast.specs.declared.statement.Stmt.{Stmt}
use Rattle.php_ast.specs.declared.statement.ElseIf.{ElseIf}
use Rattle.php_ast.specs.Symbol.{Symbol}
use Rattle.php_ast.specs.expression.Tree.{Tree}
use Rattle.php_ast.specs.expression.View.{Note, view}
use Rattle.php_ast.specs.expression.Placed.{size, noted, notes_of}
use Rattle.php_ast.specs.statement.Tree.{Statement, if_lists, if_else_lists, ElseIfLists, no_elseif_list, and_elseif_list, Statements, no_statement}
use Rattle.php_ast.specs.statement.View.{elseif_lists_from, if_lists_view, list_view, optional, statement_view, statements_view}
use Rattle.php_ast.specs.statement.Placed.{size_statements, noted_statements, size_elseif_lists, noted_elseif_lists, size_head}
use Rattle.php_grammar.specs.expression.Role.{is_colon}
use Rattle.php_grammar.specs.expression.Machine.{Nothing, Form, pick}
use Rattle.php_grammar.specs.statement.Role.{Behind, by_else, by_elseif, by_endif, behind}
use Rattle.php_grammar.specs.statement.Forms.{of_if, of_else, if_open, Around, due_in_list, past_if}
use Rattle.php_grammar.specs.statement.Machine.{begin, listing, list_end, lists_step}
use Rattle.php_grammar.specs.statement.Depth.{statement_depth, begin_depth}
use Rattle.php_parse_simple.specs.Answer.{SpansStatement}
use Rattle.php_parse_statement.specs.FormAnswer.{last_list, last_statements, if_lists_form, size_last_list}
use Rattle.php_parse_simple.specs.Parts.{elseif_list_parts}
use Rattle.php_parse_simple.specs.Walk.{Leads}
use Rattle.php_parse_simple.proofs.Moves.{move}

pub if_colon : {room : ℕ} {x w : List Symbol} (e : Form) (t : Symbol) → x ≡ t ∷ w → is_colon t ≡ true → 1 ≤ room → Leads statement_depth room (λ o. past_if e o) x (λ o. due_in_list (of_if e) no_statement o) w
if_colon e t is h roomy =
    move t is (λ o. ap (λ b. pick b (Some (listing (of_if e) o)) (begin (if_open e ∷ o) t)) h) (λ n o at. omega (arith, ap (λ b. pick b (statement_depth o) (begin_depth (if_open e ∷ o) t)) h))

-- what ends the last list
pub last_end : (e : Form) (body : Statements Nothing) (parts : ElseIfLists Nothing) (o : Around) (x : Behind) → list_end (last_list e body parts) (last_statements body parts) o x ≡ lists_step e body parts o x
last_end e body no_elseif_list o x = refl
last_end e body (and_elseif_list parts last ss) o x = refl

pub lists_none : (e : Form) (body : Statements Nothing) (parts : ElseIfLists Nothing) (o : Around) (x : Behind) → x ≢ by_else → x ≢ by_elseif → x ≢ by_endif → lists_step e body parts o x ≡ None
lists_none e body parts o by_else a b c = absurd (a refl)
lists_none e body parts o by_elseif a b c = absurd (b refl)
lists_none e body parts o by_endif a b c = absurd (c refl)
lists_none e body parts o _ a b c = refl

pub else_none : (e : Form) (body : Statements Nothing) (parts : ElseIfLists Nothing) (ss : Statements Nothing) (o : Around) (x : Behind) → x ≢ by_endif → list_end (of_else e body parts) ss o x ≡ None
else_none e body parts ss o by_endif h = absurd (h refl)
else_none e body parts ss o _ h = refl

-- parts that grow
lists_grow : (before : ElseIfLists Note) (xs : List (ElseIf (List (Statement Note)))) (x : ElseIf (List (Statement Note))) → elseif_lists_from before (xs ++ x ∷ []) ≡ and_elseif_list (elseif_lists_from before xs) (view x.test) (list_view x.body)
lists_grow before [] x = refl
lists_grow before (y ∷ xs) x = lists_grow (and_elseif_list before (view y.test) (list_view y.body)) xs x

parts_map : (xs : List (ElseIf (List Stmt))) (x : ElseIf (List Stmt)) → map elseif_list_parts (xs ++ x ∷ []) ≡ map elseif_list_parts xs ++ elseif_list_parts x ∷ []
parts_map [] x = refl
parts_map (y ∷ xs) x = ap (λ v. elseif_list_parts y ∷ v) (parts_map xs x)

pub elseif_lists_more : (tokens : List Token) (at place behind : ℕ) (parts : ElseIfLists Nothing) (e : Form) (ss : Statements Nothing) (xs new : List (ElseIf (List Stmt))) (x : ElseIf (List Stmt)) → new ≡ xs ++ x ∷ []
    → elseif_lists_from no_elseif_list (map elseif_list_parts xs) ≡ noted_elseif_lists (notes_of tokens) at parts → at + size_elseif_lists parts ≡ place
    → view x.test ≡ noted (notes_of tokens) (place + 1 + 1) e → place + 1 + size e + 2 ≡ behind → statements_view x.body ≡ noted_statements (notes_of tokens) (behind + 1) ss
    → elseif_lists_from no_elseif_list (map elseif_list_parts new) ≡ noted_elseif_lists (notes_of tokens) at (and_elseif_list parts e ss)
elseif_lists_more tokens at place behind parts e ss xs new x grown shown sized test_is where_is body_is =
    ap (λ l. elseif_lists_from no_elseif_list (map elseif_list_parts l)) grown ∙ ap (elseif_lists_from no_elseif_list) (parts_map xs x) ∙ lists_grow no_elseif_list (map elseif_list_parts xs) (elseif_list_parts x)
    ∙ ap (λ z. and_elseif_list z (view x.test) (statements_view x.body)) shown
    ∙ ap (λ z. and_elseif_list (noted_elseif_lists (notes_of tokens) at parts) z (statements_view x.body)) (test_is ∙ ap (λ k. noted (notes_of tokens) k e) (omega arith))
    ∙ ap (and_elseif_list (noted_elseif_lists (notes_of tokens) at parts) (noted (notes_of tokens) (at + size_elseif_lists parts + 2) e)) (body_is ∙ ap (λ k. noted_statements (notes_of tokens) k ss) (omega arith))

-- notes
pub parts_shift : (tokens : List Token) (place : ℕ) (parts : ElseIfLists Nothing) (xs : ElseIfLists Note) (other : ℕ) → xs ≡ noted_elseif_lists (notes_of tokens) place parts → other ≡ place → xs ≡ noted_elseif_lists (notes_of tokens) other parts
parts_shift tokens place parts xs other shown is = shown ∙ ap (λ k. noted_elseif_lists (notes_of tokens) k parts) (sym is)

pub list_shift : (tokens : List Token) (place : ℕ) (ss : Statements Nothing) (xs : Statements Note) (other : ℕ) → xs ≡ noted_statements (notes_of tokens) place ss → other ≡ place → xs ≡ noted_statements (notes_of tokens) other ss
list_shift tokens place ss xs other shown is = shown ∙ ap (λ k. noted_statements (notes_of tokens) k ss) (sym is)

pub if_lists_spans : (tokens : List Token) (made : Statement Note) (spot : Note) (e : Tree Note) (body : Statements Note) (parts : ElseIfLists Note) (last : Option (List (Statement Note))) (form : Form) (a : Statements Nothing) (ps : ElseIfLists Nothing) (l : Option (Statements Nothing)) (at place next : ℕ)
    → made ≡ if_lists_view spot e body parts last → spot ≡ (notes_of tokens).token at → e ≡ noted (notes_of tokens) (at + 1 + 1) form → at + 1 + size form + 2 ≡ place
    → body ≡ noted_statements (notes_of tokens) (place + 1) a → parts ≡ noted_elseif_lists (notes_of tokens) (place + 1 + size_statements a) ps
    → optional list_view last ≡ optional (noted_statements (notes_of tokens) (place + 1 + size_statements a + size_elseif_lists ps + 2)) l → place + 1 + size_statements a + size_elseif_lists ps + size_last_list l + 2 ≡ next
    → SpansStatement tokens made (if_lists_form form a ps l) at next
if_lists_spans tokens made spot e body parts None form a ps None at place next is noted_is test_is where_is body_is parts_is last_is sized = record {
  shown = is ∙ ap (λ n. if_lists n e body parts) noted_is
      ∙ ap (λ z. if_lists ((notes_of tokens).token at) z body parts) (test_is ∙ ap (λ k. noted (notes_of tokens) k form) (omega arith))
      ∙ ap (λ z. if_lists ((notes_of tokens).token at) (noted (notes_of tokens) (at + 2) form) z parts) (body_is ∙ ap (λ k. noted_statements (notes_of tokens) k a) (omega arith))
      ∙ ap (if_lists ((notes_of tokens).token at) (noted (notes_of tokens) (at + 2) form) (noted_statements (notes_of tokens) (at + size_head form + 1) a)) (parts_is ∙ ap (λ k. noted_elseif_lists (notes_of tokens) k ps) (omega arith));
  sized = omega arith;
}
if_lists_spans tokens made spot e body parts None form a ps (Some l) at place next is noted_is test_is where_is body_is parts_is last_is sized = cc
if_lists_spans tokens made spot e body parts (Some last) form a ps None at place next is noted_is test_is where_is body_is parts_is last_is sized = cc
if_lists_spans tokens made spot e body parts (Some last) form a ps (Some l) at place next is noted_is test_is where_is body_is parts_is last_is sized =
    let own : list_view last ≡ noted_statements (notes_of tokens) (place + 1 + size_statements a + size_elseif_lists ps + 2) l = cc in
    record {
      shown = is ∙ ap (λ n. if_else_lists n e body parts (list_view last)) noted_is
          ∙ ap (λ z. if_else_lists ((notes_of tokens).token at) z body parts (list_view last)) (test_is ∙ ap (λ k. noted (notes_of tokens) k form) (omega arith))
          ∙ ap (λ z. if_else_lists ((notes_of tokens).token at) (noted (notes_of tokens) (at + 2) form) z parts (list_view last)) (body_is ∙ ap (λ k. noted_statements (notes_of tokens) k a) (omega arith))
          ∙ ap (λ z. if_else_lists ((notes_of tokens).token at) (noted (notes_of tokens) (at + 2) form) (noted_statements (notes_of tokens) (at + size_head form + 1) a) z (list_view last)) (parts_is ∙ ap (λ k. noted_elseif_lists (notes_of tokens) k ps) (omega arith))
          ∙ ap (if_else_lists ((notes_of tokens).token at) (noted (notes_of tokens) (at + 2) form) (noted_statements (notes_of tokens) (at + size_head form + 1) a) (noted_elseif_lists (notes_of tokens) (at + size_head form + 1 + size_statements a) ps))
          (own ∙ ap (λ k. noted_statements (notes_of tokens) k l) (omega arith));
      sized = omega arith;
    }

pub optional_lists : (x : Option (List Stmt)) → optional list_view (optional (map statement_view) x) ≡ optional statements_view x
optional_lists None = refl
optional_lists (Some ss) = refl
