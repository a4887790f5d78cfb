-- What the functions of the parser answer that read forms with statements inside.
use Rattle.std.specs.Prelude.{◌≡◌, ◌≢◌, ◌≤◌, ◌<◌, ℕ, ◌+◌, true, Option, Some, None, Result, Ok, Err, List, ◌∷◌, map, length}
use Rattle.std.specs.List.{list_all}
use Rattle.php_token.specs.Token.{Token}
use Rattle.php_ast.specs.declared.statement.Stmt.{Stmt}
use Rattle.php_ast.specs.declared.statement.ElseIf.{ElseIf}
use Rattle.php_ast.specs.declared.statement.Body as rust_body
use Rattle.php_ast.specs.expression.Placed.{notes_of}
use Rattle.php_ast.specs.statement.Tree.{Statement, if_only, if_else, if_lists, if_else_lists, ElseIfs, no_elseif, and_elseif, ElseIfLists, no_elseif_list, and_elseif_list, Statements, Body}
use Rattle.php_ast.specs.statement.View.{body_view, elseifs_from, elseif_lists_from, optional, statement_view, statements_view}
use Rattle.php_ast.specs.statement.Placed.{size_body, noted_body, size_statement, noted_statement, size_elseifs, noted_elseifs, size_elseif_lists, noted_elseif_lists, size_statements, noted_statements}
use Rattle.php_grammar.specs.expression.Machine.{Nothing, Form}
use Rattle.php_grammar.specs.statement.Laws.{head_behind}
use Rattle.php_grammar.specs.statement.Role.{Behind, ends_outside, by_elseif, by_endwhile, by_endfor, by_endforeach}
use Rattle.php_grammar.specs.statement.Forms.{Loop, while_loop, for_loop, foreach_loop, StatementList, of_if, of_elseif, if_open, elseif_open, Around, StatementState, due_statement, done, due_in_list, past_if, past_loop, looped}
use Rattle.php_grammar.specs.statement.Machine.{list_end, before_semicolon}
use Rattle.php_grammar.specs.statement.Depth.{statement_depth}
use Rattle.php_flat.specs.Statements.{is_flat_statement, are_flat_statements, is_flat_body, is_flat_elseif, is_flat_elseif_list, is_flat_last, is_flat_list}
use Rattle.php_reader.specs.declared.reader.Reader.{Reader}
use Rattle.php_reader.specs.declared.fail.Stop.{Stop}
use Rattle.php_reader.specs.Seen.{rest}
use Rattle.php_reader.specs.declared.found.Entry.{Entry}
use Rattle.php_reader.specs.declared.found.Listed.{Listed}
use Rattle.php_parse_statement.specs.declared.read.Branches.{Branches}
use Rattle.php_parse_simple.specs.declared.role.After.{After}
use Rattle.php_parse_simple.specs.RoleView.{after_view, ends_list}
use Rattle.php_parse_simple.specs.Parts.{body_parts, elseif_parts, elseif_list_parts}
use Rattle.php_parse_simple.specs.Walk.{Leads}
use Rattle.php_parse_simple.specs.Answer.{Fails}

-- ---- the body of a loop

-- the word that ends its list
abbrev pub loop_behind : Loop → Behind
loop_behind (while_loop test) = by_endwhile
loop_behind (for_loop starts tests steps) = by_endfor
loop_behind (foreach_loop walked key value) = by_endforeach

pub record FoundLoopBody (end : Behind) (room : ℕ) (tokens : List Token) (at : ℕ) (r : Entry (rust_body.Body Stmt)) : Type 0 where
  pub body : Body Nothing
  pub shown : body_view (body_parts r.item) ≡ noted_body (notes_of tokens) at body
  pub sized : at + size_body body ≡ r.next
  pub reads : (loop : Loop) → loop_behind loop ≡ end → Leads statement_depth room (λ o. past_loop loop o) (rest tokens at) (λ o. done (looped loop body) o) (rest tokens r.next)
  pub ahead : at < r.next
  pub within : r.next ≤ length tokens
  pub flat : is_flat_body r.item ≡ true

abbrev pub AnswersLoopBody : After → Reader → ℕ → Result (Entry (rust_body.Body Stmt)) Stop → Type 0
AnswersLoopBody end reader at (Ok r) = FoundLoopBody (after_view end) reader.room reader.tokens.now at r
AnswersLoopBody end reader at (Err e) = (loop : Loop) → loop_behind loop ≡ after_view end
    → Fails statement_depth reader.room (λ o. past_loop loop o) (rest reader.tokens.now at) reader.tokens.now at e

-- ---- the bodies of an `if`

-- behind the first body and these `elseif` parts
abbrev pub behind_parts : Form → Statement Nothing → ElseIfs Nothing → Around → StatementState
behind_parts test body no_elseif o = done body (if_open test ∷ o)
behind_parts test body (and_elseif parts last a) o = done a (elseif_open test body parts last ∷ o)

pub record ElseIfsSoFar (room : ℕ) (tokens : List Token) (at : ℕ) (xs : List (ElseIf Stmt)) (next : ℕ) : Type 0 where
  pub parts : ElseIfs Nothing
  pub shown : elseifs_from no_elseif (map elseif_parts xs) ≡ noted_elseifs (notes_of tokens) at parts
  pub sized : at + size_elseifs parts ≡ next
  pub reads : (test : Form) (body : Statement Nothing) → Leads statement_depth room (λ o. behind_parts test body no_elseif o) (rest tokens at) (λ o. behind_parts test body parts o) (rest tokens next)
  pub within : next ≤ length tokens
  pub flat : list_all is_flat_elseif xs ≡ true

pub record FoundElseIfs (room : ℕ) (tokens : List Token) (at : ℕ) (r : Listed (ElseIf Stmt)) : Type 0 where
  pub so_far : ElseIfsSoFar room tokens at r.items r.next
  pub over : head_behind (rest tokens r.next) ≢ by_elseif

abbrev pub AnswersElseIfs : Reader → ℕ → Result (Listed (ElseIf Stmt)) Stop → Type 0
AnswersElseIfs reader at (Ok r) = FoundElseIfs reader.room reader.tokens.now at r
AnswersElseIfs reader at (Err e) = (test : Form) (body : Statement Nothing)
    → Fails statement_depth reader.room (λ o. behind_parts test body no_elseif o) (rest reader.tokens.now at) reader.tokens.now at e

abbrev pub if_form : Form → Statement Nothing → ElseIfs Nothing → Option (Statement Nothing) → Statement Nothing
if_form test body parts None = if_only tt test body parts
if_form test body parts (Some last) = if_else tt test body parts last

abbrev pub size_last : Option (Statement Nothing) → ℕ
size_last None = 0
size_last (Some a) = 1 + size_statement a

pub record FoundBranches (room : ℕ) (tokens : List Token) (at : ℕ) (r : Branches Stmt) : Type 0 where
  pub body : Statement Nothing
  pub parts : ElseIfs Nothing
  pub last : Option (Statement Nothing)
  pub body_shown : statement_view r.body ≡ noted_statement (notes_of tokens) at body
  pub parts_shown : elseifs_from no_elseif (map elseif_parts r.parts) ≡ noted_elseifs (notes_of tokens) (at + size_statement body) parts
  pub last_shown : optional statement_view r.last ≡ optional (noted_statement (notes_of tokens) (at + size_statement body + size_elseifs parts + 1)) last
  pub sized : at + size_statement body + size_elseifs parts + size_last last ≡ r.next
  pub reads : (test : Form) → Leads statement_depth room (λ o. due_statement (if_open test ∷ o)) (rest tokens at) (λ o. done (if_form test body parts last) o) (rest tokens r.next)
  pub ahead : at < r.next
  pub within : r.next ≤ length tokens
  pub flat_body : is_flat_statement r.body ≡ true
  pub flat_parts : list_all is_flat_elseif r.parts ≡ true
  pub flat_last : is_flat_last r.last ≡ true

abbrev pub AnswersBranches : Reader → ℕ → Result (Branches Stmt) Stop → Type 0
AnswersBranches reader at (Ok r) = FoundBranches reader.room reader.tokens.now at r
AnswersBranches reader at (Err e) = (test : Form)
    → Fails statement_depth reader.room (λ o. due_statement (if_open test ∷ o)) (rest reader.tokens.now at) reader.tokens.now at e

-- ---- the lists of an `if`

-- The word that ends a list and `;` were read, from the list to a statement.
pub record FoundClosed (word : Behind) (room : ℕ) (tokens : List Token) (at next : ℕ) : Type 0 where
  pub reads : (list : StatementList) (ss : Statements Nothing) (a : Statement Nothing) → ((o : Around) → list_end list ss o word ≡ Some (before_semicolon a o)) → ends_outside word ≡ true
      → Leads statement_depth room (λ o. due_in_list list ss o) (rest tokens at) (λ o. done a o) (rest tokens next)
  pub two : at + 2 ≡ next
  pub within : next ≤ length tokens

abbrev pub AnswersClosed : After → Reader → ℕ → Result ℕ Stop → Type 0
AnswersClosed word reader at (Ok next) = FoundClosed (after_view word) reader.room reader.tokens.now at next
AnswersClosed word reader at (Err e) = (list : StatementList) (ss : Statements Nothing) (a : Statement Nothing) → ((o : Around) → list_end list ss o (after_view word) ≡ Some (before_semicolon a o)) → ends_outside (after_view word) ≡ true
    → (head_behind (rest reader.tokens.now at) ≢ after_view word → (o : Around) → list_end list ss o (head_behind (rest reader.tokens.now at)) ≡ None)
    → Fails statement_depth reader.room (λ o. due_in_list list ss o) (rest reader.tokens.now at) reader.tokens.now at e

-- the last list, and what it holds
abbrev pub last_list : Form → Statements Nothing → ElseIfLists Nothing → StatementList
last_list test body no_elseif_list = of_if test
last_list test body (and_elseif_list parts last ss) = of_elseif test body parts last

abbrev pub last_statements : Statements Nothing → ElseIfLists Nothing → Statements Nothing
last_statements body no_elseif_list = body
last_statements body (and_elseif_list parts last ss) = ss

abbrev pub behind_lists : Form → Statements Nothing → ElseIfLists Nothing → Around → StatementState
behind_lists test body parts o = due_in_list (last_list test body parts) (last_statements body parts) o

pub record ElseIfListsSoFar (room : ℕ) (tokens : List Token) (at : ℕ) (xs : List (ElseIf (List Stmt))) (next : ℕ) : Type 0 where
  pub parts : ElseIfLists Nothing
  pub shown : elseif_lists_from no_elseif_list (map elseif_list_parts xs) ≡ noted_elseif_lists (notes_of tokens) at parts
  pub sized : at + size_elseif_lists parts ≡ next
  pub reads : (test : Form) (body : Statements Nothing) → Leads statement_depth room (λ o. behind_lists test body no_elseif_list o) (rest tokens at) (λ o. behind_lists test body parts o) (rest tokens next)
  pub ended : ends_list (head_behind (rest tokens next)) ≡ true
  pub within : next ≤ length tokens
  pub flat : list_all is_flat_elseif_list xs ≡ true

pub record FoundElseIfLists (room : ℕ) (tokens : List Token) (at : ℕ) (r : Listed (ElseIf (List Stmt))) : Type 0 where
  pub so_far : ElseIfListsSoFar room tokens at r.items r.next
  pub over : head_behind (rest tokens r.next) ≢ by_elseif

abbrev pub AnswersElseIfLists : Reader → ℕ → Result (Listed (ElseIf (List Stmt))) Stop → Type 0
AnswersElseIfLists reader at (Ok r) = FoundElseIfLists reader.room reader.tokens.now at r
AnswersElseIfLists reader at (Err e) = (test : Form) (body : Statements Nothing)
    → Fails statement_depth reader.room (λ o. behind_lists test body no_elseif_list o) (rest reader.tokens.now at) reader.tokens.now at e

abbrev pub if_lists_form : Form → Statements Nothing → ElseIfLists Nothing → Option (Statements Nothing) → Statement Nothing
if_lists_form test body parts None = if_lists tt test body parts
if_lists_form test body parts (Some last) = if_else_lists tt test body parts last

-- `else`, its colon, and the list
abbrev pub size_last_list : Option (Statements Nothing) → ℕ
size_last_list None = 0
size_last_list (Some ss) = 2 + size_statements ss

-- from the colon on
pub record FoundListBranches (room : ℕ) (tokens : List Token) (at : ℕ) (r : Branches (List Stmt)) : Type 0 where
  pub body : Statements Nothing
  pub parts : ElseIfLists Nothing
  pub last : Option (Statements Nothing)
  pub body_shown : statements_view r.body ≡ noted_statements (notes_of tokens) (at + 1) body
  pub parts_shown : elseif_lists_from no_elseif_list (map elseif_list_parts r.parts) ≡ noted_elseif_lists (notes_of tokens) (at + 1 + size_statements body) parts
  pub last_shown : optional statements_view r.last ≡ optional (noted_statements (notes_of tokens) (at + 1 + size_statements body + size_elseif_lists parts + 2)) last
  pub sized : at + 1 + size_statements body + size_elseif_lists parts + size_last_list last + 2 ≡ r.next
  pub reads : (test : Form) → Leads statement_depth room (λ o. past_if test o) (rest tokens at) (λ o. done (if_lists_form test body parts last) o) (rest tokens r.next)
  pub within : r.next ≤ length tokens
  pub flat_body : are_flat_statements r.body ≡ true
  pub flat_parts : list_all is_flat_elseif_list r.parts ≡ true
  pub flat_last : is_flat_list r.last ≡ true

abbrev pub AnswersListBranches : Reader → ℕ → Result (Branches (List Stmt)) Stop → Type 0
AnswersListBranches reader at (Ok r) = FoundListBranches reader.room reader.tokens.now at r
AnswersListBranches reader at (Err e) = (test : Form) → Fails statement_depth reader.room (λ o. past_if test o) (rest reader.tokens.now at) reader.tokens.now at e
