-- What the functions of the parser answer that read a `try`.
use Rattle.std.specs.Prelude.{◌≡◌, ◌≢◌, ◌≤◌, ◌<◌, ℕ, ◌+◌, true, false, Option, Some, None, Result, Ok, Err, List, [], ◌∷◌, map, length}
use Rattle.std.specs.List.{list_all}
use Rattle.php_token.specs.Token.{Token}
use Rattle.php_ast.specs.declared.statement.Stmt.{Stmt}
use Rattle.php_ast.specs.declared.statement.Catch.{Catch}
use Rattle.php_ast.specs.expression.Placed.{notes_of}
use Rattle.php_ast.specs.statement.Tree.{Statement, try_catch, try_finally, Sequence, Name, Catches, no_catch, and_catch, Statements, no_statement}
use Rattle.php_ast.specs.statement.View.{catches_from, name_view, names_view, optional, statements_view}
use Rattle.php_ast.specs.statement.Proper.{is_no_catch}
use Rattle.php_ast.specs.statement.Placed.{size_separated, noted_separated, size_name, noted_name, size_statements, noted_statements, size_catches, noted_catches}
use Rattle.php_grammar.specs.expression.Machine.{Nothing}
use Rattle.php_grammar.specs.statement.Laws.{head_behind}
use Rattle.php_grammar.specs.statement.Role.{by_catch, left_brace}
use Rattle.php_grammar.specs.statement.Forms.{StatementList, Around, StatementState, done, due, due_in_list, past_block}
use Rattle.php_grammar.specs.statement.Depth.{statement_depth}
use Rattle.php_flat.specs.Statements.{are_flat_statements, is_flat_catch, is_flat_list}
use Rattle.php_reader.specs.declared.reader.Reader.{Reader}
use Rattle.php_reader.specs.declared.fail.Stop.{Stop}
use Rattle.php_reader.specs.Seen.{rest}
use Rattle.php_reader.specs.declared.found.Entry.{Entry}
use Rattle.php_reader.specs.declared.found.Listed.{Listed}
use Rattle.php_parse_simple.specs.Parts.{catch_parts}
use Rattle.php_parse_simple.specs.Walk.{Leads}
use Rattle.php_parse_simple.specs.Answer.{Fails}
use Rattle.php_parse_statement.specs.declared.read.Handlers.{Handlers}
use Rattle.php_parse_statement.specs.ListAnswer.{list_measure, IsBraced}

-- ---- a block of a `try`

-- a list in braces that stand where the `try` stands
pub record IsBlock (list : StatementList) (to : Statements Nothing → Around → StatementState) : Type 0 where
  pub braced : IsBraced list to
  pub outside : (o : Around) → list_measure list o ≡ statement_depth o

pub record FoundBlock (room : ℕ) (tokens : List Token) (at : ℕ) (r : Listed Stmt) : Type 0 where
  pub statements : Statements Nothing
  pub shown : statements_view r.items ≡ noted_statements (notes_of tokens) (at + 1) statements
  pub sized : at + 1 + size_statements statements + 1 ≡ r.next
  pub reads : (list : StatementList) (to : Statements Nothing → Around → StatementState) → IsBlock list to
      → Leads statement_depth room (λ o. due (left_brace ∷ []) (due_in_list list no_statement o)) (rest tokens at) (λ o. to statements o) (rest tokens r.next)
  pub within : r.next ≤ length tokens
  pub flat : are_flat_statements r.items ≡ true

abbrev pub AnswersBlock : Reader → ℕ → Result (Listed Stmt) Stop → Type 0
AnswersBlock reader at (Ok r) = FoundBlock reader.room reader.tokens.now at r
AnswersBlock reader at (Err e) = (list : StatementList) (to : Statements Nothing → Around → StatementState) → IsBlock list to
    → Fails statement_depth reader.room (λ o. due (left_brace ∷ []) (due_in_list list no_statement o)) (rest reader.tokens.now at) reader.tokens.now at e

-- ---- `catch` parts

pub record FoundCatch (room : ℕ) (tokens : List Token) (at : ℕ) (r : Entry (Catch Stmt)) : Type 0 where
  pub classes : Sequence (Name Nothing)
  pub variable : Name Nothing
  pub body : Statements Nothing
  pub classes_shown : names_view r.item.classes ≡ noted_separated size_name (noted_name (notes_of tokens)) (at + 2) classes
  pub variable_shown : name_view r.item.variable ≡ noted_name (notes_of tokens) (at + 2 + size_separated size_name classes) variable
  pub body_shown : statements_view r.item.body ≡ noted_statements (notes_of tokens) (at + 2 + size_separated size_name classes + 3) body
  pub sized : at + 2 + size_separated size_name classes + 3 + size_statements body + 1 ≡ r.next
  pub reads : (block : Statements Nothing) (catches : Catches Nothing)
      → Leads statement_depth room (λ o. past_block block catches o) (rest tokens at) (λ o. past_block block (and_catch catches classes variable body) o) (rest tokens r.next)
  pub within : r.next ≤ length tokens
  pub flat : is_flat_catch r.item ≡ true

abbrev pub AnswersCatch : Reader → ℕ → Result (Entry (Catch Stmt)) Stop → Type 0
AnswersCatch reader at (Ok r) = FoundCatch reader.room reader.tokens.now at r
AnswersCatch reader at (Err e) = (block : Statements Nothing) (catches : Catches Nothing)
    → Fails statement_depth reader.room (λ o. past_block block catches o) (rest reader.tokens.now at) reader.tokens.now at e

pub record CatchesSoFar (room : ℕ) (tokens : List Token) (at : ℕ) (xs : List (Catch Stmt)) (next : ℕ) : Type 0 where
  pub catches : Catches Nothing
  pub shown : catches_from no_catch (map catch_parts xs) ≡ noted_catches (notes_of tokens) at catches
  pub sized : at + size_catches catches ≡ next
  pub some : xs ≢ [] → is_no_catch catches ≡ false
  pub none : xs ≡ [] → catches ≡ no_catch
  pub reads : (block : Statements Nothing) → Leads statement_depth room (λ o. past_block block no_catch o) (rest tokens at) (λ o. past_block block catches o) (rest tokens next)
  pub within : next ≤ length tokens
  pub flat : list_all is_flat_catch xs ≡ true

pub record FoundCatches (room : ℕ) (tokens : List Token) (at : ℕ) (r : Listed (Catch Stmt)) : Type 0 where
  pub so_far : CatchesSoFar room tokens at r.items r.next
  pub over : head_behind (rest tokens r.next) ≢ by_catch

abbrev pub AnswersCatches : Reader → ℕ → Result (Listed (Catch Stmt)) Stop → Type 0
AnswersCatches reader at (Ok r) = FoundCatches reader.room reader.tokens.now at r
AnswersCatches reader at (Err e) = (block : Statements Nothing)
    → Fails statement_depth reader.room (λ o. past_block block no_catch o) (rest reader.tokens.now at) reader.tokens.now at e

-- ---- all that stands behind the block

abbrev pub try_form : Statements Nothing → Catches Nothing → Option (Statements Nothing) → Statement Nothing
try_form body catches None = try_catch tt body catches
try_form body catches (Some last) = try_finally tt body catches last

abbrev pub size_finally : Option (Statements Nothing) → ℕ
size_finally None = 0
size_finally (Some last) = 3 + size_statements last

pub record FoundHandlers (room : ℕ) (tokens : List Token) (at : ℕ) (r : Handlers) : Type 0 where
  pub catches : Catches Nothing
  pub last : Option (Statements Nothing)
  pub catches_shown : catches_from no_catch (map catch_parts r.catches) ≡ noted_catches (notes_of tokens) at catches
  pub last_shown : optional statements_view r.last ≡ optional (noted_statements (notes_of tokens) (at + size_catches catches + 2)) last
  pub sized : at + size_catches catches + size_finally last ≡ r.next
  pub reads : (body : Statements Nothing) → Leads statement_depth room (λ o. past_block body no_catch o) (rest tokens at) (λ o. done (try_form body catches last) o) (rest tokens r.next)
  pub within : r.next ≤ length tokens
  pub flat_catches : list_all is_flat_catch r.catches ≡ true
  pub flat_last : is_flat_list r.last ≡ true

abbrev pub AnswersHandlers : Reader → ℕ → Result Handlers Stop → Type 0
AnswersHandlers reader at (Ok r) = FoundHandlers reader.room reader.tokens.now at r
AnswersHandlers reader at (Err e) = (body : Statements Nothing)
    → Fails statement_depth reader.room (λ o. past_block body no_catch o) (rest reader.tokens.now at) reader.tokens.now at e
