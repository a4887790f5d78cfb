-- What the function of the parser answers that reads what stands between a `catch` and its block.
use Rattle.std.specs.Prelude.{◌≡◌, ◌≤◌, ◌<◌, ℕ, ◌+◌, Result, Ok, Err, List, [], ◌∷◌, length}
use Rattle.php_token.specs.Token.{Token}
use Rattle.php_ast.specs.declared.spot.Name as rust_name
use Rattle.php_ast.specs.expression.Placed.{notes_of}
use Rattle.php_ast.specs.statement.Tree.{Sequence, empty, Name, Statements, no_statement, Catches}
use Rattle.php_ast.specs.statement.View.{name_view, names_view, sequence}
use Rattle.php_ast.specs.statement.Placed.{size_separated, noted_separated, size_name, noted_name}
use Rattle.php_grammar.specs.expression.Machine.{Nothing}
use Rattle.php_grammar.specs.statement.Role.{left_paren, left_brace}
use Rattle.php_grammar.specs.statement.Forms.{of_catch, of_classes, due, due_in_list, due_name}
use Rattle.php_grammar.specs.statement.Depth.{statement_depth}
use Rattle.php_reader.specs.declared.reader.Reader.{Reader}
use Rattle.php_reader.specs.declared.fail.Stop.{Stop}
use Rattle.php_reader.specs.Seen.{rest}
use Rattle.php_parse_simple.specs.declared.read.Caught.{Caught}
use Rattle.php_parse_simple.specs.Walk.{Leads}
use Rattle.php_parse_simple.specs.Answer.{Fails}
use Rattle.php_parse_simple.specs.NameAnswer.{SpansSoFar}

-- from the parenthesis on, behind each class a `|` was read
pub record ClassesSoFar (room : ℕ) (tokens : List Token) (at : ℕ) (xs : List rust_name.Name) (next : ℕ) : Type 0 where
  pub classes : Sequence (Name Nothing)
  pub spans : SpansSoFar (sequence name_view xs) size_name (noted_name (notes_of tokens)) (at + 1) classes next
  pub reads : (body : Statements Nothing) (catches : Catches Nothing)
      → Leads statement_depth room (λ o. due (left_paren ∷ []) (due_name (of_classes body catches empty) o)) (rest tokens at) (λ o. due_name (of_classes body catches classes) o) (rest tokens next)
  pub within : next ≤ length tokens

pub record FoundCaught (room : ℕ) (tokens : List Token) (at : ℕ) (r : Caught) : Type 0 where
  pub classes : Sequence (Name Nothing)
  pub variable : Name Nothing
  pub classes_shown : names_view r.classes ≡ noted_separated size_name (noted_name (notes_of tokens)) (at + 1) classes
  pub variable_shown : name_view r.variable ≡ noted_name (notes_of tokens) (at + 1 + size_separated size_name classes) variable
  pub sized : at + 1 + size_separated size_name classes + 2 ≡ r.next
  pub reads : (body : Statements Nothing) (catches : Catches Nothing)
      → Leads statement_depth room (λ o. due (left_paren ∷ []) (due_name (of_classes body catches empty) o)) (rest tokens at)
      (λ o. due (left_brace ∷ []) (due_in_list (of_catch body catches classes variable) no_statement o)) (rest tokens r.next)
  pub ahead : at < r.next
  pub within : r.next ≤ length tokens

abbrev pub AnswersCaught : Reader → ℕ → Result Caught Stop → Type 0
AnswersCaught reader at (Ok r) = FoundCaught reader.room reader.tokens.now at r
AnswersCaught reader at (Err e) = (body : Statements Nothing) (catches : Catches Nothing)
    → Fails statement_depth reader.room (λ o. due (left_paren ∷ []) (due_name (of_classes body catches empty) o)) (rest reader.tokens.now at) reader.tokens.now at e
