-- What the functions of the parser answer that read labels of a `switch`.
use Rattle.std.specs.Prelude.{◌≡◌, ◌≢◌, ◌≤◌, ◌<◌, ℕ, ◌+◌, Bool, true, false, Option, Some, None, Result, Ok, Err, List, length}
use Rattle.php_token.specs.Token.{Token}
use Rattle.php_ast.specs.declared.statement.SwitchForm.{SwitchForm}
use Rattle.php_ast.specs.declared.statement.SwitchForm.TheVariants as switch_form
use Rattle.php_ast.specs.declared.statement.CaseEnd.{CaseEnd}
use Rattle.php_ast.specs.declared.statement.CaseEnd.TheVariants as case_end
use Rattle.php_ast.specs.expression.View.{view}
use Rattle.php_ast.specs.expression.Placed.{notes_of}
use Rattle.php_ast.specs.statement.Tree.{Cases, no_statement}
use Rattle.php_ast.specs.statement.View.{optional}
use Rattle.php_ast.specs.statement.Placed.{size_optional, noted_optional}
use Rattle.php_grammar.specs.declared.closer.Closer.TheVariants as ender
use Rattle.php_grammar.specs.expression.Role.{is_left_brace, is_colon}
use Rattle.php_grammar.specs.expression.Machine.{Nothing, Form}
use Rattle.php_grammar.specs.statement.Role.{Behind, by_case, by_default, Ending, closer, ending}
use Rattle.php_grammar.specs.statement.Forms.{of_case, due_in_list, due_case}
use Rattle.php_grammar.specs.statement.Depth.{statement_depth}
use Rattle.php_reader.specs.declared.reader.Reader.{Reader}
use Rattle.php_reader.specs.declared.fail.Stop.{Stop}
use Rattle.php_reader.specs.Seen.{Shows, rest, test}
use Rattle.php_parse_simple.specs.declared.read.Label.{Label}
use Rattle.php_parse_simple.specs.Walk.{Leads, head_ending}
use Rattle.php_parse_simple.specs.Answer.{Fails}

-- what encloses cases
abbrev pub SeesForm : List Token → ℕ → Option SwitchForm → Type 0
SeesForm tokens at None = (test is_left_brace (rest tokens at) ≡ false) × (test is_colon (rest tokens at) ≡ false)
SeesForm tokens at (Some switch_form.Braces) = Shows is_left_brace tokens at true
SeesForm tokens at (Some switch_form.Colon) = Shows is_colon tokens at true

-- what ends a label
abbrev pub end_closer : CaseEnd → Ending
end_closer case_end.Colon = closer ender.Colon
end_closer case_end.Semicolon = closer ender.Semicolon

abbrev pub SeesCaseEnd : List Token → ℕ → Option CaseEnd → Type 0
SeesCaseEnd tokens at None = (head_ending (rest tokens at) ≢ closer ender.Colon) × (head_ending (rest tokens at) ≢ closer ender.Semicolon)
SeesCaseEnd tokens at (Some end) = Shows ending tokens at (end_closer end)

-- the word of a label
abbrev pub label_behind : Bool → Behind
label_behind true = by_default
label_behind false = by_case

pub record FoundLabel (room : ℕ) (tokens : List Token) (at : ℕ) (r : Label) : Type 0 where
  pub label : Option Form
  pub shown : optional view r.value ≡ noted_optional (notes_of tokens) (at + 1) label
  pub sized : at + 1 + size_optional label + 1 ≡ r.next
  pub reads : (e : Form) (form : SwitchForm) (cases : Cases Nothing)
      → Leads statement_depth room (λ o. due_case e form cases o) (rest tokens at) (λ o. due_in_list (of_case e form cases label r.end) no_statement o) (rest tokens r.next)
  pub ahead : at < r.next
  pub within : r.next ≤ length tokens

abbrev pub AnswersLabel : Reader → ℕ → Result Label Stop → Type 0
AnswersLabel reader at (Ok r) = FoundLabel reader.room reader.tokens.now at r
AnswersLabel reader at (Err e) = (value : Form) (form : SwitchForm) (cases : Cases Nothing)
    → Fails statement_depth reader.room (λ o. due_case value form cases o) (rest reader.tokens.now at) reader.tokens.now at e
