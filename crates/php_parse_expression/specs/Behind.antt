-- What the productions answer that read what stands behind an expression, and what looks answer them.
use Rattle.std.specs.Prelude.{◌≡◌, ◌≤◌, ◌<◌, ℕ, Option, Some, None, Result, List}
use Rattle.php_token.specs.Token.{Token}
use Rattle.php_ast.specs.expression.Proper.{ends, free}
use Rattle.php_ast.specs.expression.View.{view}
use Rattle.php_grammar.specs.expression.Role.{continuation, draws, draw_strength}
use Rattle.php_grammar.specs.expression.Machine.{Form, expects, holds}
use Rattle.php_reader.specs.declared.reader.Reader.{Reader}
use Rattle.php_reader.specs.declared.fail.Stop.{Stop}
use Rattle.php_parse_operands.specs.declared.read.Read.{Read}
use Rattle.php_reader.specs.RoleView.{infix_view}
use Rattle.php_reader.specs.declared.role.Infix.{Infix}
use Rattle.php_reader.specs.Seen.{rest, Shows}
use Rattle.php_parse_operands.specs.Walk.{Rests}
use Rattle.php_parse_operands.specs.Answer.{Fails, Spans, Answers}

-- ---- what stands behind an expression, in all open forms in which that expression may stand

-- an operator and its right side
abbrev pub AnswersBehind : Read → ℕ → Reader → Result Read Stop → Type 0
AnswersBehind left least reader r =
    (f : Form) (start : ℕ) → Spans reader.tokens.now (view left.expr) f start left.next → ends f ≡ left.edge
    → Answers reader.room least free (λ s. holds f s) (rest reader.tokens.now left.next) reader.tokens.now start left.next r

-- whether an operator goes on with an expression
abbrev pub SeesInfix : List Token → ℕ → ℕ → ℕ → Option Infix → Type 0
SeesInfix tokens at least edge None = Rests free edge (rest tokens at) → Rests least edge (rest tokens at)
SeesInfix tokens at least edge (Some op) = Shows continuation tokens at (draws (infix_view op)) × (least ≤ draw_strength (infix_view op)) × (draw_strength (infix_view op) < edge)

-- what is answered where no level is left
abbrev pub AnswersNone : ℕ → List Token → ℕ → Stop → Type 0
AnswersNone least tokens at e = Fails 0 least (λ s. expects s) (rest tokens at) tokens at e
