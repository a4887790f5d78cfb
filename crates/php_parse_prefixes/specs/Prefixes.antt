-- What the productions answer that read what stands before the first operator, and what looks answer them.
use Rattle.std.specs.Prelude.{◌≡◌, ◌≢◌, ◌<◌, ℕ, ◌+◌, true, false, Option, Some, None, Result, List, ◌∷◌}
use Rattle.php_token.specs.Token.{Token}
use Rattle.php_ast.specs.expression.Tree as tree
use Rattle.php_ast.specs.expression.Proper.{ends, free, operand_level}
use Rattle.php_ast.specs.expression.View.{view}
use Rattle.php_grammar.specs.expression.Role as role
use Rattle.php_grammar.specs.expression.Role.{continuation, draws, ends_yield}
use Rattle.php_grammar.specs.expression.Laws.{head_continuation}
use Rattle.php_grammar.specs.expression.Machine.{Form, holds, yield_open}
use Rattle.php_reader.specs.declared.reader.Reader.{Reader}
use Rattle.php_reader.specs.declared.fail.Stop.{Stop}
use Rattle.php_reader.specs.declared.role.Opening.{Opening}
use Rattle.php_reader.specs.declared.role.Opening.TheVariants as opening
use Rattle.php_reader.specs.declared.role.Next.{Next}
use Rattle.php_reader.specs.RoleView.{next_view}
use Rattle.php_reader.specs.Seen.{rest, Follows, Shows}
use Rattle.php_parse_operands.specs.declared.read.Read.{Read}
use Rattle.php_parse_operands.specs.declared.read.Operand.{Operand}
use Rattle.php_parse_operands.specs.Walk.{Rests}
use Rattle.php_parse_operands.specs.Answer.{Spans, Answers}
use Rattle.php_parse_prefixes.specs.declared.prefixes.Change.{Change}
use Rattle.php_parse_prefixes.specs.declared.prefixes.Change.TheVariants as change

-- ---- what stands behind an operand or a `yield`, in all open forms in which that may stand

-- an assignment to an operand
abbrev pub AnswersAssigned : Operand → Reader → Result Read Stop → Type 0
AnswersAssigned left reader r =
    (f : Form) (start : ℕ) → Spans reader.tokens.now (view left.expr) f start left.next → free < ends f
    → Answers reader.room free free (λ s. holds f s) (rest reader.tokens.now left.next) reader.tokens.now start left.next r

-- the value behind the key of a `yield` that stands at a place
abbrev pub AnswersYield : Read → Reader → ℕ → Result Read Stop → Type 0
AnswersYield key reader at r =
    (k : Form) → Spans reader.tokens.now (view key.expr) k (at + 1) key.next
    → Answers reader.room free free (λ s. holds k (yield_open ∷ s)) (rest reader.tokens.now key.next) reader.tokens.now at key.next r

-- what the token behind a `static` does that stands alone
abbrev pub SeesStatic : List Token → ℕ → Opening → Option Next → Type 0
SeesStatic tokens at begun (Some behind) = (begun ≡ opening.Static) × (next_view behind ≢ draws (role.by_select tree.colons)) × Follows tokens (at + 1) (next_view behind)
SeesStatic tokens at begun None = begun ≡ opening.Static → Shows continuation tokens (at + 1) (draws (role.by_select tree.colons))

-- what the token behind a `yield` does that stands alone
abbrev pub SeesLone : List Token → ℕ → Option Next → Type 0
SeesLone tokens at (Some behind) = Follows tokens at (next_view behind) × (ends_yield (next_view behind) ≡ true)
SeesLone tokens at None = ends_yield (head_continuation (rest tokens at)) ≡ false

-- whether the operand before is changed, where no suffix follows
abbrev pub SeesChange : List Token → ℕ → Option Change → Type 0
SeesChange tokens at None = (edge : ℕ) → Rests operand_level edge (rest tokens at) → Rests free edge (rest tokens at)
SeesChange tokens at (Some (change.Assign op)) = Shows continuation tokens at (draws (role.by_assign op))
SeesChange tokens at (Some (change.Count count)) = Shows continuation tokens at (draws (role.by_count count))
