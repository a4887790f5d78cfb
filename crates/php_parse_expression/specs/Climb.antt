-- What climbing by powers has read: operators that wait for their right sides, one inside the other, and what was read
-- since.
use Rattle.std.specs.Prelude.{◌≡◌, ◌≤◌, ◌<◌, ℕ, ◌+◌, ◌-◌, ◌*◌, min, true, Result, Ok, Err, List, [], ◌∷◌, length}
use Rattle.php_token.specs.Token.{Token}
use Rattle.php_ast.specs.Symbol.{Symbol}
use Rattle.php_ast.specs.expression.Tree.{Tree}
use Rattle.php_ast.specs.expression.Proper.{edge, ends, ends_bare, right, free}
use Rattle.php_ast.specs.expression.View.{Note, view}
use Rattle.php_grammar.specs.expression.Machine.{Form, OpenForm, OpenForms, State, expects, holds, then_open, least_power_at, ends_at, completed}
use Rattle.php_grammar.specs.expression.Depth.{deepened}
use Rattle.php_reader.specs.declared.reader.Reader.{Reader}
use Rattle.php_reader.specs.declared.fail.Stop.{Stop}
use Rattle.php_parse_operands.specs.declared.read.Read.{Read}
use Rattle.php_parse_expression.specs.declared.pending.Pending.{Pending}
use Rattle.php_parse_expression.specs.declared.pending.Onward.{Onward}
use Rattle.php_parse_expression.specs.declared.pending.Onward.TheVariants as onward
use Rattle.php_parse_expression.specs.BetweenView.{row_between, between_view}
use Rattle.php_reader.specs.Seen.{rest}
use Rattle.php_parse_operands.specs.Walk.{Leads}
use Rattle.php_parse_operands.specs.Answer.{Spans, Fails, Found}

-- an operator with its right side
pub record Completes (p : Pending) (right_side r : Read) : Type 0 where
  pub shown : view r.expr ≡ between_view p.between (view p.left) (view right_side.expr)
  pub edge_is : r.edge ≡ min (edge (row_between p.between)) right_side.edge
  pub next_is : r.next ≡ right_side.next
  pub behind_is : r.behind ≡ right_side.behind

-- An operator was read, from a state before the symbols w to where its right side begins. The tree begins at `start`.
pub record Waits (room least : ℕ) (from : OpenForms → State) (w : List Symbol) (tokens : List Token) (start : ℕ) (p : Pending) (next : ℕ) : Type 0 where
  pub form : OpenForm
  pub reads : Leads room least from w (λ s. expects (form ∷ s)) (rest tokens next)
  pub least_is : p.least ≡ least
  pub right_is : least_power_at form ≡ right (row_between p.between)
  pub as_deep : (d : ℕ) → deepened form d ≡ d
  pub arrow : ends_at true form ≡ least_power_at form
  pub shown : (e : Tree Note) (x : Form) (behind : ℕ) → Spans tokens e x next behind → Spans tokens (between_view p.between (view p.left) e) (completed form x) start behind
  pub ends_is : (x : Form) → ends (completed form x) ≡ min (edge (row_between p.between)) (ends x)
  pub bare_is : (x : Form) → ends_bare (completed form x) ≡ ends_bare x
  pub ahead : start < next
  pub within : next ≤ length tokens

-- Behind what was read, an operator leads behind a longer expression or into its right side.
abbrev pub LeadsOn : ℕ → ℕ → (OpenForms → State) → List Symbol → List Token → ℕ → ℕ → Result Onward Stop → Type 0
LeadsOn room least from w tokens start at (Ok (onward.Behind r)) = Found room least free from w tokens start at r
LeadsOn room least from w tokens start at (Ok (onward.Inside p next)) = Waits room least from w tokens start p next × (at < next)
LeadsOn room least from w tokens start at (Err e) = Fails room least from w tokens at e

abbrev pub AnswersOnward : Read → ℕ → Reader → Result Onward Stop → Type 0
AnswersOnward left least reader r =
    (f : Form) (start : ℕ) → Spans reader.tokens.now (view left.expr) f start left.next → ends f ≡ left.edge
    → LeadsOn reader.room least (λ s. holds f s) (rest reader.tokens.now left.next) reader.tokens.now start left.next r

-- likewise behind the middle of a `? :`
abbrev pub AnswersHalf : Read → Read → ℕ → Reader → Result Onward Stop → Type 0
AnswersHalf left middle least reader r =
    (f m : Form) (start : ℕ) → Spans reader.tokens.now (view left.expr) f start left.next → Spans reader.tokens.now (view middle.expr) m (left.next + 1) middle.next
    → LeadsOn reader.room least (λ s. holds m (then_open f ∷ s)) (rest reader.tokens.now middle.next) reader.tokens.now start middle.next r

-- From `at` on an operator was read, and more from where its right side begins.
pub record Inside (room least : ℕ) (tokens : List Token) (at : ℕ) (p : Pending) (More : ℕ → Type 0) : Type 0 where
  pub next : ℕ
  pub waits : Waits room least (λ s. expects s) (rest tokens at) tokens at p next
  pub more : More next

-- From `at` on, among operators of a power of at least `least`, these operators wait, from the outside inwards; the right
-- side of the innermost begins at `inner_at`, among operators of a power of at least `inner`.
abbrev pub Pends : ℕ → ℕ → List Token → ℕ → List Pending → ℕ → ℕ → Type 0
Pends room least tokens at [] inner inner_at = (least ≡ inner) × (at ≡ inner_at)
Pends room least tokens at (p ∷ ps) inner inner_at =
    Inside room least tokens at p (λ next. Pends room (right (row_between p.between)) tokens next ps inner inner_at)

-- and this was read of it
pub record Climbs (room least : ℕ) (tokens : List Token) (at : ℕ) (pending : List Pending) (inner : ℕ) (r : Read) : Type 0 where
  pub inner_at : ℕ
  pub pends : Pends room least tokens at pending inner inner_at
  pub found : Found room inner free (λ s. expects s) (rest tokens inner_at) tokens inner_at inner_at r
  pub some : 1 ≤ inner
  pub most : inner ≤ free

-- What is left: each operator takes a token, and waits once.
abbrev pub remaining : List Token → List Pending → Read → ℕ
remaining tokens pending r = 2 * (length tokens - r.next) + length pending
