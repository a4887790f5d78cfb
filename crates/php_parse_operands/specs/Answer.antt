-- What the functions of the parser answer.
use Rattle.std.specs.Prelude.{◌≡◌, ◌≤◌, ◌<◌, ℕ, ◌+◌, ◌-◌, Bool, true, false, Option, Some, None, Result, Ok, Err, List, map, length}
use denote.Ref.{Bor}
use Rattle.php_token.specs.Token.{Token, token_at}
use Rattle.php_ast.specs.declared.expression.Expr.{Expr}
use Rattle.php_ast.specs.declared.expression.Suffix.{Suffix}
use Rattle.php_ast.specs.Symbol.{Symbol}
use Rattle.php_ast.specs.expression.Tree.{Tree}
use Rattle.php_ast.specs.expression.Proper.{ends, ends_bare, free, is_call, top, operand_level}
use Rattle.php_ast.specs.expression.View as shown
use Rattle.php_ast.specs.expression.View.{Note, view}
use Rattle.php_ast.specs.expression.Placed.{size, noted, notes_of}
use Rattle.php_grammar.specs.expression.Role.{continuation, draws, draw_strength, ends_yield}
use Rattle.php_grammar.specs.expression.Laws.{head_continuation}
use Rattle.php_grammar.specs.expression.Machine.{Form, OpenForms, State, expects, holds, after}
use Rattle.php_reader.specs.declared.reader.Reader.{Reader}
use Rattle.php_reader.specs.declared.fail.Stop.{Stop}
use Rattle.php_reader.specs.declared.fail.Stop.TheVariants.{Syntax, TooDeep, NoMemory}
use Rattle.php_parse_operands.specs.declared.read.Read.{Read}
use Rattle.php_parse_operands.specs.declared.read.Taken.{Taken}
use Rattle.php_parse_operands.specs.declared.read.Operand.{Operand}
use Rattle.php_parse_operands.specs.declared.read.Followed.{Followed}
use Rattle.php_ast.specs.expression.Parts.{suffix_with}
use Rattle.php_build.specs.Flat.{are_flat_suffixes}
use Rattle.php_reader.specs.declared.role.Start.{Start}
use Rattle.php_reader.specs.declared.role.Tail.{Tail}
use Rattle.php_reader.specs.RoleView.{next_view, start_view, tail_view}
use Rattle.php_reader.specs.Seen.{rest, Follows, Shows, Starts}
use Rattle.php_parse_operands.specs.Walk.{Leads, Halts, Rests}

-- ---- failures

-- The reading stops in front of the token at a place, not before those that were read already.
pub record StopsAt (too_deep : Bool) (room least : ℕ) (from : OpenForms → State) (w : List Symbol) (tokens : List Token) (at k : ℕ) : Type 0 where
  pub halts : Halts too_deep room least from w (rest tokens k)
  pub ahead : at ≤ k
  pub within : k ≤ length tokens

-- from a state before the symbols w
abbrev pub Fails : ℕ → ℕ → (OpenForms → State) → List Symbol → List Token → ℕ → Stop → Type 0
Fails room least from w tokens at (Syntax k) = StopsAt false room least from w tokens at k
Fails room least from w tokens at (TooDeep k) = StopsAt true room least from w tokens at k
Fails room least from w tokens at NoMemory = Unit {0}

-- ---- trees

-- The tree has this form, and its notes are about the tokens from one place to before another.
pub record Spans (tokens : List Token) (e : Tree Note) (form : Form) (at next : ℕ) : Type 0 where
  pub shown : e ≡ noted (notes_of tokens) at form
  pub sized : at + size form ≡ next

-- An expression was read, from a state before the symbols w to the state that holds it.
pub record Found (room least below : ℕ) (from : OpenForms → State) (w : List Symbol) (tokens : List Token) (start at : ℕ) (r : Read) : Type 0 where
  pub form : Form
  pub spans : Spans tokens (view r.expr) form start r.next
  pub reads : Leads room least from w (λ s. holds form s) (rest tokens r.next)
  pub edge_is : ends form ≡ r.edge
  pub rests : Rests below (ends form) (rest tokens r.next)
  pub follows : Follows tokens r.next (next_view r.behind)
  -- a `yield` alone at the end stands before what may follow it
  pub bare : ends_bare form ≡ true → ends_yield (head_continuation (rest tokens r.next)) ≡ true
  pub ahead : at < r.next
  pub within : r.next ≤ length tokens
  pub deep : 1 ≤ room

abbrev pub Answers : ℕ → ℕ → ℕ → (OpenForms → State) → List Symbol → List Token → ℕ → ℕ → Result Read Stop → Type 0
Answers room least below from w tokens start at (Ok r) = Found room least below from w tokens start at r
Answers room least below from w tokens start at (Err e) = Fails room least from w tokens at e

-- the expression that begins at a place
abbrev pub AnswersHere : Reader → ℕ → ℕ → ℕ → Result Read Stop → Type 0
AnswersHere reader least below at r = Answers reader.room least below (λ s. expects s) (rest reader.tokens.now at) reader.tokens.now at at r

-- likewise, one level deeper
abbrev pub AnswersInside : Reader → ℕ → ℕ → Result Read Stop → Type 0
AnswersInside reader least at r = Answers (reader.room - 1) least least (λ s. expects s) (rest reader.tokens.now at) reader.tokens.now at at r

-- ---- the parser as a value

-- What reads expressions with less than so many levels of nesting left.
pub record Nests (bound : ℕ) (allows : Bor Reader → ℕ → Start → ℕ → Type 0) (gives : Bor Reader → ℕ → Start → ℕ → Result Read Stop → Type 0) : Type 0 where
  pub callable : (reader : Bor Reader) (at : ℕ) (begun : Start) (least : ℕ) → at ≤ length reader.now.tokens.now → 1 ≤ least → least ≤ free → reader.now.room < bound
      → Starts reader.now.tokens.now at (start_view begun (token_at reader.now.tokens.now at).text) → allows reader at begun least
  pub reads : (reader : Bor Reader) (at : ℕ) (begun : Start) (least : ℕ) (r : Result Read Stop) → gives reader at begun least r → AnswersHere reader.now least least at r

-- ---- operands

-- an operand without suffixes
pub record FoundLeaf (room : ℕ) (tokens : List Token) (at : ℕ) (r : Taken) : Type 0 where
  pub form : Form
  pub spans : Spans tokens (view r.expr) form at r.next
  pub reads : Leads room top (λ s. expects s) (rest tokens at) (λ s. holds form s) (rest tokens r.next)
  pub edge_is : ends form ≡ r.edge
  pub opened : free < ends form
  pub no_call : is_call form ≡ false
  pub follows : Follows tokens r.next (next_view r.behind)
  pub ahead : at < r.next
  pub within : r.next ≤ length tokens

abbrev pub AnswersLeaf : Reader → ℕ → Result Taken Stop → Type 0
AnswersLeaf reader at (Ok r) = FoundLeaf reader.room reader.tokens.now at r
AnswersLeaf reader at (Err e) = Fails reader.room top (λ s. expects s) (rest reader.tokens.now at) reader.tokens.now at e

-- with its suffixes
pub record FoundOperand (room : ℕ) (tokens : List Token) (at : ℕ) (r : Operand) : Type 0 where
  pub form : Form
  pub spans : Spans tokens (view r.expr) form at r.next
  pub reads : Leads room top (λ s. expects s) (rest tokens at) (λ s. after form s) (rest tokens r.next)
  pub edge_is : ends form ≡ r.edge
  pub opened : free < ends form
  pub call_is : is_call form ≡ r.is_call
  pub call_open : is_call form ≡ true → ends form ≡ top
  pub rests : Rests operand_level (ends form) (rest tokens r.next)
  pub follows : Follows tokens r.next (next_view r.behind)
  pub ahead : at < r.next
  pub within : r.next ≤ length tokens

abbrev pub AnswersOperand : Reader → ℕ → Result Operand Stop → Type 0
AnswersOperand reader at (Ok r) = FoundOperand reader.room reader.tokens.now at r
AnswersOperand reader at (Err e) = Fails reader.room top (λ s. expects s) (rest reader.tokens.now at) reader.tokens.now at e

-- whether a suffix follows that what stands before is open to
abbrev pub SeesTail : List Token → ℕ → ℕ → Option Tail → Type 0
SeesTail tokens at edge None = Rests operand_level edge (rest tokens at)
SeesTail tokens at edge (Some first) = Shows continuation tokens at (draws (tail_view first)) × (draw_strength (tail_view first) < edge)

-- a suffix of an operand of some form that begins at a place
pub record FoundSuffix (room : ℕ) (f : Form) (tokens : List Token) (start at : ℕ) (r : Followed) : Type 0 where
  pub form : Form
  pub spans : Spans tokens (shown.with_suffix (noted (notes_of tokens) start f) (suffix_with view r.suffix)) form start r.next
  pub reads : Leads room top (λ s. after f s) (rest tokens at) (λ s. after form s) (rest tokens r.next)
  pub ends_is : ends form ≡ top
  pub call_is : is_call form ≡ r.is_call
  pub ahead : at < r.next
  pub within : r.next ≤ length tokens

abbrev pub AnswersSuffix : Reader → Form → ℕ → ℕ → Result Followed Stop → Type 0
AnswersSuffix reader f start at (Ok r) = FoundSuffix reader.room f reader.tokens.now start at r
AnswersSuffix reader f start at (Err e) = Fails reader.room top (λ s. after f s) (rest reader.tokens.now at) reader.tokens.now at e

-- ---- what loops have read so far

-- an operand with some suffixes
pub record OperandSoFar (room : ℕ) (tokens : List Token) (at : ℕ) (first : Expr) (suffixes : List (Suffix Expr)) (edge : ℕ) (called : Bool) (next : ℕ) : Type 0 where
  pub form : Form
  pub spans : Spans tokens (shown.with_suffixes (view first) (map (suffix_with view) suffixes)) form at next
  pub flat : are_flat_suffixes suffixes ≡ true
  pub reads : Leads room top (λ s. expects s) (rest tokens at) (λ s. after form s) (rest tokens next)
  pub edge_is : ends form ≡ edge
  pub opened : free < ends form
  pub call_is : is_call form ≡ called
  pub call_open : is_call form ≡ true → ends form ≡ top
  pub ahead : at < next
  pub within : next ≤ length tokens
