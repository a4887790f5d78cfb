-- What the functions of the parser answer.
use Rattle.std.specs.Prelude.{◌≡◌, ◌≢◌, ◌≤◌, ◌<◌, ℕ, ◌+◌, Option, Some, None, List, [], ◌∷◌, drop, length}
use Rattle.php_first_tree.specs.Expression.{Expression, Part, value, text, Command, Statement, part_view, command_view}
use Rattle.php_first_tree.specs.declared.Atom.{Atom}
use Rattle.php_first_tree.specs.declared.Sign.{Sign}
use Rattle.php_first_tree.specs.declared.Sign.TheVariants as sign
use Rattle.php_first_tree.specs.declared.Action.{Action}
use Rattle.php_first_tree.specs.declared.Part as tree_part
use Rattle.php_first_tokens.specs.declared.token.Lexeme.{Lexeme}
use Rattle.php_first_tokens.specs.declared.token.Lexeme.TheVariants as lexeme
use Rattle.php_first_tokens.specs.declared.token.Token.{Token}
use Rattle.php_first_parse.specs.declared.sums.Read.{Read}
use Rattle.php_first_parse.specs.Spelling.{Level, atom, product, sum, SpellsAt, SpellsPart, SpellsCommand, at_line}
use Rattle.php_first_parse.specs.Machine.{Begun, Frame, fresh, Context, due, wants_part, wants, opened, step, run}

-- the token at a place, and those behind it
abbrev pub Sees : List Token → ℕ → Option Token → Type 0
Sees tokens at None = drop at tokens ≡ []
Sees tokens at (Some token) = (drop at tokens ≡ token ∷ drop (at + 1) tokens) × (at < length tokens)

-- a token with this lexeme stands at the place
abbrev pub Stands : List Token → ℕ → Lexeme → Type 0
Stands tokens at l = (line : ℕ) × (drop at tokens ≡ at_line l line ∷ drop (at + 1) tokens) × (at < length tokens)

abbrev pub Shows : List Token → ℕ → Option Lexeme → Type 0
Shows tokens at None = drop at tokens ≡ []
Shows tokens at (Some l) = Stands tokens at l

abbrev pub HeadIsNot : Lexeme → List Token → Type 0
HeadIsNot l [] = Unit {0}
HeadIsNot l (token ∷ tokens) = token.lexeme ≢ l

abbrev pub lexeme_of : Sign → Lexeme
lexeme_of sign.Plus = lexeme.Plus
lexeme_of sign.Minus = lexeme.Minus

-- no sign stands in front of the tokens
abbrev pub HeadIsNoSign : List Token → Type 0
HeadIsNoSign tokens = HeadIsNot lexeme.Plus tokens × HeadIsNot lexeme.Minus tokens

abbrev pub ShowsSign : List Token → ℕ → Option Sign → Type 0
ShowsSign tokens at None = HeadIsNoSign (drop at tokens)
ShowsSign tokens at (Some s) = Stands tokens at (lexeme_of s)

-- what is read of a level goes on as far as it can
abbrev pub Ends : Level → List Token → Type 0
Ends atom rest = Unit {0}
Ends product rest = HeadIsNot lexeme.Star rest
Ends sum rest = HeadIsNot lexeme.Star rest × HeadIsNoSign rest

-- the expression stands from a place to before another
pub record Found (level : Level) (depth : ℕ) (e : Expression) (tokens : List Token) (at next : ℕ) : Type 0 where
  pub spelled : SpellsAt level depth e (drop at tokens) (drop next tokens)
  pub ends : Ends level (drop next tokens)
  pub ahead : at < next
  pub within : next ≤ length tokens

-- No statements are spelled by tokens that go on so, where an atom, a product or a sum is due among parentheses that leave so many.
abbrev pub Fails : Level → ℕ → List Token → Type 0
Fails atom depth rest = (c : Context) (f : Frame) → length c.outer + depth ≡ 128 → run (Some (wants c f)) rest ≡ None
Fails product depth rest = (c : Context) (s : Option Begun) → length c.outer + depth ≡ 128 → run (Some (wants c (record { sum = s; product = None }))) rest ≡ None
Fails sum depth rest = (c : Context) → length c.outer + depth ≡ 128 → run (Some (wants c fresh)) rest ≡ None

abbrev pub Answers : {T : Type 0} → Level → (T → Expression) → ℕ → List Token → ℕ → Option (Read T) → Type 0
Answers level view depth tokens at None = Fails level depth (drop at tokens)
Answers level view depth tokens at (Some r) = Found level depth (view r.tree) tokens at r.next

-- what was said of an atom, where the tokens from a place on stand behind its opening parenthesis
pub record FoundGroup (depth : ℕ) (e : Expression) (tokens : List Token) (at next : ℕ) : Type 0 where
  pub spelled : (line : ℕ) → SpellsAt atom depth e (at_line lexeme.Open line ∷ drop at tokens) (drop next tokens)
  pub ahead : at < next
  pub within : next ≤ length tokens

abbrev pub AnswersGroup : (Atom → Expression) → ℕ → List Token → ℕ → Option (Read Atom) → Type 0
AnswersGroup view depth tokens at None = (c : Context) (f : Frame) → length c.outer + depth ≡ 128 → run (opened c f) (drop at tokens) ≡ None
AnswersGroup view depth tokens at (Some r) = FoundGroup depth (view r.tree) tokens at r.next

-- a sum that is a part of an `echo` goes on as far as it can; a text is one token
abbrev pub PartEnds : Part → List Token → Type 0
PartEnds (value e) rest = Ends sum rest
PartEnds (text at) rest = Unit {0}

-- the part stands from a place to before another
pub record FoundPart (p : Part) (tokens : List Token) (at next : ℕ) : Type 0 where
  pub spelled : SpellsPart p (drop at tokens) (drop next tokens)
  pub ends : PartEnds p (drop next tokens)
  pub ahead : at < next
  pub within : next ≤ length tokens

-- where there is none, no statements are spelled by tokens that go on so behind an `echo` and any parts with their commas
abbrev pub AnswersPart : List Token → ℕ → Option (Read tree_part.Part) → Type 0
AnswersPart tokens at None = (done : List Statement) (line : ℕ) (parts : List Part) → run (Some (wants_part done line parts)) (drop at tokens) ≡ None
AnswersPart tokens at (Some r) = FoundPart (part_view r.tree) tokens at r.next

-- The tokens from a place on, and one with this lexeme before them, are a command. That one may be all of it.
pub record FoundCommand (first : Lexeme) (command : Command) (tokens : List Token) (at next : ℕ) : Type 0 where
  pub spelled : (line : ℕ) → SpellsCommand command line (at_line first line ∷ drop at tokens) (drop next tokens)
  pub ahead : at ≤ next
  pub within : next ≤ length tokens

abbrev pub AnswersCommand : Lexeme → List Token → ℕ → Option (Read Action) → Type 0
AnswersCommand first tokens at None = (done : List Statement) (line : ℕ) → run (step (due done) line first) (drop at tokens) ≡ None
AnswersCommand first tokens at (Some r) = FoundCommand first (command_view r.tree) tokens at r.next
