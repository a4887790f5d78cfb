-- The cut of a text into pieces, each of which is the longest of its forms, and where a text has none.
use Rattle.std.specs.Prelude.{◌≡◌, ℕ, ◌<◌, List, [], ◌∷◌, ◌++◌, length, Some, None}
use Rattle.php_lex.specs.declared.fail.LexFail.{LexFail}
use Rattle.php_lex.specs.declared.fail.LexFail.TheVariants.{Unclosed}
use Rattle.php_lex_pieces.specs.Bytes.{Text}
use Rattle.php_lex.specs.Cut.{joined}
use Rattle.php_lex.specs.Modes.{State, start, mode_of, unclosed, changed}
use Rattle.php_lex.specs.Pieces.{Piece}
use Rattle.php_lex.specs.Reading.{tokens_of, lines_after}
use Rattle.php_token.specs.Token.{Token}
use Rattle.php_lex_laws.specs.Longest.{Form, given, IsPieceAt, IsFaultAt}

-- these bytes, with more behind them, are the longest of a form of the mode, and give p
pub record IsLongest (state : State) (line : ℕ) (bytes behind : Text) (p : Piece) : Type 0 where
  pub some : 0 < length bytes
  pub form : Form (mode_of state)
  pub at : IsPieceAt (mode_of state) (bytes ++ behind) (length bytes) form
  pub gives : p ≡ given (mode_of state) form line (bytes ++ behind) (length bytes)

-- Each of the pieces stands where those before it leave off, and `rest` stands behind them. They lead from a state and a
-- line to others, and have these tokens.
abbrev pub AreLongest : State → ℕ → List Text → Text → State → ℕ → List Token → Type 0
AreLongest state line [] rest end_state end_line found = (state ≡ end_state) × (line ≡ end_line) × (found ≡ [])
AreLongest state line (bytes ∷ pieces) rest end_state end_line found =
    (p : Piece) × ((later : List Token) × (IsLongest state line bytes (joined pieces ++ rest) p × ((found ≡ tokens_of line p ++ later)
    × AreLongest (changed p.change state) (lines_after line bytes) pieces rest end_state end_line later)))

-- The pieces are a cut of the text, with these tokens: joined they are the text, each is the longest there, and nothing is
-- open at the end.
pub record IsCut (text : Text) (pieces : List Text) (found : List Token) : Type 0 where
  pub whole : joined pieces ++ [] ≡ text
  pub end_state : State
  pub end_line : ℕ
  pub longest : AreLongest start 1 pieces [] end_state end_line found
  pub closed : unclosed end_state ≡ None

-- No piece stands at the front of the rest, for that fault. At the end of the text what is open there is unclosed.
abbrev pub IsNone : State → ℕ → Text → LexFail → Type 0
IsNone state line [] fault = (begun : ℕ) × ((unclosed state ≡ Some begun) × (fault ≡ Unclosed begun))
IsNone state line (b ∷ text) fault = IsFaultAt (mode_of state) line (b ∷ text) fault

-- pieces that are the longest can be cut from the text up to a place, and none there
pub record IsStop (text : Text) (fault : LexFail) : Type 0 where
  pub pieces : List Text
  pub rest : Text
  pub state : State
  pub line : ℕ
  pub found : List Token
  pub whole : joined pieces ++ rest ≡ text
  pub longest : AreLongest start 1 pieces rest state line found
  pub none : IsNone state line rest fault
