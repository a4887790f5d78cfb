-- The cut of a text into pieces, and where a text has none.
use Rattle.std.specs.Prelude.{◌≡◌, ℕ, ◌<◌, List, [], ◌∷◌, ◌++◌, length, Some, None, Ok, Err}
use Rattle.php_lex.specs.declared.fail.LexFail.{LexFail}
use Rattle.php_lex.specs.declared.fail.LexFail.TheVariants.{Unclosed}
use Rattle.php_lex_pieces.specs.Bytes.{Text}
use Rattle.php_lex.specs.Modes.{State, start, mode_of, unclosed, changed}
use Rattle.php_lex.specs.Pieces.{Piece, piece}
use Rattle.php_lex.specs.Reading.{tokens_of, lines_after}
use Rattle.php_token.specs.Token.{Token}

-- pieces, one directly behind the other
abbrev pub joined : List Text → Text
joined [] = []
joined (bytes ∷ pieces) = bytes ++ joined pieces

-- these bytes, with more behind them, are the piece that stands there
pub record Stands (state : State) (line : ℕ) (bytes behind : Text) (p : Piece) : Type 0 where
  pub some : 0 < length bytes
  pub found : piece (mode_of state) line (bytes ++ behind) ≡ Ok p
  pub len : p.len ≡ length bytes

-- Each of the pieces stands where those before it leave off, and `rest` stands behind them. They lead from a
-- state and a line to others, and have these tokens.
abbrev pub Follow : State → ℕ → List Text → Text → State → ℕ → List Token → Type 0
Follow state line [] rest end_state end_line found = (state ≡ end_state) × (line ≡ end_line) × (found ≡ [])
Follow state line (bytes ∷ pieces) rest end_state end_line found =
    (p : Piece) × ((later : List Token) × (Stands state line bytes (joined pieces ++ rest) p × ((found ≡ tokens_of line p ++ later)
    × Follow (changed p.change state) (lines_after line bytes) pieces rest end_state end_line later)))

-- The pieces are a cut of the text, with these tokens: joined they are the text, and nothing is open at its end.
pub record Cuts (text : Text) (pieces : List Text) (found : List Token) : Type 0 where
  pub whole : joined pieces ++ [] ≡ text
  pub end_state : State
  pub end_line : ℕ
  pub follow : Follow start 1 pieces [] end_state end_line found
  pub closed : unclosed end_state ≡ None

-- no piece can be cut from the rest, for that fault; at the end of the text what is open there is unclosed
abbrev pub NoPiece : State → ℕ → Text → LexFail → Type 0
NoPiece state line [] fault = (begun : ℕ) × ((unclosed state ≡ Some begun) × (fault ≡ Unclosed begun))
NoPiece state line (b ∷ text) fault = piece (mode_of state) line (b ∷ text) ≡ Err fault

-- pieces can be cut from the text up to a place, and none there
pub record Stops (text : Text) (fault : LexFail) : Type 0 where
  pub pieces : List Text
  pub rest : Text
  pub state : State
  pub line : ℕ
  pub found : List Token
  pub whole : joined pieces ++ rest ≡ text
  pub follow : Follow start 1 pieces rest state line found
  pub none : NoPiece state line rest fault
