-- What a step of the lexer did.
use Rattle.std.specs.Prelude.{◌≡◌, ◌⊎◌, ℕ, Result, Ok, Err}
use Rattle.php_lex.specs.declared.fail.LexFail.{LexFail}
use Rattle.php_lex.specs.declared.fail.LexFail.TheVariants.{NoMemory}
use Rattle.php_lex.specs.declared.tokens.Builder.{Builder}
use Rattle.php_lex.specs.declared.pieces.Piece as Kept
use Rattle.php_lex_pieces.specs.Bytes.{Text}
use Rattle.php_lex.specs.Entry.{Adds}
use Rattle.php_lex.specs.Modes.{State, mode_of, changed}
use Rattle.php_lex.specs.PieceKept.{IsPieceOf, change_kept, piece_kept}
use Rattle.php_lex.specs.Pieces.{Piece, piece}
use Rattle.php_lex.specs.Reading.{tokens_of}

-- so many bytes are this piece, whose tokens were added and whose change was made
pub record Takes (p : Piece) (line : ℕ) (text : Text) (old_state new_state : State) (old new : Builder) (len : ℕ) : Type 0 where
  pub found : piece (mode_of old_state) line text ≡ Ok p
  pub len_is : len ≡ p.len
  pub within : IsPieceOf len text
  pub state : new_state ≡ changed p.change old_state
  pub added : Adds (tokens_of line p) old.entries.items new.entries.items old.decoded.items new.decoded.items

abbrev pub Steps : ℕ → Text → State → State → Builder → Builder → Result ℕ LexFail → Type 0
Steps line text old_state new_state old new (Ok len) = (p : Piece) × Takes p line text old_state new_state old new len
Steps line text old_state new_state old new (Err fault) = (fault ≡ NoMemory) ⊎ (piece (mode_of old_state) line text ≡ Err fault)

-- what was found was taken: its tokens were added and its change was made
abbrev pub Took : Result Kept.Piece LexFail → ℕ → State → State → Builder → Builder → Result ℕ LexFail → Type 0
Took (Ok p) line old_state new_state old new (Ok len) =
    (len ≡ p.len) × ((new_state ≡ changed (change_kept p.change) old_state)
    × Adds (tokens_of line (piece_kept p)) old.entries.items new.entries.items old.decoded.items new.decoded.items)
Took (Ok p) line old_state new_state old new (Err fault) = fault ≡ NoMemory
Took (Err found) line old_state new_state old new (Ok len) = ⊥
Took (Err found) line old_state new_state old new (Err fault) = fault ≡ found
