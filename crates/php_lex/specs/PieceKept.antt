-- How the code keeps a piece.
use Rattle.std.specs.Prelude.{◌≡◌, ◌<◌, ◌≤◌, length, ℕ, false, Option, Some, None, Result, Ok, Err}
use Rattle.php_lex.specs.declared.fail.LexFail.{LexFail}
use Rattle.php_lex.specs.declared.pieces.Change.{Change}
use Rattle.php_lex.specs.declared.pieces.Change.TheVariants as Kept
use Rattle.php_lex.specs.declared.pieces.Wording.{Wording}
use Rattle.php_lex.specs.declared.pieces.Wording.TheVariants.{Plain, Raw, Template}
use Rattle.php_lex.specs.declared.pieces.Draft.{Draft}
use Rattle.php_lex.specs.declared.pieces.Piece.{Piece}
use Rattle.php_lex_pieces.specs.Bytes.{Text}
use Rattle.php_lex_pieces.specs.Comments.{raw_value}
use Rattle.php_lex_pieces.specs.Delimiters.{delimiter_of}
use Rattle.php_lex.specs.Kept.{mode_kept}
use Rattle.php_lex.specs.Modes as Modes
use Rattle.php_lex.specs.Pieces as Pieces
use Rattle.php_lex_pieces.specs.Templates.{text_value}

abbrev pub text_kept : Wording → Text
text_kept (Plain text) = text.now
text_kept (Raw text) = raw_value false text.now
text_kept (Template by text) = text_value (delimiter_of by) text.now

abbrev pub draft_kept : Option Draft → Option Pieces.Draft
draft_kept None = None
draft_kept (Some draft) = Some (record { kind = draft.kind; text = text_kept draft.text; int = draft.int })

abbrev pub change_kept : Change → Modes.Change
change_kept Kept.Stay = Modes.stay
change_kept (Kept.Enter mode) = Modes.enter (mode_kept mode)
change_kept Kept.Leave = Modes.leave
change_kept (Kept.Turn mode) = Modes.turn (mode_kept mode)

abbrev pub piece_kept : Piece → Pieces.Piece
piece_kept p =
    record { len = p.len; opens_part = p.opens_part; token = draft_kept p.token; ends_part = p.ends_part; change = change_kept p.change }

-- a piece of so many bytes stands at the front of the text
abbrev pub IsPieceOf : ℕ → Text → Type 0
IsPieceOf len text = (0 < len) × (len ≤ length text)

-- what a function found, and what it had to find
abbrev pub Finds : Result Piece LexFail → Pieces.Found → Type 0
Finds (Ok p) found = found ≡ Ok (piece_kept p)
Finds (Err fault) found = found ≡ Err fault
