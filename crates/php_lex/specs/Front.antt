-- What stands at the front of a script, by one look at it.
use Rattle.std.specs.Prelude.{◌≡◌, ℕ, ◌≤◌, length, false, Some, Ok, Err}
use Rattle.php_lex.specs.declared.fail.LexFail.TheVariants.{BadByte}
use Rattle.php_lex.specs.declared.front.Front.{Front}
use Rattle.php_lex.specs.declared.front.Front.TheVariants.{Nothing, Simple, General}
use Rattle.php_lex.specs.declared.front.Kind.{Kind}
use Rattle.php_lex.specs.declared.front.Kind.TheVariants as Begins
use Rattle.php_lex.specs.declared.front.Simple.{Simple as SimpleType}
use Rattle.php_lex_pieces.specs.Bytes.{Text}
use Rattle.php_lex_pieces.specs.Heredocs.{IsWithin}
use Rattle.php_lex.specs.Modes.{Mode, stay}
use Rattle.php_lex.specs.PieceKept.{IsPieceOf}
use Rattle.php_lex.specs.Pieces.{Piece, Found, nothing, raw, quoted, block_comment, labelled_piece, sign_piece, end_tag, number_fault}

abbrev pub simple_kept : SimpleType → Piece
simple_kept s =
    record { len = s.len; opens_part = false; token = Some (record { kind = s.kind; text = s.text.now; int = s.int }); ends_part = false; change = stay }

-- the piece that begins so, or the fault there
abbrev pub kind_piece : Mode → ℕ → Text → Kind → Found
kind_piece mode line text (Begins.Sign punct len) = sign_piece mode line text (Some (punct, len))
kind_piece mode line text (Begins.Labelled first) = labelled_piece line text first
kind_piece mode line text Begins.Comment = block_comment line text
kind_piece mode line text Begins.Raw = raw line text
kind_piece mode line text Begins.Quoted = quoted line text
kind_piece mode line text Begins.EndTag = Ok (end_tag text)
kind_piece mode line text (Begins.BadNumber fault) = Err (number_fault fault line)
kind_piece mode line text Begins.BadByte = Err (BadByte line)

abbrev pub front_piece : Mode → ℕ → Text → Front → Found
front_piece mode line text (Nothing len) = Ok (nothing len stay)
front_piece mode line text (Simple s) = Ok (simple_kept s)
front_piece mode line text (General kind) = kind_piece mode line text kind

-- on each line that is the piece, or the fault
abbrev pub Sees : (ℕ → Found) → Mode → Text → Front → Type 0
Sees found mode text front = (line : ℕ) → found line ≡ front_piece mode line text front

-- what was found lies in the text
abbrev pub KindWithin : Text → Kind → Type 0
KindWithin text (Begins.Sign punct len) = IsPieceOf len text
KindWithin text (Begins.Labelled first) = IsWithin text first
KindWithin text Begins.Comment = 2 ≤ length text
KindWithin text Begins.EndTag = 2 ≤ length text
KindWithin text kind = Unit {0}

abbrev pub FrontWithin : Text → Front → Type 0
FrontWithin text (Nothing len) = IsPieceOf len text
FrontWithin text (Simple s) = IsPieceOf s.len text
FrontWithin text (General kind) = KindWithin text kind
