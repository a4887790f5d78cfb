-- Where the lines of a text end.
use Rattle.std.specs.Prelude.{◌≡◌, ℕ, ◌+◌, Bool, ◌==◌, drop, slice_index}
use Rattle.php_lex.specs.declared.lines.Line.{Line}
use Rattle.php_lex_pieces.specs.Bytes.{Text, len_before}

-- an LF at the front
abbrev pub is_newline : Text → Bool
is_newline text = slice_index text 0 == 10

-- how many bytes stand before the first LF, or all where there is none
abbrev pub line_len : Text → ℕ
line_len text = len_before is_newline text

-- the line ends behind the place as the text from there on says
abbrev pub IsLineAt : Text → ℕ → Line → Type 0
IsLineAt text at line = line.end ≡ at + line_len (drop at text)
