-- The tokens of a text, or its first fault.
use Rattle.std.specs.Prelude.{◌≡◌, ◌⊎◌, ℕ, zero, suc, ◌+◌, ◌-◌, Bool, true, false, if◌then◌else◌, ◌==◌, List, [], ◌∷◌, ◌++◌, Option, Some, None, Result, Ok, Err}
use Rattle.php_lex.specs.declared.fail.LexFail.{LexFail}
use Rattle.php_lex.specs.declared.fail.LexFail.TheVariants.{Unclosed, NoMemory}
use Rattle.php_token.specs.declared.kind.TokenKind.TheVariants as Kind
use Rattle.php_lex_pieces.specs.Bytes.{Text}
use Rattle.php_lex.specs.Modes.{State, start, mode_of, unclosed, changed}
use Rattle.php_lex.specs.Pieces.{Draft, Piece, Found, draft, piece}
use Rattle.php_token.specs.Token.{Token}

abbrev pub on_line : ℕ → Draft → Token
on_line line d = record { kind = d.kind; text = d.text; int = d.int; line = line }

abbrev pub token_if : Bool → Token → List Token
token_if true t = t ∷ []
token_if false t = []

abbrev pub token_of_draft : ℕ → Option Draft → List Token
token_of_draft line None = []
token_of_draft line (Some d) = on_line line d ∷ []

-- the tokens of a piece, all of them on the line of its first byte
abbrev pub tokens_of : ℕ → Piece → List Token
tokens_of line p =
    token_if p.opens_part (on_line line (draft Kind.Part [])) ++ (token_of_draft line p.token ++ token_if p.ends_part (on_line line (draft Kind.EndPart [])))

abbrev pub line_after : ℕ → ℕ → ℕ
line_after line b = if b == 10 then line + 1 else line

-- the line of the byte behind these
abbrev pub lines_after : ℕ → Text → ℕ
lines_after line [] = line
lines_after line (b ∷ text) = lines_after (line_after line b) text

abbrev pub at_end : Option ℕ → Result (List Token) LexFail
at_end None = Ok []
at_end (Some line) = Err (Unclosed line)

abbrev pub put_before : List Token → Result (List Token) LexFail → Result (List Token) LexFail
put_before front (Ok tokens) = Ok (front ++ tokens)
put_before front (Err fault) = Err fault

abbrev pub go_on : ℕ → Found → (Piece → Result (List Token) LexFail) → Result (List Token) LexFail
go_on line (Ok p) rest = put_before (tokens_of line p) (rest p)
go_on line (Err fault) rest = Err fault

-- The tokens of what is left of a text. The first number counts the bytes that are left of a piece, the
-- second one is the line of the first byte.
abbrev pub read_from : ℕ → State → ℕ → Text → Result (List Token) LexFail
read_from left state line [] = at_end (unclosed state)
read_from (suc left) state line (b ∷ text) = read_from left state (line_after line b) text
read_from zero state line (b ∷ text) =
    go_on line (piece (mode_of state) line (b ∷ text)) (λ p. read_from (p.len - 1) (changed p.change state) (line_after line b) text)

-- the tokens of a text, or the first fault in it
unfoldable pub tokens : Text → Result (List Token) LexFail
tokens text = read_from 0 start 1 text

-- a function answered the tokens of a text or its first fault; want of memory is the one other answer
abbrev pub Lexes : Result (List Token) LexFail → Result (List Token) LexFail → Type 0
Lexes (Ok found) read = read ≡ Ok found
Lexes (Err fault) read = (fault ≡ NoMemory) ⊎ (read ≡ Err fault)
