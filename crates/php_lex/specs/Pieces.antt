-- The piece that stands at the front of a text, in each mode: its length, its tokens, and the mode that it leaves.
use Rattle.std.specs.Prelude.{ℕ, ◌+◌, ◌-◌, Bool, true, false, ◌&&◌, ◌||◌, if◌then◌else◌, ◌==◌, nat_lt, [], length, take, drop, slice_index, Option, Some, None, Result, Ok, Err, ℤ, pos, codes}
use Rattle.std.specs.Char.{is_ascii_digit}
use Rattle.php_lex.specs.declared.fail.LexFail.{LexFail}
use Rattle.php_lex.specs.declared.fail.LexFail.TheVariants as Fail
use Rattle.php_lex_pieces.specs.declared.heredocs.FirstLine.{FirstLine}
use Rattle.php_token.specs.declared.kind.TokenKind.{TokenKind}
use Rattle.php_token.specs.declared.kind.TokenKind.TheVariants as Kind
use Rattle.php_token.specs.declared.kind.Keyword.TheVariants as Keyword
use Rattle.php_token.specs.declared.kind.Punct.TheVariants as Punct
use Rattle.php_token.specs.declared.kind.Punct.{Punct as PunctType}
use Rattle.php_token.specs.declared.kind.Cast.{Cast as CastType}
use Rattle.php_lex_pieces.specs.declared.numbers.NumberFault.{NumberFault}
use Rattle.php_lex_pieces.specs.declared.numbers.NumberFault.TheVariants as Bad
use Rattle.php_lex_pieces.specs.Bytes.{Text, is_blank, is_name_start, run, name_len, newline_len, len_before}
use Rattle.php_lex_pieces.specs.Comments.{comment_start_len, line_comment_len, begins_comment, block_len, begins_echo, begins_tag, open_tag_len, raw_len, raw_value}
use Rattle.php_lex_pieces.specs.Heredocs.{opening, label_of}
use Rattle.php_lex.specs.Modes.{Mode, outside, script, quotes, heredoc, braces, block, name_due, name_read, brackets, index, brace_due, subject, member_due, key_due, key_read, Change, stay, enter, leave, turn}
use Rattle.php_lex_pieces.specs.Numbers.{number, key_len, int_key}
use Rattle.php_lex_pieces.specs.Punctuators.{punctuator}
use Rattle.php_lex_pieces.specs.Templates.{Delimiter, quote, label, is_label_line, closing_len, closes, nowdoc_len, is_cut_escape, ends, text_len, text_value}
use Rattle.php_lex_pieces.specs.Words.{word, word_kind, cast}

-- a token without its line
pub record Draft : Type 0 where
  pub kind : TokenKind
  pub text : Text
  pub int : ℤ

-- A piece. Beside a token of its own it may open a part of a template, and it may end one.
pub record Piece : Type 0 where
  pub len : ℕ
  pub opens_part : Bool
  pub token : Option Draft
  pub ends_part : Bool
  pub change : Change

abbrev pub Found : Type 0
Found = Result Piece LexFail

-- ---- pieces by what they give

abbrev pub draft : TokenKind → Text → Draft
draft kind text = record { kind = kind; text = text; int = pos 0 }

-- no token
abbrev pub nothing : ℕ → Change → Piece
nothing len change = record { len = len; opens_part = false; token = None; ends_part = false; change = change }

-- a token with a text
abbrev pub one : TokenKind → ℕ → Text → Change → Piece
one kind len text change = record { len = len; opens_part = false; token = Some (draft kind text); ends_part = false; change = change }

-- a token whose text is the piece
abbrev pub written : TokenKind → ℕ → Text → Change → Piece
written kind len text change = one kind len (take len text) change

abbrev pub integer : ℕ → ℤ → Change → Piece
integer len int change =
    record { len = len; opens_part = false; token = Some (record { kind = Kind.Int; text = []; int = int }); ends_part = false; change = change }

abbrev pub part_begin : ℕ → Mode → Piece
part_begin len mode = record { len = len; opens_part = true; token = None; ends_part = false; change = enter mode }

abbrev pub part_end : ℕ → Piece
part_end len = record { len = len; opens_part = false; token = None; ends_part = true; change = leave }

-- a token that ends its part
abbrev pub last_written : TokenKind → ℕ → Text → Piece
last_written kind len text =
    record { len = len; opens_part = false; token = Some (draft kind (take len text)); ends_part = true; change = leave }

-- ---- outside the tags

-- a start tag, or the bytes before the next one
unfoldable pub outside_piece : Text → Found
outside_piece text =
    if begins_echo text then Ok (one (Kind.Keyword Keyword.Echo) 3 (codes "echo") leave)
    else (if nat_lt 0 (open_tag_len text) then Ok (nothing (open_tag_len text) leave)
    else Ok (written Kind.Inline (len_before begins_tag text) text stay))

-- ---- in a script

-- a comment that begins with `/*` goes up to the first `*/`
unfoldable pub block_comment : ℕ → Text → Found
block_comment line text =
    if 2 + block_len text == length text then Err (Fail.Unclosed line) else Ok (nothing (4 + block_len text) stay)

unfoldable pub variable : ℕ → Text → Found
variable line text =
    if nat_lt 0 (name_len text 1) then Ok (one Kind.Variable (1 + name_len text 1) (take (name_len text 1) (drop 1 text)) stay)
    else Err (Fail.BadByte line)

abbrev pub number_fault : NumberFault → ℕ → LexFail
number_fault Bad.Float line = Fail.FloatLiteral line
number_fault Bad.TooLarge line = Fail.IntTooLarge line
number_fault Bad.NotOctal line = Fail.BadByte line

abbrev pub number_piece : ℕ → Result (ℕ × ℕ) NumberFault → Found
number_piece line (Ok found) = Ok (integer found.0 (pos found.1) stay)
number_piece line (Err fault) = Err (number_fault fault line)

-- a text in single quotes
unfoldable pub raw : ℕ → Text → Found
raw line text =
    let len = raw_len false (drop 1 text) in
    if 1 + len == length text then Err (Fail.Unclosed line)
    else Ok (one Kind.Str (len + 2) (raw_value false (take len (drop 1 text))) stay)

-- Double quotes without parts are one piece, and else the first of them is.
unfoldable pub quoted : ℕ → Text → Found
quoted line text =
    let len = text_len quote (drop 1 text) in
    if slice_index text (1 + len) == 34 then Ok (one Kind.Str (len + 2) (text_value quote (drop 1 text)) stay)
    else Ok (one Kind.Quote 1 [] (enter (quotes line)))

-- a nowdoc, of whose text so many bytes stand behind its first line
unfoldable pub nowdoc : ℕ → Text → Text → ℕ → Found
nowdoc line name text start =
    let body = drop start text in
    let len = nowdoc_len name body in
    if len == length body then Err (Fail.Unclosed line)
    else Ok (one Kind.Str (start + len + closing_len name (drop len body)) (take len body) stay)

-- A heredoc without parts is one piece, and else its first line is.
unfoldable pub heredoc_piece : ℕ → Text → Text → ℕ → Found
heredoc_piece line name text start =
    let body = drop start text in
    let len = text_len (label name) body in
    if closes name (drop len body) then Ok (one Kind.Str (start + len + closing_len name (drop len body)) (text_value (label name) body) stay)
    else Ok (one Kind.Quote start [] (enter (heredoc name line)))

-- a heredoc or a nowdoc, by its first line; the label directly behind that ends an empty text
unfoldable pub labelled_piece : ℕ → Text → FirstLine → Found
labelled_piece line text opening =
    let name = label_of text opening in
    if is_label_line name (drop opening.len text) then Ok (one Kind.Str (opening.len + length name) [] stay)
    else (if opening.is_raw then nowdoc line name text opening.len else heredoc_piece line name text opening.len)

-- Braces and brackets inside a part: its own ends it.
abbrev pub sign_change : Mode → PunctType → Change
sign_change (braces line) Punct.LeftBrace = enter block
sign_change block Punct.LeftBrace = enter block
sign_change block Punct.RightBrace = leave
sign_change (brackets line) Punct.LeftBracket = enter index
sign_change index Punct.LeftBracket = enter index
sign_change (brackets line) Punct.RightBracket = turn (brace_due line)
sign_change index Punct.RightBracket = leave
sign_change mode punct = stay

-- the `}` that ends the part which `{` opened
abbrev pub is_part_end : Mode → PunctType → Bool
is_part_end (braces line) Punct.RightBrace = true
is_part_end mode punct = false

abbrev pub sign_piece : Mode → ℕ → Text → Option (PunctType × ℕ) → Found
sign_piece mode line text None = Err (Fail.BadByte line)
sign_piece mode line text (Some sign) =
    if is_part_end mode sign.0 then Ok (part_end sign.1)
    else Ok (written (Kind.Punct sign.0) sign.1 text (sign_change mode sign.0))

abbrev pub cast_or_sign : Mode → ℕ → Text → Option (CastType × ℕ) → Found
cast_or_sign mode line text (Some cast) = Ok (written (Kind.Cast cast.0) cast.1 text stay)
cast_or_sign mode line text None = sign_piece mode line text (punctuator text)

abbrev pub heredoc_or_sign : Mode → ℕ → Text → Option FirstLine → Found
heredoc_or_sign mode line text (Some opening) = labelled_piece line text opening
heredoc_or_sign mode line text None = sign_piece mode line text (punctuator text)

-- `?>` with the newline directly behind it
abbrev pub end_tag : Text → Piece
end_tag text = one (Kind.Punct Punct.Semicolon) (2 + newline_len text 2) (codes ";") (enter outside)

-- what begins with a sign
unfoldable pub sign : Mode → ℕ → Text → Found
sign mode line text =
    let b = slice_index text 0 in
    let next = slice_index text 1 in
    if b == 39 then raw line text
    else (if b == 34 then quoted line text
    else (if b == 36 then variable line text
    else (if b == 63 && next == 62 then Ok (end_tag text)
    else (if b == 46 && is_ascii_digit next then Err (Fail.FloatLiteral line)
    else (if b == 60 then heredoc_or_sign mode line text (opening text)
    else (if b == 40 then cast_or_sign mode line text (cast text)
    else sign_piece mode line text (punctuator text)))))))

unfoldable pub script_piece : Mode → ℕ → Text → Found
script_piece mode line text =
    let b = slice_index text 0 in
    if is_blank b then Ok (nothing (run is_blank text 0) stay)
    else (if is_name_start b then Ok (written (word text).0 (word text).1 text stay)
    else (if is_ascii_digit b then number_piece line (number text)
    else (if nat_lt 0 (comment_start_len text) then Ok (nothing (line_comment_len text (comment_start_len text)) stay)
    else (if begins_comment text then block_comment line text
    else sign mode line text))))

-- ---- in a template

-- behind a variable, `[`, or `->` and a name, go on with its part
abbrev pub goes_on : Text → ℕ → Bool
goes_on text at =
    slice_index text at == 91 || (slice_index text at == 45 && slice_index text (at + 1) == 62 && is_name_start (slice_index text (at + 2)))

-- a variable at the front, of which the part consists or with which it begins
abbrev pub variable_part : ℕ → Text → Piece
variable_part line text =
    let len = 1 + name_len text 1 in
    record {
      len = len;
      opens_part = true;
      token = Some (draft Kind.Variable (take (len - 1) (drop 1 text)));
      ends_part = if goes_on text len then false else true;
      change = if goes_on text len then enter (subject line) else stay;
    }

abbrev pub closing : Delimiter → Text → ℕ
closing quote text = 1
closing (label name) text = closing_len name text

-- a part, or an escape that is malformed; one that the end of the file cuts leaves the template unclosed
unfoldable pub part_piece : ℕ → ℕ → Text → Found
part_piece begun line text =
    let b = slice_index text 0 in
    if b == 92 then Err (if is_cut_escape text then Fail.Unclosed begun else Fail.BadEscape line)
    else (if b == 123 then Ok (part_begin 1 (braces line))
    else (if slice_index text 1 == 123 then Ok (part_begin 2 (name_due line))
    else Ok (variable_part line text)))

unfoldable pub template_piece : Delimiter → ℕ → ℕ → Text → Found
template_piece by begun line text =
    let len = text_len by text in
    if nat_lt 0 len then Ok (one Kind.Piece len (text_value by text) stay)
    else (if ends by text then Ok (one Kind.Unquote (closing by text) [] leave)
    else part_piece begun line text)

-- ---- in a part without braces

unfoldable pub subject_piece : ℕ → ℕ → Text → Found
subject_piece begun line text =
    if slice_index text 0 == 91 then Ok (written (Kind.Punct Punct.LeftBracket) 1 text (turn (key_due begun)))
    else (if slice_index text 0 == 45 && slice_index text 1 == 62 then Ok (written (Kind.Punct Punct.Arrow) 2 text (turn (member_due begun)))
    else Err (Fail.BadEscape line))

unfoldable pub member_piece : ℕ → Text → Found
member_piece line text =
    let len = name_len text 0 in
    if nat_lt 0 len then Ok (last_written (word_kind (take len text)) len text) else Err (Fail.BadEscape line)

abbrev pub number_key : ℕ → Text → ℕ → Option ℤ → Piece
number_key begun text len (Some int) = integer len int (turn (key_read begun))
number_key begun text len None = written Kind.Str len text (turn (key_read begun))

unfoldable pub key_piece : ℕ → ℕ → Text → Found
key_piece begun line text =
    let name = name_len text 1 in
    if nat_lt 0 (name_len text 0) then Ok (written Kind.Str (name_len text 0) text (turn (key_read begun)))
    else (if slice_index text 0 == 36 && nat_lt 0 name then Ok (one Kind.Variable (1 + name) (take name (drop 1 text)) (turn (key_read begun)))
    else (if nat_lt 0 (key_len text) then Ok (number_key begun text (key_len text) (int_key text (key_len text)))
    else Err (Fail.BadEscape line)))

unfoldable pub key_end_piece : ℕ → Text → Found
key_end_piece line text =
    if slice_index text 0 == 93 then Ok (last_written (Kind.Punct Punct.RightBracket) 1 text) else Err (Fail.BadEscape line)

-- ---- in a part that `${` opened

unfoldable pub name_piece : ℕ → ℕ → Text → Found
name_piece begun line text =
    let len = name_len text 0 in
    if nat_lt 0 len then Ok (written Kind.Variable len text (turn (name_read begun))) else Err (Fail.BadEscape line)

unfoldable pub name_end_piece : ℕ → ℕ → Text → Found
name_end_piece begun line text =
    if slice_index text 0 == 125 then Ok (part_end 1)
    else (if slice_index text 0 == 91 then Ok (written (Kind.Punct Punct.LeftBracket) 1 text (turn (brackets begun)))
    else Err (Fail.BadEscape line))

unfoldable pub brace_end_piece : ℕ → Text → Found
brace_end_piece line text = if slice_index text 0 == 125 then Ok (part_end 1) else Err (Fail.BadEscape line)

-- ----

-- The piece at the front of a text that isn't empty and begins on that line, or the fault there.
abbrev pub piece : Mode → ℕ → Text → Found
piece outside line text = outside_piece text
piece script line text = script_piece script line text
piece (braces begun) line text = script_piece (braces begun) line text
piece block line text = script_piece block line text
piece (brackets begun) line text = script_piece (brackets begun) line text
piece index line text = script_piece index line text
piece (quotes begun) line text = template_piece quote begun line text
piece (heredoc name begun) line text = template_piece (label name) begun line text
piece (name_due begun) line text = name_piece begun line text
piece (name_read begun) line text = name_end_piece begun line text
piece (brace_due begun) line text = brace_end_piece line text
piece (subject begun) line text = subject_piece begun line text
piece (member_due begun) line text = member_piece line text
piece (key_due begun) line text = key_piece begun line text
piece (key_read begun) line text = key_end_piece line text
