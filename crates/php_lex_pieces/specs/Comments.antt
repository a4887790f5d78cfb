-- Comments, tags and text in single quotes.
use Rattle.std.specs.Prelude.{ℕ, suc, ◌+◌, Bool, true, false, ◌&&◌, ◌||◌, if◌then◌else◌, ◌==◌, nat_lt, [], ◌∷◌, length, take, drop, slice_index, codes}
use Rattle.std.specs.Str.{str_eq_ignore_ascii_case}
use Rattle.php_lex_pieces.specs.Bytes.{Text, is_blank, newline_len, len_before}

-- LF, CR or `?>`, up to which a comment on one line goes
unfoldable pub ends_comment : Text → Bool
ends_comment text =
    let b = slice_index text 0 in
    b == 10 || b == 13 || (b == 63 && slice_index text 1 == 62)

-- the length of `#` or `//` at the front, or 0
abbrev pub comment_start_len : Text → ℕ
comment_start_len text =
    if slice_index text 0 == 35 then 1 else (if slice_index text 0 == 47 && slice_index text 1 == 47 then 2 else 0)

-- the length of a comment on one line, whose first bytes are so many
abbrev pub line_comment_len : Text → ℕ → ℕ
line_comment_len text start = start + len_before ends_comment (drop start text)

-- `/*` at the front
abbrev pub begins_comment : Text → Bool
begins_comment text = slice_index text 0 == 47 && slice_index text 1 == 42

unfoldable pub ends_block : Text → Bool
ends_block text = slice_index text 0 == 42 && slice_index text 1 == 47

-- how many bytes stand before the `*/`, or behind `/*` where there is none
abbrev pub block_len : Text → ℕ
block_len text = len_before ends_block (drop 2 text)

-- ---- tags

-- one blank behind `<?php`, where CR LF is one, or the end of the file: its length. Other bytes: nothing
abbrev pub is_separated : Text → ℕ → Bool
is_separated text at = length text == at || is_blank (slice_index text at)

abbrev pub separator_len : Text → ℕ → ℕ
separator_len text at =
    if nat_lt 0 (newline_len text at) then newline_len text at else (if length text == at then 0 else 1)

-- `<?=` at the front
unfoldable pub begins_echo : Text → Bool
begins_echo text = slice_index text 0 == 60 && slice_index text 1 == 63 && slice_index text 2 == 61

-- `<?php` in any letter case at the front
abbrev pub is_tag_name : Text → Bool
is_tag_name text = str_eq_ignore_ascii_case (codes "<?php") (take 5 text)

-- the length of the `<?php` in any letter case at the front with what separates it, or 0
unfoldable pub open_tag_len : Text → ℕ
open_tag_len text = if is_tag_name text && is_separated text 5 then 5 + separator_len text 5 else 0

unfoldable pub begins_tag : Text → Bool
begins_tag text = begins_echo text || nat_lt 0 (open_tag_len text)

-- ---- single quotes

-- How many bytes stand before the quote that closes the text. A byte behind a backslash doesn't close it.
abbrev pub raw_len : Bool → Text → ℕ
raw_len is_escaped [] = 0
raw_len true (b ∷ text) = suc (raw_len false text)
raw_len false (b ∷ text) = if b == 39 then 0 else suc (raw_len (b == 92) text)

-- What the bytes between the quotes stand for: a backslash before a backslash or a quote falls.
abbrev pub raw_value : Bool → Text → Text
raw_value is_escaped [] = []
raw_value true (b ∷ text) = b ∷ raw_value false text
raw_value false (b ∷ text) =
    if b == 92 && (slice_index text 0 == 92 || slice_index text 0 == 39) then raw_value true text else b ∷ raw_value false text
