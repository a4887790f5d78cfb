-- The first line of a heredoc or a nowdoc.
use Rattle.std.specs.Prelude.{ℕ, ◌+◌, ◌-◌, ◌<◌, ◌≤◌, length, ◌&&◌, ◌||◌, if◌then◌else◌, ◌==◌, nat_lt, take, drop, slice_index, Option, Some, None}
use Rattle.php_lex_pieces.specs.declared.heredocs.FirstLine.{FirstLine}
use Rattle.php_lex_pieces.specs.Bytes.{Text, is_gap, run, name_len, line_end_len}

-- a label from `start` on, behind a quote where there is one (else it is 0), and the end of the line
abbrev pub labelled : Text → ℕ → ℕ → Option FirstLine
labelled text quote start =
    let end = start + name_len text start in
    let after = if nat_lt 0 quote then end + 1 else end in
    if nat_lt start end && (quote == 0 || slice_index text end == quote) && nat_lt 0 (line_end_len text after)
    then Some (record { start = start; end = end; is_raw = quote == 39; len = after + line_end_len text after }) else None

-- `<<<`, spaces and tabs, a label, plain or in quotes, and the end of the line. In single quotes it is a nowdoc.
unfoldable pub opening : Text → Option FirstLine
opening text =
    let at = 3 + run is_gap text 3 in
    let b = slice_index text at in
    if slice_index text 0 == 60 && slice_index text 1 == 60 && slice_index text 2 == 60
    then (if b == 34 || b == 39 then labelled text b (at + 1) else labelled text 0 at) else None

-- the first line lies in the text
abbrev pub IsWithin : Text → FirstLine → Type 0
IsWithin text opening = (0 < opening.len) × (opening.start ≤ opening.end) × (opening.end ≤ opening.len) × (opening.len ≤ length text)

abbrev pub label_of : Text → FirstLine → Text
label_of text opening = take (opening.end - opening.start) (drop opening.start text)
