-- What stands in a script, by its first byte.
use Rattle.std.proofs.Common.{◌≡◌, ℕ, ◌+◌, ◌<◌, ◌≤◌, Bool, true, false, ◌&&◌, ◌||◌, nat_lt, cond, [], length, length-drop, drop, take, Ok, Err, refl, sym, ◌∙◌, arith}
use Rattle.std.specs.Prelude.{slice_index, ◌==◌}
use Rattle.std.specs.Char.{is_ascii_digit}
use Rattle.std.proofs.lemmas.Grind.{common_steps}
use Rattle.php_lex.specs.declared.fail.LexFail.TheVariants as Fail
use Rattle.php_token.specs.declared.kind.TokenKind.TheVariants as Kind
use Rattle.php_lex_pieces.specs.Bytes.{Text, is_blank, is_name_start, run, name_len}
use Rattle.php_lex_pieces.specs.Comments.{comment_start_len, line_comment_len, begins_comment, block_len, ends_block, ends_comment, raw_len, raw_value}
use Rattle.php_lex_pieces.specs.Heredocs.{opening}
use Rattle.php_lex.specs.Modes.{Mode, stay, enter, quotes}
use Rattle.php_lex_pieces.specs.Numbers.{number}
use Rattle.php_lex.specs.Pieces.{Found, nothing, one, written, end_tag, script_piece, variable, raw, quoted, sign, block_comment, number_piece, cast_or_sign, heredoc_or_sign, sign_piece}
use Rattle.php_lex_pieces.specs.Punctuators.{punctuator}
use Rattle.php_lex_pieces.specs.Templates.{quote, text_len, text_value}
use Rattle.php_lex_pieces.specs.Words.{word, cast}
use Rattle.php_lex_laws.specs.Escapes.{IsInside}
use Rattle.php_lex_laws.specs.Ranges.{FirstAt, IsRaw}
use Rattle.php_lex_laws.proofs.InsideLemmas.{inside_len, byte_past}
use Rattle.php_lex_laws.proofs.RangeLemmas.{decide, same_byte, is_over, is_positive, is_under, and_left, and_right, none_before, before_within, before_holds, before_none, behind, raw_there, raw_within}

-- ---- the case of a text

pub script_or : (mode : Mode) (line : ℕ) (text : Text) (P : Found → Type 0)
    → (is_blank (slice_index text 0) ≡ true → P (Ok (nothing (run is_blank text 0) stay)))
    → (is_name_start (slice_index text 0) ≡ true → P (Ok (written (word text).0 (word text).1 text stay)))
    → (is_ascii_digit (slice_index text 0) ≡ true → P (number_piece line (number text)))
    → (0 < comment_start_len text → P (Ok (nothing (line_comment_len text (comment_start_len text)) stay)))
    → (begins_comment text ≡ true → P (block_comment line text))
    → (is_ascii_digit (slice_index text 0) ≡ false → P (sign mode line text))
    → P (script_piece mode line text)
unfolding script_piece
script_or mode line text P blank name digit comment block signs =
    let b = slice_index text 0 in
    decide (is_blank b) (λ h. rw h (blank h)) (λ no_blank.
    decide (is_name_start b) (λ h. rw (no_blank, h) (name h)) (λ no_name.
    decide (is_ascii_digit b) (λ h. rw (no_blank, no_name, h) (digit h)) (λ no_digit.
    decide (nat_lt 0 (comment_start_len text)) (λ h. rw (no_blank, no_name, no_digit, h) (comment (is_over (comment_start_len text) h))) (λ no_comment.
    decide (begins_comment text) (λ h. rw (no_blank, no_name, no_digit, no_comment, h) (block h)) (λ no_block.
    rw (no_blank, no_name, no_digit, no_comment, no_block) (signs no_digit))))))

pub sign_or : (mode : Mode) (line : ℕ) (text : Text) (P : Found → Type 0)
    → (slice_index text 0 ≡ 39 → P (raw line text))
    → (slice_index text 0 ≡ 34 → P (quoted line text))
    → (slice_index text 0 ≡ 36 → P (variable line text))
    → (slice_index text 0 ≡ 63 → slice_index text 1 ≡ 62 → P (Ok (end_tag text)))
    → (slice_index text 0 ≡ 46 → is_ascii_digit (slice_index text 1) ≡ true → P (Err (Fail.FloatLiteral line)))
    → (slice_index text 0 ≡ 60 → P (heredoc_or_sign mode line text (opening text)))
    → (slice_index text 0 ≡ 40 → P (cast_or_sign mode line text (cast text)))
    → P (sign_piece mode line text (punctuator text))
    → P (sign mode line text)
unfolding sign
sign_or mode line text P raws quotes_case variables tag point less paren plain =
    let b = slice_index text 0 in
    let c = slice_index text 1 in
    decide (b == 39) (λ h. rw h (raws (same_byte b 39 h))) (λ no_raw.
    decide (b == 34) (λ h. rw (no_raw, h) (quotes_case (same_byte b 34 h))) (λ no_quote.
    decide (b == 36) (λ h. rw (no_raw, no_quote, h) (variables (same_byte b 36 h))) (λ no_variable.
    decide (b == 63 && c == 62) (λ h. rw (no_raw, no_quote, no_variable, h) (tag (same_byte b 63 (and_left (b == 63) (c == 62) h)) (same_byte c 62 (and_right (b == 63) (c == 62) h)))) (λ no_tag.
    decide (b == 46 && is_ascii_digit c) (λ h. rw (no_raw, no_quote, no_variable, no_tag, h) (point (same_byte b 46 (and_left (b == 46) (is_ascii_digit c) h)) (and_right (b == 46) (is_ascii_digit c) h))) (λ no_point.
    decide (b == 60) (λ h. rw (no_raw, no_quote, no_variable, no_tag, no_point, h) (less (same_byte b 60 h))) (λ no_less.
    decide (b == 40) (λ h. rw (no_raw, no_quote, no_variable, no_tag, no_point, no_less, h) (paren (same_byte b 40 h))) (λ no_paren.
    rw (no_raw, no_quote, no_variable, no_tag, no_point, no_less, no_paren) plain)))))))

-- ---- texts whose case is known

pub at_blank : (mode : Mode) (line : ℕ) (text : Text) → is_blank (slice_index text 0) ≡ true → script_piece mode line text ≡ Ok (nothing (run is_blank text 0) stay)
unfolding script_piece
at_blank mode line text blank = rw blank refl

name_no_blank : (b : ℕ) → is_name_start b ≡ true → is_blank b ≡ false
name_no_blank b name = grind (arith, common_steps)

pub at_name : (mode : Mode) (line : ℕ) (text : Text) → is_name_start (slice_index text 0) ≡ true → script_piece mode line text ≡ Ok (written (word text).0 (word text).1 text stay)
unfolding script_piece
at_name mode line text name = let none = name_no_blank (slice_index text 0) name in rw (none, name) refl

digit_no_blank : (b : ℕ) → is_ascii_digit b ≡ true → is_blank b ≡ false
digit_no_blank b digit = grind (arith, common_steps)

digit_no_name : (b : ℕ) → is_ascii_digit b ≡ true → is_name_start b ≡ false
digit_no_name b digit = grind (arith, common_steps)

pub at_digit : (mode : Mode) (line : ℕ) (text : Text) → is_ascii_digit (slice_index text 0) ≡ true → script_piece mode line text ≡ number_piece line (number text)
unfolding script_piece
at_digit mode line text digit =
    let no_blank = digit_no_blank (slice_index text 0) digit in
    let no_name = digit_no_name (slice_index text 0) digit in
    rw (no_blank, no_name, digit) refl

comment_byte : (b c : ℕ) → 0 < cond (b == 35) 1 (cond (b == 47 && c == 47) 2 0) → (b == 35 || b == 47) ≡ true
comment_byte b c some = by_cases (b == 35) (b == 47) (c == 47) some
  where
    by_cases : (p q r : Bool) → 0 < cond p 1 (cond (q && r) 2 0) → (p || q) ≡ true
    by_cases true q r h = refl
    by_cases false true r h = refl
    by_cases false false r h = absurd (omega arith)

comment_no_blank : (b : ℕ) → (b == 35 || b == 47) ≡ true → is_blank b ≡ false
comment_no_blank b sign_byte = grind (arith, common_steps)

comment_no_name : (b : ℕ) → (b == 35 || b == 47) ≡ true → is_name_start b ≡ false
comment_no_name b sign_byte = grind (arith, common_steps)

comment_no_digit : (b : ℕ) → (b == 35 || b == 47) ≡ true → is_ascii_digit b ≡ false
comment_no_digit b sign_byte = grind (arith, common_steps)

pub at_comment : (mode : Mode) (line : ℕ) (text : Text) → 0 < comment_start_len text → script_piece mode line text ≡ Ok (nothing (line_comment_len text (comment_start_len text)) stay)
unfolding script_piece
at_comment mode line text some =
    let sign_byte = comment_byte (slice_index text 0) (slice_index text 1) some in
    let no_blank = comment_no_blank (slice_index text 0) sign_byte in
    let no_name = comment_no_name (slice_index text 0) sign_byte in
    let no_digit = comment_no_digit (slice_index text 0) sign_byte in
    let positive = is_positive (comment_start_len text) some in
    rw (no_blank, no_name, no_digit, positive) refl

pub comment_signs : (text : Text) → begins_comment text ≡ true → (slice_index text 0 ≡ 47) × (slice_index text 1 ≡ 42)
comment_signs text is = (same_byte (slice_index text 0) 47 (and_left (slice_index text 0 == 47) (slice_index text 1 == 42) is), same_byte (slice_index text 1) 42 (and_right (slice_index text 0 == 47) (slice_index text 1 == 42) is))

pub at_block : (mode : Mode) (line : ℕ) (text : Text) → begins_comment text ≡ true → script_piece mode line text ≡ block_comment line text
unfolding script_piece
at_block mode line text is =
    let bytes = comment_signs text is in
    let first = bytes.0 in
    let second = bytes.1 in
    rw (first, second) refl

pub at_raw : (mode : Mode) (line : ℕ) (text : Text) → slice_index text 0 ≡ 39 → script_piece mode line text ≡ raw line text
unfolding script_piece sign
at_raw mode line text is = rw is refl

pub at_quote : (mode : Mode) (line : ℕ) (text : Text) → slice_index text 0 ≡ 34 → script_piece mode line text ≡ quoted line text
unfolding script_piece sign
at_quote mode line text is = rw is refl

pub at_variable : (mode : Mode) (line : ℕ) (text : Text) → slice_index text 0 ≡ 36 → script_piece mode line text ≡ variable line text
unfolding script_piece sign
at_variable mode line text is = rw is refl

pub at_tag : (mode : Mode) (line : ℕ) (text : Text) → slice_index text 0 ≡ 63 → slice_index text 1 ≡ 62 → script_piece mode line text ≡ Ok (end_tag text)
unfolding script_piece sign
at_tag mode line text first second = rw (first, second) refl

pub at_point : (mode : Mode) (line : ℕ) (text : Text) → slice_index text 0 ≡ 46 → is_ascii_digit (slice_index text 1) ≡ true → script_piece mode line text ≡ Err (Fail.FloatLiteral line)
unfolding script_piece sign
at_point mode line text first digit = rw (first, digit) refl

pub at_less : (mode : Mode) (line : ℕ) (text : Text) → slice_index text 0 ≡ 60 → script_piece mode line text ≡ heredoc_or_sign mode line text (opening text)
unfolding script_piece sign
at_less mode line text is = rw is refl

pub at_paren : (mode : Mode) (line : ℕ) (text : Text) → slice_index text 0 ≡ 40 → script_piece mode line text ≡ cast_or_sign mode line text (cast text)
unfolding script_piece sign
at_paren mode line text is = rw is refl

-- ---- comments and texts in quotes

two_there : (text : Text) → slice_index text 1 ≡ 42 → 1 < length text
two_there text second = byte_past text 1 (omega (arith, second))

pub no_block_end : ends_block [] ≡ false
unfolding ends_block
no_block_end = refl

pub no_comment_end : ends_comment [] ≡ false
unfolding ends_comment
no_comment_end = refl

not_equal : (k n : ℕ) → k < n → (k == n) ≡ false
not_equal k n less = grind (arith, common_steps)

less_when : (k n : ℕ) → k ≤ n → (k == n) ≡ false → k < n
less_when k n most differ = grind (arith, common_steps)

pub block_or : (line : ℕ) (text : Text) (P : Found → Type 0) → begins_comment text ≡ true
    → ((k : ℕ) → FirstAt ends_block (drop 2 text) k → P (Ok (nothing (4 + k) stay)))
    → (((k : ℕ) → ends_block (drop k (drop 2 text)) ≡ false) → P (Err (Fail.Unclosed line))) → P (block_comment line text)
unfolding block_comment
block_or line text P begins ends endless =
    let len = block_len text in
    let whole : length (drop 2 text) + 2 ≡ length text = omega (arith, length-drop 2 text, two_there text (comment_signs text begins).1) in
    decide (2 + len == length text)
    (λ all. let same : len ≡ length (drop 2 text) = omega (arith, same_byte (2 + len) (length text) all, whole) in
    rw all (endless (before_none ends_block (drop 2 text) no_block_end same)))
    (λ some.
    let within : 2 + len ≤ length text = omega (arith, before_within ends_block (drop 2 text), whole) in
    let less : len < length (drop 2 text) = omega (arith, less_when (2 + len) (length text) within some, whole) in
    rw some (ends len (none_before ends_block (drop 2 text), before_holds ends_block (drop 2 text) less)))

pub raw_or : (line : ℕ) (text : Text) (P : Found → Type 0) → slice_index text 0 ≡ 39
    → ((k : ℕ) → IsRaw false (drop 1 text) k → slice_index text (1 + k) ≡ 39 → P (Ok (one Kind.Str (k + 2) (raw_value false (take k (drop 1 text))) stay)))
    → (raw_len false (drop 1 text) ≡ length (drop 1 text) → P (Err (Fail.Unclosed line))) → P (raw line text)
unfolding raw
raw_or line text P begins ends endless =
    let len = raw_len false (drop 1 text) in
    let whole : length (drop 1 text) + 1 ≡ length text = omega (arith, length-drop 1 text, byte_past text 0 (omega (arith, begins))) in
    decide (1 + len == length text)
    (λ all. rw all (endless (omega (arith, same_byte (1 + len) (length text) all, whole))))
    (λ some.
    let within : 1 + len ≤ length text = omega (arith, raw_within false (drop 1 text), whole) in
    let less : len < length (drop 1 text) = omega (arith, less_when (1 + len) (length text) within some, whole) in
    let there = raw_there false (drop 1 text) less in
    rw some (ends len there.0 (sym (behind 1 text len) ∙ there.1)))

pub quoted_or : (line : ℕ) (text : Text) (P : Found → Type 0)
    → ((k : ℕ) → k ≡ text_len quote (drop 1 text) → IsInside 0 quote (drop 1 text) k → slice_index text (1 + k) ≡ 34 → P (Ok (one Kind.Str (k + 2) (text_value quote (drop 1 text)) stay)))
    → ((slice_index text (1 + text_len quote (drop 1 text)) == 34) ≡ false → P (Ok (one Kind.Quote 1 [] (enter (quotes line))))) → P (quoted line text)
unfolding quoted
quoted_or line text P whole first =
    let len = text_len quote (drop 1 text) in
    decide (slice_index text (1 + len) == 34)
    (λ is. rw is (whole len refl (inside_len quote (drop 1 text)) (same_byte (slice_index text (1 + len)) 34 is)))
    (λ is. rw is (first is))

pub variable_or : (line : ℕ) (text : Text) (P : Found → Type 0)
    → (0 < name_len text 1 → P (Ok (one Kind.Variable (1 + name_len text 1) (take (name_len text 1) (drop 1 text)) stay)))
    → (name_len text 1 ≡ 0 → P (Err (Fail.BadByte line))) → P (variable line text)
unfolding variable
variable_or line text P named alone =
    decide (nat_lt 0 (name_len text 1)) (λ h. rw h (named (is_over (name_len text 1) h))) (λ h. rw h (alone (is_under (name_len text 1) h)))
