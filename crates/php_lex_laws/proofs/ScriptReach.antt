-- Where bytes of a form stand, the piece of a script is at least as long, or what bars it stands there.
use Rattle.std.proofs.Common.{◌≡◌, ℕ, ◌+◌, ◌-◌, ◌<◌, ◌≤◌, Bool, true, false, ◌&&◌, nat_lt, cond, [], length, length-drop, drop, take, Option, Some, None, Ok, Err, pos, refl, sym, ap, ap₂, ◌∙◌, subst, arith, inl, inr}
use Rattle.std.specs.Prelude.{slice_index, ◌==◌, codes}
use Rattle.std.specs.Char.{is_ascii_digit, is_ascii_hexdigit}
use Rattle.std.proofs.lemmas.Grind.{common_steps}
use Rattle.php_token.specs.declared.kind.Cast.{Cast}
use Rattle.php_token.specs.declared.kind.Keyword.TheVariants as Keyword
use Rattle.php_token.specs.declared.kind.Punct.{Punct}
use Rattle.php_token.specs.declared.kind.Punct.TheVariants as PunctKind
use Rattle.php_token.specs.declared.kind.TokenKind.{TokenKind}
use Rattle.php_token.specs.declared.kind.TokenKind.TheVariants as Kind
use Rattle.php_lex_pieces.specs.Bytes.{Text, is_blank, is_name_start, is_octal_digit, is_binary_digit, name_len}
use Rattle.php_lex_pieces.specs.Comments.{comment_start_len, ends_comment, ends_block, raw_value}
use Rattle.php_lex.specs.Modes.{Mode, stay, enter, quotes, heredoc, outside}
use Rattle.php_lex_pieces.specs.Numbers.{value, greatest_int, number, is_hexadecimal, is_binary}
use Rattle.php_lex.specs.Pieces.{Found, nothing, one, written, integer, part_end, sign_change, is_part_end, script_piece, number_piece, cast_or_sign, heredoc_or_sign, sign_piece}
use Rattle.php_lex_pieces.specs.Punctuators.{punctuators, punctuator}
use Rattle.php_lex_pieces.specs.Templates.{quote, label, text_len, text_value}
use Rattle.php_lex_pieces.specs.Words.{word, word_kind, yield_from_len, cast}
use Rattle.php_lex_laws.specs.Ranges.{AllIn}
use Rattle.php_lex_laws.specs.ScriptForms as form
use Rattle.php_lex_laws.specs.ScriptFaults as fault
use Rattle.php_lex_laws.proofs.DigitLemmas.{numbers_or, decimals_or, numbers_within, all_reach, no_octal, no_octal_binary, no_two_marks, hexadecimal_there, binary_there, octal_is_digits, zero_fits, not_over}
use Rattle.php_lex_laws.proofs.HeredocLemmas.{opening_is, opened_or}
use Rattle.php_lex_laws.proofs.InsideLemmas.{inside_is, quote_stops}
use Rattle.php_lex_laws.proofs.LabelLemmas.{Behind, behind_is, behind_or, nowdoc_is, nowdoc_or, heredoc_is, heredoc_or, label_long, closing_some}
use Rattle.php_lex_laws.proofs.RangeLemmas.{no_both, chosen, other, decide, same_byte, other_byte, is_over, is_under, and_left, and_right, run_reaches, behind, behind_first, name_reaches, before_is, before_reaches, raw_is}
use Rattle.php_lex_laws.proofs.ScriptCases.{script_or, sign_or, at_blank, at_name, at_digit, at_comment, at_block, at_raw, at_quote, at_variable, at_tag, at_less, at_paren, comment_signs, no_block_end, block_or, raw_or, quoted_or, variable_or}
use Rattle.php_lex_laws.proofs.SignLemmas.{begins_sign, longest_sign, sign_short, sign_begins, slashes_short, comment_short, tag_short, paren_short}
use Rattle.php_lex_laws.proofs.WordLemmas.{yield_is, yield_longer, cast_is, cast_has}

-- something bars every piece there
abbrev pub Barred : Text → Type 0
Barred text = (e : fault.ScriptFault) × fault.IsNoScriptPiece e text

-- what was found is at least n bytes long, and what the form gives where it has no more
abbrev pub Reaches : Mode → ℕ → form.ScriptForm → Text → ℕ → Found → Type 0
Reaches mode line f text n (Ok p) = (n ≤ p.len) × (n ≡ p.len → p ≡ form.script_given mode f line text n)
Reaches mode line f text n (Err failed) = Barred text

moved : (mode : Mode) (line : ℕ) (f : form.ScriptForm) (text : Text) (n : ℕ) (found : Found) → script_piece mode line text ≡ found → Reaches mode line f text n found → Reaches mode line f text n (script_piece mode line text)
moved mode line f text n found is reaches = subst (Reaches mode line f text n) (sym is) reaches

-- ---- blanks, comments and words

pub words_or : (text : Text) (P : TokenKind × ℕ → Type 0) → (0 < yield_from_len text → P (Kind.Keyword Keyword.YieldFrom, yield_from_len text)) → (yield_from_len text ≡ 0 → P (word_kind (take (name_len text 0) text), name_len text 0)) → P (word text)
unfolding word
words_or text P yields names = decide (nat_lt 0 (yield_from_len text)) (λ h. rw h (yields (is_over (yield_from_len text) h))) (λ h. rw h (names (is_under (yield_from_len text) h)))

word_reaches : (mode : Mode) (line : ℕ) (text : Text) (n : ℕ) → form.HasScriptForm form.word text n → Reaches mode line form.word text n (Ok (written (word text).0 (word text).1 text stay))
word_reaches mode line text n has =
    let low = name_reaches text 0 n has in
    words_or text (λ w. Reaches mode line form.word text n (Ok (written w.0 w.1 text stay)))
    (λ some. let longer = yield_longer text some in (omega (arith, low, longer), λ e. absurd (omega (arith, low, longer, e))))
    (λ _. (low, λ e. ap (λ m. written (word_kind (take m text)) m text stay) (sym e)))

yield_reaches : (mode : Mode) (line : ℕ) (text : Text) (n : ℕ) → form.HasScriptForm form.yield_from text n → Reaches mode line form.yield_from text n (Ok (written (word text).0 (word text).1 text stay))
yield_reaches mode line text n has =
    let is = yield_is text n has in
    words_or text (λ w. Reaches mode line form.yield_from text n (Ok (written w.0 w.1 text stay)))
    (λ _. (omega (arith, is), λ e. ap (λ m. written (Kind.Keyword Keyword.YieldFrom) m text stay) (sym e)))
    (λ none. absurd (omega (arith, is, none, has.1.1.1.1.1)))

variable_same : (text : Text) (n len : ℕ) → n ≡ 1 + len → one Kind.Variable (1 + len) (take len (drop 1 text)) stay ≡ one Kind.Variable n (take (n - 1) (drop 1 text)) stay
variable_same text n len e =
    let width : n - 1 ≡ len = omega (arith, e) in
    ap (λ m. one Kind.Variable (1 + len) (take m (drop 1 text)) stay) (sym width) ∙ ap (λ m. one Kind.Variable m (take (n - 1) (drop 1 text)) stay) (sym e)

raw_same : (text : Text) (n k : ℕ) → n ≡ k + 2 → one Kind.Str (k + 2) (raw_value false (take k (drop 1 text))) stay ≡ one Kind.Str n (raw_value false (take (n - 2) (drop 1 text))) stay
raw_same text n k e =
    let width : n - 2 ≡ k = omega (arith, e) in
    ap (λ m. one Kind.Str (k + 2) (raw_value false (take m (drop 1 text))) stay) (sym width) ∙ ap (λ m. one Kind.Str m (raw_value false (take (n - 2) (drop 1 text))) stay) (sym e)

based_same : (base : ℕ) (text : Text) (n k : ℕ) → n ≡ 2 + k → integer (2 + k) (pos (value base (take k (drop 2 text)))) stay ≡ integer n (pos (value base (take (n - 2) (drop 2 text)))) stay
based_same base text n k e =
    let width : n - 2 ≡ k = omega (arith, e) in
    ap (λ m. integer (2 + k) (pos (value base (take m (drop 2 text)))) stay) (sym width) ∙ ap (λ m. integer m (pos (value base (take (n - 2) (drop 2 text)))) stay) (sym e)

-- ---- numbers

-- the number that begins with a digit, or what bars it
pub numbers_split : (line : ℕ) (text : Text) (P : Found → Type 0) → is_ascii_digit (slice_index text 0) ≡ true
    → ((e : fault.ScriptFault) → fault.IsNoScriptPiece e text → P (Err (fault.script_fault e line)))
    → ((k : ℕ) → slice_index text 0 ≡ 48 → form.begins_hexadecimal text ≡ true → 0 < k → fault.AllOf is_ascii_hexdigit (drop 2 text) k → value 16 (take k (drop 2 text)) ≤ greatest_int
    → P (Ok (integer (2 + k) (pos (value 16 (take k (drop 2 text)))) stay)))
    → ((k : ℕ) → slice_index text 0 ≡ 48 → form.begins_binary text ≡ true → 0 < k → fault.AllOf is_binary_digit (drop 2 text) k → value 2 (take k (drop 2 text)) ≤ greatest_int
    → P (Ok (integer (2 + k) (pos (value 2 (take k (drop 2 text)))) stay)))
    → ((k : ℕ) → is_hexadecimal text 0 ≡ false → is_binary text 0 ≡ false → fault.IsWhole text k → slice_index text 0 ≡ 48 → 1 < k → AllIn is_octal_digit text k → value 8 (take k text) ≤ greatest_int
    → P (Ok (integer k (pos (value 8 (take k text))) stay)))
    → ((k : ℕ) → is_hexadecimal text 0 ≡ false → is_binary text 0 ≡ false → fault.IsWhole text k → (slice_index text 0 ≡ 48 → k ≡ 1) → value 10 (take k text) ≤ greatest_int
    → P (Ok (integer k (pos (value 10 (take k text))) stay)))
    → P (number_piece line (number text))
numbers_split line text P digit barred hexadecimal binary octal decimal =
    numbers_or line text P digit
    (λ k zero_first marked some all. numbers_within line (2 + k) (value 16 (take k (drop 2 text))) P
    (hexadecimal k zero_first marked some all)
    (λ large. barred fault.large_hexadecimal (zero_first, (marked, (k, (some, (all, large)))))))
    (λ k zero_first marked some all. numbers_within line (2 + k) (value 2 (take k (drop 2 text))) P
    (binary k zero_first marked some all)
    (λ large. barred fault.large_binary (zero_first, (marked, (k, (some, (all, large)))))))
    (λ k no_hexadecimal no_binary some all. decimals_or line text k P some all
    (λ float. barred fault.float (inr (k, (some, (all.0, float)))))
    (λ whole zero_first more i low bad. barred fault.octal_digit (zero_first, (k, (whole, (i, (low, bad))))))
    (λ whole zero_first more digits. numbers_within line k (value 8 (take k text)) P
    (octal k no_hexadecimal no_binary whole zero_first more digits)
    (λ large. barred fault.large_octal (zero_first, (k, (whole, (digits, large))))))
    (λ whole alone. numbers_within line k (value 10 (take k text)) P
    (decimal k no_hexadecimal no_binary whole alone)
    (λ large. barred fault.large_decimal ((λ zero_first. not_over (value 10 (take k text)) (subst (λ m. value 10 (take m text) ≤ greatest_int) (sym (alone zero_first)) (zero_fits text zero_first)) large), (k, (whole, large))))))

pub zero_digit : (text : Text) → slice_index text 0 ≡ 48 → is_ascii_digit (slice_index text 0) ≡ true
zero_digit text is = ap is_ascii_digit is

decimal_reaches : (mode : Mode) (line : ℕ) (text : Text) (n : ℕ) → form.HasScriptForm form.decimal text n → Reaches mode line form.decimal text n (number_piece line (number text))
decimal_reaches mode line text n has =
    numbers_split line text (Reaches mode line form.decimal text n) (has.0.1.0 0 has.0.0)
    (λ e bars. (e, bars))
    (λ k zero_first marked some all fits. let alone = has.1 zero_first in (omega (arith, alone), λ e. absurd (omega (arith, alone, e))))
    (λ k zero_first marked some all fits. let alone = has.1 zero_first in (omega (arith, alone), λ e. absurd (omega (arith, alone, e))))
    (λ k no_hexadecimal no_binary whole zero_first more digits fits. let alone = has.1 zero_first in (omega (arith, alone, more), λ e. absurd (omega (arith, alone, more, e))))
    (λ k no_hexadecimal no_binary whole alone fits. (all_reach is_ascii_digit text k n refl whole.1.0 has.0.1.0, λ e. ap (λ m. integer m (pos (value 10 (take m text))) stay) (sym e)))

octal_reaches : (mode : Mode) (line : ℕ) (text : Text) (n : ℕ) → form.HasScriptForm form.octal text n → Reaches mode line form.octal text n (number_piece line (number text))
octal_reaches mode line text n has =
    let digits_there = octal_is_digits text n has.1.1.1.0 in
    numbers_split line text (Reaches mode line form.octal text n) (zero_digit text has.0)
    (λ e bars. (e, bars))
    (λ k zero_first marked some all fits. absurd (no_octal text n marked has.1.0 has.1.1.1.0))
    (λ k zero_first marked some all fits. absurd (no_octal_binary text n marked has.1.0 has.1.1.1.0))
    (λ k no_hexadecimal no_binary whole zero_first more digits fits. (all_reach is_ascii_digit text k n refl whole.1.0 digits_there, λ e. ap (λ m. integer m (pos (value 8 (take m text))) stay) (sym e)))
    (λ k no_hexadecimal no_binary whole alone fits. absurd (omega (arith, alone has.0, has.1.0, all_reach is_ascii_digit text k n refl whole.1.0 digits_there)))

hexadecimal_reaches : (mode : Mode) (line : ℕ) (text : Text) (n : ℕ) → form.HasScriptForm form.hexadecimal text n → Reaches mode line form.hexadecimal text n (number_piece line (number text))
hexadecimal_reaches mode line text n has =
    let digits = has.1.1.1.1 in
    let there = hexadecimal_there text has.1.1.0 has.0 has.1.0 digits.0 digits.1.0 in
    numbers_split line text (Reaches mode line form.hexadecimal text n) (zero_digit text has.0)
    (λ e bars. (e, bars))
    (λ k zero_first marked some all fits. (omega (arith, has.1.1.1.0, all_reach is_ascii_hexdigit (drop 2 text) k has.1.1.0 refl all digits.1.0), λ e. based_same 16 text n k e))
    (λ k zero_first marked some all fits. absurd (no_two_marks text has.1.0 marked))
    (λ k no_hexadecimal no_binary whole zero_first more octal fits. absurd (no_both (is_hexadecimal text 0) there no_hexadecimal))
    (λ k no_hexadecimal no_binary whole alone fits. absurd (no_both (is_hexadecimal text 0) there no_hexadecimal))

binary_reaches : (mode : Mode) (line : ℕ) (text : Text) (n : ℕ) → form.HasScriptForm form.binary text n → Reaches mode line form.binary text n (number_piece line (number text))
binary_reaches mode line text n has =
    let digits = has.1.1.1.1 in
    let there = binary_there text has.1.1.0 has.0 has.1.0 digits.0 digits.1.0 in
    numbers_split line text (Reaches mode line form.binary text n) (zero_digit text has.0)
    (λ e bars. (e, bars))
    (λ k zero_first marked some all fits. absurd (no_two_marks text marked has.1.0))
    (λ k zero_first marked some all fits. (omega (arith, has.1.1.1.0, all_reach is_binary_digit (drop 2 text) k has.1.1.0 refl all digits.1.0), λ e. based_same 2 text n k e))
    (λ k no_hexadecimal no_binary whole zero_first more octal fits. absurd (no_both (is_binary text 0) there no_binary))
    (λ k no_hexadecimal no_binary whole alone fits. absurd (no_both (is_binary text 0) there no_binary))

-- ---- heredocs

pub at_label : (mode : Mode) (line : ℕ) (text : Text) (l : form.Label) → form.Opens text l → script_piece mode line text ≡ Behind line text l
at_label mode line text l o = at_less mode line text o.signs.0 ∙ ap (heredoc_or_sign mode line text) (opening_is text l o) ∙ behind_is line text l o

empty_reaches : (mode : Mode) (line : ℕ) (text : Text) (l : form.Label) (n : ℕ) → form.HasScriptForm (form.empty_heredoc l) text n → Reaches mode line (form.empty_heredoc l) text n (Behind line text l)
empty_reaches mode line text l n has =
    behind_or line text l (Reaches mode line (form.empty_heredoc l) text n)
    (λ _. (omega (arith, has.1.1), λ e. ap (λ m. one Kind.Str m [] stay) (sym e)))
    (λ full raw. absurd (no_both _ has.1.0 full))
    (λ full plain. absurd (no_both _ has.1.0 full))

nowdoc_reaches : (mode : Mode) (line : ℕ) (text : Text) (l : form.Label) (k n : ℕ) → form.HasScriptForm (form.nowdoc_text l k) text n → Reaches mode line (form.nowdoc_text l k) text n (Behind line text l)
nowdoc_reaches mode line text l k n has =
    let name = form.name_of text l in
    behind_or line text l (Reaches mode line (form.nowdoc_text l k) text n)
    (λ empty. absurd (no_both _ empty has.1.1.0))
    (λ full raw. subst (Reaches mode line (form.nowdoc_text l k) text n) (sym (nowdoc_is line name text l.start k has.1.1.1.0))
    (omega (arith, has.1.1.1.1), λ e. ap (λ m. one Kind.Str m (take k (drop l.start text)) stay) (sym e)))
    (λ full plain. absurd (other_byte l.quote 39 plain has.1.0))

heredoc_reaches : (mode : Mode) (line : ℕ) (text : Text) (l : form.Label) (k n : ℕ) → form.HasScriptForm (form.heredoc_text l k) text n → Reaches mode line (form.heredoc_text l k) text n (Behind line text l)
heredoc_reaches mode line text l k n has =
    let name = form.name_of text l in
    behind_or line text l (Reaches mode line (form.heredoc_text l k) text n)
    (λ empty. absurd (no_both _ empty has.1.1.0))
    (λ full raw. absurd (other_byte l.quote 39 has.1.0 raw))
    (λ full plain. subst (Reaches mode line (form.heredoc_text l k) text n) (sym (heredoc_is line name text l.start k has.1.1.1.0.0 has.1.1.1.0.1))
    (omega (arith, has.1.1.1.1), λ e. ap (λ m. one Kind.Str m (text_value (label name) (drop l.start text)) stay) (sym e)))

line_reaches : (mode : Mode) (line : ℕ) (text : Text) (l : form.Label) (n : ℕ) → form.HasScriptForm (form.heredoc_line l) text n → Reaches mode line (form.heredoc_line l) text n (Behind line text l)
line_reaches mode line text l n has =
    let name = form.name_of text l in
    let long = label_long text l has.0 in
    behind_or line text l (Reaches mode line (form.heredoc_line l) text n)
    (λ empty. (omega (arith, has.1.1), λ e. absurd (omega (arith, has.1.1, long.1, e))))
    (λ full raw. absurd (other_byte l.quote 39 has.1.0 raw))
    (λ full plain. heredoc_or line name text l.start (Reaches mode line (form.heredoc_line l) text n)
    (λ k inside closing. let some = closing_some name (drop k (drop l.start text)) closing in (omega (arith, has.1.1), λ e. absurd (omega (arith, has.1.1, some, e))))
    (omega (arith, has.1.1), λ e. ap (λ m. one Kind.Quote m [] (enter (heredoc name line))) (sym e)))

-- ---- punctuators

sign_piece_reaches : (mode : Mode) (line : ℕ) (text : Text) (sign : Punct) (n : ℕ) → form.Matches punctuators text sign n → Reaches mode line (form.punctuator_sign sign) text n (sign_piece mode line text (punctuator text))
sign_piece_reaches mode line text sign n has =
    let longest = longest_sign text sign n has in
    let best = longest.0 in
    subst (λ o. Reaches mode line (form.punctuator_sign sign) text n (sign_piece mode line text o)) (sym longest.1.0)
    (decide (is_part_end mode best.0)
    (λ h. rw h (
      longest.1.1.0,
      λ e. sym (chosen (is_part_end mode best.0) (part_end best.1) (written (Kind.Punct best.0) best.1 text (sign_change mode best.0)) h)
          ∙ ap₂ (λ s m. form.sign_given mode s text m) (longest.1.1.1 e) (sym e),
    ))
    (λ h. rw h (
      longest.1.1.0,
      λ e. sym (other (is_part_end mode best.0) (part_end best.1) (written (Kind.Punct best.0) best.1 text (sign_change mode best.0)) h)
          ∙ ap₂ (λ s m. form.sign_given mode s text m) (longest.1.1.1 e) (sym e),
    )))

sign_no_blank : (b : ℕ) → begins_sign b ≡ true → is_blank b ≡ true → ⊥
sign_no_blank b sign is = grind (arith, common_steps)

sign_no_name : (b : ℕ) → begins_sign b ≡ true → is_name_start b ≡ true → ⊥
sign_no_name b sign is = grind (arith, common_steps)

sign_no_digit : (b : ℕ) → begins_sign b ≡ true → is_ascii_digit b ≡ true → ⊥
sign_no_digit b sign is = grind (arith, common_steps)

sign_no_byte : (b c : ℕ) → begins_sign b ≡ true → begins_sign c ≡ false → b ≡ c → ⊥
sign_no_byte b c sign none is = no_both (begins_sign b) sign (ap begins_sign is ∙ none)

two_slashes : (text : Text) → begins_sign (slice_index text 0) ≡ true → 0 < comment_start_len text → ((slice_index text 0 ≡ 47) × (slice_index text 1 ≡ 47)) × (comment_start_len text ≡ 2)
two_slashes text sign some =
    let b = slice_index text 0 in
    let c = slice_index text 1 in
    decide (b == 35)
    (λ hash. absurd (sign_no_byte b 35 sign refl (same_byte b 35 hash)))
    (λ no_hash. decide (b == 47 && c == 47)
    (λ both. ((same_byte b 47 (and_left (b == 47) (c == 47) both), same_byte c 47 (and_right (b == 47) (c == 47) both)), rw (no_hash, both) refl))
    (λ neither. absurd (none_over (b == 35) (b == 47 && c == 47) no_hash neither some)))
  where
    none_over : (p q : Bool) → p ≡ false → q ≡ false → 0 < cond p 1 (cond q 2 0) → ⊥
    none_over true q h k some = absurd (cc)
    none_over false true h k some = absurd (cc)
    none_over false false h k some = omega arith

cast_long : (text : Text) (c : Cast × ℕ) → form.HasScriptForm (form.cast_sign c.0) text c.1 → 2 < c.1
cast_long text c has = omega (arith, has.1.1.1.1.1, has.1.1.1.1.0.1.0.0.0)

sign_reaches : (mode : Mode) (line : ℕ) (text : Text) (sign : Punct) (n : ℕ) → form.Matches punctuators text sign n → Reaches mode line (form.punctuator_sign sign) text n (script_piece mode line text)
sign_reaches mode line text sign n has =
    let short = sign_short text sign n has in
    let begins = sign_begins text sign n has in
    let plain = sign_piece_reaches mode line text sign n has in
    script_or mode line text (Reaches mode line (form.punctuator_sign sign) text n)
    (λ is. absurd (sign_no_blank (slice_index text 0) begins is))
    (λ is. absurd (sign_no_name (slice_index text 0) begins is))
    (λ is. absurd (sign_no_digit (slice_index text 0) begins is))
    (λ some. let slashes = two_slashes text begins some in
    let one_byte = slashes_short text sign n has slashes.0.0 slashes.0.1 in
    (omega (arith, one_byte, slashes.1), λ e. absurd (omega (arith, one_byte, slashes.1, e))))
    (λ block. let signs = comment_signs text block in
    let one_byte = comment_short text sign n has signs.0 signs.1 in
    block_or line text (Reaches mode line (form.punctuator_sign sign) text n) block
    (λ k first. (omega (arith, one_byte), λ e. absurd (omega (arith, one_byte, e))))
    (λ none. (fault.endless_comment, (block, none))))
    (λ _. sign_or mode line text (Reaches mode line (form.punctuator_sign sign) text n)
    (λ is. absurd (sign_no_byte (slice_index text 0) 39 begins refl is))
    (λ is. absurd (sign_no_byte (slice_index text 0) 34 begins refl is))
    (λ is. absurd (sign_no_byte (slice_index text 0) 36 begins refl is))
    (λ first second. let one_byte = tag_short text sign n has first second in (omega (arith, one_byte), λ e. absurd (omega (arith, one_byte, e))))
    (λ first digit. (fault.float, inl (first, digit)))
    (λ less. opened_or mode line text (Reaches mode line (form.punctuator_sign sign) text n)
    (λ l o. subst (Reaches mode line (form.punctuator_sign sign) text n) (sym (behind_is line text l o)) (label_reaches mode line text sign n short.1 l o))
    plain)
    (λ paren. by_cast mode line text sign n (paren_short text sign n has paren) paren plain (cast text) refl)
    plain)
  where
    label_reaches : (mode : Mode) (line : ℕ) (text : Text) (sign : Punct) (n : ℕ) → n ≤ 3 → (l : form.Label) → form.Opens text l → Reaches mode line (form.punctuator_sign sign) text n (Behind line text l)
    label_reaches mode line text sign n short l o =
        let long = label_long text l o in
        behind_or line text l (Reaches mode line (form.punctuator_sign sign) text n)
        (λ empty. (omega (arith, long.0), λ e. absurd (omega (arith, long.0, e))))
        (λ full raw. nowdoc_or line (form.name_of text l) text l.start (Reaches mode line (form.punctuator_sign sign) text n)
        (λ k first. (omega (arith, long.0), λ e. absurd (omega (arith, long.0, e))))
        (λ none. (fault.endless_nowdoc, (l, (o, (raw, (full, none)))))))
        (λ full other_quote. heredoc_or line (form.name_of text l) text l.start (Reaches mode line (form.punctuator_sign sign) text n)
        (λ k inside closing. (omega (arith, long.0), λ e. absurd (omega (arith, long.0, e))))
        (omega (arith, long.0), λ e. absurd (omega (arith, long.0, e))))

    by_cast : (mode : Mode) (line : ℕ) (text : Text) (sign : Punct) (n : ℕ) → n ≡ 1 → slice_index text 0 ≡ 40 → Reaches mode line (form.punctuator_sign sign) text n (sign_piece mode line text (punctuator text))
        → (found : Option (Cast × ℕ)) → cast text ≡ found → Reaches mode line (form.punctuator_sign sign) text n (cast_or_sign mode line text found)
    by_cast mode line text sign n one_byte paren plain None is = plain
    by_cast mode line text sign n one_byte paren plain (Some c) is = let long = cast_long text c (cast_has text c paren is) in (omega (arith, long, one_byte), λ e. absurd (omega (arith, long, one_byte, e)))

-- ---- all forms

pub reaches : (mode : Mode) (line : ℕ) (f : form.ScriptForm) (text : Text) (n : ℕ) → form.HasScriptForm f text n → Reaches mode line f text n (script_piece mode line text)
reaches mode line form.blanks text n has =
    moved mode line form.blanks text n _ (at_blank mode line text (has.1 0 has.0)) (run_reaches is_blank text n refl has.1, λ e. ap (λ m. nothing m stay) (sym e))
reaches mode line form.line_comment text n has =
    let start = comment_start_len text in
    let within : has.1.0 ≤ length (drop start text) = omega (arith, length-drop start text, has.1.1.0, has.1.1.1.0) in
    moved mode line form.line_comment text n _ (at_comment mode line text has.0)
    (omega (arith, has.1.1.0, before_reaches ends_comment (drop start text) has.1.0 within has.1.1.1.1), λ e. ap (λ m. nothing m stay) (sym e))
reaches mode line form.block_comment text n has =
    moved mode line form.block_comment text n _ (at_block mode line text has.0)
    (block_or line text (Reaches mode line form.block_comment text n) has.0
    (λ k first. let same = before_is ends_block (drop 2 text) k no_block_end first in
    let mine = before_is ends_block (drop 2 text) has.1.0 no_block_end has.1.1.1 in
    (omega (arith, same, mine, has.1.1.0), λ e. ap (λ m. nothing m stay) (sym e)))
    (λ none. (fault.endless_comment, (has.0, none))))
reaches mode line form.word text n has = moved mode line form.word text n _ (at_name mode line text has.1.0) (word_reaches mode line text n has)
reaches mode line form.yield_from text n has = moved mode line form.yield_from text n _ (at_name mode line text has.0.0.1.0) (yield_reaches mode line text n has)
reaches mode line form.variable text n has =
    let low = name_reaches text 1 has.1.0 has.1.1.0 in
    moved mode line form.variable text n _ (at_variable mode line text has.0)
    (variable_or line text (Reaches mode line form.variable text n)
    (λ some. (omega (arith, low, has.1.1.1), λ e. variable_same text n (name_len text 1) e))
    (λ none. absurd (omega (arith, none, low, has.1.1.0.0))))
reaches mode line form.decimal text n has = moved mode line form.decimal text n _ (at_digit mode line text (has.0.1.0 0 has.0.0)) (decimal_reaches mode line text n has)
reaches mode line form.octal text n has = moved mode line form.octal text n _ (at_digit mode line text (zero_digit text has.0)) (octal_reaches mode line text n has)
reaches mode line form.hexadecimal text n has = moved mode line form.hexadecimal text n _ (at_digit mode line text (zero_digit text has.0)) (hexadecimal_reaches mode line text n has)
reaches mode line form.binary text n has = moved mode line form.binary text n _ (at_digit mode line text (zero_digit text has.0)) (binary_reaches mode line text n has)
reaches mode line form.raw_text text n has =
    let told = raw_is false (drop 1 text) has.1.0 has.1.1.1.0 (behind 1 text has.1.0 ∙ has.1.1.1.1) in
    moved mode line form.raw_text text n _ (at_raw mode line text has.0)
    (raw_or line text (Reaches mode line form.raw_text text n) has.0
    (λ k raw closes. let same = (raw_is false (drop 1 text) k raw (behind 1 text k ∙ closes)).0 in
    (omega (arith, same, told.0, has.1.1.0), λ e. raw_same text n k e))
    (λ none. absurd (omega (arith, none, told.0, told.1))))
reaches mode line form.quoted_text text n has =
    let k = has.1.0 in
    let closes : slice_index (drop k (drop 1 text)) 0 ≡ 34 = behind_first k (drop 1 text) ∙ behind 1 text k ∙ has.1.1.1.1 in
    let len : text_len quote (drop 1 text) ≡ k = inside_is 0 quote (drop 1 text) k has.1.1.1.0 (quote_stops (drop k (drop 1 text)) closes) in
    moved mode line form.quoted_text text n _ (at_quote mode line text has.0)
    (quoted_or line text (Reaches mode line form.quoted_text text n)
    (λ m is inside there. (omega (arith, is, len, has.1.1.0), λ e. ap (λ i. one Kind.Str i (text_value quote (drop 1 text)) stay) (sym e)))
    (λ open_end. absurd (other_byte (slice_index text (1 + text_len quote (drop 1 text))) 34 open_end (ap (λ i. slice_index text (1 + i)) len ∙ has.1.1.1.1))))
reaches mode line form.opening_quote text n has =
    moved mode line form.opening_quote text n _ (at_quote mode line text has.0)
    (quoted_or line text (Reaches mode line form.opening_quote text n)
    (λ m is inside there. (omega (arith, has.1), λ e. absurd (omega (arith, has.1, e))))
    (λ open_end. (omega (arith, has.1), λ e. ap (λ i. one Kind.Quote i [] (enter (quotes line))) (sym e))))
reaches mode line (form.empty_heredoc l) text n has = moved mode line (form.empty_heredoc l) text n _ (at_label mode line text l has.0) (empty_reaches mode line text l n has)
reaches mode line (form.nowdoc_text l k) text n has = moved mode line (form.nowdoc_text l k) text n _ (at_label mode line text l has.0) (nowdoc_reaches mode line text l k n has)
reaches mode line (form.heredoc_text l k) text n has = moved mode line (form.heredoc_text l k) text n _ (at_label mode line text l has.0) (heredoc_reaches mode line text l k n has)
reaches mode line (form.heredoc_line l) text n has = moved mode line (form.heredoc_line l) text n _ (at_label mode line text l has.0) (line_reaches mode line text l n has)
reaches mode line form.end_tag text n has =
    moved mode line form.end_tag text n _ (at_tag mode line text has.0 has.1.0) (omega (arith, has.1.1), λ e. ap (λ m. one (Kind.Punct PunctKind.Semicolon) m (codes ";") (enter outside)) (sym e))
reaches mode line (form.cast_sign kind) text n has =
    moved mode line (form.cast_sign kind) text n _ (at_paren mode line text has.0 ∙ ap (cast_or_sign mode line text) (cast_is text kind n has)) (omega arith, λ e. refl)
reaches mode line (form.punctuator_sign sign) text n has = sign_reaches mode line text sign n has
