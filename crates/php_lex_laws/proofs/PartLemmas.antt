-- What stands in a part without braces, and behind `${`.
use Rattle.std.proofs.Common.{◌≡◌, ℕ, ◌<◌, false, ◌&&◌, nat_lt, take, Ok, Err, refl, sym, ap, arith, inr}
use Rattle.std.specs.Prelude.{slice_index, ◌==◌}
use Rattle.php_lex.specs.declared.fail.LexFail.TheVariants as Fail
use Rattle.php_token.specs.declared.kind.Punct.TheVariants as Punct
use Rattle.php_token.specs.declared.kind.TokenKind.TheVariants as Kind
use Rattle.php_lex_pieces.specs.Bytes.{Text, name_len}
use Rattle.php_lex.specs.Modes.{name_due, name_read, brackets, brace_due, subject, member_due, key_due, key_read, turn}
use Rattle.php_lex.specs.Pieces.{Found, written, part_end, last_written, subject_piece, member_piece, key_end_piece, name_piece, name_end_piece, brace_end_piece}
use Rattle.php_lex_pieces.specs.Words.{word_kind}
use Rattle.php_lex_laws.specs.PartForms as form
use Rattle.php_lex_laws.proofs.RangeLemmas.{no_both, decide, same_byte, other_byte, is_byte, is_over, is_under, and_left, and_right, name_reaches, name_there}
use Rattle.php_lex_laws.proofs.Standing.{Reaches, Outcome}

-- ---- behind a variable

subject_or : (begun line : ℕ) (text : Text) (P : Found → Type 0)
    → (slice_index text 0 ≡ 91 → P (Ok (written (Kind.Punct Punct.LeftBracket) 1 text (turn (key_due begun)))))
    → ((slice_index text 0 == 91) ≡ false → slice_index text 0 ≡ 45 → slice_index text 1 ≡ 62 → P (Ok (written (Kind.Punct Punct.Arrow) 2 text (turn (member_due begun)))))
    → ((slice_index text 0 == 91) ≡ false → (slice_index text 0 == 45 && slice_index text 1 == 62) ≡ false → P (Err (Fail.BadEscape line)))
    → P (subject_piece begun line text)
unfolding subject_piece
subject_or begun line text P bracket arrow none =
    let b = slice_index text 0 in
    let c = slice_index text 1 in
    decide (b == 91) (λ h. rw h (bracket (same_byte b 91 h))) (λ no_bracket.
    decide (b == 45 && c == 62) (λ h. rw (no_bracket, h) (arrow no_bracket (same_byte b 45 (and_left (b == 45) (c == 62) h)) (same_byte c 62 (and_right (b == 45) (c == 62) h)))) (λ h. rw (no_bracket, h) (none no_bracket h)))

pub subject_reaches : (begun line : ℕ) (f : form.SubjectForm) (text : Text) (n : ℕ) → form.HasSubjectForm f text n → Reaches (subject begun) line f text n (subject_piece begun line text)
subject_reaches begun line form.left_bracket text n has =
    subject_or begun line text (Reaches (subject begun) line form.left_bracket text n)
    (λ is. (omega (arith, has.1), λ e. ap (λ m. written (Kind.Punct Punct.LeftBracket) m text (turn (key_due begun))) (sym e)))
    (λ no_bracket first second. absurd (other_byte (slice_index text 0) 91 no_bracket has.0))
    (λ no_bracket no_arrow. absurd (other_byte (slice_index text 0) 91 no_bracket has.0))
subject_reaches begun line form.arrow text n has =
    subject_or begun line text (Reaches (subject begun) line form.arrow text n)
    (λ is. absurd (omega (arith, is, has.0)))
    (λ no_bracket first second. (omega (arith, has.1.1), λ e. ap (λ m. written (Kind.Punct Punct.Arrow) m text (turn (member_due begun))) (sym e)))
    (λ no_bracket no_arrow. absurd (no_both (slice_index text 0 == 45 && slice_index text 1 == 62) (let first = is_byte (slice_index text 0) 45 has.0 in let second = is_byte (slice_index text 1) 62 has.1.0 in rw (first, second) refl) no_arrow))

pub subject_outcome : (begun line : ℕ) (text : Text) → Outcome (subject begun) line text (subject_piece begun line text)
subject_outcome begun line text =
    subject_or begun line text (Outcome (subject begun) line text)
    (λ is. (form.left_bracket, ((is, refl), refl)))
    (λ no_bracket first second. (form.arrow, ((first, (second, refl)), refl)))
    (λ no_bracket no_arrow. inr (λ e bars. bars, refl))

-- ---- names

member_or : (line : ℕ) (text : Text) (P : Found → Type 0)
    → (0 < name_len text 0 → P (Ok (last_written (word_kind (take (name_len text 0) text)) (name_len text 0) text)))
    → (name_len text 0 ≡ 0 → P (Err (Fail.BadEscape line))) → P (member_piece line text)
unfolding member_piece
member_or line text P named none = decide (nat_lt 0 (name_len text 0)) (λ h. rw h (named (is_over (name_len text 0) h))) (λ h. rw h (none (is_under (name_len text 0) h)))

pub member_reaches : (begun line : ℕ) (f : form.NameForm) (text : Text) (n : ℕ) → form.HasNameForm f text n → Reaches (member_due begun) line f text n (member_piece line text)
member_reaches begun line form.name text n has =
    let low = name_reaches text 0 n has in
    member_or line text (Reaches (member_due begun) line form.name text n)
    (λ some. (low, λ e. ap (λ m. last_written (word_kind (take m text)) m text) (sym e)))
    (λ none. absurd (omega (arith, none, low, has.0)))

pub member_outcome : (begun line : ℕ) (text : Text) → Outcome (member_due begun) line text (member_piece line text)
member_outcome begun line text =
    member_or line text (Outcome (member_due begun) line text)
    (λ some. (form.name, (name_there text 0 some, refl)))
    (λ none. inr (λ e bars. bars, refl))

name_or : (begun line : ℕ) (text : Text) (P : Found → Type 0)
    → (0 < name_len text 0 → P (Ok (written Kind.Variable (name_len text 0) text (turn (name_read begun)))))
    → (name_len text 0 ≡ 0 → P (Err (Fail.BadEscape line))) → P (name_piece begun line text)
unfolding name_piece
name_or begun line text P named none = decide (nat_lt 0 (name_len text 0)) (λ h. rw h (named (is_over (name_len text 0) h))) (λ h. rw h (none (is_under (name_len text 0) h)))

pub name_reaches_all : (begun line : ℕ) (f : form.NameForm) (text : Text) (n : ℕ) → form.HasNameForm f text n → Reaches (name_due begun) line f text n (name_piece begun line text)
name_reaches_all begun line form.name text n has =
    let low = name_reaches text 0 n has in
    name_or begun line text (Reaches (name_due begun) line form.name text n)
    (λ some. (low, λ e. ap (λ m. written Kind.Variable m text (turn (name_read begun))) (sym e)))
    (λ none. absurd (omega (arith, none, low, has.0)))

pub name_outcome : (begun line : ℕ) (text : Text) → Outcome (name_due begun) line text (name_piece begun line text)
name_outcome begun line text =
    name_or begun line text (Outcome (name_due begun) line text)
    (λ some. (form.name, (name_there text 0 some, refl)))
    (λ none. inr (λ e bars. bars, refl))

-- ---- ends

key_end_or : (line : ℕ) (text : Text) (P : Found → Type 0) → (slice_index text 0 ≡ 93 → P (Ok (last_written (Kind.Punct Punct.RightBracket) 1 text))) → ((slice_index text 0 == 93) ≡ false → P (Err (Fail.BadEscape line))) → P (key_end_piece line text)
unfolding key_end_piece
key_end_or line text P bracket none = decide (slice_index text 0 == 93) (λ h. rw h (bracket (same_byte (slice_index text 0) 93 h))) (λ h. rw h (none h))

pub key_end_reaches : (begun line : ℕ) (f : form.KeyEndForm) (text : Text) (n : ℕ) → form.HasKeyEndForm f text n → Reaches (key_read begun) line f text n (key_end_piece line text)
key_end_reaches begun line form.right_bracket text n has =
    key_end_or line text (Reaches (key_read begun) line form.right_bracket text n)
    (λ is. (omega (arith, has.1), λ e. ap (λ m. last_written (Kind.Punct Punct.RightBracket) m text) (sym e)))
    (λ none. absurd (other_byte (slice_index text 0) 93 none has.0))

pub key_end_outcome : (begun line : ℕ) (text : Text) → Outcome (key_read begun) line text (key_end_piece line text)
key_end_outcome begun line text =
    key_end_or line text (Outcome (key_read begun) line text)
    (λ is. (form.right_bracket, ((is, refl), refl)))
    (λ none. inr (λ e bars. bars, refl))

name_end_or : (begun line : ℕ) (text : Text) (P : Found → Type 0)
    → (slice_index text 0 ≡ 125 → P (Ok (part_end 1)))
    → ((slice_index text 0 == 125) ≡ false → slice_index text 0 ≡ 91 → P (Ok (written (Kind.Punct Punct.LeftBracket) 1 text (turn (brackets begun)))))
    → ((slice_index text 0 == 125) ≡ false → (slice_index text 0 == 91) ≡ false → P (Err (Fail.BadEscape line))) → P (name_end_piece begun line text)
unfolding name_end_piece
name_end_or begun line text P brace bracket none =
    decide (slice_index text 0 == 125) (λ h. rw h (brace (same_byte (slice_index text 0) 125 h))) (λ no_brace.
    decide (slice_index text 0 == 91) (λ h. rw (no_brace, h) (bracket no_brace (same_byte (slice_index text 0) 91 h))) (λ h. rw (no_brace, h) (none no_brace h)))

pub name_end_reaches : (begun line : ℕ) (f : form.NameEndForm) (text : Text) (n : ℕ) → form.HasNameEndForm f text n → Reaches (name_read begun) line f text n (name_end_piece begun line text)
name_end_reaches begun line form.right_brace text n has =
    name_end_or begun line text (Reaches (name_read begun) line form.right_brace text n)
    (λ is. (omega (arith, has.1), λ e. ap part_end (sym e)))
    (λ no_brace is. absurd (other_byte (slice_index text 0) 125 no_brace has.0))
    (λ no_brace no_bracket. absurd (other_byte (slice_index text 0) 125 no_brace has.0))
name_end_reaches begun line form.left_index text n has =
    name_end_or begun line text (Reaches (name_read begun) line form.left_index text n)
    (λ is. absurd (omega (arith, is, has.0)))
    (λ no_brace is. (omega (arith, has.1), λ e. ap (λ m. written (Kind.Punct Punct.LeftBracket) m text (turn (brackets begun))) (sym e)))
    (λ no_brace no_bracket. absurd (other_byte (slice_index text 0) 91 no_bracket has.0))

pub name_end_outcome : (begun line : ℕ) (text : Text) → Outcome (name_read begun) line text (name_end_piece begun line text)
name_end_outcome begun line text =
    name_end_or begun line text (Outcome (name_read begun) line text)
    (λ is. (form.right_brace, ((is, refl), refl)))
    (λ no_brace is. (form.left_index, ((is, refl), refl)))
    (λ no_brace no_bracket. inr (λ e bars. bars, refl))

brace_end_or : (line : ℕ) (text : Text) (P : Found → Type 0) → (slice_index text 0 ≡ 125 → P (Ok (part_end 1))) → ((slice_index text 0 == 125) ≡ false → P (Err (Fail.BadEscape line))) → P (brace_end_piece line text)
unfolding brace_end_piece
brace_end_or line text P brace none = decide (slice_index text 0 == 125) (λ h. rw h (brace (same_byte (slice_index text 0) 125 h))) (λ h. rw h (none h))

pub brace_end_reaches : (begun line : ℕ) (f : form.BraceEndForm) (text : Text) (n : ℕ) → form.HasBraceEndForm f text n → Reaches (brace_due begun) line f text n (brace_end_piece line text)
brace_end_reaches begun line form.last_brace text n has =
    brace_end_or line text (Reaches (brace_due begun) line form.last_brace text n)
    (λ is. (omega (arith, has.1), λ e. ap part_end (sym e)))
    (λ none. absurd (other_byte (slice_index text 0) 125 none has.0))

pub brace_end_outcome : (begun line : ℕ) (text : Text) → Outcome (brace_due begun) line text (brace_end_piece line text)
brace_end_outcome begun line text =
    brace_end_or line text (Outcome (brace_due begun) line text)
    (λ is. (form.last_brace, ((is, refl), refl)))
    (λ none. inr (λ e bars. bars, refl))
