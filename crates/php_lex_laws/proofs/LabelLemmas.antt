-- What stands behind the first line of a heredoc.
use Rattle.std.proofs.Common.{◌≡◌, ℕ, ◌+◌, ◌-◌, ◌<◌, ◌≤◌, true, false, cond, [], length, drop, take, Ok, Err, refl, arith, length-take-le}
use Rattle.std.specs.Prelude.{◌==◌}
use Rattle.std.proofs.lemmas.Grind.{common_steps}
use Rattle.php_lex.specs.declared.fail.LexFail.TheVariants as Fail
use Rattle.php_token.specs.declared.kind.TokenKind.TheVariants as Kind
use Rattle.php_lex_pieces.specs.Bytes.{Text, len_before}
use Rattle.php_lex.specs.Modes.{heredoc, stay, enter}
use Rattle.php_lex.specs.Pieces.{Found, one, labelled_piece, nowdoc, heredoc_piece}
use Rattle.php_lex_pieces.specs.Templates.{label, is_label_line, closes, closing_len, text_len, text_value}
use Rattle.php_lex_laws.specs.Escapes.{IsInside}
use Rattle.php_lex_laws.specs.Ranges.{FirstAt}
use Rattle.php_lex_laws.specs.ScriptForms.{Label, Opens, IsEmpty, name_of}
use Rattle.php_lex_laws.proofs.HeredocLemmas.{label_stops}
use Rattle.php_lex_laws.proofs.InsideLemmas.{inside_is, inside_len}
use Rattle.php_lex_laws.proofs.RangeLemmas.{no_both, decide, same_byte, none_before, before_within, before_is, before_holds, before_none, first_within}
use Rattle.php_lex_laws.proofs.WordLemmas.{name_within}

-- what stands behind a first line, by its label
abbrev pub Behind : ℕ → Text → Label → Found
Behind line text l =
    cond (is_label_line (name_of text l) (drop l.start text)) (Ok (one Kind.Str (l.start + l.len) [] stay))
    (cond (l.quote == 39) (nowdoc line (name_of text l) text l.start) (heredoc_piece line (name_of text l) text l.start))

pub name_len_is : (text : Text) (l : Label) → Opens text l → length (name_of text l) ≡ l.len
name_len_is text l o = length-take-le l.len (drop l.at text) (name_within (drop l.at text) l.len o.name)

pub behind_is : (line : ℕ) (text : Text) (l : Label) → Opens text l
    → labelled_piece line text (record { start = l.at; end = l.at + l.len; is_raw = l.quote == 39; len = l.start }) ≡ Behind line text l
unfolding labelled_piece
behind_is line text l o =
    let width : l.at + l.len - l.at ≡ l.len = omega arith in
    rw (width, name_len_is text l o) refl

-- nothing closes a heredoc at the end of the text
pub no_close : (name : Text) → closes name [] ≡ false
unfolding closing_len
no_close name = refl

-- ---- what is there

pub nowdoc_is : (line : ℕ) (name text : Text) (start k : ℕ) → FirstAt (closes name) (drop start text) k
    → nowdoc line name text start ≡ Ok (one Kind.Str (start + k + closing_len name (drop k (drop start text))) (take k (drop start text)) stay)
unfolding nowdoc
nowdoc_is line name text start k first =
    let len : len_before (closes name) (drop start text) ≡ k = before_is (closes name) (drop start text) k (no_close name) first in
    let within = first_within (closes name) (drop start text) k (no_close name) first.1 in
    rw (len, not_equal k (length (drop start text)) within) refl
  where
    not_equal : (k n : ℕ) → k < n → (k == n) ≡ false
    not_equal k n less = grind (arith, common_steps)

pub nowdoc_or : (line : ℕ) (name text : Text) (start : ℕ) (P : Found → Type 0)
    → ((k : ℕ) → FirstAt (closes name) (drop start text) k → P (Ok (one Kind.Str (start + k + closing_len name (drop k (drop start text))) (take k (drop start text)) stay)))
    → (((k : ℕ) → closes name (drop k (drop start text)) ≡ false) → P (Err (Fail.Unclosed line))) → P (nowdoc line name text start)
unfolding nowdoc
nowdoc_or line name text start P ends endless =
    let body = drop start text in
    let len = len_before (closes name) body in
    decide (len == length body)
    (λ all. rw all (endless (before_none (closes name) body (no_close name) (same_byte len (length body) all))))
    (λ some. rw some (ends len (none_before (closes name) body, before_holds (closes name) body (less len (length body) (before_within (closes name) body) some))))
  where
    less : (k n : ℕ) → k ≤ n → (k == n) ≡ false → k < n
    less k n most differ = grind (arith, common_steps)

pub endless_is : (line : ℕ) (name text : Text) (start : ℕ) → ((k : ℕ) → closes name (drop k (drop start text)) ≡ false) → nowdoc line name text start ≡ Err (Fail.Unclosed line)
endless_is line name text start none =
    nowdoc_or line name text start (λ found. found ≡ Err (Fail.Unclosed line))
    (λ k first. absurd (no_both (closes name (drop k (drop start text))) first.1 (none k)))
    (λ _. refl)

pub heredoc_is : (line : ℕ) (name text : Text) (start k : ℕ) → IsInside 0 (label name) (drop start text) k → closes name (drop k (drop start text)) ≡ true
    → heredoc_piece line name text start ≡ Ok (one Kind.Str (start + k + closing_len name (drop k (drop start text))) (text_value (label name) (drop start text)) stay)
unfolding heredoc_piece
heredoc_is line name text start k inside closing =
    let len : text_len (label name) (drop start text) ≡ k = inside_is 0 (label name) (drop start text) k inside (label_stops name (drop k (drop start text)) closing) in
    rw (len, closing) refl

pub heredoc_or : (line : ℕ) (name text : Text) (start : ℕ) (P : Found → Type 0)
    → ((k : ℕ) → IsInside 0 (label name) (drop start text) k → closes name (drop k (drop start text)) ≡ true
    → P (Ok (one Kind.Str (start + k + closing_len name (drop k (drop start text))) (text_value (label name) (drop start text)) stay)))
    → P (Ok (one Kind.Quote start [] (enter (heredoc name line)))) → P (heredoc_piece line name text start)
unfolding heredoc_piece
heredoc_or line name text start P whole first =
    let body = drop start text in
    let len = text_len (label name) body in
    decide (closes name (drop len body))
    (λ closing. rw closing (whole len (inside_len (label name) body) closing))
    (λ open_end. rw open_end first)

-- behind a first line stand an empty text, a nowdoc or a heredoc
pub behind_or : (line : ℕ) (text : Text) (l : Label) (P : Found → Type 0)
    → (IsEmpty text l true → P (Ok (one Kind.Str (l.start + l.len) [] stay)))
    → (IsEmpty text l false → l.quote ≡ 39 → P (nowdoc line (name_of text l) text l.start))
    → (IsEmpty text l false → (l.quote == 39) ≡ false → P (heredoc_piece line (name_of text l) text l.start))
    → P (Behind line text l)
behind_or line text l P empty raw plain =
    decide (is_label_line (name_of text l) (drop l.start text))
    (λ is. rw is (empty is))
    (λ not. decide (l.quote == 39) (λ is. rw (not, is) (raw not (same_byte l.quote 39 is))) (λ other_quote. rw (not, other_quote) (plain not other_quote)))

pub label_long : (text : Text) (l : Label) → Opens text l → (4 < l.start) × (0 < l.len)
label_long text l o = (omega (arith, o.start, o.newline, o.name.0, o.place), o.name.0)

pub closing_some : (name text : Text) → closes name text ≡ true → 0 < closing_len name text
closing_some name text closing = grind (arith, common_steps)
