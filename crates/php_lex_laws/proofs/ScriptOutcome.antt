-- What stands in a script has a form, is barred, or begins with no byte of a form.
use Rattle.std.proofs.Common.{◌≡◌, ◌⊎◌, ℕ, ◌+◌, ◌-◌, ◌<◌, ◌≤◌, Bool, true, false, ◌&&◌, cond, length, length-drop, drop, take, Option, Some, None, Ok, Err, pos, refl, sym, ap, ◌∙◌, subst, arith, inl, inr}
use Rattle.std.specs.Prelude.{slice_index, ◌==◌}
use Rattle.std.specs.Char.{is_ascii_digit}
use Rattle.std.proofs.lemmas.Grind.{common_steps}
use Rattle.php_lex.specs.declared.fail.LexFail.TheVariants as Fail
use Rattle.php_token.specs.declared.kind.Cast.{Cast}
use Rattle.php_token.specs.declared.kind.Punct.{Punct}
use Rattle.php_token.specs.declared.kind.TokenKind.TheVariants as Kind
use Rattle.php_lex_pieces.specs.Bytes.{Text, is_blank, is_name_start, is_name_byte, run, name_len, len_before}
use Rattle.php_lex_pieces.specs.Comments.{comment_start_len, ends_comment, raw_value}
use Rattle.php_lex.specs.Modes.{Mode, stay}
use Rattle.php_lex_pieces.specs.Numbers.{value}
use Rattle.php_lex.specs.Pieces.{Found, one, written, integer, part_end, sign_change, is_part_end, script_piece, cast_or_sign, sign_piece}
use Rattle.php_lex_pieces.specs.Punctuators.{punctuator}
use Rattle.php_lex_pieces.specs.Words.{cast}
use Rattle.php_lex_laws.specs.ScriptForms as form
use Rattle.php_lex_laws.specs.ScriptFaults as fault
use Rattle.php_lex_laws.proofs.DigitLemmas.{run_some}
use Rattle.php_lex_laws.proofs.HeredocLemmas.{opened_or}
use Rattle.php_lex_laws.proofs.InsideLemmas.{byte_past}
use Rattle.php_lex_laws.proofs.LabelLemmas.{Behind, behind_is, behind_or, nowdoc_or, heredoc_or}
use Rattle.php_lex_laws.proofs.RangeLemmas.{chosen, other, decide, same_byte, and_right, run_all, behind, name_there, none_before, before_within, raw_is}
use Rattle.php_lex_laws.proofs.ScriptCases.{script_or, sign_or, block_or, raw_or, quoted_or, variable_or}
use Rattle.php_lex_laws.proofs.ScriptReach.{words_or, numbers_split}
use Rattle.php_lex_laws.proofs.SignLemmas.{sign_matches}
use Rattle.php_lex_laws.proofs.WordLemmas.{yield_has, cast_has}

abbrev pub Outcome : Mode → ℕ → Text → Found → Type 0
Outcome mode line text (Ok p) = (f : form.ScriptForm) × (form.HasScriptForm f text p.len × (p ≡ form.script_given mode f line text p.len))
Outcome mode line text (Err failed) =
    ((e : fault.ScriptFault) × (fault.IsNoScriptPiece e text × (failed ≡ fault.script_fault e line)))
    ⊎ ((is_ascii_digit (slice_index text 0) ≡ false) × (failed ≡ Fail.BadByte line))

name_is_byte : (b : ℕ) → is_name_start b ≡ true → is_name_byte b ≡ true
name_is_byte b name = grind (arith, common_steps)

start_within : (text : Text) → 0 < comment_start_len text → comment_start_len text ≤ length text
start_within text some = by_cases (slice_index text 0 == 35) (slice_index text 0 == 47 && slice_index text 1 == 47)
    (λ hash. byte_past text 0 (omega (arith, same_byte (slice_index text 0) 35 hash)))
    (λ both. byte_past text 1 (omega (arith, same_byte (slice_index text 1) 47 (and_right (slice_index text 0 == 47) (slice_index text 1 == 47) both))))
  where
    by_cases : (p q : Bool) → (p ≡ true → 0 < length text) → (q ≡ true → 1 < length text) → cond p 1 (cond q 2 0) ≤ length text
    by_cases true q one two = one refl
    by_cases false true one two = two refl
    by_cases false false one two = omega arith

three_less_two : (k : ℕ) → k + 2 - 2 ≡ k
three_less_two k = omega arith

sign_outcome : (mode : Mode) (line : ℕ) (text : Text) → is_ascii_digit (slice_index text 0) ≡ false → (found : Option (Punct × ℕ)) → punctuator text ≡ found → Outcome mode line text (sign_piece mode line text found)
sign_outcome mode line text no_digit None is = inr (no_digit, refl)
sign_outcome mode line text no_digit (Some found) is =
    let matches = sign_matches text found is in
    decide (is_part_end mode found.0)
    (λ h. rw h (form.punctuator_sign found.0, (matches, sym (chosen (is_part_end mode found.0) (part_end found.1) (written (Kind.Punct found.0) found.1 text (sign_change mode found.0)) h))))
    (λ h. rw h (form.punctuator_sign found.0, (matches, sym (other (is_part_end mode found.0) (part_end found.1) (written (Kind.Punct found.0) found.1 text (sign_change mode found.0)) h))))

cast_outcome : (mode : Mode) (line : ℕ) (text : Text) → slice_index text 0 ≡ 40 → Outcome mode line text (sign_piece mode line text (punctuator text)) → (found : Option (Cast × ℕ)) → cast text ≡ found → Outcome mode line text (cast_or_sign mode line text found)
cast_outcome mode line text paren plain None is = plain
cast_outcome mode line text paren plain (Some c) is = (form.cast_sign c.0, (cast_has text c paren is, refl))

label_outcome : (mode : Mode) (line : ℕ) (text : Text) (l : form.Label) → form.Opens text l → Outcome mode line text (Behind line text l)
label_outcome mode line text l o =
    behind_or line text l (Outcome mode line text)
    (λ empty. (form.empty_heredoc l, ((o, (empty, refl)), refl)))
    (λ full raw. nowdoc_or line (form.name_of text l) text l.start (Outcome mode line text)
    (λ k first. (form.nowdoc_text l k, ((o, (raw, (full, (first, refl)))), refl)))
    (λ none. inl (fault.endless_nowdoc, ((l, (o, (raw, (full, none)))), refl))))
    (λ full plain. heredoc_or line (form.name_of text l) text l.start (Outcome mode line text)
    (λ k inside closing. (form.heredoc_text l k, ((o, (plain, (full, ((inside, closing), refl)))), refl)))
    (form.heredoc_line l, ((o, (plain, refl)), refl)))

pub outcome : (mode : Mode) (line : ℕ) (text : Text) → Outcome mode line text (script_piece mode line text)
outcome mode line text =
    script_or mode line text (Outcome mode line text)
    (λ blank. (form.blanks, ((run_some is_blank text 0 blank refl, run_all is_blank text), refl)))
    (λ name.
    let len : name_len text 0 ≡ run is_name_byte text 0 = chosen (is_name_start (slice_index text 0)) (run is_name_byte text 0) 0 name in
    let some : 0 < name_len text 0 = omega (arith, len, run_some is_name_byte text 0 (name_is_byte (slice_index text 0) name) refl) in
    words_or text (λ w. Outcome mode line text (Ok (written w.0 w.1 text stay)))
    (λ more. (form.yield_from, (yield_has text more, refl)))
    (λ none. (form.word, (name_there text 0 some, refl))))
    (λ digit. numbers_split line text (Outcome mode line text) digit
    (λ e bars. inl (e, (bars, refl)))
    (λ k zero_first marked some all fits. (form.hexadecimal, ((zero_first, (marked, (k, (refl, (some, (all.0, fits)))))), based k 16)))
    (λ k zero_first marked some all fits. (form.binary, ((zero_first, (marked, (k, (refl, (some, (all.0, fits)))))), based k 2)))
    (λ k no_hexadecimal no_binary whole zero_first more digits fits. (form.octal, ((zero_first, (more, (whole.0, (digits, fits)))), refl)))
    (λ k no_hexadecimal no_binary whole alone fits. (form.decimal, (((whole.0, (whole.1.0.0, fits)), alone), refl))))
    (λ some.
    let start = comment_start_len text in
    let rest = before_within ends_comment (drop start text) in
    (form.line_comment, ((some, (len_before ends_comment (drop start text), (refl, (omega (arith, rest, length-drop start text, start_within text some), none_before ends_comment (drop start text))))), refl)))
    (λ begins. block_or line text (Outcome mode line text) begins
    (λ k first. (form.block_comment, ((begins, (k, (refl, first))), refl)))
    (λ none. inl (fault.endless_comment, ((begins, none), refl))))
    (λ no_digit.
    let plain = sign_outcome mode line text no_digit (punctuator text) refl in
    sign_or mode line text (Outcome mode line text)
    (λ begins. raw_or line text (Outcome mode line text) begins
    (λ k raw closes. (form.raw_text, ((begins, (k, (refl, (raw, closes)))), ap (λ m. one Kind.Str (k + 2) (raw_value false (take m (drop 1 text))) stay) (sym (three_less_two k)))))
    (λ all. inl (fault.endless_raw, ((begins, λ k raw closes. let told = raw_is false (drop 1 text) k raw (behind 1 text k ∙ closes) in omega (arith, told.0, told.1, all)), refl))))
    (λ begins. quoted_or line text (Outcome mode line text)
    (λ k is inside closes. (form.quoted_text, ((begins, (k, (refl, (inside, closes)))), refl)))
    (λ open_end. (form.opening_quote, ((begins, refl), refl))))
    (λ begins. variable_or line text (Outcome mode line text)
    (λ some. (form.variable, ((begins, (name_len text 1, (name_there text 1 some, refl))), named (name_len text 1))))
    (λ none. inr (no_digit, refl)))
    (λ first second. (form.end_tag, ((first, (second, refl)), refl)))
    (λ first digit. inl (fault.float, (inl (first, digit), refl)))
    (λ less. opened_or mode line text (Outcome mode line text)
    (λ l o. subst (Outcome mode line text) (sym (behind_is line text l o)) (label_outcome mode line text l o))
    plain)
    (λ paren. cast_outcome mode line text paren plain (cast text) refl)
    plain)
  where
    based : (k base : ℕ) → integer (2 + k) (pos (value base (take k (drop 2 text)))) stay ≡ integer (2 + k) (pos (value base (take (2 + k - 2) (drop 2 text)))) stay
    based k base = let width : 2 + k - 2 ≡ k = omega arith in ap (λ m. integer (2 + k) (pos (value base (take m (drop 2 text)))) stay) (sym width)

    named : (k : ℕ) → one Kind.Variable (1 + k) (take k (drop 1 text)) stay ≡ one Kind.Variable (1 + k) (take (1 + k - 1) (drop 1 text)) stay
    named k = let width : 1 + k - 1 ≡ k = omega arith in ap (λ m. one Kind.Variable (1 + k) (take m (drop 1 text)) stay) (sym width)
