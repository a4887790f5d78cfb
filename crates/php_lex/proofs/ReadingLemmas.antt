-- How the tokens of a text follow piece by piece.
use Rattle.std.proofs.Common.{◌≡◌, ℕ, zero, suc, ◌+◌, ◌-◌, ◌<◌, ◌≤◌, List, [], ◌∷◌, ◌++◌, length, drop, take, Result, Ok, Err, refl, sym, ap, ◌∙◌, subst, arith, append_assoc}
use Rattle.std.proofs.lemmas.List.{drop-drop, length-drop, take_rest}
use Rattle.php_lex.specs.declared.fail.LexFail.{LexFail}
use Rattle.php_lex_pieces.specs.Bytes.{Text}
use Rattle.php_lex.specs.Modes.{State, mode_of, unclosed, changed}
use Rattle.php_lex.specs.Pieces.{Piece, piece}
use Rattle.php_lex.specs.Reading.{tokens_of, line_after, lines_after, at_end, put_before, go_on, read_from, tokens}
use Rattle.php_token.specs.Token.{Token}
use Rattle.php_lex_pieces.proofs.RunLemmas.{part}

-- the bytes that are left of a piece
read_from-drop : (n : ℕ) (state : State) (line : ℕ) (text : Text) → n ≤ length text → read_from n state line text ≡ read_from 0 state (lines_after line (take n text)) (drop n text)
read_from-drop zero state line [] h = refl
read_from-drop zero state line (b ∷ text) h = refl
read_from-drop (suc n) state line [] h = absurd (omega arith)
read_from-drop (suc n) state line (b ∷ text) h = read_from-drop n state (line_after line b) text (omega arith)

-- a piece at the front
read_goes : (n : ℕ) (state : State) (line : ℕ) (b : ℕ) (text : Text) (p : Piece) → piece (mode_of state) line (b ∷ text) ≡ Ok p → p.len ≡ suc n → n ≤ length text
    → read_from 0 state line (b ∷ text) ≡ put_before (tokens_of line p) (read_from 0 (changed p.change state) (lines_after line (take (suc n) (b ∷ text))) (drop (suc n) (b ∷ text)))
read_goes n state line b text p found len h =
    let left : p.len - 1 ≡ n = omega arith in
    ap (λ f. go_on line f (λ q. read_from (q.len - 1) (changed q.change state) (line_after line b) text)) found
    ∙ ap (λ k. put_before (tokens_of line p) (read_from k (changed p.change state) (line_after line b) text)) left
    ∙ ap (put_before (tokens_of line p)) (read_from-drop n (changed p.change state) (line_after line b) text h)

pub put_before-append : (a b : List Token) (rest : Result (List Token) LexFail) → put_before a (put_before b rest) ≡ put_before (a ++ b) rest
put_before-append a b (Ok tokens) = ap Ok (sym (append_assoc a b tokens))
put_before-append a b (Err fault) = refl

pub put_before-nil : (rest : Result (List Token) LexFail) → put_before [] rest ≡ rest
put_before-nil (Ok tokens) = refl
put_before-nil (Err fault) = refl

pub at_front : (state : State) (line : ℕ) (text : Text) (p : Piece) → piece (mode_of state) line text ≡ Ok p → 0 < p.len → p.len ≤ length text
    → read_from 0 state line text ≡ put_before (tokens_of line p) (read_from 0 (changed p.change state) (lines_after line (take p.len text)) (drop p.len text))
at_front state line [] p found some within = absurd (omega arith)
at_front state line (b ∷ text) p found some within =
    let n = p.len - 1 in
    let len : p.len ≡ suc n = omega arith in
    let goes = read_goes n state line b text p found len (omega arith) in
    subst (λ k. read_from 0 state line (b ∷ text) ≡ put_before (tokens_of line p) (read_from 0 (changed p.change state) (lines_after line (take k (b ∷ text))) (drop k (b ∷ text)))) (sym len) goes

-- a piece at a place, behind the tokens before it
pub read_more : (before : List Token) (state : State) (line : ℕ) (src : Text) (at : ℕ) (p : Piece) → piece (mode_of state) line (part src at) ≡ Ok p → 0 < p.len → p.len ≤ length (part src at)
    → put_before (before ++ tokens_of line p) (read_from 0 (changed p.change state) (lines_after line (take p.len (part src at))) (drop (at + p.len) src)) ≡ put_before before (read_from 0 state line (drop at src))
read_more before state line src at p found some within =
    let whole = take_rest src at in
    let here : piece (mode_of state) line (drop at src) ≡ Ok p = subst (λ t. piece (mode_of state) line t ≡ Ok p) whole found in
    let goes = at_front state line (drop at src) p here some (omega (arith, ap length whole)) in
    let lines = lines_after line (take p.len (part src at)) in
    let same_lines : lines_after line (take p.len (drop at src)) ≡ lines = ap (λ t. lines_after line (take p.len t)) (sym whole) in
    sym (ap (put_before before) (goes
    ∙ ap (λ l. put_before (tokens_of line p) (read_from 0 (changed p.change state) l (drop p.len (drop at src)))) same_lines
    ∙ ap (λ t. put_before (tokens_of line p) (read_from 0 (changed p.change state) lines t)) (drop-drop p.len at src))
    ∙ put_before-append before (tokens_of line p) (read_from 0 (changed p.change state) lines (drop (at + p.len) src)))

-- a fault at a place
pub read_faulty : (before : List Token) (state : State) (line : ℕ) (src : Text) (at : ℕ) (fault : LexFail) → at < length src → piece (mode_of state) line (part src at) ≡ Err fault
    → put_before before (read_from 0 state line (drop at src)) ≡ Err fault
read_faulty before state line src at fault some found =
    let here : piece (mode_of state) line (drop at src) ≡ Err fault = subst (λ t. piece (mode_of state) line t ≡ Err fault) (take_rest src at) found in
    ap (put_before before) (stops (drop at src) (omega (arith, length-drop at src)) here)
  where
    stops : (text : Text) → 0 < length text → piece (mode_of state) line text ≡ Err fault → read_from 0 state line text ≡ Err fault
    stops [] some found = absurd (omega arith)
    stops (b ∷ text) some found = ap (λ f. go_on line f (λ q. read_from (q.len - 1) (changed q.change state) (line_after line b) text)) found

-- the end of the text
pub read_ends : (before : List Token) (state : State) (line : ℕ) (src : Text) (at : ℕ) → drop at src ≡ [] → put_before before (read_from 0 state line (drop at src)) ≡ put_before before (at_end (unclosed state))
read_ends before state line src at nothing = ap (λ t. put_before before (read_from 0 state line t)) nothing
