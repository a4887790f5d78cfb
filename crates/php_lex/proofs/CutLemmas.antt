-- A text has at most one cut, whose tokens are those of the text.
use Rattle.std.proofs.Common.{◌≡◌, ℕ, ◌+◌, ◌<◌, ◌≤◌, List, [], ◌∷◌, ◌++◌, length, drop, take, Result, Ok, Err, refl, sym, ap, ◌∙◌, subst, arith, append_assoc, append-nil, length-append, length-drop, length-take-le, take-append-drop}
use Rattle.std.proofs.lemmas.List.{drop-drop, take_rest}
use Rattle.php_lex.specs.declared.fail.LexFail.{LexFail}
use Rattle.php_lex_pieces.specs.Bytes.{Text}
use Rattle.php_lex.specs.Cut.{joined, Stands, Follow, Cuts, NoPiece, Stops}
use Rattle.php_lex.specs.Modes.{State, start, mode_of, changed}
use Rattle.php_lex.specs.Pieces.{Piece, piece}
use Rattle.php_lex.specs.Reading.{tokens_of, lines_after, at_end, put_before, read_from, tokens}
use Rattle.php_token.specs.Token.{Token}
use Rattle.php_lex.proofs.KeepLemmas.{take_front, drop_front}
use Rattle.php_lex_pieces.proofs.RunLemmas.{part}
use Rattle.php_lex.proofs.ReadingLemmas.{put_before-append, put_before-nil, at_front}

-- what the tokens of pieces and those of the rest are together
follow_reads : (pieces : List Text) (rest : Text) (state : State) (line : ℕ) (end_state : State) (end_line : ℕ) (found : List Token)
    → Follow state line pieces rest end_state end_line found
    → read_from 0 state line (joined pieces ++ rest) ≡ put_before found (read_from 0 end_state end_line rest)
follow_reads [] rest state line end_state end_line found f =
    ap (λ s. read_from 0 s line rest) f.0 ∙ ap (λ l. read_from 0 end_state l rest) f.1
    ∙ sym (ap (λ ts. put_before ts (read_from 0 end_state end_line rest)) f.2 ∙ put_before-nil (read_from 0 end_state end_line rest))
follow_reads (bytes ∷ pieces) rest state line end_state end_line found f =
    let p = f.0 in
    let later = f.1.0 in
    let stands = f.1.1.0 in
    let behind = joined pieces ++ rest in
    let text = bytes ++ behind in
    let within : p.len ≤ length text = omega (arith, stands.len, length-append bytes behind) in
    let some : 0 < p.len = omega (arith, stands.len, stands.some) in
    let front = at_front state line text p stands.found some within in
    let taken : take p.len text ≡ bytes = ap (λ n. take n text) stands.len ∙ take_front bytes behind in
    let left : drop p.len text ≡ behind = ap (λ n. drop n text) stands.len ∙ drop_front bytes behind in
    let more = follow_reads pieces rest (changed p.change state) (lines_after line bytes) end_state end_line later f.1.1.1.1 in
    ap (read_from 0 state line) (append_assoc bytes (joined pieces) rest) ∙ front
    ∙ ap (λ t. put_before (tokens_of line p) (read_from 0 (changed p.change state) (lines_after line t) (drop p.len text))) taken
    ∙ ap (λ t. put_before (tokens_of line p) (read_from 0 (changed p.change state) (lines_after line bytes) t)) left
    ∙ ap (put_before (tokens_of line p)) more
    ∙ put_before-append (tokens_of line p) later (read_from 0 end_state end_line rest)
    ∙ ap (λ ts. put_before ts (read_from 0 end_state end_line rest)) (sym f.1.1.1.0)

pub cut_reads : (text : Text) (pieces : List Text) (found : List Token) → Cuts text pieces found → tokens text ≡ Ok found
unfolding tokens
cut_reads text pieces found cut =
    ap (read_from 0 start 1) (sym cut.whole) ∙ follow_reads pieces [] start 1 cut.end_state cut.end_line found cut.follow
    ∙ ap (λ o. put_before found (at_end o)) cut.closed ∙ ap Ok (append-nil found)

no_piece_reads : (state : State) (line : ℕ) (rest : Text) (fault : LexFail) → NoPiece state line rest fault → read_from 0 state line rest ≡ Err fault
no_piece_reads state line [] fault none = ap at_end none.1.0 ∙ ap Err (sym none.1.1)
no_piece_reads state line (b ∷ text) fault none = faulty none
  where
    faulty : piece (mode_of state) line (b ∷ text) ≡ Err fault → read_from 0 state line (b ∷ text) ≡ Err fault
    faulty e = rw e refl

pub stop_reads : (text : Text) (fault : LexFail) → Stops text fault → tokens text ≡ Err fault
unfolding tokens
stop_reads text fault stop =
    ap (read_from 0 start 1) (sym stop.whole) ∙ follow_reads stop.pieces stop.rest start 1 stop.state stop.line stop.found stop.follow
    ∙ ap (put_before stop.found) (no_piece_reads stop.state stop.line stop.rest fault stop.none)

same_value : (p q : Piece) (found : Result Piece LexFail) → found ≡ Ok p → found ≡ Ok q → p ≡ q
same_value p q found first second = cc

one_follow : (a b : List Text) (state : State) (line : ℕ) (first second : State) (m n : ℕ) (ts us : List Token)
    → Follow state line a [] first m ts → Follow state line b [] second n us → joined a ++ [] ≡ joined b ++ [] → (a ≡ b) × (ts ≡ us)
one_follow [] [] state line first second m n ts us f g same = (refl, f.2 ∙ sym g.2)
one_follow [] (y ∷ ys) state line first second m n ts us f g same =
    absurd (omega (arith, ap length same, length-append y (joined ys), length-append (y ++ joined ys) [], g.1.1.0.some))
one_follow (x ∷ xs) [] state line first second m n ts us f g same =
    absurd (omega (arith, ap length same, length-append x (joined xs), length-append (x ++ joined xs) [], f.1.1.0.some))
one_follow (x ∷ xs) (y ∷ ys) state line first second m n ts us f g same =
    let p = f.0 in
    let q = g.0 in
    let left = joined xs ++ [] in
    let right = joined ys ++ [] in
    let one = f.1.1.0 in
    let two = g.1.1.0 in
    let text : x ++ left ≡ y ++ right = sym (append_assoc x (joined xs) []) ∙ same ∙ append_assoc y (joined ys) [] in
    let pieces_same : p ≡ q = same_value p q (piece (mode_of state) line (x ++ left)) one.found (ap (piece (mode_of state) line) text ∙ two.found) in
    let lengths : length x ≡ length y = sym one.len ∙ ap (λ r. r.len) pieces_same ∙ two.len in
    let bytes : x ≡ y = sym (take_front x left) ∙ ap (take (length x)) text ∙ ap (λ k. take k (y ++ right)) lengths ∙ take_front y right in
    let rests : left ≡ right = sym (drop_front x left) ∙ ap (drop (length x)) text ∙ ap (λ k. drop k (y ++ right)) lengths ∙ drop_front y right in
    let moved = subst (λ r. Follow (changed r.change state) (lines_after line y) ys [] second n g.1.0) (sym pieces_same) g.1.1.1.1 in
    let here = subst (λ t. Follow (changed p.change state) (lines_after line t) ys [] second n g.1.0) (sym bytes) moved in
    let later = one_follow xs ys (changed p.change state) (lines_after line x) first second m n f.1.0 g.1.0 f.1.1.1.1 here rests in (
      ap (λ t. t ∷ xs) bytes ∙ ap (λ t. y ∷ t) later.0,
      f.1.1.1.0 ∙ ap (λ r. tokens_of line r ++ f.1.0) pieces_same ∙ ap (λ l. tokens_of line q ++ l) later.1 ∙ sym g.1.1.1.0,
    )

pub one_cut : (text : Text) (a b : List Text) (ts us : List Token) → Cuts text a ts → Cuts text b us → (a ≡ b) × (ts ≡ us)
one_cut text a b ts us first second =
    one_follow a b start 1 first.end_state second.end_state first.end_line second.end_line ts us first.follow second.follow (first.whole ∙ sym second.whole)

-- ---- a piece more

pub joined_more : (pieces : List Text) (bytes rest : Text) → joined (pieces ++ bytes ∷ []) ++ rest ≡ joined pieces ++ (bytes ++ rest)
joined_more [] bytes rest = append_assoc bytes [] rest
joined_more (x ∷ xs) bytes rest =
    append_assoc x (joined (xs ++ bytes ∷ [])) rest ∙ ap (λ t. x ++ t) (joined_more xs bytes rest) ∙ sym (append_assoc x (joined xs) (bytes ++ rest))

pub follow_more : (pieces : List Text) (bytes rest : Text) (p : Piece) (state : State) (line : ℕ) (end_state : State) (end_line : ℕ) (found : List Token)
    → Follow state line pieces (bytes ++ rest) end_state end_line found → Stands end_state end_line bytes rest p
    → Follow state line (pieces ++ bytes ∷ []) rest (changed p.change end_state) (lines_after end_line bytes) (found ++ tokens_of end_line p)
follow_more [] bytes rest p state line end_state end_line found f stands =
    let here = subst (λ s. Stands s line bytes rest p) (sym f.0) (subst (λ l. Stands end_state l bytes rest p) (sym f.1) stands) in
    let told : found ++ tokens_of end_line p ≡ tokens_of line p ++ [] = ap (λ ts. ts ++ tokens_of end_line p) f.2 ∙ ap (λ l. tokens_of l p) (sym f.1) ∙ sym (append-nil (tokens_of line p)) in
    (p, ([], (here, (told, (ap (changed p.change) f.0, ap (λ l. lines_after l bytes) f.1, refl)))))
follow_more (x ∷ xs) bytes rest p state line end_state end_line found f stands =
    let q = f.0 in
    let more = follow_more xs bytes rest p (changed q.change state) (lines_after line x) end_state end_line f.1.0 f.1.1.1.1 stands in
    let here = subst (λ t. Stands state line x t q) (sym (joined_more xs bytes rest)) f.1.1.0 in
    let told = ap (λ ts. ts ++ tokens_of end_line p) f.1.1.1.0 ∙ append_assoc (tokens_of line q) f.1.0 (tokens_of end_line p) in
    (q, (f.1.0 ++ tokens_of end_line p, (here, (told, more))))

pub no_piece : (state : State) (line : ℕ) (rest : Text) (fault : LexFail) → 0 < length rest → piece (mode_of state) line rest ≡ Err fault → NoPiece state line rest fault
no_piece state line [] fault some none = absurd (omega arith)
no_piece state line (b ∷ rest) fault some none = none

-- ---- in a text of which a part is cut

-- the pieces before a place, and what they leave there
pub record CutTo (src : Text) (at : ℕ) (state : State) (line : ℕ) (found : List Token) : Type 0 where
  pub pieces : List Text
  pub whole : joined pieces ++ drop at src ≡ src
  pub follow : Follow start 1 pieces (drop at src) state line found

pub cut_starts : (src : Text) (state : State) (found : List Token) → state ≡ start → found ≡ [] → CutTo src 0 state 1 found
cut_starts src state found state_is found_is = record { pieces = []; whole = refl; follow = (sym state_is, refl, found_is) }

pub cut_more : (src : Text) (at : ℕ) (state : State) (line : ℕ) (found : List Token) (p : Piece) → CutTo src at state line found
    → piece (mode_of state) line (part src at) ≡ Ok p → 0 < p.len → p.len ≤ length (part src at)
    → CutTo src (at + p.len) (changed p.change state) (lines_after line (take p.len (part src at))) (found ++ tokens_of line p)
cut_more src at state line found p cut is some within =
    let bytes = take p.len (part src at) in
    let rest = drop (at + p.len) src in
    let behind : drop p.len (part src at) ≡ rest = ap (drop p.len) (take_rest src at) ∙ drop-drop p.len at src in
    let split : drop at src ≡ bytes ++ rest = sym (take_rest src at) ∙ sym (take-append-drop p.len (part src at)) ∙ ap (λ t. bytes ++ t) behind in
    let whole : part src at ≡ bytes ++ rest = take_rest src at ∙ split in
    let len : p.len ≡ length bytes = sym (length-take-le p.len (part src at) within) in
    let stands : Stands state line bytes rest p = record { some = omega (arith, len, some); found = subst (λ t. piece (mode_of state) line t ≡ Ok p) whole is; len = len } in
    let before = subst (λ t. Follow start 1 cut.pieces t state line found) split cut.follow in
    record {
      pieces = cut.pieces ++ bytes ∷ [];
      whole = joined_more cut.pieces bytes rest ∙ ap (λ t. joined cut.pieces ++ t) (sym split) ∙ cut.whole;
      follow = follow_more cut.pieces bytes rest p start 1 state line found before stands;
    }

pub cut_stops : (src : Text) (at : ℕ) (state : State) (line : ℕ) (found : List Token) (fault : LexFail) → CutTo src at state line found → at < length src
    → piece (mode_of state) line (part src at) ≡ Err fault → Stops src fault
cut_stops src at state line found fault cut some is =
    record {
      pieces = cut.pieces;
      rest = drop at src;
      state = state;
      line = line;
      found = found;
      whole = cut.whole;
      follow = cut.follow;
      none = no_piece state line (drop at src) fault (omega (arith, length-drop at src)) (subst (λ t. piece (mode_of state) line t ≡ Err fault) (take_rest src at) is);
    }
