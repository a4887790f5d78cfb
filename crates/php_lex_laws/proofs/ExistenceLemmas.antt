-- Each text has a cut into the longest pieces, or they stop at a place.
use Rattle.std.proofs.Common.{◌≡◌, ◌⊎◌, ℕ, zero, suc, ◌<◌, ◌≤◌, List, [], ◌∷◌, ◌++◌, length, take, drop, Option, Some, None, Ok, Err, refl, sym, ap, ◌∙◌, subst, arith, inl, inr, ⊎_elim, append_assoc, length-drop, length-take-le, take-append-drop}
use Rattle.php_lex.specs.declared.fail.LexFail.{LexFail}
use Rattle.php_lex.specs.declared.fail.LexFail.TheVariants.{Unclosed}
use Rattle.php_lex_pieces.specs.Bytes.{Text}
use Rattle.php_lex.specs.Cut.{joined, Stands, Follow, NoPiece}
use Rattle.php_lex.specs.Modes.{State, start, mode_of, unclosed, changed}
use Rattle.php_lex.specs.Pieces.{Piece, Found, piece}
use Rattle.php_lex.specs.Reading.{tokens_of, lines_after}
use Rattle.php_token.specs.Token.{Token}
use Rattle.php_lex_laws.specs.LongestCut.{IsCut, IsStop}
use Rattle.php_lex_laws.proofs.LongestCuts.{cut_longest, stop_longest}
use Rattle.php_lex_laws.proofs.LongestLemmas.{is_longest}
use Rattle.php_lex_laws.proofs.WithinLemmas.{form_within}

-- what is left of a text is cut to its end
record CutsRest (state : State) (line : ℕ) (text : Text) : Type 0 where
  pieces : List Text
  found : List Token
  end_state : State
  end_line : ℕ
  whole : joined pieces ++ [] ≡ text
  follow : Follow state line pieces [] end_state end_line found
  closed : unclosed end_state ≡ None

-- or pieces stop in it
record StopsIn (state : State) (line : ℕ) (text : Text) : Type 0 where
  fault : LexFail
  pieces : List Text
  rest : Text
  end_state : State
  end_line : ℕ
  found : List Token
  whole : joined pieces ++ rest ≡ text
  follow : Follow state line pieces rest end_state end_line found
  none : NoPiece end_state end_line rest fault

piece_within : (state : State) (line : ℕ) (text : Text) (p : Piece) → 0 < length text → piece (mode_of state) line text ≡ Ok p → (0 < p.len) × (p.len ≤ length text)
piece_within state line text p some is =
    let told = is_longest (mode_of state) line text p some is in
    form_within (mode_of state) told.0 text p.len told.1.0.has

-- a piece in front of what is behind it
stands_front : (state : State) (line : ℕ) (text : Text) (p : Piece) (pieces : List Text) (rest : Text) → 0 < length text → piece (mode_of state) line text ≡ Ok p → joined pieces ++ rest ≡ drop p.len text
    → Stands state line (take p.len text) (joined pieces ++ rest) p
stands_front state line text p pieces rest some is whole =
    let within = piece_within state line text p some is in
    let len : p.len ≡ length (take p.len text) = sym (length-take-le p.len text within.1) in
    let back : text ≡ take p.len text ++ (joined pieces ++ rest) = sym (take-append-drop p.len text) ∙ ap (λ t. take p.len text ++ t) (sym whole) in
    record { some = omega (arith, len, within.0); found = subst (λ t. piece (mode_of state) line t ≡ Ok p) back is; len = len }

whole_front : (text : Text) (n : ℕ) (pieces : List Text) (rest : Text) → joined pieces ++ rest ≡ drop n text → joined (take n text ∷ pieces) ++ rest ≡ text
whole_front text n pieces rest whole = append_assoc (take n text) (joined pieces) rest ∙ ap (λ t. take n text ++ t) whole ∙ take-append-drop n text

cuts_front : (state : State) (line : ℕ) (text : Text) (p : Piece) → 0 < length text → piece (mode_of state) line text ≡ Ok p → CutsRest (changed p.change state) (lines_after line (take p.len text)) (drop p.len text) → CutsRest state line text
cuts_front state line text p some is later = record {
  pieces = take p.len text ∷ later.pieces;
  found = tokens_of line p ++ later.found;
  end_state = later.end_state;
  end_line = later.end_line;
  whole = whole_front text p.len later.pieces [] later.whole;
  follow = (p, (later.found, (stands_front state line text p later.pieces [] some is later.whole, (refl, later.follow))));
  closed = later.closed;
}

stops_front : (state : State) (line : ℕ) (text : Text) (p : Piece) → 0 < length text → piece (mode_of state) line text ≡ Ok p → StopsIn (changed p.change state) (lines_after line (take p.len text)) (drop p.len text) → StopsIn state line text
stops_front state line text p some is later = record {
  fault = later.fault;
  pieces = take p.len text ∷ later.pieces;
  rest = later.rest;
  end_state = later.end_state;
  end_line = later.end_line;
  found = tokens_of line p ++ later.found;
  whole = whole_front text p.len later.pieces later.rest later.whole;
  follow = (p, (later.found, (stands_front state line text p later.pieces later.rest some is later.whole, (refl, later.follow))));
  none = later.none;
}

at_end : (state : State) (line : ℕ) (left : Option ℕ) → unclosed state ≡ left → CutsRest state line [] ⊎ StopsIn state line []
at_end state line None is = inl (record { pieces = []; found = []; end_state = state; end_line = line; whole = refl; follow = (refl, refl, refl); closed = is })
at_end state line (Some begun) is =
    inr (record { fault = Unclosed begun; pieces = []; rest = []; end_state = state; end_line = line; found = []; whole = refl; follow = (refl, refl, refl); none = (begun, (is, refl)) })

rest_of : (fuel : ℕ) (state : State) (line : ℕ) (text : Text) → length text ≤ fuel → CutsRest state line text ⊎ StopsIn state line text
rest_of fuel state line [] enough = at_end state line (unclosed state) refl
rest_of zero state line (b ∷ text) enough = absurd (omega arith)
rest_of (suc fuel) state line (b ∷ text) enough = by_found (rest_of fuel) (piece (mode_of state) line (b ∷ text)) refl
  where
    by_found : ((state : State) (line : ℕ) (text : Text) → length text ≤ fuel → CutsRest state line text ⊎ StopsIn state line text)
        → (found : Found) → piece (mode_of state) line (b ∷ text) ≡ found → CutsRest state line (b ∷ text) ⊎ StopsIn state line (b ∷ text)
    by_found later (Ok p) is =
        let some : 0 < length (b ∷ text) = omega arith in
        let within = piece_within state line (b ∷ text) p some is in
        ⊎_elim (λ cuts. inl (cuts_front state line (b ∷ text) p some is cuts)) (λ stops. inr (stops_front state line (b ∷ text) p some is stops))
        (later (changed p.change state) (lines_after line (take p.len (b ∷ text))) (drop p.len (b ∷ text)) (omega (arith, within.0, length-drop p.len (b ∷ text))))
    by_found later (Err fault) is =
        inr (record { fault = fault; pieces = []; rest = b ∷ text; end_state = state; end_line = line; found = []; whole = refl; follow = (refl, refl, refl); none = is })

pub cut_or_stop : (text : Text) → ((pieces : List Text) × ((found : List Token) × IsCut text pieces found)) ⊎ ((fault : LexFail) × IsStop text fault)
cut_or_stop text =
    ⊎_elim
    (λ c. inl (c.pieces, (c.found, cut_longest text c.pieces c.found (record { whole = c.whole; end_state = c.end_state; end_line = c.end_line; follow = c.follow; closed = c.closed }))))
    (λ s. inr (s.fault, stop_longest text s.fault (record { pieces = s.pieces; rest = s.rest; state = s.end_state; line = s.end_line; found = s.found; whole = s.whole; follow = s.follow; none = s.none })))
    (rest_of (length text) start 1 text (omega arith))
