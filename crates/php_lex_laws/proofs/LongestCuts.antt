-- A cut by what stands at a place, and a cut into the longest pieces, are one.
use Rattle.std.proofs.Common.{ℕ, ◌<◌, List, [], ◌∷◌, ◌++◌, length, Ok, sym, ap, ◌∙◌, subst, arith, length-append}
use Rattle.php_lex.specs.declared.fail.LexFail.{LexFail}
use Rattle.php_lex_pieces.specs.Bytes.{Text}
use Rattle.php_lex.specs.Cut.{joined, Stands, Follow, Cuts, NoPiece, Stops}
use Rattle.php_lex.specs.Modes.{State, mode_of, changed}
use Rattle.php_lex.specs.Pieces.{Piece}
use Rattle.php_lex.specs.Reading.{lines_after}
use Rattle.php_token.specs.Token.{Token}
use Rattle.php_lex_laws.specs.Longest.{given, IsPieceAt}
use Rattle.php_lex_laws.specs.LongestCut.{IsLongest, AreLongest, IsCut, IsNone, IsStop}
use Rattle.php_lex_laws.proofs.GivenLemmas.{given_len}
use Rattle.php_lex_laws.proofs.LongestLemmas.{longest_is, is_longest, fault_is, at_fault}

more : (bytes behind : Text) → 0 < length bytes → 0 < length (bytes ++ behind)
more bytes behind some = omega (arith, some, length-append bytes behind)

stands_longest : (state : State) (line : ℕ) (bytes behind : Text) (p : Piece) → Stands state line bytes behind p → IsLongest state line bytes behind p
stands_longest state line bytes behind p stands =
    let mode = mode_of state in
    let told = is_longest mode line (bytes ++ behind) p (more bytes behind stands.some) stands.found in
    record {
      some = stands.some;
      form = told.0;
      at = subst (λ n. IsPieceAt mode (bytes ++ behind) n told.0) stands.len told.1.0;
      gives = told.1.1 ∙ ap (given mode told.0 line (bytes ++ behind)) stands.len;
    }

longest_stands : (state : State) (line : ℕ) (bytes behind : Text) (p : Piece) → IsLongest state line bytes behind p → Stands state line bytes behind p
longest_stands state line bytes behind p is =
    let mode = mode_of state in
    record {
      some = is.some;
      found = longest_is mode line (bytes ++ behind) (length bytes) is.form (more bytes behind is.some) is.at ∙ ap (λ q. Ok q) (sym is.gives);
      len = ap (λ q. q.len) is.gives ∙ given_len mode is.form line (bytes ++ behind) (length bytes);
    }

follow_longest : (state : State) (line : ℕ) (pieces : List Text) (rest : Text) (end_state : State) (end_line : ℕ) (found : List Token) → Follow state line pieces rest end_state end_line found → AreLongest state line pieces rest end_state end_line found
follow_longest state line [] rest end_state end_line found follow = follow
follow_longest state line (bytes ∷ pieces) rest end_state end_line found follow =
    let p = follow.0 in (
      p,
      (
        follow.1.0,
        (
          stands_longest state line bytes (joined pieces ++ rest) p follow.1.1.0,
          (
            follow.1.1.1.0,
            follow_longest (changed p.change state) (lines_after line bytes) pieces rest end_state end_line follow.1.0 follow.1.1.1.1,
          ),
        ),
      ),
    )

longest_follow : (state : State) (line : ℕ) (pieces : List Text) (rest : Text) (end_state : State) (end_line : ℕ) (found : List Token) → AreLongest state line pieces rest end_state end_line found → Follow state line pieces rest end_state end_line found
longest_follow state line [] rest end_state end_line found are = are
longest_follow state line (bytes ∷ pieces) rest end_state end_line found are =
    let p = are.0 in (
      p,
      (
        are.1.0,
        (
          longest_stands state line bytes (joined pieces ++ rest) p are.1.1.0,
          (
            are.1.1.1.0,
            longest_follow (changed p.change state) (lines_after line bytes) pieces rest end_state end_line are.1.0 are.1.1.1.1,
          ),
        ),
      ),
    )

pub cut_longest : (text : Text) (pieces : List Text) (found : List Token) → Cuts text pieces found → IsCut text pieces found
cut_longest text pieces found cuts = record {
  whole = cuts.whole;
  end_state = cuts.end_state;
  end_line = cuts.end_line;
  longest = follow_longest _ 1 pieces [] cuts.end_state cuts.end_line found cuts.follow;
  closed = cuts.closed;
}

pub longest_cut : (text : Text) (pieces : List Text) (found : List Token) → IsCut text pieces found → Cuts text pieces found
longest_cut text pieces found cut = record {
  whole = cut.whole;
  end_state = cut.end_state;
  end_line = cut.end_line;
  follow = longest_follow _ 1 pieces [] cut.end_state cut.end_line found cut.longest;
  closed = cut.closed;
}

none_there : (state : State) (line : ℕ) (rest : Text) (fault : LexFail) → NoPiece state line rest fault → IsNone state line rest fault
none_there state line [] fault none = none
none_there state line (b ∷ text) fault none = fault_is (mode_of state) line (b ∷ text) fault (omega arith) none

there_none : (state : State) (line : ℕ) (rest : Text) (fault : LexFail) → IsNone state line rest fault → NoPiece state line rest fault
there_none state line [] fault none = none
there_none state line (b ∷ text) fault none = at_fault (mode_of state) line (b ∷ text) fault (omega arith) none

pub stop_longest : (text : Text) (fault : LexFail) → Stops text fault → IsStop text fault
stop_longest text fault stops = record {
  pieces = stops.pieces;
  rest = stops.rest;
  state = stops.state;
  line = stops.line;
  found = stops.found;
  whole = stops.whole;
  longest = follow_longest _ 1 stops.pieces stops.rest stops.state stops.line stops.found stops.follow;
  none = none_there stops.state stops.line stops.rest fault stops.none;
}

pub longest_stop : (text : Text) (fault : LexFail) → IsStop text fault → Stops text fault
longest_stop text fault stop = record {
  pieces = stop.pieces;
  rest = stop.rest;
  state = stop.state;
  line = stop.line;
  found = stop.found;
  whole = stop.whole;
  follow = longest_follow _ 1 stop.pieces stop.rest stop.state stop.line stop.found stop.longest;
  none = there_none stop.state stop.line stop.rest fault stop.none;
}
