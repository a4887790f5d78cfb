-- The forms that a piece outside the tags may have.
use Rattle.std.specs.Prelude.{◌≡◌, ◌⊎◌, ℕ, ◌<◌, ◌≤◌, true, length, slice_index, codes}
use Rattle.php_token.specs.declared.kind.Keyword.TheVariants as Keyword
use Rattle.php_token.specs.declared.kind.TokenKind.TheVariants as Kind
use Rattle.php_lex_pieces.specs.Bytes.{Text, is_blank}
use Rattle.php_lex_pieces.specs.Comments.{begins_echo, begins_tag, is_tag_name}
use Rattle.php_lex.specs.Modes.{stay, leave}
use Rattle.php_lex.specs.Pieces.{Piece, nothing, one, written}
use Rattle.php_lex_laws.specs.Ranges.{NoneAt}

pub data OutsideForm : Type 0 where
  inline : OutsideForm
  echo_tag : OutsideForm
  open_tag : OutsideForm

-- the first n bytes of the text have the form
abbrev pub HasOutsideForm : OutsideForm → Text → ℕ → Type 0
HasOutsideForm inline text n = (0 < n) × ((n ≤ length text) × NoneAt begins_tag text n)
HasOutsideForm echo_tag text n = (begins_echo text ≡ true) × (n ≡ 3)
HasOutsideForm open_tag text n =
    (is_tag_name text ≡ true) × (((length text ≡ 5) × (n ≡ 5))
    ⊎ (((is_blank (slice_index text 5) ≡ true) × (n ≡ 6))
    ⊎ ((slice_index text 5 ≡ 13) × ((slice_index text 6 ≡ 10) × (n ≡ 7)))))

-- the piece that n bytes of the form are
abbrev pub outside_given : OutsideForm → Text → ℕ → Piece
outside_given inline text n = written Kind.Inline n text stay
outside_given echo_tag text n = one (Kind.Keyword Keyword.Echo) n (codes "echo") leave
outside_given open_tag text n = nothing n leave
