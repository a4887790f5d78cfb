-- What the examples share.
use Rattle.std.proofs.Common.{◌≡◌, ℕ, ◌<◌, ◌≤◌, true, nat_lt, nat_le, [], ◌∷◌, arith}
use Rattle.std.proofs.lemmas.Grind.{common_steps}
use Rattle.php_lex_pieces.specs.Bytes.{Text}
use Rattle.php_lex.specs.Modes.{Mode}
use Rattle.php_lex.specs.Pieces.{Piece, Found, piece}
use Rattle.php_lex.specs.Pieces as Pieces
use Rattle.php_lex_pieces.specs.Words as Words
use Rattle.php_lex_pieces.specs.Numbers as Numbers
use Rattle.php_lex_pieces.specs.Punctuators as Punctuators
use Rattle.php_lex_pieces.specs.Comments as Comments
use Rattle.php_lex_pieces.specs.Heredocs as Heredocs
use Rattle.php_lex_pieces.specs.Templates as Templates

-- what stands at the front of a text, where all that it computes with is open
unfoldable pub read : Mode → Text → Found
unfolding Pieces.outside_piece Pieces.script_piece Pieces.block_comment Pieces.variable Pieces.raw Pieces.quoted Pieces.nowdoc Pieces.heredoc_piece Pieces.labelled_piece Pieces.sign Pieces.part_piece Pieces.template_piece Pieces.subject_piece Pieces.member_piece Pieces.key_piece Pieces.key_end_piece Pieces.name_piece Pieces.name_end_piece Pieces.brace_end_piece Words.word Words.yield_from_len Words.word_kind Words.cast Numbers.number Numbers.key_len Punctuators.punctuator Heredocs.opening Templates.escape Templates.stretch Punctuators.punctuators Words.keywords Words.cast_words Words.is_word_at Comments.ends_comment Comments.ends_block Comments.open_tag_len Comments.begins_tag Comments.begins_echo Numbers.int_key Templates.is_label_line Templates.closing_len Templates.scalar_escape Templates.ends Templates.begins_part
read mode text = piece mode 1 text

pub less : (m n : ℕ) → nat_lt m n ≡ true → m < n
less m n h = grind (arith, common_steps)

pub most : (m n : ℕ) → nat_le m n ≡ true → m ≤ n
most m n h = grind (arith, common_steps)

pub some : {n : ℕ} → nat_lt 0 n ≡ true → 0 < n
some {n} h = less 0 n h

abbrev pub newline : Text
newline = 10 ∷ []
