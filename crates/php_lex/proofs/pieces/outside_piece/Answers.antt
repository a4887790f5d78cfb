use Rattle.std.proofs.Common.{◌≡◌, false, sym, ◌∙◌, arith}
use Rattle.php_lex_pieces.specs.Comments.{begins_tag}
use Rattle.php_lex_pieces.proofs.CommentLemmas.{no_tag}
use Rattle.php_lex_pieces.proofs.RunLemmas.{len_before_some}
use Rattle.php_lex.proofs.pieces.outside_piece.Goals as goal

pub returns-clause-within : goal.returns-clause-within
returns-clause-within c =
    let text = c.args.text.now in
    let none : begins_tag text ≡ false = no_tag text (sym c.begins_echo.ensures.value ∙ c.if-begins_echo.false) (omega (arith, c.open_tag_len-tag.ensures.value)) in
    let some = len_before_some begins_tag text c.requires none in
    (omega (arith, some, c.inline_len-len.ensures.value), omega arith)
