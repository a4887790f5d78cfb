use Rattle.std.proofs.Common.{◌∙◌}
use Rattle.php_lex_pieces.proofs.keywords.keyword.Goals as goal

pub returns : goal.returns
returns c = c.keyword_in.ensures ∙ c.rows_for.ensures
