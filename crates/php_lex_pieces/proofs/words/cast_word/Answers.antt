use Rattle.php_lex_pieces.specs.Words.{cast_words}
use Rattle.php_lex_pieces.proofs.words.cast_word.Goals as goal

pub returns : goal.returns
unfolding cast_words
returns c = c.cast_in.ensures
