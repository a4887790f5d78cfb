use Rattle.std.proofs.Common.{◌∙◌, ap}
use Rattle.php_ast.specs.expression.View.{spot_view}
use Rattle.php_duplicates.specs.Saw.{saw}
use Rattle.php_duplicates.proofs.SeenLemmas.{as_written, word_saw}
use Rattle.php_duplicates.proofs.seen.Seen.see_word.Goals as goal

pub returns : goal.returns
returns c =
    c.in_ok-see.ensures ∙ ap (λ t. saw (spot_view c.args.word.now.spot) t c.args.self.now) c.in_ok-text.ensures
    ∙ word_saw as_written c.args.word.now.keyword c.args.word.now c.args.self.now
