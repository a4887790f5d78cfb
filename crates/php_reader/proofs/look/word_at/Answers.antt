use Rattle.std.proofs.Common.{Some, refl, subst}
use Rattle.php_reader.specs.Seen.{Words}
use Rattle.php_reader.proofs.Words.{word_shown}
use Rattle.php_reader.proofs.look.word_at.Goals as goal

pub returns : goal.returns
returns c = word_shown c.args.tokens.now c.args.at _ (c.if-not-stands.ensures.yes refl) (subst (λ k. Words k (Some c.in-Some.keyword)) c.kind.ensures c.in-Some.ensures) c.spot.ensures c.in_ok-text_at.ensures
