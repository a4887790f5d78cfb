use Rattle.std.proofs.Common.{◌≡◌, length, subst, arith}
use Rattle.php_lex.specs.declared.tokens.TokenText.TheVariants.{Decoded}
use Rattle.php_lex.specs.Entry.{Keeps}
use Rattle.php_lex.specs.PieceKept.{text_kept}
use Rattle.php_lex.proofs.KeepLemmas.{kept_decoded}
use Rattle.php_lex.proofs.tokens.keep_decoded.Goals as goal

pub returns : goal.returns
returns c =
    let old = c.args.decoded.now.items in
    let new = c.decode.new.decoded.items in
    let first : length old ≡ c.len-start.result = omega arith in
    let last : length new ≡ c.len.result = omega arith in
    let kept = kept_decoded old new (text_kept c.args.text) c.in_ok-decode.ensures in
    subst (λ n. Keeps (text_kept c.args.text) old new (Decoded c.len-start.result n)) last (subst (λ n. Keeps (text_kept c.args.text) old new (Decoded n (length new))) first kept)
