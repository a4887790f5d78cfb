use Rattle.std.proofs.Common.{sym, ap, ◌∙◌}
use Rattle.php_lex.specs.declared.tokens.TokenText.TheVariants.{Plain}
use Rattle.php_lex.specs.PieceKept.{text_kept}
use Rattle.php_lex.proofs.KeepLemmas.{kept_plain, raw_value_same, none_found}
use Rattle.php_lex.proofs.tokens.keep.Goals as goal

pub returns-in-Raw : goal.returns-in-Raw
returns-in-Raw c =
    let nowhere = none_found c.memchr.result c.is_none.result _ _ c.is_none.ensures c.if-is_none.true c.memchr.ensures in
    kept_plain c.args.decoded.now.items (text_kept c.args.text) (Plain c.in-Raw.bytes) tt (sym (raw_value_same c.in-Raw.bytes.now nowhere) ∙ sym (ap text_kept c.in-Raw.is))
