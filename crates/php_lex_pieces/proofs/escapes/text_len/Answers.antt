use Rattle.std.proofs.Common.{ap, ◌∙◌, arith}
use Rattle.php_lex_pieces.specs.Delimiters.{delimiter_of}
use Rattle.php_lex_pieces.proofs.TemplateLemmas.{text_len_more}
use Rattle.php_lex_pieces.proofs.escapes.text_len.Goals as goal

pub loop-at-preserved : goal.loop-at-preserved
loop-at-preserved c =
    let more = text_len_more (delimiter_of c.args.by) c.args.text.now c.loop-at.at c.stretch-len.result.0 (ap (λ r. r.0) c.stretch-len.ensures.value) c.if-len-eq0.false c.stretch-len.ensures.within in
    record {
      counted = more ∙ c.loop-at.invariant.counted;
      within = omega arith;
    }
