use Rattle.std.proofs.Common.{◌+◌, ◌++◌, drop, sym, ap, ◌∙◌, arith, append_assoc}
use Rattle.php_lex_pieces.specs.Delimiters.{delimiter_of}
use Rattle.php_lex_pieces.specs.Templates.{meant, text_value}
use Rattle.php_lex_pieces.proofs.RunLemmas.{part}
use Rattle.php_lex_pieces.proofs.TemplateLemmas.{text_value_more}
use Rattle.php_lex_pieces.proofs.escapes.push_text.Goals as goal

pub loop-at-preserved : goal.loop-at-preserved
loop-at-preserved c =
    let by = delimiter_of c.args.by in
    let text = c.args.text.now in
    let found = c.stretch-len.result in
    let more = text_value_more by text c.loop-at.at found c.stretch-len.ensures.value c.if-len-eq0.false c.loop-at-test.true in
    let later = text_value by (drop (c.loop-at.at + found.0) text) in
    record {
      told = ap (λ v. v ++ later) c.in_ok-push_meant.ensures ∙ append_assoc c.loop-at.out.items (meant (part text c.loop-at.at) found) later ∙ ap (λ v. c.loop-at.out.items ++ v) (sym more) ∙ c.loop-at.invariant.told;
      within = omega arith;
    }
