use Rattle.std.proofs.Common.{refl, sym, ◌∙◌, arith}
use Rattle.php_lex.proofs.LineLemmas.{line_goes, line_stays, end_within}
use Rattle.php_lex.proofs.lines.line_behind.Goals as goal

pub loop-end-preserved : goal.loop-end-preserved
loop-end-preserved c =
    let old = c.loop-end in
    let goes = line_goes old.number c.args.text.now old.begin old.end c.args.to old.invariant.is c.loop-end-test.true c.requires.within in
    record {
      counted = goes ∙ old.invariant.counted;
      is = c.line_end-end.ensures.value;
      begins = omega (arith, old.invariant.begins, old.invariant.is);
      rises = omega arith;
      within = c.line_end-end.ensures.within;
      few = omega (arith, old.invariant.few, old.invariant.is, old.invariant.begins);
    }

pub returns-clause-line : goal.returns-clause-line
returns-clause-line c =
    let old = c.loop-end in
    (line_stays old.number c.args.text.now old.begin old.end c.args.to old.invariant.is old.invariant.rises (omega arith)).1

pub returns-clause-number : goal.returns-clause-number
returns-clause-number c =
    let old = c.loop-end in
    sym (line_stays old.number c.args.text.now old.begin old.end c.args.to old.invariant.is old.invariant.rises (omega arith)).0 ∙ old.invariant.counted

pub loop-end-init : goal.loop-end-init
loop-end-init c =
    record {
      counted = refl;
      is = c.requires.line;
      begins = omega arith;
      rises = c.requires.rises;
      within = end_within c.args.text.now c.args.at c.args.line.end (omega arith) c.requires.line;
      few = omega arith;
    }
