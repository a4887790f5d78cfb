use Rattle.std.proofs.Common.{sym, ◌∙◌, arith}
use Rattle.memchr.specs.Find.{is_byte3}
use Rattle.php_lex_pieces.specs.Templates.{closes}
use Rattle.php_lex_pieces.proofs.TemplateLemmas.{closes_wants}
use Rattle.php_lex_pieces.proofs.RunLemmas.{search_begins, search_goes, search_ends}
use Rattle.php_lex_pieces.proofs.heredocs.nowdoc_len.Goals as goal

pub loop-end-init : goal.loop-end-init
loop-end-init c =
    let told = c.next_of_three-end.ensures in
    record {
      counted = search_begins (closes c.args.label.now) (is_byte3 10 13 10) c.args.text.now 0 c.next_of_three-end.result (closes_wants c.args.label.now) told.within.0 told.skips;
      rises = told.within.0;
      within = told.within.1;
    }

pub loop-end-preserved : goal.loop-end-preserved
loop-end-preserved c =
    let told = c.next_of_three-end-in-loop-end.ensures in
    let goes = search_goes (closes c.args.label.now) (is_byte3 10 13 10) c.args.text.now c.loop-end.end c.next_of_three-end-in-loop-end.result (closes_wants c.args.label.now) (omega arith) (sym c.closes.ensures ∙ c.if-not-closes.true) told.within.0 told.skips in
    record {
      counted = goes ∙ c.loop-end.invariant.counted;
      rises = omega (arith, told.within.0, c.loop-end.invariant.rises);
      within = told.within.1;
    }

pub returns-else-not-closes-clause-value : goal.returns-else-not-closes-clause-value
returns-else-not-closes-clause-value c =
    let stops = search_ends (closes c.args.label.now) c.args.text.now c.loop-end.end (sym c.closes.ensures ∙ c.if-not-closes.false) in
    omega (arith, stops, c.loop-end.invariant.counted)
