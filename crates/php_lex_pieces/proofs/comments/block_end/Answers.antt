use Rattle.std.proofs.Common.{sym, ◌∙◌, arith}
use Rattle.memchr.specs.Find.{is_byte}
use Rattle.php_lex_pieces.specs.Comments.{ends_block}
use Rattle.php_lex_pieces.proofs.CommentLemmas.{block_wants}
use Rattle.php_lex_pieces.proofs.RunLemmas.{search_begins, search_goes}
use Rattle.php_lex_pieces.proofs.comments.block_end.Goals as goal

pub loop-end-init : goal.loop-end-init
loop-end-init c =
    let told = c.next-end.ensures in
    record {
      counted = search_begins ends_block (is_byte 42) c.args.text.now 2 c.next-end.result block_wants told.within.0 told.skips;
      rises = told.within.0;
      within = told.within.1;
    }

pub loop-end-preserved : goal.loop-end-preserved
loop-end-preserved c =
    let told = c.next-end-in-loop-end.ensures in
    let goes = search_goes ends_block (is_byte 42) c.args.text.now c.loop-end.end c.next-end-in-loop-end.result block_wants (omega arith) (sym c.ends_block.ensures.value ∙ c.if-not-ends_block.true) told.within.0 told.skips in
    record {
      counted = goes ∙ c.loop-end.invariant.counted;
      rises = omega (arith, told.within.0, c.loop-end.invariant.rises);
      within = told.within.1;
    }
