use Rattle.std.proofs.Common.{sym, ◌∙◌, arith}
use Rattle.memchr.specs.Find.{is_byte}
use Rattle.php_lex_pieces.specs.Comments.{begins_tag}
use Rattle.php_lex_pieces.proofs.CommentLemmas.{tag_wants}
use Rattle.php_lex_pieces.proofs.RunLemmas.{search_begins, search_goes}
use Rattle.php_lex_pieces.proofs.comments.inline_len.Goals as goal

pub loop-end-init : goal.loop-end-init
loop-end-init c =
    let told = c.next-end.ensures in
    record {
      counted = search_begins begins_tag (is_byte 60) c.args.text.now 0 c.next-end.result tag_wants told.within.0 told.skips;
      rises = told.within.0;
      within = told.within.1;
    }

pub loop-end-preserved : goal.loop-end-preserved
loop-end-preserved c =
    let told = c.next-end-in-loop-end.ensures in
    let goes = search_goes begins_tag (is_byte 60) c.args.text.now c.loop-end.end c.next-end-in-loop-end.result tag_wants (omega arith) (sym c.begins_tag.ensures ∙ c.if-not-begins_tag.true) told.within.0 told.skips in
    record {
      counted = goes ∙ c.loop-end.invariant.counted;
      rises = omega (arith, told.within.0, c.loop-end.invariant.rises);
      within = told.within.1;
    }
