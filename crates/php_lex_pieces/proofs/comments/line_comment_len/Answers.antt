use Rattle.std.proofs.Common.{sym, ◌∙◌, arith}
use Rattle.memchr.specs.Find.{is_byte3}
use Rattle.php_lex_pieces.specs.Comments.{ends_comment}
use Rattle.php_lex_pieces.proofs.CommentLemmas.{comment_wants}
use Rattle.php_lex_pieces.proofs.RunLemmas.{search_begins, search_goes, search_ends}
use Rattle.php_lex_pieces.proofs.comments.line_comment_len.Goals as goal

pub loop-end-init : goal.loop-end-init
loop-end-init c =
    let told = c.next_of_three-end.ensures in
    record {
      counted = search_begins ends_comment (is_byte3 10 13 63) c.args.text.now c.args.start c.next_of_three-end.result comment_wants told.within.0 told.skips;
      rises = told.within.0;
      within = told.within.1;
    }

pub loop-end-preserved : goal.loop-end-preserved
loop-end-preserved c =
    let told = c.next_of_three-end-in-loop-end.ensures in
    let goes = search_goes ends_comment (is_byte3 10 13 63) c.args.text.now c.loop-end.end c.next_of_three-end-in-loop-end.result comment_wants (omega arith) (sym c.ends_comment.ensures ∙ c.if-not-ends_comment.true) told.within.0 told.skips in
    record {
      counted = goes ∙ c.loop-end.invariant.counted;
      rises = omega (arith, told.within.0, c.loop-end.invariant.rises);
      within = told.within.1;
    }

pub returns-else-not-ends_comment-clause-value : goal.returns-else-not-ends_comment-clause-value
returns-else-not-ends_comment-clause-value c =
    let stops = search_ends ends_comment c.args.text.now c.loop-end.end (sym c.ends_comment.ensures ∙ c.if-not-ends_comment.false) in
    omega (arith, stops, c.loop-end.invariant.counted)
