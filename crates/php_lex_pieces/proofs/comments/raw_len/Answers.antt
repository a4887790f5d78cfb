use Rattle.std.proofs.Common.{◌+◌, arith}
use Rattle.php_lex_pieces.proofs.CommentLemmas.{raw_to, raw_all, raw_closes, raw_goes, raw_ends, raw_backslash}
use Rattle.php_lex_pieces.proofs.comments.raw_len.Goals as goal

pub returns-then-text-end-eq39-clause-value : goal.returns-then-text-end-eq39-clause-value
returns-then-text-end-eq39-clause-value c =
    let found = c.in-Some.ensures in
    let text = c.args.text.now in
    let at = c.loop-distance.end in
    let k = c.in-Some.distance in
    let to = raw_to text at k c.loop-distance.invariant.within (omega (arith, found.0.high)) found.0.before in
    let closes = raw_closes text (at + k) (omega arith) c.if-text-end-eq39.true in
    omega (arith, to, closes, c.loop-distance.invariant.counted)

pub returns-then-end-text-clause-value : goal.returns-then-end-text-clause-value
returns-then-end-text-clause-value c =
    let found = c.in-Some.ensures in
    let text = c.args.text.now in
    let at = c.loop-distance.end in
    let k = c.in-Some.distance in
    let to = raw_to text at k c.loop-distance.invariant.within (omega (arith, found.0.high)) found.0.before in
    let ends = raw_ends text (at + k) (omega arith) (raw_backslash text at k found.1 c.if-text-end-eq39.false) in
    omega (arith, to, ends, c.loop-distance.invariant.counted)

pub loop-distance-preserved : goal.loop-distance-preserved
loop-distance-preserved c =
    let found = c.in-Some.ensures in
    let text = c.args.text.now in
    let at = c.loop-distance.end in
    let k = c.in-Some.distance in
    let to = raw_to text at k c.loop-distance.invariant.within (omega (arith, found.0.high)) found.0.before in
    let goes = raw_goes text (at + k) (omega arith) (raw_backslash text at k found.1 c.if-text-end-eq39.false) in
    record {
      counted = omega (arith, to, goes, c.loop-distance.invariant.counted);
      within = omega arith;
    }

pub returns-clause-value : goal.returns-clause-value
returns-clause-value c =
    let all = raw_all c.args.text.now c.loop-distance.end c.loop-distance.invariant.within c.in_default.ensures in
    omega (arith, all, c.loop-distance.invariant.counted)
