use Rattle.std.proofs.Common.{sym, ap, ◌∙◌, drop, map, ◌+◌, Some}
use Rattle.php_first_tree.specs.Expression.{part_view}
use Rattle.php_first_run.specs.Running.{Effect, echoed, texts_of}
use Rattle.php_base.proofs.Streams.{wrote_broken, wrote_more}
use Rattle.php_first_run.proofs.Written.{echoed-at}
use Rattle.php_first_run.proofs.walking.echo.Goals as goal

pub returns-in-SinkFault : goal.returns-in-SinkFault
returns-in-SinkFault g c =
    let broken = c.in-SinkFault.ensures in
    let next = echoed-at (texts_of c.args.tokens.now) c.args.values.now c.args.parts.now c.loop-part.part-index c.part-item.result (Some broken.0) c.loop-part-test.true c.part-item.is broken.1 in
    wrote_broken _ _ broken.0 (echoed (texts_of c.args.tokens.now) c.args.values.now (map part_view (drop (c.loop-part.part-index + 1) c.args.parts.now))).bytes _ _ _ c.loop-part.invariant.bytes (ap (λ (e : Effect). e.bytes) next) broken.2

pub loop-part-preserved : goal.loop-part-preserved
loop-part-preserved g c =
    let written = c.in-Done.ensures in
    let next = echoed-at (texts_of c.args.tokens.now) c.args.values.now c.args.parts.now c.loop-part.part-index c.part-item.result (Some written.0) c.loop-part-test.true c.part-item.is written.1 in
    record {
      bytes = wrote_more _ _ written.0 _ _ _ _ c.loop-part.invariant.bytes (ap (λ (e : Effect). e.bytes) next) written.2;
      overflows = sym (ap (λ (e : Effect). e.overflows) next) ∙ c.loop-part.invariant.overflows;
      values = sym (ap (λ (e : Effect). e.values) next) ∙ c.loop-part.invariant.values;
    }
