use Rattle.std.proofs.Common.{[], ◌∷◌, length-append, ◌≡◌, ◌<◌, ◌+◌, length, ◌∙◌, ap, arith}
use Rattle.std.specs.Prelude.{Some, None}
use Rattle.php_memdef.specs.Numbered.{with_numbered}
use Rattle.php_memplain_writes.proofs.HangLemmas.{set_there, put_last}
use Rattle.php_memplain_writes.proofs.HangLemmas as hang
use Rattle.php_memplain_writes.proofs.hanging.set_static.Goals as goal

pub returns-then-number-count-clause-ok : goal.returns-then-number-count-clause-ok
returns-then-number-count-clause-ok c = let ok = c.args.statics.now.ok in set_there c.args.statics.now.items c.args.number (Some c.args.store) (omega (arith, c.if-number-count.true, c.len-count.ensures))

pub loop-statics-preserved : goal.loop-statics-preserved
loop-statics-preserved c =
    let ok = c.loop-statics.statics.ok in
    let more : length c.push.new.self.items ≡ length c.loop-statics.statics.items + 1 = ap length c.in-Ok.ensures.items ∙ length-append c.loop-statics.statics.items (None ∷ []) in
    let before : length c.loop-statics.statics.items < c.args.number = omega (arith, c.loop-statics-test.true, c.len.ensures) in
    record {
      noted = λ y. ap (λ xs. with_numbered xs c.args.number y) c.in-Ok.ensures.items ∙ hang.noted c.loop-statics.statics.items c.args.number y before ∙ c.loop-statics.invariant.noted y;
      within = omega (arith, more, before);
      room = omega (arith, c.loop-statics.invariant.room, c.push.ensures.capacity);
    }

pub returns-clause-ok : goal.returns-clause-ok
returns-clause-ok c =
    let ok = c.loop-statics.statics.ok in
    c.in-Ok-push.ensures.items
    ∙ put_last c.loop-statics.statics.items c.args.number (Some c.args.store) (omega (arith, c.loop-statics-test.false, c.len.ensures, c.loop-statics.invariant.within))
    ∙ c.loop-statics.invariant.noted (Some c.args.store)
