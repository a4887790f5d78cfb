use Rattle.std.proofs.Common.{length, ◌∙◌, ap, arith}
use Rattle.php_memdef.specs.declared.place.Place.{Place}
use Rattle.php_memplain_writes.proofs.FindLemmas.{whole_path, begun_less}
use Rattle.php_memplain_writes.proofs.way.begun.Goals as goal

pub loop-begun-init : goal.loop-begun-init
loop-begun-init c =
    let same = c.in_ok-begun.ensures in
    record {
      base = ap (λ (p : Place). p.base) same;
      path = whole_path _ c.args.place.now.path (ap (λ (p : Place). p.path) same);
      enough = omega (arith, c.requires, ap (λ (p : Place). length p.path) same);
    }

pub drop_last-requires : goal.drop_last-requires
drop_last-requires c = omega (arith, c.loop-begun-test.true, c.len.ensures)

pub loop-begun-preserved : goal.loop-begun-preserved
loop-begun-preserved c =
    let front = c.drop_last.ensures.front in
    let i = c.loop-begun.invariant in
    record {
      base = front.base ∙ i.base;
      path = begun_less c.loop-begun.begun.path c.drop_last.new.place.path c.args.place.now.path front.last front.path i.path;
      enough = omega (arith, c.loop-begun-test.true, c.len.ensures, c.drop_last.ensures.less);
    }

pub loop-begun-smaller : goal.loop-begun-smaller
loop-begun-smaller c = omega (arith, c.drop_last.ensures.less)
