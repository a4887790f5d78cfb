use Rattle.std.proofs.Common.{◌<◌, ◌^◌, [], ◌∷◌, refl, arith}
use Rattle.slab.specs.Slab.{slab_len}
use Rattle.php_memplain_cells.specs.declared.cells.Cells.{Cells}
use Rattle.php_memplain_cells.specs.Memory.{memory_seen}
use Rattle.php_memplain_cells.proofs.MemoryLemmas.{counted_by}
use Rattle.php_memplain_cells.proofs.BoundLemmas.{count_fits}
use Rattle.php_memplain_content.proofs.ContentLemmas.{with_stores_seen}
use Rattle.php_memplain_objects.proofs.holding.hold.Goals as goal

pub hold_again-requires-clause-fits : goal.hold_again-requires-clause-fits
hold_again-requires-clause-fits c =
    let s = c.args.cells.now in
    let stores : slab_len s.stores < 2 ^ 64 = omega (arith, c.len-stores.ensures) in
    let blocks : slab_len s.blocks < 2 ^ 64 = omega (arith, c.len-blocks.ensures) in
    count_fits s stores blocks c.requires.counted c.args.number

pub returns-clause-seen : goal.returns-clause-seen
returns-clause-seen c = with_stores_seen c.args.cells.now (record c.args.cells.now { objects = c.hold_again.new.objects }) refl refl c.hold_again.ensures.seen

pub returns-clause-counted : goal.returns-clause-counted
returns-clause-counted c =
    let s = c.args.cells.now in
    let t : Cells = record s { objects = c.hold_again.new.objects } in
    counted_by t (memory_seen s) [] (c.args.number ∷ []) (with_stores_seen s t refl refl c.hold_again.ensures.seen)
    c.requires.counted.stores
    (λ h. omega (arith, c.hold_again.ensures.more h, c.requires.counted.objects h))
