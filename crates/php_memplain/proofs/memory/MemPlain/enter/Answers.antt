use Rattle.std.proofs.Common.{refl}
use Rattle.php_memdef.specs.Operations as op
use Rattle.php_memdef_laws.proofs.Alike.Operations.{Can-alike}
use Rattle.php_memplain_cells.specs.Memory.{memory_seen}
use Rattle.php_memplain.proofs.MeansLemmas.{meant_after}
use Rattle.php_memplain.proofs.EnterLemmas.{free_seen, entered_same, entered_counted}
use Rattle.php_memplain.proofs.memory.MemPlain.enter.Goals as goal

pub returns-clause-ok : goal.returns-clause-ok
returns-clause-ok c = λ m means.
    let s = c.args.self.now.cells in
    let t = record s { blocks = c.insert.new.self } in
    let k = c.in-Ok.key in
    let n = c.args.temps in
    let f = c.in_ok-block.block in
    let free = c.in-Ok.ensures.was_vacant in
    let u = c.in-Ok.ensures.updates in
    let is = c.in_ok-block.ensures in
    let can = free_seen s t k n f free u is refl refl refl in (
      Can-alike (op.enter k n) (memory_seen s) m means.alike can,
      meant_after c.args.self.now (record { cells = t }) (op.enter k n) can (entered_counted s t k n f free u is refl refl refl means.counted) (entered_same s t k n f free u is refl refl refl) m means,
    )
