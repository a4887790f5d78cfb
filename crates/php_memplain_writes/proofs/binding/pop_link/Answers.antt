use Rattle.slab.specs.Slab.{with_value}
use Rattle.php_memdef.specs.Contents.{Scope}
use Rattle.php_memdef.specs.Temporaries.{rest_of}
use Rattle.php_memplain_writes.proofs.BlockLemmas.{scope_changed}
use Rattle.php_memplain_writes.proofs.StandLemmas.{waiting_kept}
use Rattle.php_memplain_writes.proofs.WriteLemmas.{falls_kept}
use Rattle.php_memplain_writes.proofs.binding.pop_link.Goals as goal

pub returns-clause-seen : goal.returns-clause-seen
returns-clause-seen c = scope_changed c.args.cells.now c.args.block c.index_mut.result.now c.index_mut.ensures.value c.pop_temp-link.new.block (λ (x : Scope). record x { temps = rest_of x.temps }) c.pop_temp-link.ensures.seen

pub returns-clause-room : goal.returns-clause-room
returns-clause-room c =
    falls_kept c.args.cells.now.blocks (with_value c.args.cells.now.blocks c.args.block c.pop_temp-link.new.block) c.args.block c.requires.room
    (waiting_kept c.args.cells.now.blocks c.args.block c.index_mut.result.now c.pop_temp-link.new.block c.index_mut.ensures.value c.pop_temp-link.ensures.waiting)
