use Rattle.std.proofs.Common.{◌∷◌}
use Rattle.php_memdef.specs.Contents.{link, Scope}
use Rattle.php_memplain_writes.proofs.BlockLemmas.{scope_changed, room_there}
use Rattle.php_memplain_writes.proofs.moving.push_link.Goals as goal

pub push_temp-requires : goal.push_temp-requires
push_temp-requires c = room_there c.args.cells.now c.args.block c.index_mut.result.now c.index_mut.ensures.value c.requires.room

pub returns-clause-seen : goal.returns-clause-seen
returns-clause-seen c = scope_changed c.args.cells.now c.args.block c.index_mut.result.now c.index_mut.ensures.value c.push_temp.new.block (λ (x : Scope). record x { temps = link c.args.store ∷ x.temps }) c.push_temp.ensures
