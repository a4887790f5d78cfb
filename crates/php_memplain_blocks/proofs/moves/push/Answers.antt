use Rattle.std.proofs.Common.{◌∷◌}
use Rattle.php_memdef.specs.Contents.{Scope}
use Rattle.php_memplain_cells.specs.Seen.{item_seen}
use Rattle.php_memplain_blocks.proofs.MoveLemmas.{scope_changed, room_there}
use Rattle.php_memplain_blocks.proofs.moves.push.Goals as goal

pub push_item-requires : goal.push_item-requires
push_item-requires c = room_there c.args.cells.now c.args.block c.index_mut.result.now c.index_mut.ensures.value c.requires.room

pub returns-clause-seen : goal.returns-clause-seen
returns-clause-seen c = scope_changed c.args.cells.now c.args.block c.index_mut.result.now c.index_mut.ensures.value c.push_item.new.block (λ (x : Scope). record x { temps = item_seen c.args.item ∷ x.temps }) c.push_item.ensures.seen
