use Rattle.std.proofs.Common.{◌++◌, arith}
use Rattle.php_memdef.specs.Contents.{Scope}
use Rattle.php_memdef.specs.Temporaries.{fallen}
use Rattle.php_memplain_cells.specs.Seen.{item_seen}
use Rattle.php_memplain_blocks.proofs.MoveLemmas.{scope_changed, waiting_room_there}
use Rattle.php_memplain_blocks.proofs.moves.fall.Goals as goal

pub fall_last-requires : goal.fall_last-requires
fall_last-requires c =
    let f = c.index_mut.result.now in
    omega (arith, waiting_room_there c.args.cells.now c.args.block f c.index_mut.ensures.value c.requires.room, f.waiting_room)

pub returns-clause-seen : goal.returns-clause-seen
returns-clause-seen c = scope_changed c.args.cells.now c.args.block c.index_mut.result.now c.index_mut.ensures.value c.fall_last.new.block (λ (x : Scope). record x { falling = x.falling ++ fallen (item_seen c.args.item) }) c.fall_last.ensures.seen
