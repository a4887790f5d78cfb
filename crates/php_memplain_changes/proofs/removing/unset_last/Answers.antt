use Rattle.std.proofs.Common.{sym, subst}
use Rattle.php_memdef.specs.Sound.{IsClosed}
use Rattle.php_memplain_changes.proofs.SwapLemmas.{block_live}
use Rattle.php_memplain_changes.proofs.FallLemmas.{counted_same, block_stays, room_stays}
use Rattle.php_memplain_changes.proofs.RemoveLemmas.{block_after, becomes_unset_last}
use Rattle.php_memplain_changes.proofs.removing.unset_last.Goals as goal

pub reserve_falling-requires : goal.reserve_falling-requires
reserve_falling-requires c = record { block = block_live c.args.cells.now c.args.block c.requires.can.block }

pub take_last-last-requires-clause-counted : goal.take_last-last-requires-clause-counted
take_last-last-requires-clause-counted c = counted_same c.args.cells.now c.reserve_falling.new.cells c.reserve_falling.ensures.stores c.reserve_falling.ensures.objects c.reserve_falling.ensures.seen c.requires.counted

pub take_last-last-requires-clause-closed : goal.take_last-last-requires-clause-closed
take_last-last-requires-clause-closed c = subst IsClosed (sym c.reserve_falling.ensures.seen) c.requires.closed

pub fall_if-requires-clause-block : goal.fall_if-requires-clause-block
fall_if-requires-clause-block c =
    block_stays c.reserve_falling.new.cells.blocks c.take_last-last.new.cells.blocks c.args.block c.take_last-last.ensures.waiting
    (block_after c.args.cells.now c.reserve_falling.new.cells c.args.block c.reserve_falling.ensures.seen c.requires.can.block)

pub fall_if-requires-clause-room : goal.fall_if-requires-clause-room
fall_if-requires-clause-room c = room_stays c.reserve_falling.new.cells.blocks c.take_last-last.new.cells.blocks c.args.block c.in-Ok.ensures.ok c.take_last-last.ensures.waiting

pub fall_if-requires-clause-counted : goal.fall_if-requires-clause-counted
fall_if-requires-clause-counted c = c.take_last-last.ensures.counted

pub returns-clause-ok : goal.returns-clause-ok
returns-clause-ok c =
    becomes_unset_last c.args.cells.now c.reserve_falling.new.cells c.take_last-last.new.cells c.fall_if.new.cells c.args.block c.args.at.now c.take_last-last.result
    c.reserve_falling.ensures.seen c.take_last-last.ensures c.fall_if.ensures.seen c.fall_if.ensures.counted

pub returns-in_default-clause-no_memory : goal.returns-in_default-clause-no_memory
returns-in_default-clause-no_memory c = record {
  seen = c.reserve_falling.ensures.seen;
  counted = counted_same c.args.cells.now c.reserve_falling.new.cells c.reserve_falling.ensures.stores c.reserve_falling.ensures.objects c.reserve_falling.ensures.seen c.requires.counted;
}
