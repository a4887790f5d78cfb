use Rattle.std.proofs.Common.{sym, subst}
use Rattle.php_memdef.specs.Contents.{Mem}
use Rattle.php_memdef.specs.Conditions.{IsBase}
use Rattle.php_memdef.specs.Sound.{IsClosed}
use Rattle.php_memplain_changes.proofs.SwapLemmas.{block_live}
use Rattle.php_memplain_changes.proofs.FallLemmas.{counted_same, block_stays, room_stays}
use Rattle.php_memplain_changes.proofs.RemoveLemmas.{block_after, becomes_unset}
use Rattle.php_memplain_changes.proofs.removing.unset.Goals as goal

pub reserve_falling-requires : goal.reserve_falling-requires
reserve_falling-requires c = record { block = block_live c.args.cells.now c.args.block c.requires.can.block }

pub take_at-requires-clause-counted : goal.take_at-requires-clause-counted
take_at-requires-clause-counted c = counted_same c.args.cells.now c.reserve_falling.new.cells c.reserve_falling.ensures.stores c.reserve_falling.ensures.objects c.reserve_falling.ensures.seen c.requires.counted

pub take_at-requires-clause-closed : goal.take_at-requires-clause-closed
take_at-requires-clause-closed c = subst IsClosed (sym c.reserve_falling.ensures.seen) c.requires.closed

pub take_at-requires-clause-base : goal.take_at-requires-clause-base
take_at-requires-clause-base c = subst (λ (m : Mem). IsBase m c.args.at.now.base) (sym c.reserve_falling.ensures.seen) c.requires.can.place.0

pub fall_if-requires-clause-block : goal.fall_if-requires-clause-block
fall_if-requires-clause-block c =
    block_stays c.reserve_falling.new.cells.blocks c.take_at.new.cells.blocks c.args.block c.in-Ok-take_at.ensures.ok.waiting
    (block_after c.args.cells.now c.reserve_falling.new.cells c.args.block c.reserve_falling.ensures.seen c.requires.can.block)

pub fall_if-requires-clause-room : goal.fall_if-requires-clause-room
fall_if-requires-clause-room c = room_stays c.reserve_falling.new.cells.blocks c.take_at.new.cells.blocks c.args.block c.in-Ok.ensures.ok c.in-Ok-take_at.ensures.ok.waiting

pub fall_if-requires-clause-counted : goal.fall_if-requires-clause-counted
fall_if-requires-clause-counted c = c.in-Ok-take_at.ensures.ok.counted

pub returns-in-Ok-take_at-clause-ok : goal.returns-in-Ok-take_at-clause-ok
returns-in-Ok-take_at-clause-ok c =
    becomes_unset c.args.cells.now c.reserve_falling.new.cells c.take_at.new.cells c.fall_if.new.cells c.args.block c.args.at.now c.in-Ok-take_at.store
    c.reserve_falling.ensures.seen c.in-Ok-take_at.ensures.ok c.fall_if.ensures.seen c.fall_if.ensures.counted
