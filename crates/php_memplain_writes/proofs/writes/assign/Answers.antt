use Rattle.std.proofs.Common.{sym, subst}
use Rattle.php_memdef.specs.Contents.{Mem}
use Rattle.php_memdef.specs.Conditions.{IsBlock, IsBase}
use Rattle.php_memplain_cells.specs.declared.cells.Cells.{Cells}
use Rattle.php_memplain_cells.specs.Memory.{memory_seen, IsCounted}
use Rattle.php_memplain_places.specs.Spots.{spot_seen}
use Rattle.php_memdef.specs.Places.{stored}
use Rattle.php_memplain_writes.specs.Keeps.{HasValueFirst}
use Rattle.php_memplain_writes.specs.Standing.{HasContent}
use Rattle.php_memplain_writes.specs.Moving.{FallsIn}
use Rattle.php_memdef.specs.Contents.{scope_of}
use Rattle.php_memplain_writes.proofs.BlockLemmas.{block_live}
use Rattle.php_memplain_writes.proofs.WriteLemmas.{counted_same, whole_same, back_same, back_from, falls_kept, found_assigned, assigned, not_assigned}
use Rattle.php_memplain_writes.proofs.writes.assign.Goals as goal

pub returns-in_default-clause-no_memory : goal.returns-in_default-clause-no_memory
returns-in_default-clause-no_memory c = back_same c.args.cells.now c.reserve_falling.new.cells c.reserve_falling.ensures.seen c.reserve_falling.ensures.stores c.reserve_falling.ensures.objects c.requires.whole

pub reserve_falling-requires : goal.reserve_falling-requires
reserve_falling-requires c = record { block = block_live c.args.cells.now c.args.block c.requires.can.block }

pub reach-requires-clause-whole : goal.reach-requires-clause-whole
reach-requires-clause-whole c = whole_same c.args.cells.now c.reserve_falling.new.cells c.reserve_falling.ensures.seen c.reserve_falling.ensures.stores c.reserve_falling.ensures.objects c.requires.whole

pub reach-requires-clause-base : goal.reach-requires-clause-base
reach-requires-clause-base c = subst (λ (n : Mem). IsBase n c.args.place.now.base) (sym c.reserve_falling.ensures.seen) c.requires.can.place.0

-- the place was there

pub move_in-requires-clause-counted : goal.move_in-requires-clause-counted
move_in-requires-clause-counted c = subst IsCounted (sym (rw c.in-Ok-Found.field-0-is at c.in-Ok-Found.ensures.reach).1) (counted_same c.args.cells.now c.reserve_falling.new.cells c.reserve_falling.ensures.seen c.reserve_falling.ensures.stores c.reserve_falling.ensures.objects c.requires.whole.counted)

pub move_in-requires-clause-block : goal.move_in-requires-clause-block
move_in-requires-clause-block c =
    block_live c.reach.new.cells c.args.block
    (subst (λ (t : Cells). IsBlock (memory_seen t) c.args.block) (sym (rw c.in-Ok-Found.field-0-is at c.in-Ok-Found.ensures.reach).1) (subst (λ (n : Mem). IsBlock n c.args.block) (sym c.reserve_falling.ensures.seen) c.requires.can.block))

pub move_in-requires-clause-top : goal.move_in-requires-clause-top
move_in-requires-clause-top c =
    subst (λ (t : Cells). HasValueFirst (scope_of (memory_seen t) c.args.block).temps) (sym (rw c.in-Ok-Found.field-0-is at c.in-Ok-Found.ensures.reach).1)
    (subst (λ (n : Mem). HasValueFirst (scope_of n c.args.block).temps) (sym c.reserve_falling.ensures.seen) c.requires.can.top)

pub move_in-requires-clause-there : goal.move_in-requires-clause-there
move_in-requires-clause-there c = subst (λ (t : Cells). HasContent (memory_seen t) (spot_seen c.in-Ok-Found.spot)) (sym (rw c.in-Ok-Found.field-0-is at c.in-Ok-Found.ensures.reach).1) (rw c.in-Ok-Found.field-0-is at c.in-Ok-Found.ensures.reach).0.there

pub move_in-requires-clause-below : goal.move_in-requires-clause-below
move_in-requires-clause-below c = (rw c.in-Ok-Found.field-0-is at c.in-Ok-Found.ensures.reach).0.below c.args.block c.requires.can.below_top

pub move_in-requires-clause-room : goal.move_in-requires-clause-room
move_in-requires-clause-room c = subst (λ (t : Cells). FallsIn t.blocks c.args.block) (sym (rw c.in-Ok-Found.field-0-is at c.in-Ok-Found.ensures.reach).1) c.in-Ok.ensures.ok

pub returns-in-Ok-Found-clause-ok : goal.returns-in-Ok-Found-clause-ok
returns-in-Ok-Found-clause-ok c =
    let found = (rw c.in-Ok-Found.field-0-is at c.in-Ok-Found.ensures.reach) in
    found_assigned (memory_seen c.args.cells.now) c.reserve_falling.new.cells c.reserve_falling.ensures.seen c.args.block c.args.place.now c.reach.new.cells c.move_in.new.cells (spot_seen c.in-Ok-Found.spot) found.0.walks found.1 c.move_in.ensures.counted c.move_in.ensures.seen

-- the place was made

pub move_in-requires-in-Ok-Made-clause-counted : goal.move_in-requires-in-Ok-Made-clause-counted
move_in-requires-in-Ok-Made-clause-counted c = (rw c.in-Ok-Made.field-0-is at c.in-Ok-Made.ensures.reach).counted

pub move_in-requires-in-Ok-Made-clause-block : goal.move_in-requires-in-Ok-Made-clause-block
move_in-requires-in-Ok-Made-clause-block c = block_live c.reach.new.cells c.args.block ((rw c.in-Ok-Made.field-0-is at c.in-Ok-Made.ensures.reach).keeps.blocks c.args.block (subst (λ (n : Mem). IsBlock n c.args.block) (sym c.reserve_falling.ensures.seen) c.requires.can.block))

pub move_in-requires-in-Ok-Made-clause-top : goal.move_in-requires-in-Ok-Made-clause-top
move_in-requires-in-Ok-Made-clause-top c = (rw c.in-Ok-Made.field-0-is at c.in-Ok-Made.ensures.reach).keeps.values c.args.block (subst (λ (n : Mem). HasValueFirst (scope_of n c.args.block).temps) (sym c.reserve_falling.ensures.seen) c.requires.can.top)

pub move_in-requires-in-Ok-Made-clause-there : goal.move_in-requires-in-Ok-Made-clause-there
move_in-requires-in-Ok-Made-clause-there c = (rw c.in-Ok-Made.field-0-is at c.in-Ok-Made.ensures.reach).there

pub move_in-requires-in-Ok-Made-clause-room : goal.move_in-requires-in-Ok-Made-clause-room
move_in-requires-in-Ok-Made-clause-room c = falls_kept c.reserve_falling.new.cells.blocks c.reach.new.cells.blocks c.args.block c.in-Ok.ensures.ok (rw c.in-Ok-Made.field-0-is at c.in-Ok-Made.ensures.reach).waiting

pub returns-in-Ok-Made-clause-ok : goal.returns-in-Ok-Made-clause-ok
returns-in-Ok-Made-clause-ok c =
    assigned (memory_seen c.args.cells.now) c.reserve_falling.new.cells c.reserve_falling.ensures.seen c.args.block c.args.place.now c.reach.new.cells c.move_in-in-Ok-Made.new.cells (stored c.in-Ok-Made.store) (rw c.in-Ok-Made.field-0-is at c.in-Ok-Made.ensures.reach).reaches c.move_in-in-Ok-Made.ensures.counted c.move_in-in-Ok-Made.ensures.seen

-- no place

pub returns-in-Ok-Refused-clause-ok : goal.returns-in-Ok-Refused-clause-ok
returns-in-Ok-Refused-clause-ok c = not_assigned (memory_seen c.args.cells.now) c.reserve_falling.new.cells c.reserve_falling.ensures.seen c.args.block c.args.place.now c.reach.new.cells c.in-Ok-Refused.why (rw c.in-Ok-Refused.field-0-is at c.in-Ok-Refused.ensures.reach).1 (rw c.in-Ok-Refused.field-0-is at c.in-Ok-Refused.ensures.reach).0

pub returns-in-Err-clause-no_memory : goal.returns-in-Err-clause-no_memory
returns-in-Err-clause-no_memory c = back_from c.args.cells.now c.reserve_falling.new.cells c.reach.new.cells c.reserve_falling.ensures.seen c.in-Err.ensures.reach
