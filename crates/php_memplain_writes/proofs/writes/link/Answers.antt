use Rattle.std.proofs.Common.{refl, sym, ◌∙◌, ap, subst, arith}
use Rattle.php_memdef.specs.Conditions.{IsBlock, HasRoom}
use Rattle.php_memdef.specs.Sound.{IsLive}
use Rattle.php_memplain_cells.specs.declared.cells.Cells.{Cells}
use Rattle.php_memplain_cells.specs.Memory.{memory_seen, IsCounted}
use Rattle.php_memplain_writes.proofs.BlockLemmas.{block_live}
use Rattle.php_memplain_writes.proofs.LinkLemmas.{no_standing}
use Rattle.php_memplain_writes.proofs.WriteLemmas.{back_same, found_linked, linked, not_linked}
use Rattle.php_memplain_writes.proofs.writes.link.Goals as goal

-- the place was there

pub link_found-requires-clause-counted : goal.link_found-requires-clause-counted
link_found-requires-clause-counted c = subst IsCounted (sym (rw (c.in-Ok-Found-Stored.field-0-is, c.in-Ok-Found-Stored.field-0-0-is) at c.in-Ok-Found-Stored.ensures.reach).1) c.requires.whole.counted

pub link_found-requires-clause-block : goal.link_found-requires-clause-block
link_found-requires-clause-block c = block_live c.reach.new.cells c.args.block (subst (λ (t : Cells). IsBlock (memory_seen t) c.args.block) (sym (rw (c.in-Ok-Found-Stored.field-0-is, c.in-Ok-Found-Stored.field-0-0-is) at c.in-Ok-Found-Stored.ensures.reach).1) c.requires.can.block)

pub link_found-requires-clause-room : goal.link_found-requires-clause-room
link_found-requires-clause-room c = subst (λ (t : Cells). HasRoom (memory_seen t) c.args.block) (sym (rw (c.in-Ok-Found-Stored.field-0-is, c.in-Ok-Found-Stored.field-0-0-is) at c.in-Ok-Found-Stored.ensures.reach).1) c.requires.can.room

pub link_found-requires-clause-there : goal.link_found-requires-clause-there
link_found-requires-clause-there c = subst (λ (t : Cells). IsLive (memory_seen t) c.in-Ok-Found-Stored.store) (sym (rw (c.in-Ok-Found-Stored.field-0-is, c.in-Ok-Found-Stored.field-0-0-is) at c.in-Ok-Found-Stored.ensures.reach).1) (rw (c.in-Ok-Found-Stored.field-0-is, c.in-Ok-Found-Stored.field-0-0-is) at c.in-Ok-Found-Stored.ensures.reach).0.there

pub returns-then-link_found-clause-ok : goal.returns-then-link_found-clause-ok
returns-then-link_found-clause-ok c =
    let found = (rw (c.in-Ok-Found-Stored.field-0-is, c.in-Ok-Found-Stored.field-0-0-is) at c.in-Ok-Found-Stored.ensures.reach) in
    found_linked (memory_seen c.args.cells.now) c.args.cells.now refl c.args.block c.args.place.now c.reach.new.cells c.link_found.new.cells c.in-Ok-Found-Stored.store found.0.walks found.1 (c.link_found.ensures.counted c.if-link_found.true) (c.link_found.ensures.seen c.if-link_found.true)

pub returns-else-link_found-clause-no_memory : goal.returns-else-link_found-clause-no_memory
returns-else-link_found-clause-no_memory c =
    let kept = c.link_found.ensures.kept c.if-link_found.false in
    let same = (rw (c.in-Ok-Found-Stored.field-0-is, c.in-Ok-Found-Stored.field-0-0-is) at c.in-Ok-Found-Stored.ensures.reach).1 in
    back_same c.args.cells.now c.link_found.new.cells (kept.1 ∙ ap memory_seen same) (kept.0 ∙ ap (λ (t : Cells). t.stores) same) (kept.2 ∙ ap (λ (t : Cells). t.objects) same) c.requires.whole

pub unreachable-requires : goal.unreachable-requires
unreachable-requires c = no_standing (memory_seen c.args.cells.now) c.args.place.now c.requires.can.linkable _ _ _ (rw (c.in-Ok-Found-Standing.field-0-is, c.in-Ok-Found-Standing.field-0-0-is) at c.in-Ok-Found-Standing.ensures.reach).0.walks

-- the place was made

pub link_new-requires-clause-counted : goal.link_new-requires-clause-counted
link_new-requires-clause-counted c = (rw c.in-Ok-Made.field-0-is at c.in-Ok-Made.ensures.reach).counted

pub link_new-requires-clause-block : goal.link_new-requires-clause-block
link_new-requires-clause-block c = block_live c.reach.new.cells c.args.block ((rw c.in-Ok-Made.field-0-is at c.in-Ok-Made.ensures.reach).keeps.blocks c.args.block c.requires.can.block)

pub link_new-requires-clause-room : goal.link_new-requires-clause-room
link_new-requires-clause-room c =
    let k = (rw c.in-Ok-Made.field-0-is at c.in-Ok-Made.ensures.reach).keeps in
    omega (arith, c.requires.can.room, k.room c.args.block, k.count c.args.block)

pub link_new-requires-clause-alone : goal.link_new-requires-clause-alone
link_new-requires-clause-alone c = (rw c.in-Ok-Made.field-0-is at c.in-Ok-Made.ensures.reach).alone

pub returns-in-Ok-Made-clause-ok : goal.returns-in-Ok-Made-clause-ok
returns-in-Ok-Made-clause-ok c = linked (memory_seen c.args.cells.now) c.args.cells.now refl c.args.block c.args.place.now c.reach.new.cells c.link_new.new.cells c.in-Ok-Made.store (rw c.in-Ok-Made.field-0-is at c.in-Ok-Made.ensures.reach).reaches c.link_new.ensures.counted c.link_new.ensures.seen

pub returns-in-Ok-Refused-clause-ok : goal.returns-in-Ok-Refused-clause-ok
returns-in-Ok-Refused-clause-ok c = not_linked (memory_seen c.args.cells.now) c.args.cells.now refl c.args.block c.args.place.now c.reach.new.cells c.in-Ok-Refused.why (rw c.in-Ok-Refused.field-0-is at c.in-Ok-Refused.ensures.reach).1 (rw c.in-Ok-Refused.field-0-is at c.in-Ok-Refused.ensures.reach).0
