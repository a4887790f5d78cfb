use Rattle.std.proofs.Common.{sym, subst}
use Rattle.php_memdef.specs.Contents.{Mem, scope_of}
use Rattle.php_memdef.specs.Conditions.{IsBlock, IsBase, HasLinkOnTop}
use Rattle.php_memplain_cells.specs.Memory.{memory_seen}
use Rattle.php_memplain_writes.proofs.BlockLemmas.{block_live}
use Rattle.php_memplain_writes.proofs.WriteLemmas.{whole_same, back_same, back_from, falls_kept}
use Rattle.php_memplain_writes.proofs.FinishLemmas.{first_item, link_live, bound_done, not_bound}
use Rattle.php_memplain_writes.proofs.writes.bind.Goals as goal

pub returns-in_default-clause-no_memory : goal.returns-in_default-clause-no_memory
returns-in_default-clause-no_memory c = back_same c.args.cells.now c.reserve_falling.new.cells c.reserve_falling.ensures.seen c.reserve_falling.ensures.stores c.reserve_falling.ensures.objects c.requires.whole

pub top_link-store-requires : goal.top_link-store-requires
top_link-store-requires c = subst (λ (n : Mem). HasLinkOnTop n c.args.block) (sym c.reserve_falling.ensures.seen) c.requires.can.top

pub bind_place-requires-clause-whole : goal.bind_place-requires-clause-whole
bind_place-requires-clause-whole c = whole_same c.args.cells.now c.reserve_falling.new.cells c.reserve_falling.ensures.seen c.reserve_falling.ensures.stores c.reserve_falling.ensures.objects c.requires.whole

pub bind_place-requires-clause-base : goal.bind_place-requires-clause-base
bind_place-requires-clause-base c = subst (λ (n : Mem). IsBase n c.args.place.now.base) (sym c.reserve_falling.ensures.seen) c.requires.can.place.0

pub bind_place-requires-clause-live : goal.bind_place-requires-clause-live
bind_place-requires-clause-live c =
    let whole = whole_same c.args.cells.now c.reserve_falling.new.cells c.reserve_falling.ensures.seen c.reserve_falling.ensures.stores c.reserve_falling.ensures.objects c.requires.whole in
    link_live (memory_seen c.reserve_falling.new.cells) whole.closed c.args.block c.top_link-store.result c.top_link-store.ensures

pub finish_bind-requires-clause-block : goal.finish_bind-requires-clause-block
finish_bind-requires-clause-block c = block_live c.bind_place.new.cells c.args.block (c.in-Done.ensures.points.blocks c.args.block (subst (λ (n : Mem). IsBlock n c.args.block) (sym c.reserve_falling.ensures.seen) c.requires.can.block))

pub finish_bind-requires-clause-room : goal.finish_bind-requires-clause-room
finish_bind-requires-clause-room c = falls_kept c.reserve_falling.new.cells.blocks c.bind_place.new.cells.blocks c.args.block c.in-Ok.ensures.ok c.in-Done.ensures.points.waiting

pub returns-in-Done-clause-ok : goal.returns-in-Done-clause-ok
returns-in-Done-clause-ok c =
    bound_done (memory_seen c.args.cells.now) c.reserve_falling.new.cells c.reserve_falling.ensures.seen c.args.block c.args.place.now c.top_link-store.result
    (first_item (scope_of (memory_seen c.reserve_falling.new.cells) c.args.block).temps _ c.top_link-store.ensures)
    c.bind_place.new.cells c.finish_bind.new.cells c.in-Done.fell c.in-Done.ensures.points c.finish_bind.ensures.stores c.finish_bind.ensures.objects c.finish_bind.ensures.seen

pub returns-in-Refused-clause-ok : goal.returns-in-Refused-clause-ok
returns-in-Refused-clause-ok c =
    not_bound (memory_seen c.args.cells.now) c.reserve_falling.new.cells c.reserve_falling.ensures.seen c.args.block c.args.place.now c.top_link-store.result
    (first_item (scope_of (memory_seen c.reserve_falling.new.cells) c.args.block).temps _ c.top_link-store.ensures)
    c.bind_place.new.cells c.in-Refused.why c.in-Refused.ensures.points.1 c.in-Refused.ensures.points.0

pub returns-in-NoMemory-clause-no_memory : goal.returns-in-NoMemory-clause-no_memory
returns-in-NoMemory-clause-no_memory c = back_from c.args.cells.now c.reserve_falling.new.cells c.bind_place.new.cells c.reserve_falling.ensures.seen c.in-NoMemory.ensures.points

pub reserve_falling-requires : goal.reserve_falling-requires
reserve_falling-requires c = record { block = block_live c.args.cells.now c.args.block c.requires.can.block }
