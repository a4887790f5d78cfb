use Rattle.std.proofs.Common.{sym, subst}
use Rattle.php_memdef.specs.Contents.{Mem, value, scope_of}
use Rattle.php_memdef.specs.Conditions.{HasTemp, HasFallingRoom}
use Rattle.php_memdef.specs.Sound.{IsLive}
use Rattle.php_memdef.specs.Operations as op
use Rattle.php_memdef_laws.proofs.Closed.Parts.{nth_link-found, temps-closed}
use Rattle.php_memplain_cells.specs.Memory.{memory_seen}
use Rattle.php_memplain_cells.specs.Seen.{content_seen, item_seen}
use Rattle.php_memplain_blocks.proofs.MoveLemmas.{block_live}
use Rattle.php_memplain.proofs.MeansLemmas.{able, meant_alike}
use Rattle.php_memplain.proofs.CopyLemmas.{whole_of, link_is_top, falling_room_swapped, some_temp, settled_alike, settled_counted, back_kept, block_made}
use Rattle.php_memplain.proofs.memory.MemPlain.settle.Goals as goal

pub top_link-store-requires : goal.top_link-store-requires
top_link-store-requires c = (able c.args.self.now (op.settle c.args.block.0) c.requires).top

pub copy_content-requires-clause-whole : goal.copy_content-requires-clause-whole
copy_content-requires-clause-whole c = whole_of c.args.self.now c.requires.0 c.requires.1

pub copy_content-requires-clause-there : goal.copy_content-requires-clause-there
copy_content-requires-clause-there c =
    let m = memory_seen c.args.self.now.cells in
    nth_link-found (IsLive m) (scope_of m c.args.block.0).temps 0 c.top_link-store.result (temps-closed m c.requires.1.closed c.args.block.0) c.top_link-store.ensures

pub swap-link-requires-clause-block : goal.swap-link-requires-clause-block
swap-link-requires-clause-block c =
    let s = c.args.self.now in
    let b = c.args.block.0 in
    block_live c.copy_content.new.cells b (block_made s.cells c.copy_content.new.cells _ _ b c.in-Ok.ensures.copy (able s (op.settle b) c.requires).block)

pub swap-link-requires-clause-some : goal.swap-link-requires-clause-some
swap-link-requires-clause-some c =
    let m = memory_seen c.args.self.now.cells in
    subst (λ (n : Mem). HasTemp n c.args.block.0) (sym c.in-Ok.ensures.copy.seen) (some_temp (scope_of m c.args.block.0).temps _ c.top_link-store.ensures)

pub fall-requires-clause-room : goal.fall-requires-clause-room
fall-requires-clause-room c =
    let s = c.args.self.now in
    let b = c.args.block.0 in
    let t = c.copy_content.new.cells in
    let room : HasFallingRoom (memory_seen t) b = subst (λ (n : Mem). HasFallingRoom n b) (sym c.in-Ok.ensures.copy.seen) (able s (op.settle b) c.requires).falling_room in
    subst (λ (n : Mem). HasFallingRoom n b) (sym c.swap-link.ensures.seen) (falling_room_swapped (memory_seen t) b (value (content_seen c.in-Ok.content)) room)

pub returns-in-Ok-clause-ok : goal.returns-in-Ok-clause-ok
returns-in-Ok-clause-ok c =
    let s = c.args.self.now in
    let m = memory_seen s.cells in
    let b = c.args.block.0 in
    let k = c.top_link-store.result in
    let t = c.copy_content.new.cells in
    let v = c.swap-link.new.cells in
    let w = c.fall.new.cells in
    let d = content_seen c.in-Ok.content in
    let i = item_seen c.swap-link.result in
    let made = c.in-Ok.ensures.copy in
    let live = nth_link-found (IsLive m) (scope_of m b).temps 0 k (temps-closed m c.requires.1.closed b) c.top_link-store.ensures in
    meant_alike s (record { cells = w }) (op.settle b) (able s (op.settle b) c.requires)
    (settled_counted s.cells t v w b k d i made c.swap-link.ensures.top c.swap-link.ensures.seen c.fall.ensures.seen c.swap-link.ensures.stores c.swap-link.ensures.objects c.fall.ensures.stores c.fall.ensures.objects)
    (settled_alike s.cells t v w b k d i made c.swap-link.ensures.top c.swap-link.ensures.seen c.fall.ensures.seen live (link_is_top m b k c.top_link-store.ensures))

pub returns-in-Err-clause-no_memory : goal.returns-in-Err-clause-no_memory
returns-in-Err-clause-no_memory c = back_kept c.args.self.now (record { cells = c.copy_content.new.cells }) c.in-Err.ensures.copy
