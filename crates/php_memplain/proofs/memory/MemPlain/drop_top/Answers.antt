use Rattle.std.proofs.Common.{sym, ◌∙◌, ap, subst}
use Rattle.php_memdef.specs.Contents.{Item, Mem}
use Rattle.php_memdef.specs.Holders.{stores_of_item}
use Rattle.php_memdef.specs.Temporaries.{popped, let_fall, drop_top}
use Rattle.php_memdef.specs.Conditions.{HasFallingRoom}
use Rattle.php_memdef.specs.Operations as op
use Rattle.php_memdef_laws.proofs.Held.Parts.{handles_of_item}
use Rattle.php_memplain_cells.specs.Memory.{memory_seen, IsCountedWith}
use Rattle.php_memplain_cells.specs.Seen.{item_seen}
use Rattle.php_memplain_blocks.proofs.MoveLemmas.{block_live, popped_counted, fallen_counted, falling_room_popped}
use Rattle.php_memplain.proofs.MeansLemmas.{able, does}
use Rattle.php_memplain.proofs.memory.MemPlain.drop_top.Goals as goal

pub pop-item-requires-clause-block : goal.pop-item-requires-clause-block
pop-item-requires-clause-block c = block_live c.args.self.now.cells c.args.block.0 (able c.args.self.now (op.drop_top c.args.block.0) c.requires).block

pub pop-item-requires-clause-some : goal.pop-item-requires-clause-some
pop-item-requires-clause-some c = (able c.args.self.now (op.drop_top c.args.block.0) c.requires).top

pub fall-requires-clause-room : goal.fall-requires-clause-room
fall-requires-clause-room c =
    let m = memory_seen c.args.self.now.cells in
    subst (λ n. HasFallingRoom n c.args.block.0) (sym c.pop-item.ensures.seen) (falling_room_popped m c.args.block.0 (able c.args.self.now (op.drop_top c.args.block.0) c.requires).falling_room)

pub returns-clause-effect : goal.returns-clause-effect
unfolding drop_top
returns-clause-effect c =
    let s = c.args.self.now in
    let b = c.args.block.0 in
    let m = memory_seen s.cells in
    let i = item_seen c.pop-item.result in
    let t = c.fall.new.cells in
    let taken : IsCountedWith c.pop-item.new.cells (stores_of_item i) (handles_of_item i) = subst (λ (x : Item). IsCountedWith c.pop-item.new.cells (stores_of_item x) (handles_of_item x)) (sym c.pop-item.ensures.top) (popped_counted s.cells c.pop-item.new.cells b c.pop-item.ensures.stores c.pop-item.ensures.objects c.requires.1.counted c.pop-item.ensures.seen) in
    does s (record { cells = t }) (op.drop_top b) (able s (op.drop_top b) c.requires)
    (fallen_counted c.pop-item.new.cells t b c.fall.ensures.stores c.fall.ensures.objects i taken c.fall.ensures.seen)
    (c.fall.ensures.seen ∙ ap (λ (n : Mem). let_fall n b i) c.pop-item.ensures.seen ∙ ap (let_fall (popped m b) b) c.pop-item.ensures.top)
