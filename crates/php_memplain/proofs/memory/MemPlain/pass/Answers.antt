use Rattle.std.proofs.Common.{sym, ◌∙◌, ap, subst}
use Rattle.php_memdef.specs.Contents.{Item, Mem}
use Rattle.php_memdef.specs.Holders.{stores_of_item}
use Rattle.php_memdef.specs.Temporaries.{pushed, popped, pass}
use Rattle.php_memdef.specs.Conditions.{IsBlock, HasRoom}
use Rattle.php_memdef.specs.Operations as op
use Rattle.php_memdef_laws.proofs.Held.Parts.{handles_of_item}
use Rattle.php_memdef_laws.proofs.Formed.Parts.{room_after_pop}
use Rattle.php_memplain_cells.specs.Memory.{memory_seen, IsCountedWith}
use Rattle.php_memplain_cells.specs.Seen.{item_seen}
use Rattle.php_memplain_blocks.proofs.MoveLemmas.{block_live, pushed_counted, popped_counted, block_popped}
use Rattle.php_memplain.proofs.MeansLemmas.{able, does}
use Rattle.php_memplain.proofs.memory.MemPlain.pass.Goals as goal

pub pop-item-requires-clause-block : goal.pop-item-requires-clause-block
pop-item-requires-clause-block c = block_live c.args.self.now.cells c.args.from.0 (able c.args.self.now (op.pass c.args.from.0 c.args.to.0) c.requires).from_block

pub pop-item-requires-clause-some : goal.pop-item-requires-clause-some
pop-item-requires-clause-some c = (able c.args.self.now (op.pass c.args.from.0 c.args.to.0) c.requires).top

pub push-requires-clause-block : goal.push-requires-clause-block
push-requires-clause-block c =
    let m = memory_seen c.args.self.now.cells in
    block_live c.pop-item.new.cells c.args.to.0 (subst (λ n. IsBlock n c.args.to.0) (sym c.pop-item.ensures.seen) (block_popped m c.args.from.0 c.args.to.0 (able c.args.self.now (op.pass c.args.from.0 c.args.to.0) c.requires).to_block))

pub push-requires-clause-room : goal.push-requires-clause-room
push-requires-clause-room c =
    let m = memory_seen c.args.self.now.cells in
    subst (λ n. HasRoom n c.args.to.0) (sym c.pop-item.ensures.seen) (room_after_pop m c.args.from.0 c.args.to.0 (able c.args.self.now (op.pass c.args.from.0 c.args.to.0) c.requires).room)

pub returns-clause-effect : goal.returns-clause-effect
unfolding pass
returns-clause-effect c =
    let s = c.args.self.now in
    let from = c.args.from.0 in
    let to = c.args.to.0 in
    let m = memory_seen s.cells in
    let i = item_seen c.pop-item.result in
    let t = c.push.new.cells in
    let taken : IsCountedWith c.pop-item.new.cells (stores_of_item i) (handles_of_item i) = subst (λ (x : Item). IsCountedWith c.pop-item.new.cells (stores_of_item x) (handles_of_item x)) (sym c.pop-item.ensures.top) (popped_counted s.cells c.pop-item.new.cells from c.pop-item.ensures.stores c.pop-item.ensures.objects c.requires.1.counted c.pop-item.ensures.seen) in
    does s (record { cells = t }) (op.pass from to) (able s (op.pass from to) c.requires)
    (pushed_counted c.pop-item.new.cells t to c.push.ensures.stores c.push.ensures.objects i taken c.push.ensures.seen)
    (c.push.ensures.seen ∙ ap (λ (n : Mem). pushed n to i) c.pop-item.ensures.seen ∙ ap (pushed (popped m from) to) c.pop-item.ensures.top)
