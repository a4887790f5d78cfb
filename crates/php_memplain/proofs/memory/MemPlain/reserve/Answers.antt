use Rattle.std.proofs.Common.{◌≡◌, ◌+◌, refl, ◌∙◌}
use Rattle.slab.specs.Slab.{with_value}
use Rattle.php_memdef.specs.Contents.{Scope, scope_of}
use Rattle.php_memdef.specs.Temporaries.{reserve}
use Rattle.php_memdef.specs.Operations as op
use Rattle.php_memplain_cells.specs.Seen.{scope_seen}
use Rattle.php_memplain_cells.specs.Memory.{memory_seen}
use Rattle.php_memplain_cells.proofs.MemoryLemmas.{block_there}
use Rattle.php_memplain_blocks.proofs.MoveLemmas.{block_live, scope_changed, scope_same, rescoped_counted}
use Rattle.php_memplain.proofs.MeansLemmas.{able, does, kept}
use Rattle.php_memplain.proofs.memory.MemPlain.reserve.Goals as goal

pub index_mut-requires : goal.index_mut-requires
index_mut-requires c = block_live c.args.self.now.cells c.args.block.0 (able c.args.self.now (op.reserve c.args.block.0 c.args.more) c.requires)

pub returns-clause-ok : goal.returns-clause-ok
unfolding reserve
returns-clause-ok c =
    let s = c.args.self.now in
    let b = c.args.block.0 in
    let n = c.args.more in
    let t = record s.cells { blocks = with_value s.cells.blocks b c.reserve_room.new.block } in
    let f = scope_of (memory_seen s.cells) b in
    let seen = scope_changed s.cells b c.index_mut.result.now c.index_mut.ensures.value c.reserve_room.new.block (λ (x : Scope). record x { room = x.room + n }) c.in-Ok.ensures.ok in
    does s (record { cells = t }) (op.reserve b n) (able s (op.reserve b n) c.requires) (rescoped_counted s.cells t b (record f { room = f.room + n }) c.requires.1.counted refl refl seen (λ k. refl) (λ h. refl)) seen

pub returns-in_default-clause-no_memory : goal.returns-in_default-clause-no_memory
returns-in_default-clause-no_memory c =
    let s = c.args.self.now in
    let b = c.args.block.0 in
    let t = record s.cells { blocks = with_value s.cells.blocks b c.reserve_room.new.block } in
    let f = c.index_mut.result.now in
    let e = c.index_mut.ensures.value in
    let same : scope_seen c.reserve_room.new.block ≡ scope_seen f = rw c.in_default.is at c.reserve_room.ensures.no_memory in
    let seen = scope_changed s.cells b f e c.reserve_room.new.block (λ (x : Scope). x) same ∙ scope_same (memory_seen s.cells) b (scope_seen f) (block_there s.cells b f e) in
    kept s (record { cells = t }) seen refl refl
