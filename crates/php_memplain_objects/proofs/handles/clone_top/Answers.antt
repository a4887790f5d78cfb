use Rattle.std.proofs.Common.{◌<◌, [], ◌∷◌, ◌++◌, length, refl, sym, ◌∙◌, ap, subst}
use Rattle.std.specs.VecDeque.{deque_len, deque_capacity}
use Rattle.slab.specs.Slab.{with_value}
use Rattle.php_memdef.specs.Contents.{Scope, Mem, value, object, scope_of}
use Rattle.php_memdef.specs.Places.{with_scope}
use Rattle.php_memdef.specs.Temporaries.{rest_of, top_of, top}
use Rattle.php_memplain_cells.specs.declared.block.Block.{Block}
use Rattle.php_memplain_cells.specs.declared.cells.Cells.{Cells}
use Rattle.php_memplain_cells.specs.Memory.{memory_seen}
use Rattle.php_memplain_cells.proofs.MemoryLemmas.{scope_there, block_put}
use Rattle.php_memplain_objects.proofs.HandleLemmas.{first_is_top, room_seen, room_whole, room_back, back_from_room, on_top, block_again, block_live, temps_there}
use Rattle.php_memplain_objects.proofs.handles.clone_top.Goals as goal

pub returns-in-Err-clause-no_memory : goal.returns-in-Err-clause-no_memory
returns-in-Err-clause-no_memory c = room_back c.args.cells.now c.args.block c.index_mut.result.now c.reserve_fall.new.block c.index_mut.ensures.value c.reserve_fall.ensures.seen c.requires.whole

pub make_clone-requires : goal.make_clone-requires
make_clone-requires c = room_whole c.args.cells.now c.args.block c.index_mut.result.now c.reserve_fall.new.block c.index_mut.ensures.value c.reserve_fall.ensures.seen c.requires.whole

pub index_mut-requires-in-Ok-make_clone : goal.index_mut-requires-in-Ok-make_clone
index_mut-requires-in-Ok-make_clone c = block_live c.args.cells.now c.make_clone.new.cells c.args.block c.index_mut.result.now c.reserve_fall.new.block c.index_mut.ensures.value c.make_clone.ensures.blocks

pub replace_top-requires-clause-some : goal.replace_top-requires-clause-some
replace_top-requires-clause-some c =
    let s = c.args.cells.now in
    let b = c.args.block in
    let f = c.index_mut.result.now in
    let g = c.reserve_fall.new.block in
    subst (λ (x : Block). 0 < length x.temps.items) (sym (block_again s c.make_clone.new.cells b f g c.index_mut-in-Ok-make_clone.result.now c.index_mut.ensures.value c.make_clone.ensures.blocks c.index_mut-in-Ok-make_clone.ensures.value))
    (temps_there s b f g _ c.index_mut.ensures.value c.reserve_fall.ensures.seen c.top_handle-number.ensures)

pub replace_top-requires-clause-room : goal.replace_top-requires-clause-room
replace_top-requires-clause-room c =
    let s = c.args.cells.now in
    let b = c.args.block in
    let f = c.index_mut.result.now in
    let g = c.reserve_fall.new.block in
    subst (λ (x : Block). deque_len x.waiting < deque_capacity x.waiting) (sym (block_again s c.make_clone.new.cells b f g c.index_mut-in-Ok-make_clone.result.now c.index_mut.ensures.value c.make_clone.ensures.blocks c.index_mut-in-Ok-make_clone.ensures.value))
    c.in-Ok.ensures.room

pub returns-in-Ok-make_clone-clause-cloned : goal.returns-in-Ok-make_clone-clause-cloned
returns-in-Ok-make_clone-clause-cloned c =
    let s = c.args.cells.now in
    let b = c.args.block in
    let f = c.index_mut.result.now in
    let g = c.reserve_fall.new.block in
    let e = c.index_mut.ensures.value in
    let same = c.reserve_fall.ensures.seen in
    let mid : Cells = record s { blocks = with_value s.blocks b g } in
    let t = c.make_clone.new.cells in
    let n = c.in-Ok-make_clone.clone in
    let h = c.top_handle-number.result in
    let found = c.index_mut-in-Ok-make_clone.result.now in
    let e' = c.index_mut-in-Ok-make_clone.ensures.value in
    let new = c.replace_top.new.block in
    let w : Cells = record t { blocks = with_value t.blocks b new } in
    on_top mid t w b h n c.in-Ok-make_clone.ensures.cloned c.make_clone.ensures.blocks
    (ap (λ (m : Mem). top m b) (room_seen s b f g e same) ∙ first_is_top (scope_of (memory_seen s) b).temps (value (object h)) c.top_handle-number.ensures)
    (block_put t b found e' new ∙ ap (with_scope (memory_seen t) b) (c.replace_top.ensures ∙ ap (λ (x : Scope). record x { temps = value (object n) ∷ rest_of x.temps; falling = x.falling ++ top_of x.temps ∷ [] }) (sym (scope_there t b found e'))))
    s (room_seen s b f g e same) refl refl

pub returns-in-Err-make_clone-clause-no_memory : goal.returns-in-Err-make_clone-clause-no_memory
returns-in-Err-make_clone-clause-no_memory c =
    back_from_room c.args.cells.now c.args.block c.index_mut.result.now c.reserve_fall.new.block c.index_mut.ensures.value c.reserve_fall.ensures.seen c.make_clone.new.cells c.in-Err-make_clone.ensures.no_memory
