use Rattle.std.proofs.Common.{refl, sym, ◌∙◌, ap, arith}
use Rattle.slab.specs.Slab.{with_value}
use Rattle.php_memdef.specs.Contents.{Scope, scope_of}
use Rattle.php_memdef.specs.Writes.{shed}
use Rattle.php_memdef.specs.Operations as op
use Rattle.php_memplain_cells.specs.Seen.{scope_seen}
use Rattle.php_memplain_cells.specs.Memory.{memory_seen}
use Rattle.php_memplain_cells.proofs.MemoryLemmas.{block_there, scope_there}
use Rattle.php_memplain_blocks.specs.Variables.{shed_scope, has_variable}
use Rattle.php_memplain_blocks.proofs.MoveLemmas.{block_live, waiting_room_there, scope_changed, rescoped_counted}
use Rattle.php_memplain.proofs.MeansLemmas.{able, answers}
use Rattle.php_memplain_blocks.proofs.ShedLemmas.{shed_is, shed_names, shed_handles}
use Rattle.php_memplain.proofs.memory.MemPlain.shed.Goals as goal

pub index_mut-requires : goal.index_mut-requires
index_mut-requires c = block_live c.args.self.now.cells c.args.block.0 (able c.args.self.now (op.shed c.args.block.0) c.requires).block

pub shed_variable-requires : goal.shed_variable-requires
shed_variable-requires c =
    let f = c.index_mut.result.now in
    omega (arith, waiting_room_there c.args.self.now.cells c.args.block.0 f c.index_mut.ensures.value (able c.args.self.now (op.shed c.args.block.0) c.requires).falling_room, f.waiting_room)

pub returns-clause-effect : goal.returns-clause-effect
unfolding shed
returns-clause-effect c =
    let s = c.args.self.now in
    let b = c.args.block.0 in
    let f = c.index_mut.result.now in
    let e = c.index_mut.ensures.value in
    let m = memory_seen s.cells in
    let t = record s.cells { blocks = with_value s.cells.blocks b c.shed_variable.new.block } in
    let vs = (scope_of m b).variables in
    let there = block_there s.cells b f e in
    let seen = scope_changed s.cells b f e c.shed_variable.new.block (λ (x : Scope). shed_scope x.variables x) c.shed_variable.ensures.seen in
    let answer = c.shed_variable.ensures.answer ∙ ap (λ (x : Scope). has_variable x.variables) (sym (scope_there s.cells b f e)) in
    answers s (record { cells = t }) (op.shed b) (able s (op.shed b) c.requires)
    (rescoped_counted s.cells t b (shed_scope vs (scope_of m b)) c.requires.1.counted refl refl seen (shed_names m b (scope_seen f) there vs refl) (shed_handles m b (scope_seen f) there vs))
    c.shed_variable.result
    (shed_is m b (scope_seen f) there vs refl ∙ ap (λ n. (n, has_variable vs)) (sym seen) ∙ ap (λ r. (memory_seen t, r)) (sym answer))
