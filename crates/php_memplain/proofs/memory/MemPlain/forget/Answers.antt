use Rattle.std.proofs.Common.{refl, sym, ◌∙◌, arith}
use Rattle.slab.specs.Slab.{with_value}
use Rattle.php_memdef.specs.Contents.{Scope, scope_of}
use Rattle.php_memdef.specs.Places.{variable_store}
use Rattle.php_memdef.specs.Writes.{forget}
use Rattle.php_memdef.specs.Operations as op
use Rattle.php_memplain_cells.specs.Seen.{scope_seen}
use Rattle.php_memplain_cells.specs.Memory.{memory_seen}
use Rattle.php_memplain_cells.proofs.MemoryLemmas.{block_there}
use Rattle.php_memplain_blocks.specs.Variables.{forget_scope}
use Rattle.php_memplain_blocks.proofs.MoveLemmas.{block_live, waiting_room_there, scope_changed, rescoped_counted}
use Rattle.php_memplain.proofs.MeansLemmas.{able, does}
use Rattle.php_memplain_blocks.proofs.ForgetLemmas.{forget_is, forget_names, forget_handles}
use Rattle.php_memplain.proofs.memory.MemPlain.forget.Goals as goal

pub index_mut-requires : goal.index_mut-requires
index_mut-requires c = block_live c.args.self.now.cells c.args.block.0 (able c.args.self.now (op.forget c.args.block.0 c.args.name.0) c.requires).block

pub forget_variable-requires : goal.forget_variable-requires
forget_variable-requires c =
    let f = c.index_mut.result.now in
    omega (arith, waiting_room_there c.args.self.now.cells c.args.block.0 f c.index_mut.ensures.value (able c.args.self.now (op.forget c.args.block.0 c.args.name.0) c.requires).falling_room, f.waiting_room)

pub returns-clause-effect : goal.returns-clause-effect
unfolding forget
returns-clause-effect c =
    let s = c.args.self.now in
    let b = c.args.block.0 in
    let n = c.args.name.0 in
    let f = c.index_mut.result.now in
    let e = c.index_mut.ensures.value in
    let m = memory_seen s.cells in
    let t = record s.cells { blocks = with_value s.cells.blocks b c.forget_variable.new.block } in
    let store = variable_store (scope_of m b).variables n in
    let there = block_there s.cells b f e in
    let seen = scope_changed s.cells b f e c.forget_variable.new.block (λ (x : Scope). forget_scope n (variable_store x.variables n) x) c.forget_variable.ensures in
    does s (record { cells = t }) (op.forget b n) (able s (op.forget b n) c.requires)
    (rescoped_counted s.cells t b (forget_scope n store (scope_of m b)) c.requires.1.counted refl refl seen (forget_names m b n (scope_seen f) there store refl) (forget_handles m b n (scope_seen f) there store))
    (seen ∙ sym (forget_is m b n (scope_seen f) there store))
