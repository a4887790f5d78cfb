use Rattle.std.proofs.Common.{[], refl, arith}
use Rattle.slab.specs.Slab.{with_value}
use Rattle.php_memdef.specs.Contents.{Scope}
use Rattle.php_memdef.specs.Temporaries.{turned, turn}
use Rattle.php_memdef.specs.Operations as op
use Rattle.php_memplain_blocks.proofs.MoveLemmas.{block_live, scope_changed, temps_length}
use Rattle.php_memplain.proofs.MeansLemmas.{able, does}
use Rattle.php_memplain_blocks.proofs.TurnLemmas.{turned_counted}
use Rattle.php_memplain.proofs.memory.MemPlain.turn.Goals as goal

pub index_mut-requires : goal.index_mut-requires
index_mut-requires c = block_live c.args.self.now.cells c.args.block.0 (able c.args.self.now (op.turn c.args.block.0 c.args.count) c.requires).block

pub turn_top-requires : goal.turn_top-requires
turn_top-requires c = omega (arith, (able c.args.self.now (op.turn c.args.block.0 c.args.count) c.requires).enough, temps_length c.args.self.now.cells c.args.block.0 c.index_mut.result.now c.index_mut.ensures.value)

pub returns-clause-effect : goal.returns-clause-effect
unfolding turn
returns-clause-effect c =
    let s = c.args.self.now in
    let b = c.args.block.0 in
    let n = c.args.count in
    let t = record s.cells { blocks = with_value s.cells.blocks b c.turn_top.new.block } in
    let seen = scope_changed s.cells b c.index_mut.result.now c.index_mut.ensures.value c.turn_top.new.block (λ (x : Scope). record x { temps = turned n x.temps [] }) c.turn_top.ensures in
    does s (record { cells = t }) (op.turn b n) (able s (op.turn b n) c.requires) (turned_counted s.cells t b n c.requires.1.counted refl refl seen) seen
