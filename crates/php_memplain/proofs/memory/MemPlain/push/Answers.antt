use Rattle.std.proofs.Common.{◌∙◌, ap}
use Rattle.php_memdef.specs.Contents.{value}
use Rattle.php_memdef.specs.Temporaries.{content_of_scalar, pushed, push}
use Rattle.php_memdef.specs.Operations as op
use Rattle.php_memplain_cells.specs.Memory.{memory_seen}
use Rattle.php_memplain_blocks.proofs.MoveLemmas.{block_live, pushed_counted, scalar_stores, scalar_handles, still_counted}
use Rattle.php_memplain.proofs.MeansLemmas.{able, does}
use Rattle.php_memplain.proofs.memory.MemPlain.push.Goals as goal

pub push-requires-clause-block : goal.push-requires-clause-block
push-requires-clause-block c = block_live c.args.self.now.cells c.args.block.0 (able c.args.self.now (op.push c.args.block.0 c.args.value) c.requires).block

pub push-requires-clause-room : goal.push-requires-clause-room
push-requires-clause-room c = (able c.args.self.now (op.push c.args.block.0 c.args.value) c.requires).room

pub returns-clause-effect : goal.returns-clause-effect
unfolding push
returns-clause-effect c =
    let s = c.args.self.now in
    let b = c.args.block.0 in
    let v = c.args.value in
    let seen = c.push.ensures.seen ∙ ap (λ x. pushed (memory_seen s.cells) b (value x)) c.content_of-content.ensures in
    does s (record { cells = c.push.new.cells }) (op.push b v) (able s (op.push b v) c.requires)
    (pushed_counted s.cells c.push.new.cells b c.push.ensures.stores c.push.ensures.objects (value (content_of_scalar v)) (still_counted s.cells _ _ (scalar_stores v) (scalar_handles v) c.requires.1.counted) seen)
    seen
