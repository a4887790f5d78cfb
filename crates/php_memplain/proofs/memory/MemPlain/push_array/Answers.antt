use Rattle.std.proofs.Common.{◌∙◌, ap}
use Rattle.php_entries.specs.Listing.{no_entries}
use Rattle.php_memdef.specs.Contents.{value, array}
use Rattle.php_memdef.specs.Temporaries.{pushed, push_array}
use Rattle.php_memdef.specs.Operations as op
use Rattle.php_memplain_cells.specs.Memory.{memory_seen}
use Rattle.php_memplain_blocks.proofs.MoveLemmas.{block_live, pushed_counted}
use Rattle.php_memplain.proofs.MeansLemmas.{able, does}
use Rattle.php_memplain.proofs.memory.MemPlain.push_array.Goals as goal

pub push-requires-clause-block : goal.push-requires-clause-block
push-requires-clause-block c = block_live c.args.self.now.cells c.args.block.0 (able c.args.self.now (op.push_array c.args.block.0) c.requires).block

pub push-requires-clause-room : goal.push-requires-clause-room
push-requires-clause-room c = (able c.args.self.now (op.push_array c.args.block.0) c.requires).room

pub returns-clause-ok : goal.returns-clause-ok
unfolding push_array
returns-clause-ok c =
    let s = c.args.self.now in
    let b = c.args.block.0 in
    let seen = c.push.ensures.seen ∙ ap (λ t. pushed (memory_seen s.cells) b (value (array t))) c.new-2.ensures in
    does s (record { cells = c.push.new.cells }) (op.push_array b) (able s (op.push_array b) c.requires)
    (pushed_counted s.cells c.push.new.cells b c.push.ensures.stores c.push.ensures.objects (value (array no_entries)) c.requires.1.counted seen)
    seen
