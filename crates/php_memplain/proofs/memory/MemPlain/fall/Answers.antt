use Rattle.php_memdef.specs.Operations as op
use Rattle.php_memplain_blocks.proofs.MoveLemmas.{block_live}
use Rattle.php_memplain.proofs.MeansLemmas.{able, answers}
use Rattle.php_memplain.proofs.memory.MemPlain.fall.Goals as goal

pub fall-requires-clause-block : goal.fall-requires-clause-block
fall-requires-clause-block c = block_live c.args.self.now.cells c.args.block.0 (able c.args.self.now (op.fall c.args.block.0) c.requires)

pub returns-clause-effect : goal.returns-clause-effect
returns-clause-effect c = answers c.args.self.now (record { cells = c.fall.new.self }) (op.fall c.args.block.0) (able c.args.self.now (op.fall c.args.block.0) c.requires) c.fall.ensures.counted c.fall.result c.fall.ensures.falls
