use Rattle.std.proofs.Common.{sym}
use Rattle.std.specs.Prelude.{Some}
use Rattle.php_memdef.specs.Operations as op
use Rattle.php_memplain_blocks.proofs.MoveLemmas.{block_live}
use Rattle.php_memplain.proofs.MeansLemmas.{able, answers_alike}
use Rattle.php_memplain.proofs.CopyLemmas.{whole_of, back_kept}
use Rattle.php_memplain.proofs.memory.MemPlain.clone_object.Goals as goal

pub clone_top-requires-clause-whole : goal.clone_top-requires-clause-whole
clone_top-requires-clause-whole c = whole_of c.args.self.now c.requires.0 c.requires.1

pub clone_top-requires-clause-block : goal.clone_top-requires-clause-block
clone_top-requires-clause-block c = block_live c.args.self.now.cells c.args.block.0 (able c.args.self.now (op.clone_object c.args.block.0) c.requires).block

pub clone_top-requires-clause-top : goal.clone_top-requires-clause-top
clone_top-requires-clause-top c = (able c.args.self.now (op.clone_object c.args.block.0) c.requires).top

pub returns-in-Ok-clause-ok : goal.returns-in-Ok-clause-ok
returns-in-Ok-clause-ok c =
    let s = c.args.self.now in
    let b = c.args.block.0 in
    let made = c.in-Ok.ensures.cloned in
    answers_alike s (record { cells = c.clone_top.new.cells }) (op.clone_object b) (able s (op.clone_object b) c.requires) made.counted (Some c.in-Ok.number) made.alike (sym made.answer)

pub returns-in-Err-clause-refused : goal.returns-in-Err-clause-refused
returns-in-Err-clause-refused c = back_kept c.args.self.now (record { cells = c.clone_top.new.cells }) c.in-Err.ensures.no_memory
