use Rattle.php_memdef.specs.Operations as op
use Rattle.php_memplain.proofs.MeansLemmas.{able, answers_alike}
use Rattle.php_memplain.proofs.CopyLemmas.{whole_of, back_kept}
use Rattle.php_memplain.proofs.WroteLemmas.{if_answered, if_wanting}
use Rattle.php_memplain.proofs.memory.MemPlain.assign.Goals as goal

pub assign-requires-clause-whole : goal.assign-requires-clause-whole
assign-requires-clause-whole c = whole_of c.args.self.now c.requires.0 c.requires.1

pub assign-requires-clause-can : goal.assign-requires-clause-can
assign-requires-clause-can c = able c.args.self.now (op.assign c.args.block.0 c.args.to.now) c.requires

pub returns-clause-ok : goal.returns-clause-ok
returns-clause-ok c =
    let s = c.args.self.now in
    let o = op.assign c.args.block.0 c.args.to.now in
    if_answered c.assign.result (λ r h. answers_alike s (record { cells = c.assign.new.cells }) o (able s o c.requires) h.counted r h.alike h.same) c.assign.ensures.ok

pub returns-clause-no_memory : goal.returns-clause-no_memory
returns-clause-no_memory c = if_wanting c.assign.result (back_kept c.args.self.now (record { cells = c.assign.new.cells })) c.assign.ensures.no_memory
