use Rattle.php_memdef.specs.Operations as op
use Rattle.php_memplain.proofs.MeansLemmas.{able, answers_alike}
use Rattle.php_memplain.proofs.CopyLemmas.{whole_of, back_kept}
use Rattle.php_memplain.proofs.WroteLemmas.{if_answered, if_wanting}
use Rattle.php_memplain.proofs.memory.MemPlain.link.Goals as goal

pub link-requires-clause-whole : goal.link-requires-clause-whole
link-requires-clause-whole c = whole_of c.args.self.now c.requires.0 c.requires.1

pub link-requires-clause-can : goal.link-requires-clause-can
link-requires-clause-can c = able c.args.self.now (op.link c.args.block.0 c.args.from.now) c.requires

pub returns-clause-ok : goal.returns-clause-ok
returns-clause-ok c =
    let s = c.args.self.now in
    let o = op.link c.args.block.0 c.args.from.now in
    if_answered c.link.result (λ r h. answers_alike s (record { cells = c.link.new.cells }) o (able s o c.requires) h.counted r h.alike h.same) c.link.ensures.ok

pub returns-clause-no_memory : goal.returns-clause-no_memory
returns-clause-no_memory c = if_wanting c.link.result (back_kept c.args.self.now (record { cells = c.link.new.cells })) c.link.ensures.no_memory
