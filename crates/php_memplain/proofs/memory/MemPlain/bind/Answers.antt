use Rattle.php_memdef.specs.Operations as op
use Rattle.php_memplain.proofs.MeansLemmas.{able, answers_alike}
use Rattle.php_memplain.proofs.CopyLemmas.{whole_of, back_kept}
use Rattle.php_memplain.proofs.WroteLemmas.{if_answered, if_wanting}
use Rattle.php_memplain.proofs.memory.MemPlain.bind.Goals as goal

pub bind-requires-clause-whole : goal.bind-requires-clause-whole
bind-requires-clause-whole c = whole_of c.args.self.now c.requires.0 c.requires.1

pub bind-requires-clause-can : goal.bind-requires-clause-can
bind-requires-clause-can c = able c.args.self.now (op.bind c.args.block.0 c.args.to.now) c.requires

pub returns-clause-ok : goal.returns-clause-ok
returns-clause-ok c =
    let s = c.args.self.now in
    let o = op.bind c.args.block.0 c.args.to.now in
    if_answered c.bind.result (λ r h. answers_alike s (record { cells = c.bind.new.cells }) o (able s o c.requires) h.counted r h.alike h.same) c.bind.ensures.ok

pub returns-clause-no_memory : goal.returns-clause-no_memory
returns-clause-no_memory c = if_wanting c.bind.result (back_kept c.args.self.now (record { cells = c.bind.new.cells })) c.bind.ensures.no_memory
