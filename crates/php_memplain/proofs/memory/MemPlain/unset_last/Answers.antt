use Rattle.std.proofs.Common.{◌≡◌, sym}
use Rattle.php_memdef.specs.Operations as op
use Rattle.php_memplain.proofs.MeansLemmas.{able, does}
use Rattle.php_memplain.proofs.ChangingLemmas.{unchanged}
use Rattle.php_memplain.proofs.memory.MemPlain.unset_last.Goals as goal

pub unset_last-requires-clause-counted : goal.unset_last-requires-clause-counted
unset_last-requires-clause-counted c = c.requires.1.counted

pub unset_last-requires-clause-closed : goal.unset_last-requires-clause-closed
unset_last-requires-clause-closed c = c.requires.1.closed

pub unset_last-requires-clause-can : goal.unset_last-requires-clause-can
unset_last-requires-clause-can c = able c.args.self.now (op.unset_last c.args.block.0 c.args.at.now) c.requires

pub returns-in-Ok-clause-ok : goal.returns-in-Ok-clause-ok
returns-in-Ok-clause-ok c =
    let s = c.args.self.now in
    let o = op.unset_last c.args.block.0 c.args.at.now in
    does s (record { cells = c.unset_last.new.cells }) o (able s o c.requires) c.in-Ok.ensures.ok.counted c.in-Ok.ensures.ok.seen

pub returns-in-Err-clause-no_memory : goal.returns-in-Err-clause-no_memory
returns-in-Err-clause-no_memory c = unchanged c.args.self.now (record { cells = c.unset_last.new.cells }) c.in-Err.ensures.no_memory
