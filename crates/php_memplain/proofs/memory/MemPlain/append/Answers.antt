use Rattle.std.proofs.Common.{◌≡◌, sym}
use Rattle.php_memdef.specs.Operations as op
use Rattle.php_memplain.proofs.MeansLemmas.{able, does}
use Rattle.php_memplain.proofs.ChangingLemmas.{unchanged}
use Rattle.php_memplain.proofs.memory.MemPlain.append.Goals as goal

pub append-requires-clause-counted : goal.append-requires-clause-counted
append-requires-clause-counted c = c.requires.1.counted

pub append-requires-clause-closed : goal.append-requires-clause-closed
append-requires-clause-closed c = c.requires.1.closed

pub append-requires-clause-can : goal.append-requires-clause-can
append-requires-clause-can c = able c.args.self.now (op.append c.args.block.0 c.args.to.now) c.requires

pub returns-in-Ok-clause-ok : goal.returns-in-Ok-clause-ok
returns-in-Ok-clause-ok c =
    let s = c.args.self.now in
    let o = op.append c.args.block.0 c.args.to.now in
    does s (record { cells = c.append.new.cells }) o (able s o c.requires) c.in-Ok.ensures.ok.counted c.in-Ok.ensures.ok.seen

pub returns-in-Err-clause-no_memory : goal.returns-in-Err-clause-no_memory
returns-in-Err-clause-no_memory c = unchanged c.args.self.now (record { cells = c.append.new.cells }) c.in-Err.ensures.no_memory
