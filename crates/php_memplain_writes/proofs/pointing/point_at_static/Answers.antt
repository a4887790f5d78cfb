use Rattle.std.proofs.Common.{ap}
use Rattle.php_memplain_cells.specs.Memory.{memory_seen}
use Rattle.php_memplain_writes.proofs.pointing.point_at_static.Goals as goal

pub returns-in-Ok-clause-ok : goal.returns-in-Ok-clause-ok
returns-in-Ok-clause-ok c = ap (λ xs. record (memory_seen c.args.cells.now) { statics = xs }) c.in-Ok.ensures.ok

pub returns-in-Err-clause-no_memory : goal.returns-in-Err-clause-no_memory
returns-in-Err-clause-no_memory c = ap (λ xs. record (memory_seen c.args.cells.now) { statics = xs }) c.in-Err.ensures.no_memory
