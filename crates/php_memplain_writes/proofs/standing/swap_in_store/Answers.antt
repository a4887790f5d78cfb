use Rattle.std.proofs.Common.{sym, ap}
use Rattle.std.specs.Prelude.{unwrap_or}
use Rattle.php_memdef.specs.Contents.{null}
use Rattle.php_memplain_cells.specs.Memory.{memory_seen}
use Rattle.php_memplain_writes.proofs.BlockLemmas.{store_there}
use Rattle.php_memplain_writes.proofs.standing.swap_in_store.Goals as goal

pub swap_stored-requires : goal.swap_stored-requires
swap_stored-requires c = store_there c.args.cells.now c.args.store c.requires

pub returns-clause-before : goal.returns-clause-before
returns-clause-before c = sym (ap (λ o. unwrap_or o null) c.swap_stored.ensures.before)

pub returns-clause-seen : goal.returns-clause-seen
returns-clause-seen c = ap (λ xs. record (memory_seen c.args.cells.now) { stores = xs }) c.swap_stored.ensures.seen
