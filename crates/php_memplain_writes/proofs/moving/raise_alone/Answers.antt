use Rattle.std.proofs.Common.{refl}
use Rattle.php_memplain_cells.specs.Seen.{store_seen}
use Rattle.php_memplain_cells.proofs.SlotLemmas.{set_kept}
use Rattle.php_memplain_writes.proofs.moving.raise_alone.Goals as goal

pub returns-clause-seen : goal.returns-clause-seen
returns-clause-seen c = set_kept store_seen c.args.stores.now.slots c.args.store c.index_mut.result.now _ c.index_mut.ensures.value refl
