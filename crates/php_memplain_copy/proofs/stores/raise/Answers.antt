use Rattle.std.proofs.Common.{refl}
use Rattle.php_memplain_cells.specs.Seen.{store_seen}
use Rattle.php_memplain_cells.proofs.SlotLemmas.{set_kept}
use Rattle.php_memplain_copy.proofs.stores.raise.Goals as goal

pub returns-in-Some-clause-seen : goal.returns-in-Some-clause-seen
returns-in-Some-clause-seen c = set_kept store_seen c.args.stores.now.slots c.args.store c.index_mut.result.now (record { holders = c.in-Some.holders; content = c.index_mut.result.now.content }) c.index_mut.ensures.value refl
