use Rattle.std.proofs.Common.{sym, ◌∙◌, ap}
use Rattle.std.specs.Prelude.{option_map}
use Rattle.php_memdef.specs.Numbered.{weight_if}
use Rattle.php_memdef.specs.Holders.{entries_of_content}
use Rattle.php_memplain_cells.specs.Seen.{store_seen}
use Rattle.php_memplain_cells.proofs.SlotLemmas.{at_seen}
use Rattle.php_memplain_places.proofs.counting.entries_under.Goals as goal

pub returns-in-Some : goal.returns-in-Some
returns-in-Some c = c.entries_of_store.ensures ∙ ap (weight_if entries_of_content) (ap (option_map store_seen) c.in-Some.ensures ∙ sym (at_seen store_seen c.args.stores.now.slots c.args.key))

pub returns-in-None : goal.returns-in-None
returns-in-None c = ap (weight_if entries_of_content) (ap (option_map store_seen) c.in-None.ensures ∙ sym (at_seen store_seen c.args.stores.now.slots c.args.key))
