use Rattle.std.proofs.Common.{◌≡◌, sym, ◌∙◌, ap}
use Rattle.std.specs.Prelude.{option_map, option_copied}
use Rattle.php_memplain_cells.specs.Seen.{store_seen}
use Rattle.php_memplain_cells.proofs.SlotLemmas.{at_seen}
use Rattle.php_memplain_copy.specs.Walking.{listing_if}
use Rattle.php_memplain_copy.proofs.frame.entries_in.Goals as goal

pub returns-in-Some : goal.returns-in-Some
returns-in-Some c = c.entries_or.ensures ∙ sym (ap (listing_if c.args.root.now) (at_seen store_seen c.args.stores.now.slots c.args.store ∙ ap (option_map store_seen) (sym c.get.ensures ∙ ap option_copied c.in-Some.is)))

pub returns-in-None : goal.returns-in-None
returns-in-None c = sym (ap (listing_if c.args.root.now) (at_seen store_seen c.args.stores.now.slots c.args.store ∙ ap (option_map store_seen) (sym c.get.ensures ∙ ap option_copied c.in-None.is)))
