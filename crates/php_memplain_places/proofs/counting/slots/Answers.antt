use Rattle.std.proofs.Common.{ap, map, arith}
use Rattle.std.specs.Prelude.{option_map}
use Rattle.php_memdef.specs.Numbered.{total}
use Rattle.php_memdef.specs.Holders.{vslots}
use Rattle.php_memplain_cells.specs.Seen.{box_seen}
use Rattle.php_memplain_places.specs.Counted.{property_count}
use Rattle.php_memplain_places.proofs.counting.slots.Goals as goal

pub returns : goal.returns
unfolding vslots
returns c = omega (arith, c.stored_entries.ensures, c.properties_in.ensures, ap (λ os. total property_count (map (option_map box_seen) os)) c.as_slice.ensures.value, c.entries_in_blocks.ensures, c.saturating_add.ensures, c.saturating_add-2.ensures)
