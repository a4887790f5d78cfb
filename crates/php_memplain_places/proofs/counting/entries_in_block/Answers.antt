use Rattle.std.proofs.Common.{◌≡◌, sym, ◌∙◌, ap, map, arith}
use Rattle.std.specs.Prelude.{option_map, reverse}
use Rattle.php_memdef.specs.Numbered.{numbered, weight_if}
use Rattle.php_memdef.specs.Holders.{entries_of_items, vslots_of_scope}
use Rattle.php_memplain_cells.specs.Seen.{item_seen, scope_seen}
use Rattle.php_memplain_cells.proofs.SlotLemmas.{at_seen}
use Rattle.php_memplain_places.specs.Counted.{blocks_seen}
use Rattle.php_memplain_places.proofs.counting.entries_in_block.Goals as goal

pub returns-in-Some : goal.returns-in-Some
returns-in-Some c =
    let f = c.in-Some.block.now in
    let there : vslots_of_scope (scope_seen f) ≡ weight_if vslots_of_scope (numbered (blocks_seen c.args.blocks.now) c.args.key) = ap (weight_if vslots_of_scope) (ap (option_map scope_seen) c.in-Some.ensures ∙ sym (at_seen scope_seen c.args.blocks.now.slots c.args.key)) in
    let same : entries_of_items (map item_seen (reverse c.as_slice.result.now)) ≡ entries_of_items (map item_seen (reverse f.temps.items)) = ap (λ is. entries_of_items (map item_seen (reverse is))) c.as_slice.ensures.value in
    omega (arith, c.standing_entries.ensures, there, same)
