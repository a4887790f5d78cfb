-- What is counted.
use Rattle.std.specs.Prelude.{ℕ, [], ◌∷◌, length, map, Option, Some, None, option_map}
use Rattle.slab.specs.Slab.{Slab}
use Rattle.php_memdef.specs.Numbered.{Numbered}
use Rattle.php_memdef.specs.Contents as model
use Rattle.php_memdef.specs.Holders.{entries_of_items}
use Rattle.php_memplain_cells.specs.declared.block.Block.{Block}
use Rattle.php_memplain_cells.specs.Seen.{scope_seen}

abbrev pub blocks_seen : Slab Block → Numbered model.Scope
blocks_seen bs = map (option_map scope_seen) bs.slots

abbrev pub property_count : model.Object → ℕ
property_count o = length o.properties

-- the entries of the array that an item is
abbrev pub entries_if : Option model.Item → ℕ
entries_if None = 0
entries_if (Some i) = entries_of_items (i ∷ [])
