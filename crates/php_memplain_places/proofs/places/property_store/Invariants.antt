use Rattle.std.proofs.Common.{◌≡◌, drop, map}
use Rattle.php_memdef.specs.Places.{property_store}
use Rattle.php_memplain_cells.specs.Seen.{property_seen}
use Rattle.php_memplain_places.proofs.places.property_store.Given as goal

-- none so far has the name
abbrev pub invariant-loop-property : goal.invariant-loop-property
invariant-loop-property l = property_store (map property_seen (drop l.property-index l.properties)) l.name ≡ property_store (map property_seen l.properties) l.name
