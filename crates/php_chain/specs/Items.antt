-- A chain as the list of its items.
use Rattle.std.specs.Prelude.{List, [], ◌∷◌}
use Rattle.php_chain.specs.declared.chain.Linked.{Linked, End, More'}

abbrev pub items_of : {T : Type 0} → Linked T → List T
items_of End = []
items_of (More' item p rest) = item ∷ items_of rest
