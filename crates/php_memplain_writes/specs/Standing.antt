-- What stands at a spot, and what of blocks stays when another content comes there.
use Rattle.std.specs.Prelude.{◌≡◌, ℕ, Option, Some, option_map}
use Rattle.slab.specs.Slab.{Slab, get}
use Rattle.php_memdef.specs.Contents.{Content, Item, value, Mem, scope_of}
use Rattle.php_memdef.specs.Places.{Spot, stored, standing, nth_item}
use Rattle.php_memdef.specs.Sound.{IsLive}
use Rattle.php_memplain_cells.specs.declared.block.Block.{Block}

-- an item that is a content
abbrev pub HasValue : Option Item → Type 0
HasValue o = (c : Content) × (o ≡ Some (value c))

-- the store is there, or the temporary is a content
abbrev pub HasContent : Mem → Spot → Type 0
HasContent m (stored s) = IsLive m s
HasContent m (standing b k) = HasValue (nth_item (scope_of m b).temps k)

-- in each block the same waits
abbrev pub AreWaitingKept : Slab Block → Slab Block → Type 0
AreWaitingKept old new = (b : ℕ) → option_map (λ (f : Block). f.waiting) (get new b) ≡ option_map (λ (f : Block). f.waiting) (get old b)
