-- What stands where a place is, and what waits in a block.
use Rattle.std.specs.Prelude.{◌≡◌, ◌<◌, ℕ, Option, Some, option_map}
use Rattle.std.specs.VecDeque.{deque_len, deque_capacity}
use Rattle.slab.specs.Slab.{Slab, get}
use Rattle.php_memdef.specs.Contents.{Content, Item, value, Mem, scope_of}
use Rattle.php_memdef.specs.Places.{Spot, stored, standing, nth_item}
use Rattle.php_memdef.specs.Sound.{IsLive}
use Rattle.php_memplain_cells.specs.declared.block.Block.{Block}

-- an item is there that holds a content
abbrev pub HasValue : Option Item → Type 0
HasValue i = (c : Content) × (i ≡ Some (value c))

-- something stands at a spot: the store is there, or the temporary, which holds a content
abbrev pub HasContent : Mem → Spot → Type 0
HasContent m (stored s) = IsLive m s
HasContent m (standing b n) = HasValue (nth_item (scope_of m b).temps n)

-- in each block the same items wait, and there is the same room for more
abbrev pub AreWaitingKept : Slab Block → Slab Block → Type 0
AreWaitingKept old new = (b : ℕ) → option_map (λ (f : Block). f.waiting) (get new b) ≡ option_map (λ (f : Block). f.waiting) (get old b)

-- one more item that falls has room
abbrev pub HasWaitingRoom : Block → Type 0
HasWaitingRoom f = deque_len f.waiting < deque_capacity f.waiting

abbrev pub CanFallIn : Slab Block → ℕ → Type 0
CanFallIn bs b = (f : Block) → get bs b ≡ Some f → HasWaitingRoom f
