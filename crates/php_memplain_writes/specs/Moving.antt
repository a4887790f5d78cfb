-- Items that move in a block.
use Rattle.std.specs.Prelude.{◌≡◌, ◌<◌, ◌-◌, ℕ, nat_eq, cond, Some}
use Rattle.std.specs.VecDeque.{deque_len, deque_capacity}
use Rattle.slab.specs.Slab.{Slab, get}
use Rattle.php_memdef.specs.Places.{Spot, stored, standing}
use Rattle.php_memplain_cells.specs.declared.block.Block.{Block}

-- one more item that falls has a place
abbrev pub HasFallingPlace : Block → Type 0
HasFallingPlace f = deque_len f.waiting < deque_capacity f.waiting

abbrev pub FallsIn : Slab Block → ℕ → Type 0
FallsIn bs b = (f : Block) → get bs b ≡ Some f → HasFallingPlace f

-- the spot isn't the top temporary of the block
abbrev pub IsSpotBelow : ℕ → Spot → Type 0
IsSpotBelow b (stored s) = Unit {0}
IsSpotBelow b (standing c k) = c ≡ b → 0 < k

-- where a spot is once the top temporary of a block is gone
abbrev pub spot_below : ℕ → Spot → Spot
spot_below b (stored s) = stored s
spot_below b (standing c k) = cond (nat_eq c b) (standing c (k - 1)) (standing c k)
