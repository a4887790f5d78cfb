-- Room in a block.
use Rattle.std.specs.Prelude.{◌<◌}
use Rattle.std.specs.VecDeque.{deque_len, deque_capacity}
use Rattle.php_memplain_cells.specs.declared.block.Block.{Block}

-- one more item that falls has room
abbrev pub HasWaitingRoom : Block → Type 0
HasWaitingRoom f = deque_len f.waiting < deque_capacity f.waiting
