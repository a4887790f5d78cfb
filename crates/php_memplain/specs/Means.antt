-- The memories of the model that an eager memory can be taken for.
use Rattle.std.specs.Prelude.{ℕ}
use Rattle.php_memdef.specs.Contents.{Mem}
use Rattle.php_memdef.specs.Sound.{IsClosed, IsSound}
use Rattle.php_memdef.specs.Alike.{Alike}
use Rattle.php_memplain_cells.specs.Memory.{memory_seen, IsCounted}
use Rattle.php_memplain.specs.declared.memory.MemPlain.{MemPlain}

-- its counts are right, each store that is named is there, it differs from the memory of the model in the numbers of its
-- stores alone, and that memory is sound
pub record Means (s : MemPlain) (m : Mem) : Type 0 where
  pub counted : IsCounted s.cells
  pub closed : IsClosed (memory_seen s.cells)
  pub alike : Alike (memory_seen s.cells) m
  pub sound : IsSound m

abbrev pub made_of : MemPlain → ℕ
made_of s = s.cells.ledger.made
