-- What a write comes to.
use Rattle.std.specs.Prelude.{◌≡◌}
use Rattle.php_memdef.specs.declared.answer.Wrote.{Wrote}
use Rattle.php_memdef.specs.Contents.{Mem}
use Rattle.php_memdef.specs.Alike.{Alike}
use Rattle.php_memplain_cells.specs.declared.cells.Cells.{Cells}
use Rattle.php_memplain_cells.specs.Memory.{memory_seen, IsCounted}

-- the memory differs from the model's in the numbers of its stores alone, with right counts, and the answer is the model's
pub record ComesTo (now : Cells) (is : Mem × Wrote) (answer : Wrote) : Type 0 where
  pub counted : IsCounted now
  pub alike : Alike is.0 (memory_seen now)
  pub same : answer ≡ is.1
