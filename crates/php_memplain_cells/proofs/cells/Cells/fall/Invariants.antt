use Rattle.std.proofs.Common.{◌≡◌}
use Rattle.slab.specs.Slab.{ContainsKey}
use Rattle.php_memdef.specs.Releases as releases
use Rattle.php_memplain_cells.specs.Memory.{memory_seen, IsCounted}
use Rattle.php_memplain_cells.proofs.cells.Cells.fall.Given as goal

abbrev pub invariant-loop-answer : goal.invariant-loop-answer
invariant-loop-answer l = record {
  block : ContainsKey l.self.blocks l.block;
  counted : IsCounted l.self;
  ledger : l.self.ledger ≡ l.fn.self.ledger;
  falls : releases.fall (memory_seen l.fn.self) l.fn.block ≡ releases.fall (memory_seen l.self) l.block;
}

abbrev pub decreases-loop-answer : goal.decreases-loop-answer
decreases-loop-answer l = releases.turns (memory_seen l.self) l.block
