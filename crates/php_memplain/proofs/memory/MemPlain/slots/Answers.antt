use Rattle.std.proofs.Common.{arith}
use Rattle.php_memdef_laws.proofs.Alike.Views.{vslots-alike}
use Rattle.php_memplain_cells.specs.Memory.{memory_seen}
use Rattle.php_memplain.proofs.memory.MemPlain.slots.Goals as goal

pub returns : goal.returns
returns c = λ m means. omega (arith, c.slots.ensures, vslots-alike means.alike.to means.alike.back (memory_seen c.args.self.now.cells) m means.alike.renamed)
