use Rattle.php_memdef_laws.proofs.Alike.Views.{Shows-alike}
use Rattle.php_memplain_cells.specs.Memory.{memory_seen}
use Rattle.php_memplain.proofs.memory.MemPlain.peek.Goals as goal

pub returns : goal.returns
returns c = λ m means. Shows-alike means.alike.to means.alike.back (memory_seen c.args.self.now.cells) m means.alike.renamed c.peek.result c.args.at.now c.peek.ensures
