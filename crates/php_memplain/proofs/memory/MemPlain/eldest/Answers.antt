use Rattle.std.proofs.Common.{sym, ◌∙◌}
use Rattle.php_memdef_laws.proofs.Alike.Views.{eldest-alike}
use Rattle.php_memplain_cells.specs.Memory.{memory_seen}
use Rattle.php_memplain.proofs.memory.MemPlain.eldest.Goals as goal

pub returns-in-Some : goal.returns-in-Some
returns-in-Some c = λ m means. c.in-Some.ensures ∙ sym (eldest-alike means.alike.to means.alike.back (memory_seen c.args.self.now.cells) m means.alike.renamed)

pub returns-in-None : goal.returns-in-None
returns-in-None c = λ m means. c.in-None.ensures ∙ sym (eldest-alike means.alike.to means.alike.back (memory_seen c.args.self.now.cells) m means.alike.renamed)
