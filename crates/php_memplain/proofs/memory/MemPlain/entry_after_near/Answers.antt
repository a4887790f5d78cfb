use Rattle.std.proofs.Common.{sym, ◌∙◌}
use Rattle.php_memdef_laws.proofs.Alike.Views.{later_entry-alike}
use Rattle.php_memplain_cells.specs.Memory.{memory_seen}
use Rattle.php_memplain.proofs.memory.MemPlain.entry_after_near.Goals as goal

pub returns : goal.returns
returns c = λ m means. c.entry_after_near.ensures ∙ sym (later_entry-alike means.alike.to means.alike.back (memory_seen c.args.self.now.cells) m means.alike.renamed c.args.at.now c.args.serial)
