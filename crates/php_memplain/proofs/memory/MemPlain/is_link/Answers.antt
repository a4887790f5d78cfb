use Rattle.std.proofs.Common.{sym, ◌∙◌}
use Rattle.php_memdef_laws.proofs.Alike.Views.{is_link-alike}
use Rattle.php_memplain_cells.specs.Memory.{memory_seen}
use Rattle.php_memplain.proofs.memory.MemPlain.is_link.Goals as goal

pub returns : goal.returns
returns c = λ m means. c.is_link.ensures ∙ sym (is_link-alike means.alike.to means.alike.back (memory_seen c.args.self.now.cells) m means.alike.renamed c.args.block.0 c.args.depth)
