use Rattle.std.proofs.Common.{sym, ◌∙◌}
use Rattle.php_memdef_laws.proofs.Alike.Views.{property_name-alike}
use Rattle.php_memplain_cells.specs.Memory.{memory_seen}
use Rattle.php_memplain.proofs.memory.MemPlain.prop_at.Goals as goal

pub returns : goal.returns
returns c = λ m means. c.prop_at.ensures ∙ sym (property_name-alike means.alike.to means.alike.back (memory_seen c.args.self.now.cells) m means.alike.renamed c.args.obj.0 c.args.place)
