use Rattle.std.proofs.Common.{sym, ◌∙◌}
use Rattle.php_memdef_laws.proofs.Alike.Views.{is_aliased-alike}
use Rattle.php_memplain_cells.specs.Memory.{memory_seen}
use Rattle.php_memplain.proofs.memory.MemPlain.aliased.Goals as goal

pub is_aliased-requires : goal.is_aliased-requires
is_aliased-requires c = c.requires.1.counted

pub returns : goal.returns
returns c = λ m means. c.is_aliased.ensures ∙ sym (is_aliased-alike means.alike.to means.alike.back (memory_seen c.args.self.now.cells) m means.alike.renamed c.args.at.now)
