use Rattle.std.proofs.Common.{sym, ◌∙◌}
use Rattle.php_memdef_laws.proofs.Alike.Views.{steps_met-alike, end_met-alike}
use Rattle.php_memplain_cells.specs.Memory.{memory_seen}
use Rattle.php_memplain.proofs.memory.MemPlain.meets.Goals as goal

pub returns-clause-steps : goal.returns-clause-steps
returns-clause-steps c = λ m means. c.meets.ensures.steps ∙ sym (steps_met-alike means.alike.to means.alike.back (memory_seen c.args.self.now.cells) m means.alike.renamed c.args.at.now)

pub returns-clause-end : goal.returns-clause-end
returns-clause-end c = λ m means. end_met-alike means.alike.to means.alike.back (memory_seen c.args.self.now.cells) m means.alike.renamed c.meets.result.end c.args.at.now c.meets.ensures.end
