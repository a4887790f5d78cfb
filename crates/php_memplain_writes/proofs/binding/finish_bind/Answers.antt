use Rattle.std.proofs.Common.{sym, ◌∙◌, ap}
use Rattle.php_memdef.specs.Contents.{Mem, link}
use Rattle.php_memdef.specs.Temporaries.{popped, let_fall}
use Rattle.php_memdef.specs.Writes.{let_fall_if}
use Rattle.php_memplain_cells.specs.Memory.{memory_seen}
use Rattle.php_memplain_writes.proofs.binding.finish_bind.Goals as goal

pub returns-in-Some-clause-seen : goal.returns-in-Some-clause-seen
returns-in-Some-clause-seen c =
    c.fall.ensures.seen
    ∙ ap (λ (n : Mem). let_fall n c.args.block (link c.in-Some.store)) c.pop_link.ensures.seen
    ∙ ap (let_fall_if (popped (memory_seen c.args.cells.now) c.args.block) c.args.block) (sym c.in-Some.is)

pub returns-in-None-clause-seen : goal.returns-in-None-clause-seen
returns-in-None-clause-seen c = c.pop_link.ensures.seen ∙ ap (let_fall_if (popped (memory_seen c.args.cells.now) c.args.block) c.args.block) (sym c.in-None.is)
