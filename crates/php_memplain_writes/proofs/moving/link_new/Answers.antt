use Rattle.std.proofs.Common.{◌∙◌, ap}
use Rattle.php_memplain_cells.specs.Counts.{count_of_store}
use Rattle.php_memplain_cells.specs.Memory.{memory_seen}
use Rattle.php_memdef.specs.Contents.{link}
use Rattle.php_memdef.specs.Temporaries.{pushed}
use Rattle.php_memplain_writes.proofs.BlockLemmas.{link_pushed}
use Rattle.php_memplain_writes.proofs.moving.link_new.Goals as goal

pub returns-clause-seen : goal.returns-clause-seen
returns-clause-seen c = c.push_link.ensures.seen ∙ ap (λ xs. pushed (record (memory_seen c.args.cells.now) { stores = xs }) c.args.block (link c.args.store)) c.raise_alone.ensures.seen

pub returns-clause-counted : goal.returns-clause-counted
returns-clause-counted c =
    link_pushed c.args.cells.now c.push_link.new.cells c.args.block c.args.store (λ k. ap (λ x. count_of_store x k) c.push_link.ensures.stores ∙ c.raise_alone.ensures.raised k) c.push_link.ensures.objects c.requires.counted
    (c.push_link.ensures.seen ∙ ap (λ xs. pushed (record (memory_seen c.args.cells.now) { stores = xs }) c.args.block (link c.args.store)) c.raise_alone.ensures.seen)
