use Rattle.std.proofs.Common.{◌∙◌, ap}
use Rattle.php_memplain_cells.specs.Counts.{count_of_store}
use Rattle.php_memplain_cells.specs.Memory.{memory_seen}
use Rattle.php_memdef.specs.Contents.{link}
use Rattle.php_memdef.specs.Temporaries.{pushed}
use Rattle.php_memplain_writes.proofs.BlockLemmas.{link_pushed, store_there}
use Rattle.php_memplain_writes.proofs.moving.link_found.Goals as goal

pub raise-requires : goal.raise-requires
raise-requires c = store_there c.args.cells.now c.args.store c.requires.there

pub returns-then-raise-clause-seen : goal.returns-then-raise-clause-seen
returns-then-raise-clause-seen c = λ _. c.push_link.ensures.seen ∙ ap (λ xs. pushed (record (memory_seen c.args.cells.now) { stores = xs }) c.args.block (link c.args.store)) c.raise.ensures.seen

pub returns-then-raise-clause-counted : goal.returns-then-raise-clause-counted
returns-then-raise-clause-counted c = λ _.
    link_pushed c.args.cells.now c.push_link.new.cells c.args.block c.args.store (λ k. ap (λ x. count_of_store x k) c.push_link.ensures.stores ∙ c.raise.ensures.raised c.if-raise.true k) c.push_link.ensures.objects c.requires.counted
    (c.push_link.ensures.seen ∙ ap (λ xs. pushed (record (memory_seen c.args.cells.now) { stores = xs }) c.args.block (link c.args.store)) c.raise.ensures.seen)
