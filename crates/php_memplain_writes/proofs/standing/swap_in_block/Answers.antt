use Rattle.std.proofs.Common.{sym, ◌∙◌, ap, subst}
use Rattle.php_memdef.specs.Contents.{Scope, value}
use Rattle.php_memdef.specs.Places.{nth_item, with_nth_item, content_if}
use Rattle.php_memplain_cells.specs.Seen.{content_seen}
use Rattle.php_memplain_cells.specs.Memory.{memory_seen}
use Rattle.php_memplain_cells.proofs.MemoryLemmas.{scope_there}
use Rattle.php_memplain_writes.specs.Standing.{HasValue}
use Rattle.php_memplain_writes.proofs.BlockLemmas.{block_live, scope_changed}
use Rattle.php_memplain_writes.proofs.StandLemmas.{block_of, waiting_kept}
use Rattle.php_memplain_writes.proofs.standing.swap_in_block.Goals as goal

pub index_mut-requires : goal.index_mut-requires
index_mut-requires c = block_live c.args.cells.now c.args.block (block_of (memory_seen c.args.cells.now) c.args.block c.args.depth c.requires)

pub swap_standing-requires : goal.swap_standing-requires
swap_standing-requires c = subst (λ (x : Scope). HasValue (nth_item x.temps c.args.depth)) (scope_there c.args.cells.now c.args.block c.index_mut.result.now c.index_mut.ensures.value) c.requires

pub returns-clause-before : goal.returns-clause-before
returns-clause-before c =
    sym (ap (λ (x : Scope). content_if (nth_item x.temps c.args.depth)) (scope_there c.args.cells.now c.args.block c.index_mut.result.now c.index_mut.ensures.value)
    ∙ ap content_if c.swap_standing.ensures.before)

pub returns-clause-seen : goal.returns-clause-seen
returns-clause-seen c = scope_changed c.args.cells.now c.args.block c.index_mut.result.now c.index_mut.ensures.value c.swap_standing.new.block (λ (x : Scope). record x { temps = with_nth_item x.temps c.args.depth (value (content_seen c.args.content)) }) c.swap_standing.ensures.seen

pub returns-clause-waiting : goal.returns-clause-waiting
returns-clause-waiting c = waiting_kept c.args.cells.now.blocks c.args.block c.index_mut.result.now c.swap_standing.new.block c.index_mut.ensures.value c.swap_standing.ensures.waiting
