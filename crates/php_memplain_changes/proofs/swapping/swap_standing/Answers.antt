use Rattle.std.proofs.Common.{sym, ◌∙◌, ap, subst}
use Rattle.php_memdef.specs.Contents.{Scope, value}
use Rattle.php_memdef.specs.Places.{nth_item, with_nth_item, content_if}
use Rattle.php_memplain_cells.specs.Seen.{content_seen}
use Rattle.php_memplain_cells.proofs.MemoryLemmas.{scope_there}
use Rattle.php_memplain_changes.specs.Standing.{HasValue}
use Rattle.php_memplain_changes.proofs.SwapLemmas.{scope_changed, waiting_kept, block_of_temp}
use Rattle.php_memplain_changes.proofs.swapping.swap_standing.Goals as goal

pub index_mut-requires : goal.index_mut-requires
index_mut-requires c = block_of_temp c.args.cells.now c.args.block c.args.depth c.requires

pub swap_temp-requires : goal.swap_temp-requires
swap_temp-requires c = subst (λ (f : Scope). HasValue (nth_item f.temps c.args.depth)) (scope_there c.args.cells.now c.args.block c.index_mut.result.now c.index_mut.ensures.value) c.requires

pub returns-clause-seen : goal.returns-clause-seen
returns-clause-seen c =
    scope_changed c.args.cells.now c.args.block c.index_mut.result.now c.index_mut.ensures.value c.swap_temp.new.block
    (λ (x : Scope). record x { temps = with_nth_item x.temps c.args.depth (value (content_seen c.args.content)) }) c.swap_temp.ensures.seen

pub returns-clause-before : goal.returns-clause-before
returns-clause-before c =
    ap content_if (sym c.swap_temp.ensures.before)
    ∙ ap (λ (f : Scope). content_if (nth_item f.temps c.args.depth)) (sym (scope_there c.args.cells.now c.args.block c.index_mut.result.now c.index_mut.ensures.value))

pub returns-clause-waiting : goal.returns-clause-waiting
returns-clause-waiting c = waiting_kept c.args.cells.now.blocks c.args.block c.index_mut.result.now c.swap_temp.new.block c.index_mut.ensures.value c.swap_temp.ensures.waiting
