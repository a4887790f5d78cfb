use Rattle.std.proofs.Common.{refl, sym, ◌∙◌, ap}
use Rattle.php_memdef.specs.Contents.{Mem}
use Rattle.php_memdef.specs.Views.{content_if_found}
use Rattle.php_memdef.specs.Temporaries.{popped}
use Rattle.php_memplain_cells.specs.Counts.{count_of_store}
use Rattle.php_memplain_cells.specs.Memory.{memory_seen}
use Rattle.php_memplain_places.specs.Spots.{spot_seen}
use Rattle.php_memplain_changes.specs.Joined.{joined_at}
use Rattle.php_memplain_changes.proofs.SwapLemmas.{none_some, block_live}
use Rattle.php_memplain_changes.proofs.FallLemmas.{block_stays}
use Rattle.php_memplain_changes.proofs.RemoveLemmas.{found_good}
use Rattle.php_memplain_changes.proofs.AppendLemmas.{appended, text_there, found_below, as_before}
use Rattle.php_memplain_changes.proofs.appending.append.Goals as goal

pub unreachable-requires : goal.unreachable-requires
unreachable-requires c = none_some (ap (content_if_found (memory_seen c.args.cells.now)) c.in_default.ensures ∙ c.requires.can.there)

pub extend_at-requires-clause-there : goal.extend_at-requires-clause-there
extend_at-requires-clause-there c = found_good (memory_seen c.args.cells.now) c.requires.closed c.args.to.now (spot_seen c.in-Some.spot) (sym c.in-Some.ensures)

pub extend_at-requires-clause-is_text : goal.extend_at-requires-clause-is_text
extend_at-requires-clause-is_text c = (c.requires.can.before, text_there (memory_seen c.args.cells.now) c.args.block c.args.to.now c.requires.can (spot_seen c.in-Some.spot) (sym c.in-Some.ensures))

pub extend_at-requires-clause-below : goal.extend_at-requires-clause-below
extend_at-requires-clause-below c = found_below (memory_seen c.args.cells.now) c.args.block c.args.to.now c.requires.can.below_top (spot_seen c.in-Some.spot) (sym c.in-Some.ensures)

pub drop_top-requires : goal.drop_top-requires
drop_top-requires c = block_stays c.args.cells.now.blocks c.extend_at.new.cells.blocks c.args.block c.extend_at.ensures.waiting (block_live c.args.cells.now c.args.block c.requires.can.block)

pub returns-in-Ok-clause-ok : goal.returns-in-Ok-clause-ok
returns-in-Ok-clause-ok c =
    let m = memory_seen c.args.cells.now in
    let spot = spot_seen c.in-Some.spot in
    appended c.args.cells.now c.drop_top.new.cells c.args.block c.args.to.now c.requires.can spot (sym c.in-Some.ensures)
    (found_good m c.requires.closed c.args.to.now spot (sym c.in-Some.ensures))
    c.requires.counted (joined_at m c.args.block spot) refl
    (c.drop_top.ensures.seen ∙ ap (λ (n : Mem). popped n c.args.block) c.in-Ok.ensures.longer)
    (λ k. ap (λ x. count_of_store x k) c.drop_top.ensures.stores ∙ c.extend_at.ensures.holders k)
    (c.drop_top.ensures.objects ∙ c.extend_at.ensures.objects)

pub returns-in-Err-clause-no_memory : goal.returns-in-Err-clause-no_memory
returns-in-Err-clause-no_memory c = as_before c.args.cells.now c.extend_at.new.cells c.requires.counted c.in-Err.ensures.kept c.extend_at.ensures.holders c.extend_at.ensures.objects
