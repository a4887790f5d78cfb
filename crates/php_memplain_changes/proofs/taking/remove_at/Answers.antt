use Rattle.php_memplain_cells.specs.Seen.{content_seen}
use Rattle.php_memplain_places.specs.Spots.{spot_seen}
use Rattle.php_memplain_changes.proofs.TakeLemmas.{still_there, step_taken}
use Rattle.php_memplain_changes.proofs.taking.remove_at.Goals as goal

pub swap_content-null-requires : goal.swap_content-null-requires
swap_content-null-requires c = still_there c.args.cells.now c.swap_content-content.new.cells (spot_seen c.args.spot) c.requires.there c.swap_content-content.ensures.seen

pub returns : goal.returns
returns c =
    step_taken c.args.cells.now c.swap_content-content.new.cells c.swap_content-null.new.cells (spot_seen c.args.spot) c.requires.there
    (content_seen c.swap_content-content.result) (content_seen c.remove_element-rest.result.content) c.swap_content-content.ensures.before c.swap_content-content.ensures.seen c.swap_content-null.ensures.seen
    c.requires.counted c.swap_content-content.ensures.holders c.swap_content-null.ensures.holders c.swap_content-content.ensures.objects c.swap_content-null.ensures.objects
    c.swap_content-content.ensures.waiting c.swap_content-null.ensures.waiting c.swap_content-content.ensures.ledger c.swap_content-null.ensures.ledger
    c.remove_element-rest.result.store c.args.step.now c.remove_element-rest.ensures.content c.remove_element-rest.ensures.store
