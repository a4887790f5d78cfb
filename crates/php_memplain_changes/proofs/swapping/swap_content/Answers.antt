use Rattle.std.proofs.Common.{sym, ◌∙◌, ap, subst}
use Rattle.std.specs.Prelude.{unwrap_or}
use Rattle.php_memdef.specs.Contents.{null}
use Rattle.php_memdef.specs.Places.{content_at, with_content}
use Rattle.php_memplain_cells.specs.Seen.{content_seen}
use Rattle.php_memplain_cells.specs.Counts.{count_of_store}
use Rattle.php_memplain_cells.specs.Memory.{memory_seen}
use Rattle.php_memplain_places.specs.declared.spot.Spot.{Spot}
use Rattle.php_memplain_places.specs.Spots.{spot_seen}
use Rattle.php_memplain_changes.specs.Standing.{HasContent}
use Rattle.php_memplain_changes.proofs.SwapLemmas.{store_live}
use Rattle.php_memplain_changes.proofs.swapping.swap_content.Goals as goal

pub swap_stored-requires : goal.swap_stored-requires
swap_stored-requires c = store_live c.args.cells.now c.in-Stored.store (subst (λ (s : Spot). HasContent (memory_seen c.args.cells.now) (spot_seen s)) c.in-Stored.is c.requires)

pub swap_standing-requires : goal.swap_standing-requires
swap_standing-requires c = subst (λ (s : Spot). HasContent (memory_seen c.args.cells.now) (spot_seen s)) c.in-Standing.is c.requires

pub returns-in-Stored-clause-seen : goal.returns-in-Stored-clause-seen
returns-in-Stored-clause-seen c =
    let m = memory_seen c.args.cells.now in
    ap (λ xs. record m { stores = xs }) c.swap_stored.ensures.seen
    ∙ ap (λ (s : Spot). with_content m (spot_seen s) (content_seen c.args.content)) (sym c.in-Stored.is)

pub returns-in-Stored-clause-before : goal.returns-in-Stored-clause-before
returns-in-Stored-clause-before c =
    let m = memory_seen c.args.cells.now in
    ap (λ o. unwrap_or o null) (sym c.swap_stored.ensures.before)
    ∙ ap (λ (s : Spot). content_at m (spot_seen s)) (sym c.in-Stored.is)

pub returns-in-Standing-clause-seen : goal.returns-in-Standing-clause-seen
returns-in-Standing-clause-seen c =
    let m = memory_seen c.args.cells.now in
    c.swap_standing.ensures.seen
    ∙ ap (λ (s : Spot). with_content m (spot_seen s) (content_seen c.args.content)) (sym c.in-Standing.is)

pub returns-in-Standing-clause-before : goal.returns-in-Standing-clause-before
returns-in-Standing-clause-before c =
    let m = memory_seen c.args.cells.now in
    c.swap_standing.ensures.before
    ∙ ap (λ (s : Spot). content_at m (spot_seen s)) (sym c.in-Standing.is)

pub returns-in-Standing-clause-holders : goal.returns-in-Standing-clause-holders
returns-in-Standing-clause-holders c = λ k. ap (λ x. count_of_store x k) c.swap_standing.ensures.stores
