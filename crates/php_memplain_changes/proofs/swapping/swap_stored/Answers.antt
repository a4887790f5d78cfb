use Rattle.std.proofs.Common.{sym, ◌∙◌, ap}
use Rattle.std.specs.Prelude.{Some, option_map}
use Rattle.php_memdef.specs.Numbered.{with_numbered}
use Rattle.php_memplain_cells.specs.Seen.{store_seen, stores_seen}
use Rattle.php_memplain_cells.proofs.SlotLemmas.{at_seen, set_seen}
use Rattle.php_memplain_changes.proofs.SwapLemmas.{count_kept}
use Rattle.php_memplain_changes.proofs.swapping.swap_stored.Goals as goal

pub returns-clause-seen : goal.returns-clause-seen
returns-clause-seen c =
    set_seen store_seen c.args.stores.now.slots c.args.store c.index_mut.result.now (Some c.swap_in.new.store) c.index_mut.ensures.value
    ∙ ap (λ d. with_numbered (stores_seen c.args.stores.now) c.args.store (Some d)) c.swap_in.ensures.seen

pub returns-clause-before : goal.returns-clause-before
returns-clause-before c =
    at_seen store_seen c.args.stores.now.slots c.args.store
    ∙ ap (option_map store_seen) c.index_mut.ensures.value
    ∙ ap Some (sym c.swap_in.ensures.before)

pub returns-clause-holders : goal.returns-clause-holders
returns-clause-holders c = count_kept c.args.stores.now c.args.store c.index_mut.result.now c.swap_in.new.store c.index_mut.ensures.value c.swap_in.ensures.holders
