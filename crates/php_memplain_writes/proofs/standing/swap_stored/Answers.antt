use Rattle.std.proofs.Common.{refl, sym, ◌∙◌, ap}
use Rattle.std.specs.Prelude.{Some, option_map}
use Rattle.php_memdef.specs.Numbered.{with_numbered}
use Rattle.php_memplain_cells.specs.declared.content.Content.{Content}
use Rattle.php_memplain_cells.specs.Seen.{content_seen, store_seen, stores_seen}
use Rattle.php_memplain_cells.proofs.SlotLemmas.{at_seen, set_seen}
use Rattle.php_memplain_writes.proofs.StandLemmas.{count_kept}
use Rattle.php_memplain_writes.proofs.standing.swap_stored.Goals as goal

pub returns-clause-before : goal.returns-clause-before
returns-clause-before c =
    at_seen store_seen c.args.stores.now.slots c.args.store ∙ ap (option_map store_seen) c.index_mut.ensures.value
    ∙ ap (λ (x : Content). Some (content_seen x)) (sym c.replace.ensures.value)

pub returns-clause-seen : goal.returns-clause-seen
returns-clause-seen c =
    set_seen store_seen c.args.stores.now.slots c.args.store c.index_mut.result.now _ c.index_mut.ensures.value
    ∙ ap (λ (x : Content). with_numbered (stores_seen c.args.stores.now) c.args.store (Some (content_seen x))) c.replace.ensures.after

pub returns-clause-holders : goal.returns-clause-holders
returns-clause-holders c = λ k. count_kept c.args.stores.now.slots c.args.store c.index_mut.result.now _ c.index_mut.ensures.value refl k
