use Rattle.std.proofs.Common.{[], ◌∷◌, refl, ap}
use Rattle.php_memplain_cells.specs.Counts.{count_of_store}
use Rattle.php_memplain_cells.specs.Seen.{stores_seen}
use Rattle.php_memplain_cells.specs.Memory.{memory_seen}
use Rattle.php_memplain_writes.proofs.ReachedLemmas.{can_go_back, go_back_seen, no_temp, base_with_stores}
use Rattle.php_memplain_writes.proofs.BoundLemmas.{some_last}
use Rattle.php_memplain_writes.proofs.FinishLemmas.{chain_ready, base_bound_there}
use Rattle.php_memplain_writes.proofs.binding.bind_new_base.Goals as goal

pub add_base-requires-clause-there : goal.add_base-requires-clause-there
add_base-requires-clause-there c = base_with_stores (memory_seen c.args.cells.now) c.args.place.now.base (stores_seen c.chain_to.new.stores) c.requires.base

pub add_base-requires-clause-no_temp : goal.add_base-requires-clause-no_temp
add_base-requires-clause-no_temp c = no_temp (memory_seen c.args.cells.now) c.args.place.now.base c.requires.base c.requires.missing

pub returns-in-Ok-add_base-clause-binding : goal.returns-in-Ok-add_base-clause-binding
returns-in-Ok-add_base-clause-binding c =
    let s = c.args.cells.now in
    let log = c.args.log.now in
    let p = c.args.place.now in
    let l = some_last p.path c.requires.some in
    base_bound_there s c.add_base.new.cells c.requires.whole c.chain_to.new.stores c.chain_to.new.done.items c.in-Ok.top c.args.store
    (c.in-Ok.ensures.chained s (c.args.store ∷ []) (chain_ready s log c.requires.whole c.requires.nothing.0 c.requires.nothing.1 c.args.store)) p c.requires.live
    (λ k. ap (λ x. count_of_store x k) c.add_base.ensures.stores) c.add_base.ensures.objects c.add_base.ensures.waiting
    (no_temp (memory_seen s) p.base c.requires.base c.requires.missing) c.requires.missing l.front l.last l.is c.in-Ok.ensures.chain c.in-Ok-add_base.ensures.ok

pub returns-in-Err-add_base-clause-binding : goal.returns-in-Err-add_base-clause-binding
returns-in-Err-add_base-clause-binding c =
    let s = c.args.cells.now in
    let log = c.args.log.now in
    let chained = c.in-Ok.ensures.chained s (c.args.store ∷ []) (chain_ready s log c.requires.whole c.requires.nothing.0 c.requires.nothing.1 c.args.store) in
    go_back_seen s c.add_base.new.cells (record log { stores = c.chain_to.new.done }) c.chain_to.new.stores chained.grown c.add_base.ensures.stores c.add_base.ensures.objects c.requires.nothing.1 c.in-Err-add_base.ensures.no_memory

pub returns-in-Err-clause-binding : goal.returns-in-Err-clause-binding
returns-in-Err-clause-binding c =
    let s = c.args.cells.now in
    let log = c.args.log.now in
    can_go_back s (record s { stores = c.chain_to.new.stores; ledger = c.chain_to.new.ledger }) (record log { stores = c.chain_to.new.done })
    (c.in-Err.ensures.no_memory s (c.args.store ∷ []) (chain_ready s log c.requires.whole c.requires.nothing.0 c.requires.nothing.1 c.args.store)) refl (λ j. refl) c.requires.nothing.1 refl
