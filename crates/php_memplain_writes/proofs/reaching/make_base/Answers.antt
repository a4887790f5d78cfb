use Rattle.std.proofs.Common.{refl, ap}
use Rattle.php_memplain_cells.specs.Counts.{count_of_store}
use Rattle.php_memplain_cells.specs.Seen.{stores_seen}
use Rattle.php_memplain_cells.specs.Memory.{memory_seen}
use Rattle.php_memplain_writes.proofs.ReachedLemmas.{base_reached, ready, can_go_back, go_back_seen, no_temp, base_with_stores}
use Rattle.php_memplain_writes.proofs.reaching.make_base.Goals as goal

pub add_base-requires-clause-there : goal.add_base-requires-clause-there
add_base-requires-clause-there c = base_with_stores (memory_seen c.args.cells.now) c.args.place.now.base (stores_seen c.make_chain.new.stores) c.requires.base

pub add_base-requires-clause-no_temp : goal.add_base-requires-clause-no_temp
add_base-requires-clause-no_temp c = no_temp (memory_seen c.args.cells.now) c.args.place.now.base c.requires.base c.requires.missing

pub returns-in-Ok-add_base-clause-making : goal.returns-in-Ok-add_base-clause-making
returns-in-Ok-add_base-clause-making c =
    let s = c.args.cells.now in
    let log = c.args.log.now in
    let now = c.add_base.new.cells in
    let ends = c.in-Ok.ends in
    let stores = c.make_chain.new.stores in
    base_reached s now c.requires.whole stores c.make_chain.new.done.items ends.top ends.leaf (c.in-Ok.ensures.chained s (ready s log c.requires.whole c.requires.nothing.0 c.requires.nothing.1)) c.args.place.now
    (λ k. ap (λ x. count_of_store x k) c.add_base.ensures.stores) c.add_base.ensures.objects c.in-Ok.ensures.alone c.add_base.ensures.waiting
    (no_temp (memory_seen s) c.args.place.now.base c.requires.base c.requires.missing) c.requires.missing c.in-Ok.ensures.chain c.in-Ok-add_base.ensures.ok

pub returns-in-Err-add_base-clause-making : goal.returns-in-Err-add_base-clause-making
returns-in-Err-add_base-clause-making c =
    let s = c.args.cells.now in
    let log = c.args.log.now in
    let now = c.add_base.new.cells in
    let chained = c.in-Ok.ensures.chained s (ready s log c.requires.whole c.requires.nothing.0 c.requires.nothing.1) in
    let seen = c.in-Err-add_base.ensures.no_memory in
    go_back_seen s now (record log { stores = c.make_chain.new.done }) c.make_chain.new.stores chained.grown c.add_base.ensures.stores c.add_base.ensures.objects c.requires.nothing.1 seen

pub returns-in-Err-clause-making : goal.returns-in-Err-clause-making
returns-in-Err-clause-making c =
    let s = c.args.cells.now in
    let log = c.args.log.now in
    can_go_back s (record s { stores = c.make_chain.new.stores; ledger = c.make_chain.new.ledger }) (record log { stores = c.make_chain.new.done })
    (c.in-Err.ensures.no_memory s (ready s log c.requires.whole c.requires.nothing.0 c.requires.nothing.1)) refl (λ j. refl) c.requires.nothing.1 refl
