use Rattle.std.proofs.Common.{◌+◌, refl, ap, drop}
use Rattle.php_memplain_cells.specs.Counts.{count_of_object}
use Rattle.php_memplain_cells.specs.Seen.{stores_seen}
use Rattle.php_memplain_cells.specs.Memory.{memory_seen}
use Rattle.php_memplain_places.specs.Spots.{spot_seen}
use Rattle.php_memplain_writes.proofs.ReachedLemmas.{element_reached, element_refused, ready, can_go_back, go_back_changed, stays_there}
use Rattle.php_memplain_writes.proofs.reaching.make_element.Goals as goal

pub grow_at-requires : goal.grow_at-requires
grow_at-requires c =
    let s = c.args.cells.now in
    record { there = stays_there (memory_seen s) (stores_seen c.make_chain.new.stores) (drop (c.args.steps + 1) c.args.place.now.path) c.in-Ok.ends.top c.in-Ok.ends.leaf c.in-Ok.ensures.chain (spot_seen c.args.spot) c.requires.stops.there }

pub returns-in-Done-clause-making : goal.returns-in-Done-clause-making
returns-in-Done-clause-making c =
    let s = c.args.cells.now in
    let log = c.args.log.now in
    let now = c.grow_at.new.cells in
    let ends = c.in-Ok.ends in
    let stores = c.make_chain.new.stores in
    let g = c.in-Done.ensures.grew in
    element_reached s now c.requires.whole stores c.make_chain.new.done.items ends.top ends.leaf (c.in-Ok.ensures.chained s (ready s log c.requires.whole c.requires.nothing.0 c.requires.nothing.1)) c.args.place.now
    c.grow_at.ensures.holders (λ h. ap (λ x. count_of_object x h) (ap (λ x. x.items) c.grow_at.ensures.objects)) c.in-Ok.ensures.alone c.grow_at.ensures.waiting
    (spot_seen c.args.spot) c.args.steps c.step.result.now c.step.ensures c.requires.stops (c.args.steps + 1) refl c.in-Ok.ensures.chain _ g.0 g.1.0 g.1.1

pub returns-in-Refused-clause-making : goal.returns-in-Refused-clause-making
returns-in-Refused-clause-making c =
    let s = c.args.cells.now in
    let log = c.args.log.now in
    let now = c.grow_at.new.cells in
    let ends = c.in-Ok.ends in
    let stores = c.make_chain.new.stores in
    let g = c.in-Refused.ensures.grew in (
      go_back_changed s now (record log { stores = c.make_chain.new.done }) stores (c.in-Ok.ensures.chained s (ready s log c.requires.whole c.requires.nothing.0 c.requires.nothing.1)).grown c.grow_at.ensures.holders c.grow_at.ensures.objects c.requires.nothing.1 g.1,
      element_refused s (stores_seen stores) c.args.place.now (spot_seen c.args.spot) c.args.steps c.step.result.now c.step.ensures c.requires.stops (c.args.steps + 1) refl ends.top ends.leaf c.in-Ok.ensures.chain _ g.0,
    )

pub returns-in-NoMemory-clause-making : goal.returns-in-NoMemory-clause-making
returns-in-NoMemory-clause-making c =
    let s = c.args.cells.now in
    let log = c.args.log.now in
    let now = c.grow_at.new.cells in
    go_back_changed s now (record log { stores = c.make_chain.new.done }) c.make_chain.new.stores (c.in-Ok.ensures.chained s (ready s log c.requires.whole c.requires.nothing.0 c.requires.nothing.1)).grown c.grow_at.ensures.holders c.grow_at.ensures.objects c.requires.nothing.1 c.in-NoMemory.ensures.grew

pub returns-in-Err-clause-making : goal.returns-in-Err-clause-making
returns-in-Err-clause-making c =
    let s = c.args.cells.now in
    let log = c.args.log.now in
    can_go_back s (record s { stores = c.make_chain.new.stores; ledger = c.make_chain.new.ledger }) (record log { stores = c.make_chain.new.done })
    (c.in-Err.ensures.no_memory s (ready s log c.requires.whole c.requires.nothing.0 c.requires.nothing.1)) refl (λ j. refl) c.requires.nothing.1 refl
