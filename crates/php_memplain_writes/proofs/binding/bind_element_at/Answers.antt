use Rattle.std.proofs.Common.{◌+◌, [], ◌∷◌, drop, refl, arith}
use Rattle.php_memplain_cells.specs.Seen.{stores_seen}
use Rattle.php_memplain_cells.specs.Memory.{memory_seen}
use Rattle.php_memplain_places.specs.Spots.{spot_seen}
use Rattle.php_memplain_writes.proofs.ReachedLemmas.{can_go_back}
use Rattle.php_memplain_writes.proofs.FindLemmas.{one_more}
use Rattle.php_memplain_writes.proofs.FinishLemmas.{chain_ready, there_beside, element_binding}
use Rattle.php_memplain_writes.proofs.binding.bind_element_at.Goals as goal

pub chain_to-requires : goal.chain_to-requires
chain_to-requires c = omega (arith, c.requires.within, one_more c.args.place.now c.args.front.now c.requires.front)

pub step-requires : goal.step-requires
step-requires c = omega (arith, c.requires.within, one_more c.args.place.now c.args.front.now c.requires.front)

pub grow_at-requires : goal.grow_at-requires
grow_at-requires c =
    let s = c.args.cells.now in
    record { there = there_beside (memory_seen s) (stores_seen c.chain_to.new.stores) (drop (c.args.steps + 1) c.args.place.now.path) c.args.store c.in-Ok.top c.in-Ok.ensures.chain (spot_seen c.args.spot) c.requires.stops.there }

pub returns-in-Ok-clause-binding : goal.returns-in-Ok-clause-binding
returns-in-Ok-clause-binding c =
    let s = c.args.cells.now in
    let log = c.args.log.now in
    let p = c.args.place.now in
    let q = c.args.front.now in
    let stores = c.chain_to.new.stores in
    let chained = c.in-Ok.ensures.chained s (c.args.store ∷ []) (chain_ready s log c.requires.whole c.requires.nothing.0 c.requires.nothing.1 c.args.store) in
    element_binding s c.grow_at.new.cells c.requires.whole stores c.chain_to.new.done c.in-Ok.top c.args.store chained p c.requires.live q c.requires.front
    (spot_seen c.args.spot) c.args.steps c.requires.within c.step.result.now c.step.ensures c.requires.stops c.in-Ok.ensures.chain log c.requires.nothing.1
    c.grow_at.ensures.holders c.grow_at.ensures.objects c.grow_at.ensures.waiting c.grow_at.result c.grow_at.ensures.grew

pub returns-in-Err-clause-binding : goal.returns-in-Err-clause-binding
returns-in-Err-clause-binding c =
    let s = c.args.cells.now in
    let log = c.args.log.now in
    can_go_back s (record s { stores = c.chain_to.new.stores; ledger = c.chain_to.new.ledger }) (record log { stores = c.chain_to.new.done })
    (c.in-Err.ensures.no_memory s (c.args.store ∷ []) (chain_ready s log c.requires.whole c.requires.nothing.0 c.requires.nothing.1 c.args.store)) refl (λ j. refl) c.requires.nothing.1 refl
