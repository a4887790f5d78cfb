use Rattle.std.proofs.Common.{◌≡◌, sym, ◌∙◌, ap, subst}
use Rattle.php_memdef.specs.Contents.{Mem, value}
use Rattle.php_memdef.specs.Conditions.{IsBlock}
use Rattle.php_memdef.specs.Places.{Spot, content_at, with_content}
use Rattle.php_memdef.specs.Temporaries.{popped, let_fall}
use Rattle.php_memplain_cells.specs.Seen.{content_seen}
use Rattle.php_memplain_cells.specs.Counts.{count_of_store}
use Rattle.php_memplain_cells.specs.Memory.{memory_seen}
use Rattle.php_memplain_writes.specs.Standing.{HasContent}
use Rattle.php_memplain_places.specs.Spots.{spot_seen}
use Rattle.php_memplain_writes.specs.Moving.{spot_below}
use Rattle.php_memplain_writes.proofs.BlockLemmas.{block_live, block_there_after, value_popped, value_swapped, value_fallen, moved_is}
use Rattle.php_memplain_writes.proofs.SpotLemmas.{real_of, has_below}
use Rattle.php_memplain_writes.proofs.WriteLemmas.{falls_kept}
use Rattle.php_memplain_writes.proofs.moving.move_in.Goals as goal

pub swap_content-before-requires : goal.swap_content-before-requires
swap_content-before-requires c =
    let m = memory_seen c.args.cells.now in
    let b = c.args.block in
    subst (λ (n : Mem). HasContent n (spot_seen c.below_top.result)) (sym c.pop_value-content.ensures.seen)
    (subst (λ (x : Spot). HasContent (popped m b) x) (sym c.below_top.ensures) (has_below m b (spot_seen c.args.spot) c.requires.below c.requires.there))

pub fall-requires-clause-block : goal.fall-requires-clause-block
fall-requires-clause-block c =
    let b = c.args.block in
    block_live c.swap_content-before.new.cells b
    (subst (λ (n : Mem). IsBlock n b) (sym c.swap_content-before.ensures.seen)
    (block_there_after c.pop_value-content.new.cells b c.pop_value-content.ensures.block (spot_seen c.below_top.result) (content_seen c.pop_value-content.result)))

pub fall-requires-clause-room : goal.fall-requires-clause-room
fall-requires-clause-room c =
    let s = c.args.cells.now in
    let t = c.pop_value-content.new.cells in
    let w = c.swap_content-before.new.cells in
    let b = c.args.block in
    falls_kept t.blocks w.blocks b (falls_kept s.blocks t.blocks b c.requires.room c.pop_value-content.ensures.waiting) c.swap_content-before.ensures.waiting

pub returns-clause-seen : goal.returns-clause-seen
returns-clause-seen c =
    let m = memory_seen c.args.cells.now in
    let b = c.args.block in
    let spot = spot_seen c.args.spot in
    let content = content_seen c.pop_value-content.result in
    let before = content_seen c.swap_content-before.result in
    let there : before ≡ content_at (popped m b) (spot_below b spot) = c.swap_content-before.ensures.before ∙ ap (λ (n : Mem). content_at n (spot_seen c.below_top.result)) c.pop_value-content.ensures.seen ∙ ap (content_at (popped m b)) c.below_top.ensures in
    c.fall.ensures.seen
    ∙ ap (λ (n : Mem). let_fall n b (value before)) (c.swap_content-before.ensures.seen ∙ ap (λ (n : Mem). with_content n (spot_seen c.below_top.result) content) c.pop_value-content.ensures.seen ∙ ap (λ (x : Spot). with_content (popped m b) x content) c.below_top.ensures)
    ∙ moved_is m b spot c.requires.below content before c.pop_value-content.ensures.top there

pub returns-clause-counted : goal.returns-clause-counted
returns-clause-counted c =
    let s = c.args.cells.now in
    let t = c.pop_value-content.new.cells in
    let w = c.swap_content-before.new.cells in
    let u = c.fall.new.cells in
    let m = memory_seen s in
    let b = c.args.block in
    let spot = spot_seen c.below_top.result in
    let content = content_seen c.pop_value-content.result in
    let before = content_seen c.swap_content-before.result in
    let there : HasContent (memory_seen t) spot =
    subst (λ (n : Mem). HasContent n spot) (sym c.pop_value-content.ensures.seen)
    (subst (λ (x : Spot). HasContent (popped m b) x) (sym c.below_top.ensures) (has_below m b (spot_seen c.args.spot) c.requires.below c.requires.there)) in
    let one = value_popped s t (λ k. ap (λ x. count_of_store x k) c.pop_value-content.ensures.stores) c.pop_value-content.ensures.objects b content c.pop_value-content.ensures.top c.requires.counted c.pop_value-content.ensures.seen in
    let two = value_swapped t w c.swap_content-before.ensures.holders c.swap_content-before.ensures.objects spot (real_of (memory_seen t) spot there) content before c.swap_content-before.ensures.before one c.swap_content-before.ensures.seen in
    value_fallen w u (λ k. ap (λ x. count_of_store x k) c.fall.ensures.stores) c.fall.ensures.objects b before two c.fall.ensures.seen
