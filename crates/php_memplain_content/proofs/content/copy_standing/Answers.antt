use Rattle.std.proofs.Common.{◌≡◌, refl, sym, ◌∙◌, ap}
use Rattle.std.specs.Prelude.{Some, None}
use Rattle.php_memdef.specs.Places.{standing, content_at, elements_of}
use Rattle.php_memdef_laws.proofs.Closed.Parts.{content_at-closed}
use Rattle.php_memplain_cells.specs.Memory.{memory_seen}
use Rattle.php_memplain_content.proofs.ContentLemmas.{can_begin, array_standing, some_standing, standing_seen, logged}
use Rattle.php_memplain_content.proofs.content.copy_standing.Goals as goal

pub unreachable-requires : goal.unreachable-requires
unreachable-requires c =
    let s = c.args.cells.now in
    some_standing (content_at (memory_seen s) (standing c.args.block c.args.depth)) c.requires.array (ap elements_of (standing_seen s c.args.block c.args.depth) ∙ sym c.in_default.ensures)

pub copy_array-requires : goal.copy_array-requires
copy_array-requires c =
    let s = c.args.cells.now in
    let m = memory_seen s in
    let spot = standing c.args.block c.args.depth in
    let w = c.requires.whole in
    let root = c.in-Some.entries.now in
    let is = array_standing (content_at m spot) root (c.in-Some.ensures ∙ ap elements_of (sym (standing_seen s c.args.block c.args.depth))) in
    (s, (λ _. 0, can_begin s c.args.log.now w c.requires.nothing.0 c.requires.nothing.1 root None tt (content_at m spot) is (content_at-closed m w.closed spot)))

pub returns-clause-copy : goal.returns-clause-copy
returns-clause-copy c =
    let s = c.args.cells.now in
    let m = memory_seen s in
    let spot = standing c.args.block c.args.depth in
    let w = c.requires.whole in
    let root = c.in-Some.entries.now in
    let is = array_standing (content_at m spot) root (c.in-Some.ensures ∙ ap elements_of (sym (standing_seen s c.args.block c.args.depth))) in
    let live = content_at-closed m w.closed spot in
    logged s (record s { stores = c.copy_array.new.stores; objects = c.copy_array.new.objects; ledger = c.copy_array.new.ledger }) w refl refl root None c.len-levels.result c.len-levels.ensures c.copy_array.new.log (content_at m spot) is live c.copy_array.result
    (c.copy_array.ensures.copy s (λ _. 0) (can_begin s c.args.log.now w c.requires.nothing.0 c.requires.nothing.1 root None tt (content_at m spot) is live))
