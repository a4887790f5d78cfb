use Rattle.std.proofs.Common.{◌≡◌, refl}
use Rattle.std.specs.Prelude.{Some}
use Rattle.php_memdef.specs.Contents.{content_of}
use Rattle.php_memdef_laws.proofs.Closed.Parts.{content-closed}
use Rattle.php_memplain_cells.specs.Memory.{memory_seen}
use Rattle.php_memplain_content.proofs.ContentLemmas.{can_begin, array_stored, logged}
use Rattle.php_memplain_content.proofs.content.copy_stored.Goals as goal

pub copy_array-requires : goal.copy_array-requires
copy_array-requires c =
    let s = c.args.cells.now in
    let m = memory_seen s in
    let k = c.args.store in
    let w = c.requires.whole in
    (s, (λ _. 0, can_begin s c.args.log.now w c.requires.nothing.0 c.requires.nothing.1 c.new-none.result (Some k) c.requires.there (content_of m k) (array_stored m k c.new-none.result c.requires.there c.requires.array) (content-closed m w.closed k)))

pub returns-clause-copy : goal.returns-clause-copy
returns-clause-copy c =
    let s = c.args.cells.now in
    let m = memory_seen s in
    let k = c.args.store in
    let w = c.requires.whole in
    let root = c.new-none.result in
    let is = array_stored m k root c.requires.there c.requires.array in
    let live = content-closed m w.closed k in
    logged s (record s { stores = c.copy_array.new.stores; objects = c.copy_array.new.objects; ledger = c.copy_array.new.ledger }) w refl refl root (Some k) c.len-levels.result c.len-levels.ensures c.copy_array.new.log (content_of m k) is live c.copy_array.result
    (c.copy_array.ensures.copy s (λ _. 0) (can_begin s c.args.log.now w c.requires.nothing.0 c.requires.nothing.1 root (Some k) c.requires.there (content_of m k) is live))
