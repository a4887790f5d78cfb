use Rattle.std.proofs.Common.{refl}
use Rattle.php_memplain_cells.specs.Seen.{stores_seen}
use Rattle.php_memplain_objects.proofs.ElementLemmas.{begin_inside, put_inside, no_store_inside}
use Rattle.php_memplain_objects.proofs.element.put_copy.Goals as goal

pub copy_array-requires : goal.copy_array-requires
copy_array-requires c =
    let r = c.requires in
    (r.0, (r.1.0, begin_inside r.0 r.1.0 c.args.levels c.args.store r.1.1.1.1.1 c.args.none.now c.args.stores.now c.args.objects.now.items c.args.log.now r.1.1.0 r.1.1.1.0 r.1.1.1.1.0))

pub returns-in-Ok-put_new-clause-copy : goal.returns-in-Ok-put_new-clause-copy
returns-in-Ok-put_new-clause-copy c = λ before at_hand whole taken live inside.
    let root = c.args.none.now in
    let made = c.in-Ok.ensures.copy before at_hand (begin_inside before at_hand c.args.levels c.args.store inside root c.args.stores.now c.args.objects.now.items c.args.log.now whole taken live) in
    put_inside before at_hand c.args.levels c.args.store inside root (stores_seen c.args.stores.now) c.in-Ok.content c.copy_array.new.stores c.copy_array.new.objects.items c.copy_array.new.log made
    c.put_new.new.stores c.in-Ok-put_new.copy (record c.copy_array.new.log { stores = c.put_new.new.done }) c.in-Ok-put_new.ensures.put c.in-Ok-put_new.ensures.more.0 c.in-Ok-put_new.ensures.more.1 refl

pub returns-in-Err-put_new-clause-copy : goal.returns-in-Err-put_new-clause-copy
returns-in-Err-put_new-clause-copy c = λ before at_hand whole taken live inside.
    let root = c.args.none.now in
    let made = c.in-Ok.ensures.copy before at_hand (begin_inside before at_hand c.args.levels c.args.store inside root c.args.stores.now c.args.objects.now.items c.args.log.now whole taken live) in
    no_store_inside before at_hand c.args.levels c.args.store inside root (stores_seen c.args.stores.now) c.in-Ok.content c.copy_array.new.stores c.copy_array.new.objects.items c.copy_array.new.log made
    c.put_new.new.stores (record c.copy_array.new.log { stores = c.put_new.new.done }) c.in-Err-put_new.ensures.no_memory.0 c.in-Err-put_new.ensures.no_memory.1.0 c.in-Err-put_new.ensures.no_memory.1.1 refl

pub returns-in-Err-clause-copy : goal.returns-in-Err-clause-copy
returns-in-Err-clause-copy c = λ before at_hand whole taken live inside.
    c.in-Err.ensures.copy before at_hand (begin_inside before at_hand c.args.levels c.args.store inside c.args.none.now c.args.stores.now c.args.objects.now.items c.args.log.now whole taken live)
