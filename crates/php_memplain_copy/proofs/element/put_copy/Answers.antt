use Rattle.std.proofs.Common.{◌<◌, refl, subst}
use Rattle.php_memdef.specs.Holders.{times, handles_of_content}
use Rattle.php_memplain_copy.proofs.PathLemmas.{put_is, not_put, not_held, handles_there}
use Rattle.php_memplain_copy.proofs.ElementLemmas.{handles_held}
use Rattle.php_memplain_copy.proofs.element.put_copy.Goals as goal

pub hold_object-requires : goal.hold_object-requires
hold_object-requires c = λ h some.
    let e = c.requires.0 in
    let x = c.requires.1 in
    handles_held e.0 c.args.stores.now c.args.objects.now.items c.args.log.now e.1.0 e.1.1.1.0 c.args.store x.0 x.1.0 h (subst (λ d. 0 < times h (handles_of_content d)) x.1.1 some)

pub returns-in-Ok-put_new : goal.returns-in-Ok-put_new
returns-in-Ok-put_new c = λ before at_hand levels x whole t live some there few is no_array.
    put_is before whole c.args.stores.now c.args.objects.now.items c.args.log.now at_hand t c.args.store live levels some x there few _ is c.hold_object.new.objects.items c.hold_object.ensures.seen (record { stores = c.put_new.new.done; handles = c.hold_object.new.raised }) c.in-Ok.ensures.ok.0 c.in-Ok.ensures.ok.1 c.put_new.new.stores c.in-Ok-put_new.copy no_array c.in-Ok-put_new.ensures.put c.in-Ok-put_new.ensures.more.0 c.in-Ok-put_new.ensures.more.1

pub returns-in-Err-put_new : goal.returns-in-Err-put_new
returns-in-Err-put_new c = λ before at_hand levels x whole t live some there few is no_array.
    not_put before whole c.args.stores.now c.args.objects.now.items c.args.log.now at_hand t c.args.store live levels some x there few _ is c.hold_object.new.objects.items c.hold_object.ensures.seen (record { stores = c.put_new.new.done; handles = c.hold_object.new.raised }) c.in-Ok.ensures.ok.0 c.in-Ok.ensures.ok.1 c.put_new.new.stores c.in-Err-put_new.ensures.no_memory.0 c.in-Err-put_new.ensures.no_memory.1.0 c.in-Err-put_new.ensures.no_memory.1.1

pub returns-in-Err : goal.returns-in-Err
returns-in-Err c = λ before at_hand levels x whole t live some there few is no_array.
    not_held before whole c.args.stores.now c.args.objects.now.items c.args.log.now at_hand t c.args.store live levels some x there few _ is c.hold_object.new.objects.items c.hold_object.ensures.seen (record c.args.log.now { handles = c.hold_object.new.raised }) c.in-Err.ensures.no_memory.0 refl c.in-Err.ensures.no_memory.1
