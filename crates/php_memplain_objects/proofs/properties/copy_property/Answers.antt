use Rattle.php_memdef.specs.Holders.{times}
use Rattle.php_memplain_objects.specs.Cloning.{stores_done}
use Rattle.php_memplain_objects.proofs.PropertyLemmas.{one_copied, taken_begun, longer_by_one}
use Rattle.php_memplain_objects.proofs.properties.copy_property.Goals as goal

pub copy_store-requires : goal.copy_store-requires
copy_store-requires c = let r = c.requires in (r.0, (_, (r.1.1.0, (r.1.1.1.0.taken, r.1.1.1.1))))

pub returns-in-Ok-put_property-clause-copy : goal.returns-in-Ok-put_property-clause-copy
returns-in-Ok-put_property-clause-copy c = λ before passed whole copied live.
    let q = c.in-Ok.ensures.copy before (λ j. times j (stores_done c.args.done.now.items)) whole copied.taken live in
    one_copied before passed c.args.levels c.args.done.now.items c.put_property.new.done.items c.args.property c.in-Ok.store c.args.cells.now.stores c.copy_store.new.stores c.copy_store.new.objects.items c.args.cells.now.objects.items c.args.log.now c.copy_store.new.log copied q.0 q.1 c.in-Ok-put_property.ensures.ok

pub returns-in-Ok-put_property-clause-len : goal.returns-in-Ok-put_property-clause-len
returns-in-Ok-put_property-clause-len c = longer_by_one c.args.done.now.items c.put_property.new.done.items _ c.in-Ok-put_property.ensures.ok

pub returns-in-Err-put_property-clause-no_memory : goal.returns-in-Err-put_property-clause-no_memory
returns-in-Err-put_property-clause-no_memory c = λ before passed whole copied live.
    let q = c.in-Ok.ensures.copy before (λ j. times j (stores_done c.args.done.now.items)) whole copied.taken live in
    taken_begun before c.copy_store.new.stores c.copy_store.new.objects.items c.copy_store.new.log _ q.0

pub returns-in-Err-clause-no_memory : goal.returns-in-Err-clause-no_memory
returns-in-Err-clause-no_memory c = λ before passed whole copied live. c.in-Err.ensures.copy before _ whole copied.taken live
