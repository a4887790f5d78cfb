use Rattle.std.proofs.Common.{refl}
use Rattle.php_memplain_copy.proofs.PathLemmas.{kept_is, same_begun}
use Rattle.php_memplain_copy.proofs.element.keep_element.Goals as goal

pub returns-in-Ok : goal.returns-in-Ok
returns-in-Ok c = λ before objects at_hand levels whole t live some.
    kept_is before whole c.args.stores.now objects c.args.log.now at_hand t c.args.store live levels c.keep.new.stores (record c.args.log.now { stores = c.keep.new.done }) some c.keep.ensures.seen c.in-Ok.ensures.ok.0 c.in-Ok.ensures.ok.1 refl

pub returns-in-Err : goal.returns-in-Err
returns-in-Err c = λ before objects at_hand levels whole t live some.
    same_begun before whole c.args.stores.now objects c.args.log.now at_hand t c.args.store live c.keep.new.stores (record c.args.log.now { stores = c.keep.new.done }) c.keep.ensures.seen c.in-Err.ensures.no_memory.0 c.in-Err.ensures.no_memory.1 refl
