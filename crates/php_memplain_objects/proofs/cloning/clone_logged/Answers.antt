use Rattle.std.proofs.Common.{◌≡◌, ◌+◌, refl, subst, arith, map}
use Rattle.slab.specs.Slab.{slab_len}
use Rattle.php_memplain_cells.specs.Seen.{property_seen}
use Rattle.php_memplain_objects.specs.Making.{made_object, IsAppended}
use Rattle.php_memplain_objects.proofs.PropertyLemmas.{none_begun}
use Rattle.php_memplain_objects.proofs.CloneLemmas.{cloned, clone_given_up, begun_seen}
use Rattle.php_memplain_objects.proofs.cloning.clone_logged.Goals as goal

pub returns-in_default-clause-no_memory : goal.returns-in_default-clause-no_memory
returns-in_default-clause-no_memory c = (none_begun c.args.cells.now c.args.log.now c.requires.whole c.requires.nothing.0 c.requires.nothing.1, refl)

pub returns-in-Ok-append-clause-cloned : goal.returns-in-Ok-append-clause-cloned
returns-in-Ok-append-clause-cloned c =
    let s = c.args.cells.now in
    let h = c.args.number in
    let done = c.in-Ok.properties.items in
    let q = c.in-Ok.ensures in
    let up : c.in-Some.levels ≡ slab_len s.stores + 1 = omega (arith, c.in-Some.ensures.1, c.len.ensures) in
    cloned s c.copy_properties.new.cells c.requires.whole h c.in-Some.levels c.copy_properties.new.log done q.ok q.blocks q.statics up c.append.new.cells c.class_of-class.result c.in-Ok-append.clone c.class_of-class.ensures
    (subst (λ f. IsAppended c.copy_properties.new.cells (made_object c.class_of-class.result f (map property_seen done)) c.in-Ok-append.clone c.append.new.cells) c.is_finishing-finishing.ensures c.in-Ok-append.ensures.made)

pub returns-in-Err-append-clause-no_memory : goal.returns-in-Err-append-clause-no_memory
returns-in-Err-append-clause-no_memory c =
    let q = c.in-Ok.ensures in
    clone_given_up c.args.cells.now c.copy_properties.new.cells c.requires.whole c.args.number c.in-Some.levels c.copy_properties.new.log c.in-Ok.properties.items q.ok q.blocks q.statics c.append.new.cells c.in-Err-append.ensures.no_memory

pub returns-in-Err-clause-no_memory : goal.returns-in-Err-clause-no_memory
returns-in-Err-clause-no_memory c = let q = c.in-Err.ensures in begun_seen c.args.cells.now c.copy_properties.new.cells c.copy_properties.new.log q.no_memory q.blocks q.statics
