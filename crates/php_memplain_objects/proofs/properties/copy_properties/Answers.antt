use Rattle.std.proofs.Common.{◌≡◌, length, refl, ◌∙◌, arith}
use Rattle.php_memdef.specs.Contents.{object_of}
use Rattle.php_memdef_laws.proofs.Closed.Parts.{object-closed}
use Rattle.php_memplain_cells.specs.Seen.{property_seen}
use Rattle.php_memplain_cells.specs.Memory.{memory_seen}
use Rattle.php_memplain_objects.specs.Cloning.{first_of}
use Rattle.php_memplain_objects.proofs.PropertyLemmas.{nth_live, none_copied, taken_begun, place_found, place_none, turn_done, all_done}
use Rattle.php_memplain_objects.proofs.properties.copy_properties.Goals as goal

pub loop-turn-init : goal.loop-turn-init
loop-turn-init c =
    let s = c.args.cells.now in
    (none_copied s c.args.log.now c.requires.whole c.requires.nothing.0 c.requires.nothing.1 (object_of (memory_seen s) c.args.number).properties c.args.levels _ c.new-done.ensures.items, (refl, (refl, omega arith)))

pub copy_property-requires : goal.copy_property-requires
copy_property-requires c =
    let s = c.args.cells.now in
    let l = c.loop-turn in
    let m = memory_seen s in
    let ps = (object_of m c.args.number).properties in
    let i = l.invariant.0 in
    let n = length l.done.items in
    let same : c.len.result ≡ n = omega (arith, c.len.ensures, l.done.ok.0) in
    let e = place_found s l.cells c.args.number c.len.result n i.taken.objects_grown.seen same _ c.in-Ok-Some.ensures c.in-Ok-Some.property c.in-Ok-Some.field-0-is in
    (s, (first_of n ps, (c.requires.whole, (i, nth_live m ps n (property_seen c.in-Ok-Some.property) e (object-closed m c.requires.whole.closed c.args.number)))))

pub loop-turn-preserved : goal.loop-turn-preserved
loop-turn-preserved c =
    let s = c.args.cells.now in
    let l = c.loop-turn in
    let m = memory_seen s in
    let ps = (object_of m c.args.number).properties in
    let i = l.invariant.0 in
    let n = length l.done.items in
    let same : c.len.result ≡ n = omega (arith, c.len.ensures, l.done.ok.0) in
    let e = place_found s l.cells c.args.number c.len.result n i.taken.objects_grown.seen same _ c.in-Ok-Some.ensures c.in-Ok-Some.property c.in-Ok-Some.field-0-is in
    let live = nth_live m ps n (property_seen c.in-Ok-Some.property) e (object-closed m c.requires.whole.closed c.args.number) in
    let q = c.in-Ok.ensures in (
      turn_done s ps c.args.levels n c.copy_property.new.done.items c.copy_property.new.cells.stores c.copy_property.new.cells.objects.items c.copy_property.new.log (property_seen c.in-Ok-Some.property) e q.len (q.copy s (first_of n ps) c.requires.whole i live),
      (c.copy_property.ensures.blocks ∙ l.invariant.1.0, (c.copy_property.ensures.statics ∙ l.invariant.1.1.0, omega (arith, c.copy_property.ensures.made, l.invariant.1.1.1))),
    )

pub returns-in-Ok-None-clause-ok : goal.returns-in-Ok-None-clause-ok
returns-in-Ok-None-clause-ok c =
    let s = c.args.cells.now in
    let l = c.loop-turn in
    let ps = (object_of (memory_seen s) c.args.number).properties in
    let i = l.invariant.0 in
    let n = length l.done.items in
    let same : c.len.result ≡ n = omega (arith, c.len.ensures, l.done.ok.0) in
    all_done s ps c.args.levels n l.done.items l.cells.stores l.cells.objects.items l.log (place_none s l.cells c.args.number c.len.result n i.taken.objects_grown.seen same _ c.in-Ok-None.ensures c.in-Ok-None.field-0-is) i

pub returns-in-Err-copy_property-clause-no_memory : goal.returns-in-Err-copy_property-clause-no_memory
returns-in-Err-copy_property-clause-no_memory c =
    let s = c.args.cells.now in
    let l = c.loop-turn in
    let m = memory_seen s in
    let ps = (object_of m c.args.number).properties in
    let i = l.invariant.0 in
    let n = length l.done.items in
    let same : c.len.result ≡ n = omega (arith, c.len.ensures, l.done.ok.0) in
    let e = place_found s l.cells c.args.number c.len.result n i.taken.objects_grown.seen same _ c.in-Ok-Some.ensures c.in-Ok-Some.property c.in-Ok-Some.field-0-is in
    c.in-Err-copy_property.ensures.no_memory s (first_of n ps) c.requires.whole i (nth_live m ps n (property_seen c.in-Ok-Some.property) e (object-closed m c.requires.whole.closed c.args.number))

pub returns-in-Err-clause-no_memory : goal.returns-in-Err-clause-no_memory
returns-in-Err-clause-no_memory c = let l = c.loop-turn in taken_begun c.args.cells.now l.cells.stores l.cells.objects.items l.log _ l.invariant.0.taken

pub returns-clause-no_memory : goal.returns-clause-no_memory
returns-clause-no_memory c = let l = c.loop-turn in taken_begun c.args.cells.now l.cells.stores l.cells.objects.items l.log _ l.invariant.0.taken
