use Rattle.std.proofs.Common.{refl}
use Rattle.php_memplain_changes.specs.Named.{object_without}
use Rattle.php_memplain_changes.proofs.ObjectLemmas.{object_changed_seen}
use Rattle.php_memplain_changes.proofs.NameLemmas.{property_taken}
use Rattle.php_memplain_changes.proofs.named.take_property.Goals as goal

pub returns : goal.returns
returns c =
    let s = c.args.cells.now in
    let t = record s { objects = c.take_from_objects.new.objects } in
    property_taken s t c.args.number c.args.name.now c.requires.object
    (object_changed_seen s t c.args.number (object_without c.args.name.now) refl refl refl c.take_from_objects.ensures.seen c.take_from_objects.ensures.len)
    c.take_from_objects.ensures.holders refl refl refl c.take_from_objects.result c.take_from_objects.ensures.store c.requires.counted
