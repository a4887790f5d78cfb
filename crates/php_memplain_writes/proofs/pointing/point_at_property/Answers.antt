use Rattle.std.proofs.Common.{refl}
use Rattle.php_memplain_writes.proofs.HangLemmas.{object_changed_seen, object_kept_seen}
use Rattle.php_memplain_writes.specs.Pointing.{property_pointed}
use Rattle.php_memplain_writes.proofs.pointing.point_at_property.Goals as goal

pub returns-in-Ok-clause-ok : goal.returns-in-Ok-clause-ok
returns-in-Ok-clause-ok c = object_changed_seen c.args.cells.now (record c.args.cells.now { objects = c.point_in_object.new.objects }) c.args.number (property_pointed c.args.name.now c.args.store) refl refl refl c.in-Ok.ensures.ok c.in-Ok.ensures.len

pub returns-in-Err-clause-no_memory : goal.returns-in-Err-clause-no_memory
returns-in-Err-clause-no_memory c = object_kept_seen c.args.cells.now (record c.args.cells.now { objects = c.point_in_object.new.objects }) refl refl refl c.in-Err.ensures.no_memory c.in-Err.ensures.len
