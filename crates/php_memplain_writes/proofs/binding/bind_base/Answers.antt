use Rattle.php_memplain_writes.proofs.WriteLemmas.{back_seen}
use Rattle.php_memplain_writes.proofs.FinishLemmas.{base_points}
use Rattle.php_memplain_writes.proofs.binding.bind_base.Goals as goal

pub returns-in-Ok-clause-points : goal.returns-in-Ok-clause-points
returns-in-Ok-clause-points c = base_points c.args.cells.now c.point_base.new.cells c.args.place.now c.args.store c.requires.whole c.requires.pointed c.requires.none c.in-Ok.fell c.in-Ok.ensures.ok c.point_base.ensures.stores c.point_base.ensures.objects c.point_base.ensures.waiting

pub returns-in-Err-clause-points : goal.returns-in-Err-clause-points
returns-in-Err-clause-points c = back_seen c.args.cells.now c.point_base.new.cells c.in-Err.ensures.no_memory c.point_base.ensures.stores c.point_base.ensures.objects c.requires.whole
