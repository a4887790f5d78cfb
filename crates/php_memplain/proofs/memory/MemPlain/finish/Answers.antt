use Rattle.std.proofs.Common.{refl}
use Rattle.php_memdef.specs.Objects.{finish}
use Rattle.php_memdef.specs.Operations as op
use Rattle.php_memplain.specs.declared.objects.Change.TheVariants.{Finishing}
use Rattle.php_memplain.proofs.MeansLemmas.{able, does}
use Rattle.php_memplain.proofs.ChangeLemmas.{object_count, changed_seen, changed_counted}
use Rattle.php_memplain.proofs.memory.MemPlain.finish.Goals as goal

pub change_object-requires : goal.change_object-requires
change_object-requires c = object_count c.args.self.now c.requires.0 c.requires.1 c.args.obj.0 (able c.args.self.now (op.finish c.args.obj.0) c.requires)

pub returns-clause-effect : goal.returns-clause-effect
unfolding finish
returns-clause-effect c =
    let s = c.args.self.now in
    let h = c.args.obj.0 in
    let t = record s.cells { objects = c.change_object.new.objects } in
    let e = c.change_object.ensures in
    does s (record { cells = t }) (op.finish h) (able s (op.finish h) c.requires)
    (changed_counted s.cells t Finishing h refl refl refl e.seen e.len c.requires.1.counted e.holders)
    (changed_seen s.cells t Finishing h refl refl refl e.seen e.len)
