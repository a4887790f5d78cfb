use Rattle.std.proofs.Common.{refl, ◌∙◌, ap}
use Rattle.std.specs.Prelude.{option_map}
use Rattle.php_memdef.specs.Objects.{attach}
use Rattle.php_memdef.specs.Operations as op
use Rattle.php_memplain_cells.specs.Memory.{memory_seen}
use Rattle.php_memplain.specs.declared.objects.Change.TheVariants.{Frame}
use Rattle.php_memplain.proofs.MeansLemmas.{able, does}
use Rattle.php_memplain.proofs.ChangeLemmas.{object_count, changed_seen, changed_counted}
use Rattle.php_memplain.proofs.memory.MemPlain.attach.Goals as goal

pub change_object-requires : goal.change_object-requires
change_object-requires c = object_count c.args.self.now c.requires.0 c.requires.1 c.args.obj.0 (able c.args.self.now (op.attach c.args.obj.0 _) c.requires).object

pub returns-clause-effect : goal.returns-clause-effect
unfolding attach
returns-clause-effect c =
    let s = c.args.self.now in
    let h = c.args.obj.0 in
    let t = record s.cells { objects = c.change_object.new.objects } in
    let e = c.change_object.ensures in
    let n = c.number_of-number.result in
    does s (record { cells = t }) (op.attach h (option_map (λ b. b.0) c.args.frame)) (able s (op.attach h (option_map (λ b. b.0) c.args.frame)) c.requires)
    (changed_counted s.cells t (Frame n) h refl refl refl e.seen e.len c.requires.1.counted e.holders)
    (changed_seen s.cells t (Frame n) h refl refl refl e.seen e.len ∙ ap (λ f. attach (memory_seen s.cells) h f) c.number_of-number.ensures)
