use Rattle.std.proofs.Common.{sym, ◌∙◌, ap, subst}
use Rattle.php_memdef.specs.Contents.{Mem, value, object}
use Rattle.php_memdef.specs.Conditions.{IsBlock, HasRoom}
use Rattle.php_memdef.specs.Temporaries.{pushed, push_object}
use Rattle.php_memdef.specs.Operations as op
use Rattle.php_memplain_blocks.proofs.MoveLemmas.{block_live, pushed_counted}
use Rattle.php_memplain.proofs.MeansLemmas.{able, does}
use Rattle.php_memplain.proofs.ChangeLemmas.{object_count}
use Rattle.php_memplain.proofs.memory.MemPlain.push_object.Goals as goal

pub hold-requires-clause-counted : goal.hold-requires-clause-counted
hold-requires-clause-counted c = c.requires.1.counted

pub hold-requires-clause-there : goal.hold-requires-clause-there
hold-requires-clause-there c = object_count c.args.self.now c.requires.0 c.requires.1 c.args.obj.0 (able c.args.self.now (op.push_object c.args.block.0 c.args.obj.0) c.requires).object

pub push-requires-clause-block : goal.push-requires-clause-block
push-requires-clause-block c =
    let b = c.args.block.0 in
    block_live c.hold.new.cells b (subst (λ (n : Mem). IsBlock n b) (sym c.hold.ensures.seen) (able c.args.self.now (op.push_object b c.args.obj.0) c.requires).block)

pub push-requires-clause-room : goal.push-requires-clause-room
push-requires-clause-room c =
    let b = c.args.block.0 in
    subst (λ (n : Mem). HasRoom n b) (sym c.hold.ensures.seen) (able c.args.self.now (op.push_object b c.args.obj.0) c.requires).room

pub returns-clause-effect : goal.returns-clause-effect
unfolding push_object
returns-clause-effect c =
    let s = c.args.self.now in
    let b = c.args.block.0 in
    let h = c.args.obj.0 in
    let t = c.push.new.cells in
    does s (record { cells = t }) (op.push_object b h) (able s (op.push_object b h) c.requires)
    (pushed_counted c.hold.new.cells t b c.push.ensures.stores c.push.ensures.objects (value (object h)) c.hold.ensures.counted c.push.ensures.seen)
    (c.push.ensures.seen ∙ ap (λ n. pushed n b (value (object h))) c.hold.ensures.seen)
