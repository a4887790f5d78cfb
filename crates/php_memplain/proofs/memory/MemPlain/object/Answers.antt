use Rattle.std.proofs.Common.{sym, ◌∙◌, ap, subst}
use Rattle.std.specs.Prelude.{Some}
use Rattle.php_memdef.specs.Contents.{Mem, value, object}
use Rattle.php_memdef.specs.Conditions.{IsBlock, HasRoom}
use Rattle.php_memdef.specs.Temporaries.{pushed}
use Rattle.php_memdef.specs.Operations as op
use Rattle.php_memplain_cells.specs.Memory.{memory_seen}
use Rattle.php_memplain_objects.proofs.MakeLemmas.{model_makes}
use Rattle.php_memplain_blocks.proofs.MoveLemmas.{block_live, pushed_counted}
use Rattle.php_memplain.proofs.MeansLemmas.{able, answers}
use Rattle.php_memplain.proofs.CopyLemmas.{back_kept}
use Rattle.php_memplain.proofs.memory.MemPlain.object.Goals as goal

pub make_object-requires : goal.make_object-requires
make_object-requires c = c.requires.1.counted

pub push-requires-clause-block : goal.push-requires-clause-block
push-requires-clause-block c =
    let b = c.args.block.0 in
    block_live c.make_object.new.cells b (subst (λ (n : Mem). IsBlock n b) (sym c.in-Ok.ensures.made.seen) (able c.args.self.now (op.make_object b c.args.class c.args.finishing) c.requires).block)

pub push-requires-clause-room : goal.push-requires-clause-room
push-requires-clause-room c =
    let b = c.args.block.0 in
    subst (λ (n : Mem). HasRoom n b) (sym c.in-Ok.ensures.made.seen) (able c.args.self.now (op.make_object b c.args.class c.args.finishing) c.requires).room

pub returns-in-Ok-clause-ok : goal.returns-in-Ok-clause-ok
returns-in-Ok-clause-ok c =
    let s = c.args.self.now in
    let b = c.args.block.0 in
    let class = c.args.class in
    let finishing = c.args.finishing in
    let n = c.in-Ok.number in
    let t = c.push.new.cells in
    let made = c.in-Ok.ensures.made in
    answers s (record { cells = t }) (op.make_object b class finishing) (able s (op.make_object b class finishing) c.requires)
    (pushed_counted c.make_object.new.cells t b c.push.ensures.stores c.push.ensures.objects (value (object n)) made.counted c.push.ensures.seen)
    (Some n)
    (model_makes (memory_seen s.cells) b class n finishing made.number made.below
    ∙ ap (λ (m : Mem). (m, Some n)) (sym (c.push.ensures.seen ∙ ap (λ m. pushed m b (value (object n))) made.seen)))

pub returns-in-Err-clause-refused : goal.returns-in-Err-clause-refused
returns-in-Err-clause-refused c = back_kept c.args.self.now (record { cells = c.make_object.new.cells }) c.in-Err.ensures.no_memory
