use Rattle.std.proofs.Common.{sym, ap, subst}
use Rattle.php_memdef.specs.declared.answer.Read.TheVariants.{Found, Absent}
use Rattle.php_memdef.specs.Contents.{Mem, value}
use Rattle.php_memdef.specs.Conditions.{HasRoom}
use Rattle.php_memdef.specs.Places.{content_at}
use Rattle.php_memdef.specs.Operations as op
use Rattle.php_memdef.specs.Alike.{Alike}
use Rattle.php_memplain_cells.specs.Memory.{memory_seen}
use Rattle.php_memplain_cells.specs.Seen.{content_seen}
use Rattle.php_memplain_places.specs.Spots.{spot_seen}
use Rattle.php_memplain_content.proofs.LiveLemmas.{found_there}
use Rattle.php_memplain_blocks.proofs.MoveLemmas.{block_live, pushed_counted}
use Rattle.php_memplain.proofs.MeansLemmas.{able, answers, answers_alike}
use Rattle.php_memplain.proofs.CopyLemmas.{whole_of, copied_alike, copy_found, copy_absent, back_kept, block_made}
use Rattle.php_memplain.proofs.memory.MemPlain.copy.Goals as goal

pub returns-in_default-clause-ok : goal.returns-in_default-clause-ok
returns-in_default-clause-ok c =
    let s = c.args.self.now in
    let b = c.args.block.0 in
    let p = c.args.from.now in
    answers s s (op.copy b p) (able s (op.copy b p) c.requires) c.requires.1.counted Absent (copy_absent (memory_seen s.cells) b p (sym c.in_default.ensures))

pub copy_content-requires-clause-whole : goal.copy_content-requires-clause-whole
copy_content-requires-clause-whole c = whole_of c.args.self.now c.requires.0 c.requires.1

pub copy_content-requires-clause-there : goal.copy_content-requires-clause-there
copy_content-requires-clause-there c = found_there (memory_seen c.args.self.now.cells) c.requires.1.closed c.args.from.now (spot_seen c.in-Some.spot) (sym c.in-Some.ensures)

pub push-requires-clause-block : goal.push-requires-clause-block
push-requires-clause-block c =
    let s = c.args.self.now in
    let b = c.args.block.0 in
    block_live c.copy_content.new.cells b (block_made s.cells c.copy_content.new.cells _ _ b c.in-Ok.ensures.copy (able s (op.copy b c.args.from.now) c.requires).block)

pub push-requires-clause-room : goal.push-requires-clause-room
push-requires-clause-room c =
    let s = c.args.self.now in
    let b = c.args.block.0 in
    subst (λ (n : Mem). HasRoom n b) (sym c.in-Ok.ensures.copy.seen) (able s (op.copy b c.args.from.now) c.requires).room

pub returns-in-Ok-clause-ok : goal.returns-in-Ok-clause-ok
returns-in-Ok-clause-ok c =
    let s = c.args.self.now in
    let m = memory_seen s.cells in
    let b = c.args.block.0 in
    let p = c.args.from.now in
    let t = c.copy_content.new.cells in
    let u = c.push.new.cells in
    let spot = spot_seen c.in-Some.spot in
    let made = c.in-Ok.ensures.copy in
    let d = content_seen c.in-Ok.content in
    let is = copy_found m b p spot (sym c.in-Some.ensures) in
    answers_alike s (record { cells = u }) (op.copy b p) (able s (op.copy b p) c.requires)
    (pushed_counted t u b c.push.ensures.stores c.push.ensures.objects (value d) made.counted c.push.ensures.seen)
    Found
    (subst (λ (n : Mem). Alike n (memory_seen u)) (sym (ap (λ r. r.0) is)) (copied_alike s.cells t (memory_seen u) b (content_at m spot) d made c.push.ensures.seen))
    (sym (ap (λ r. r.1) is))

pub returns-in-Err-clause-no_memory : goal.returns-in-Err-clause-no_memory
returns-in-Err-clause-no_memory c = back_kept c.args.self.now (record { cells = c.copy_content.new.cells }) c.in-Err.ensures.copy
