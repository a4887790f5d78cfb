use Rattle.std.proofs.Common.{refl}
use Rattle.php_memdef.specs.Places.{content_at}
use Rattle.php_memplain_cells.specs.Seen.{content_seen}
use Rattle.php_memplain_cells.specs.Memory.{memory_seen}
use Rattle.php_memplain_places.specs.Spots.{spot_seen}
use Rattle.php_memplain_content.proofs.ContentLemmas.{spot_held, plain_logged, nothing_logged}
use Rattle.php_memplain_content.proofs.content.hand_on.Goals as goal

pub hold_object-requires : goal.hold_object-requires
hold_object-requires c = λ h some. spot_held c.args.cells.now c.requires.whole (spot_seen c.args.spot) (content_seen c.args.content) c.requires.is h some

pub returns-in-Ok-clause-copy : goal.returns-in-Ok-clause-copy
returns-in-Ok-clause-copy c =
    let s = c.args.cells.now in
    plain_logged s (record s { objects = c.hold_object.new.objects }) c.requires.whole refl refl refl c.hold_object.ensures.seen (content_at (memory_seen s) (spot_seen c.args.spot)) (content_seen c.args.content) c.requires.is c.requires.no_array c.in-Ok.ensures.ok.0

pub returns-in-Err-clause-copy : goal.returns-in-Err-clause-copy
returns-in-Err-clause-copy c =
    let s = c.args.cells.now in
    nothing_logged s (record s { objects = c.hold_object.new.objects }) c.requires.whole refl refl refl c.hold_object.ensures.seen c.args.log.now (record c.args.log.now { handles = c.hold_object.new.raised }) c.requires.nothing.0 c.requires.nothing.1 c.in-Err.ensures.no_memory.0 refl c.in-Err.ensures.no_memory.1
