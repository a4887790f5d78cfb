use Rattle.std.proofs.Common.{sym, ◌∙◌, subst}
use Rattle.php_memdef.specs.Contents.{Mem}
use Rattle.php_memplain_cells.specs.Seen.{content_seen}
use Rattle.php_memplain_cells.specs.Memory.{memory_seen}
use Rattle.php_memplain_places.specs.Spots.{spot_seen}
use Rattle.php_memplain_writes.specs.Standing.{HasContent}
use Rattle.php_memplain_writes.proofs.GrowLemmas.{put_back}
use Rattle.php_memplain_writes.proofs.SpotLemmas.{has_put}
use Rattle.php_memplain_writes.proofs.growing.grow_at.Goals as goal

pub swap_content-null-requires : goal.swap_content-null-requires
swap_content-null-requires c =
    let m = memory_seen c.args.cells.now in
    let spot = spot_seen c.args.spot in
    subst (λ (n : Mem). HasContent n spot) (sym c.swap_content-content.ensures.seen) (has_put m spot c.requires.there _)

pub returns-clause-grew : goal.returns-clause-grew
returns-clause-grew c =
    put_back (memory_seen c.args.cells.now) (memory_seen c.swap_content-content.new.cells) (memory_seen c.swap_content-null.new.cells) (spot_seen c.args.spot) c.requires.there
    (content_seen c.swap_content-content.result) (content_seen c.grown-content.result.0) c.swap_content-content.ensures.before _ c.swap_content-content.ensures.seen c.swap_content-null.ensures.seen c.grown-content.result.1 c.args.step.now c.args.store c.grown-content.ensures.grew

pub returns-clause-holders : goal.returns-clause-holders
returns-clause-holders c = λ k. c.swap_content-null.ensures.holders k ∙ c.swap_content-content.ensures.holders k

pub returns-clause-waiting : goal.returns-clause-waiting
returns-clause-waiting c = λ b. c.swap_content-null.ensures.waiting b ∙ c.swap_content-content.ensures.waiting b
