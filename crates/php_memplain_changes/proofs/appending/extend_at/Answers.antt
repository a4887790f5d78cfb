use Rattle.std.proofs.Common.{◌∙◌}
use Rattle.std.proofs.lemmas.Result.{on_ok_weaker, on_err_weaker}
use Rattle.php_memplain_cells.specs.Seen.{content_seen}
use Rattle.php_memplain_places.specs.Spots.{spot_seen}
use Rattle.php_memplain_changes.proofs.TakeLemmas.{still_there}
use Rattle.php_memplain_changes.proofs.AppendLemmas.{longer_seen, kept_seen}
use Rattle.php_memplain_changes.proofs.appending.extend_at.Goals as goal

pub extend_content-answer-requires : goal.extend_content-answer-requires
extend_content-answer-requires c = (c.requires.is_text.0, c.swap_content-content.ensures.before ∙ c.requires.is_text.1)

pub swap_content-null-requires : goal.swap_content-null-requires
swap_content-null-requires c = still_there c.args.cells.now c.swap_content-content.new.cells (spot_seen c.args.spot) c.requires.there c.swap_content-content.ensures.seen

pub returns-clause-longer : goal.returns-clause-longer
returns-clause-longer c =
    on_ok_weaker c.extend_content-answer.result
    (λ grown.
    longer_seen c.args.cells.now c.swap_content-content.new.cells c.swap_content-null.new.cells c.args.block (spot_seen c.args.spot) c.requires.there
    (content_seen c.swap_content-content.result) (content_seen c.extend_content-answer.new.content) c.swap_content-content.ensures.before c.swap_content-content.ensures.seen c.swap_content-null.ensures.seen
    c.requires.below c.bytes_at-behind.result.now c.bytes_at-behind.ensures grown)
    c.extend_content-answer.ensures.longer

pub returns-clause-kept : goal.returns-clause-kept
returns-clause-kept c =
    on_err_weaker c.extend_content-answer.result
    (λ same.
    kept_seen c.args.cells.now c.swap_content-content.new.cells c.swap_content-null.new.cells c.args.block (spot_seen c.args.spot) c.requires.there
    (content_seen c.swap_content-content.result) (content_seen c.extend_content-answer.new.content) c.swap_content-content.ensures.before c.swap_content-content.ensures.seen c.swap_content-null.ensures.seen
    same)
    c.extend_content-answer.ensures.kept

pub returns-clause-holders : goal.returns-clause-holders
returns-clause-holders c = λ k. c.swap_content-null.ensures.holders k ∙ c.swap_content-content.ensures.holders k

pub returns-clause-waiting : goal.returns-clause-waiting
returns-clause-waiting c = λ b. c.swap_content-null.ensures.waiting b ∙ c.swap_content-content.ensures.waiting b
