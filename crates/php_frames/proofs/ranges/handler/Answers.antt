use Rattle.std.proofs.Common.{ap, ◌∙◌, subst}
use Rattle.php_frames.specs.Served.{AreNested, handler_of}
use Rattle.php_frames.proofs.ServedLemmas.{handler_of-nearest}
use Rattle.php_frames.proofs.ranges.handler.Goals as goal

pub returns-clause-nearest : goal.returns-clause-nearest
returns-clause-nearest c =
    handler_of-nearest c.args.ranges.now c.args.at c.args.why c.first_serving.result
    (subst AreNested c.ranges-2.view_is c.ranges-2.invariant)
    (c.first_serving.ensures ∙ ap (λ rs. handler_of rs c.args.at c.args.why) (c.deref.ensures.value ∙ c.ranges-2.view_is))
