use Rattle.std.proofs.Common.{◌∙◌, ap}
use Rattle.php_legality.specs.Rows.{is_bad_level, leaves_finally, loops_in_finally}
use Rattle.php_jumps.specs.Met.{met_jump}
use Rattle.php_jumps.proofs.CountLemmas.{two_faults}
use Rattle.php_jumps.proofs.level.at_jump.Goals as goal

pub returns : goal.returns
unfolding met_jump
returns c = λ around counts.
    two_faults c.args.met c.met_if-first.result c.met_if.result _ _ _ _ _ _ c.met_if-first.ensures c.met_if.ensures
    (c.is_bad_level-is_bad.ensures around counts ∙ ap (λ n. is_bad_level n around) c.level_in-n.ensures.value)
    (c.leaves_finally-is_out.ensures around counts ∙ ap (λ n. leaves_finally n (loops_in_finally around)) c.level_in-n.ensures.value)
