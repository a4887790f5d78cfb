use Rattle.php_machine.specs.Ends.{HasFrames, total_weight}
use Rattle.php_machine.proofs.EndLemmas.{runs_end_lem}
use Rattle.php_machine.proofs.FrameWeightLemmas.{falls_lem}
use Rattle.php_machine.proofs.laws.runs_end_by_frames.Goals as goal

pub returns : goal.returns
returns g c =
    let l = g.L.FallingByFrames in
    runs_end_lem l.rules l.control (HasFrames l.depth) (total_weight l.weigh_data l.weigh l.weigh_kept)
    (falls_lem l.rules l.control l.depth l.weigh_data l.weigh l.weigh_kept l.falls)
