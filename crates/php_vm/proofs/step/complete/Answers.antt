use Rattle.std.proofs.Common.{refl, subst}
use Rattle.php_machine.specs.Moves.{Complete}
use Rattle.php_actions.specs.Frames.{unserved}
use Rattle.php_vm.specs.Stepping.{IsPlanned}
use Rattle.php_vm.proofs.RunLemmas.{steps_by, may_move, place_of, StepIs}
use Rattle.php_vm.proofs.LiftLemmas.{if_goes_all}
use Rattle.php_vm.proofs.StepLemmas.{at_place}
use Rattle.php_vm.proofs.EndingLemmas.{step_unserves, stays_unserved, lands}
use Rattle.php_vm.proofs.step.complete.Goals as goal

pub returns-in-Some-clause-steps : goal.returns-in-Some-clause-steps
returns-in-Some-clause-steps g c written = lands c.args.program.now c.args.state.now _ c.args.why c.in-Some.at c.in-Some.ensures (refl, (refl, refl)) (g.M.Memory.means c.args.memory.now) written

pub unserve-requires : goal.unserve-requires
unserve-requires g c = may_move c.args.program.now (IsPlanned c.args.program.now.facts (Complete c.args.why)) (g.M.Memory.means c.args.memory.now) c.args.state.now (unserved c.args.program.now.facts) (λ d k. step_unserves c.args.program.now c.args.state.now c.args.state.now c.args.why c.in-None.ensures d k.1) c.requires

pub returns-in-None-clause-steps : goal.returns-in-None-clause-steps
returns-in-None-clause-steps g c written =
    steps_by c.args.program.now (IsPlanned c.args.program.now.facts (Complete c.args.why)) (g.M.Memory.means c.args.memory.now) (g.M.Memory.means c.unserve.new.memory) written written c.args.state.now c.unserve.new.state c.unserve.result (unserved c.args.program.now.facts)
    (λ d k. step_unserves c.args.program.now c.args.state.now c.args.state.now c.args.why c.in-None.ensures d k.1)
    (λ d k. if_goes_all c.unserve.result (subst (λ n. StepIs c.args.program.now d (place_of c.args.program.now c.args.state.now) n (unserved c.args.program.now.facts d)) (at_place c.args.program.now c.args.state.now c.unserve.new.state c.args.state.now.frame.at c.unserve.ensures.place) (stays_unserved c.args.program.now c.args.state.now c.args.state.now c.args.why c.in-None.ensures d k.1)))
    (c.unserve.ensures.moves written)

pub returns-in-Some-clause-faults : goal.returns-in-Some-clause-faults
returns-in-Some-clause-faults g c n = refl

pub returns-in-None-clause-faults : goal.returns-in-None-clause-faults
returns-in-None-clause-faults g c n = c.unserve.ensures.faults n
