use Rattle.std.proofs.Common.{refl}
use Rattle.php_machine.specs.Moves.{Proceed, Complete}
use Rattle.php_vm_actions.specs.Acting.{frame_of}
use Rattle.php_vm.specs.Stepping.{IsQuiet, IsPlanned, frame_ended}
use Rattle.php_vm.proofs.RunLemmas.{steps_by, may_move, place_of, step_makes}
use Rattle.php_vm.proofs.LiftLemmas.{if_goes_all}
use Rattle.php_vm.proofs.StepLemmas.{plan_landed, plan_normal, plan_complete, plan_ending, steps_from, can_step_from}
use Rattle.php_vm.proofs.step.step_on.Goals as goal

pub proceed-requires : goal.proceed-requires
proceed-requires g c = can_step_from c.args.program.now (IsQuiet c.args.state.now) (IsPlanned c.args.program.now.facts Proceed) (g.M.Memory.means c.args.memory.now) c.args.state.now (λ d k. plan_landed c.args.program.now.facts c.args.state.now d k.0 k.1 c.in-Landed.is) c.requires

pub returns-in-Landed-clause-steps : goal.returns-in-Landed-clause-steps
returns-in-Landed-clause-steps g c = steps_from c.args.program.now (IsQuiet c.args.state.now) (IsPlanned c.args.program.now.facts Proceed) (g.M.Memory.means c.args.memory.now) (g.M.Memory.means c.proceed.new.memory) _ _ c.args.state.now c.proceed.new.state c.proceed.result (λ d k. plan_landed c.args.program.now.facts c.args.state.now d k.0 k.1 c.in-Landed.is) c.proceed.ensures.steps

pub proceed-requires-in-Normal : goal.proceed-requires-in-Normal
proceed-requires-in-Normal g c = can_step_from c.args.program.now (IsQuiet c.args.state.now) (IsPlanned c.args.program.now.facts Proceed) (g.M.Memory.means c.args.memory.now) c.args.state.now (λ d k. plan_normal c.args.program.now.facts c.args.state.now d k.0 k.1 c.in-Going.is c.in-Normal.is) c.requires

pub returns-in-Normal-clause-steps : goal.returns-in-Normal-clause-steps
returns-in-Normal-clause-steps g c = steps_from c.args.program.now (IsQuiet c.args.state.now) (IsPlanned c.args.program.now.facts Proceed) (g.M.Memory.means c.args.memory.now) (g.M.Memory.means c.proceed-in-Normal.new.memory) _ _ c.args.state.now c.proceed-in-Normal.new.state c.proceed-in-Normal.result (λ d k. plan_normal c.args.program.now.facts c.args.state.now d k.0 k.1 c.in-Going.is c.in-Normal.is) c.proceed-in-Normal.ensures.steps

pub complete-requires : goal.complete-requires
complete-requires g c = can_step_from c.args.program.now (IsQuiet c.args.state.now) (IsPlanned c.args.program.now.facts (Complete c.args.state.now.frame.pending)) (g.M.Memory.means c.args.memory.now) c.args.state.now (λ d k. plan_complete c.args.program.now.facts c.args.state.now d k.0 k.1 c.in-Going.is c.in_default.not-Normal) c.requires

pub returns-in_default-clause-steps : goal.returns-in_default-clause-steps
returns-in_default-clause-steps g c = steps_from c.args.program.now (IsQuiet c.args.state.now) (IsPlanned c.args.program.now.facts (Complete c.args.state.now.frame.pending)) (g.M.Memory.means c.args.memory.now) (g.M.Memory.means c.complete.new.memory) _ _ c.args.state.now c.complete.new.state c.complete.result (λ d k. plan_complete c.args.program.now.facts c.args.state.now d k.0 k.1 c.in-Going.is c.in_default.not-Normal) (c.complete.ensures.steps _)

pub end_frame-requires : goal.end_frame-requires
end_frame-requires g c =
    may_move c.args.program.now (IsQuiet c.args.state.now) (g.M.Memory.means c.args.memory.now) c.args.state.now (frame_ended c.args.program.now.facts (frame_of c.args.state.now.frame))
    (λ d k. (place_of c.args.program.now c.args.state.now, step_makes c.args.program.now d (place_of c.args.program.now c.args.state.now) (place_of c.args.program.now c.args.state.now) (frame_ended c.args.program.now.facts (frame_of c.args.state.now.frame) d) (plan_ending c.args.program.now.facts c.args.state.now d k.0 k.1 c.in-Ending.is) refl)) c.requires

pub returns-in-Ending-clause-steps : goal.returns-in-Ending-clause-steps
returns-in-Ending-clause-steps g c =
    steps_by c.args.program.now (IsQuiet c.args.state.now) (g.M.Memory.means c.args.memory.now) (g.M.Memory.means c.end_frame.new.memory) _ _ c.args.state.now c.args.state.now c.end_frame.result (frame_ended c.args.program.now.facts (frame_of c.args.state.now.frame))
    (λ d k. (place_of c.args.program.now c.args.state.now, step_makes c.args.program.now d (place_of c.args.program.now c.args.state.now) (place_of c.args.program.now c.args.state.now) (frame_ended c.args.program.now.facts (frame_of c.args.state.now.frame) d) (plan_ending c.args.program.now.facts c.args.state.now d k.0 k.1 c.in-Ending.is) refl))
    (λ d k. if_goes_all c.end_frame.result (step_makes c.args.program.now d (place_of c.args.program.now c.args.state.now) (place_of c.args.program.now c.args.state.now) (frame_ended c.args.program.now.facts (frame_of c.args.state.now.frame) d) (plan_ending c.args.program.now.facts c.args.state.now d k.0 k.1 c.in-Ending.is) refl))
    (c.end_frame.ensures.moves _)

pub returns-in-Ending-clause-faults : goal.returns-in-Ending-clause-faults
returns-in-Ending-clause-faults g c = c.end_frame.ensures.faults _

pub returns-in_default-clause-faults : goal.returns-in_default-clause-faults
returns-in_default-clause-faults g c = c.complete.ensures.faults _
