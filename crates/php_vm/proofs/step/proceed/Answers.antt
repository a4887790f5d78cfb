use Rattle.std.proofs.Common.{◌+◌, ◌-◌, [], ◌∷◌, Some, None, refl, subst}
use Rattle.php_machine.specs.Moves.{Proceed}
use Rattle.php_actions.specs.declared.action.Action.TheVariants.{Call, Jump}
use Rattle.php_actions.specs.declared.calls.CallAction.TheVariants.{EndBody}
use Rattle.php_actions.specs.declared.jumps.JumpAction.TheVariants.{Tick}
use Rattle.php_actions.specs.Effect.{effect}
use Rattle.php_code.specs.Code.{place}
use Rattle.php_code.specs.declared.instr.Instr.TheVariants.{Do, TickBack}
use Rattle.php_vm.specs.Stepping.{IsPlanned, Ticks, body_ended}
use Rattle.php_vm.proofs.RunLemmas.{steps_by, may_move, place_of, StepIs}
use Rattle.php_vm.proofs.LiftLemmas.{if_goes_all}
use Rattle.php_vm.proofs.StepLemmas.{instr_there, may_as, moves_as, body_is, if_goes, at_place, step_does, ticks, tick_place, passes, may_choose, chosen_steps, choice_faults}
use Rattle.php_vm.proofs.step.proceed.Goals as goal

pub end_body-requires : goal.end_body-requires
end_body-requires g c =
    may_as (g.M.Memory.means c.args.memory.now) c.args.state.now (effect c.args.program.now.facts (Call EndBody)) body_ended (λ d e h. body_is c.args.program.now.facts d h)
    (may_move c.args.program.now (IsPlanned c.args.program.now.facts Proceed) (g.M.Memory.means c.args.memory.now) c.args.state.now (effect c.args.program.now.facts (Call EndBody)) (λ d k. (place_of c.args.program.now c.args.state.now, step_does c.args.program.now c.args.state.now None (Call EndBody) (place_of c.args.program.now c.args.state.now) c.in-None.ensures refl d k)) c.requires)

pub returns-in-None-clause-steps : goal.returns-in-None-clause-steps
returns-in-None-clause-steps g c =
    steps_by c.args.program.now (IsPlanned c.args.program.now.facts Proceed) (g.M.Memory.means c.args.memory.now) (g.M.Memory.means c.end_body.new.memory) _ _ c.args.state.now c.end_body.new.state c.end_body.result (effect c.args.program.now.facts (Call EndBody))
    (λ d k. (place_of c.args.program.now c.args.state.now, step_does c.args.program.now c.args.state.now None (Call EndBody) (place_of c.args.program.now c.args.state.now) c.in-None.ensures refl d k))
    (λ d k. if_goes_all c.end_body.result (subst (λ n. StepIs c.args.program.now d (place_of c.args.program.now c.args.state.now) n (effect c.args.program.now.facts (Call EndBody) d)) (at_place c.args.program.now c.args.state.now c.end_body.new.state c.args.state.now.frame.at c.end_body.ensures.place)
    (step_does c.args.program.now c.args.state.now None (Call EndBody) (place_of c.args.program.now c.args.state.now) c.in-None.ensures refl d k)))
    (moves_as (g.M.Memory.means c.args.memory.now) (g.M.Memory.means c.end_body.new.memory) _ _ c.args.state.now c.end_body.new.state c.end_body.result (effect c.args.program.now.facts (Call EndBody)) body_ended (λ d e h. body_is c.args.program.now.facts d h) (c.end_body.ensures.moves _))

pub do_action-requires : goal.do_action-requires
do_action-requires g c =
    may_move c.args.program.now (IsPlanned c.args.program.now.facts Proceed) (g.M.Memory.means c.args.memory.now) c.args.state.now (effect c.args.program.now.facts c.in-Some-Do.action)
    (λ d k. (place c.args.state.now.frame.function (c.args.state.now.frame.at + 1) ∷ [], step_does c.args.program.now c.args.state.now (Some (Do c.in-Some-Do.action)) c.in-Some-Do.action _ (instr_there c.in-Some-Do.field-0-is c.in-Some-Do.ensures) refl d k)) c.requires

pub returns-in-Some-Do-clause-steps : goal.returns-in-Some-Do-clause-steps
returns-in-Some-Do-clause-steps g c =
    let i = instr_there c.in-Some-Do.field-0-is c.in-Some-Do.ensures in
    let next = place c.args.state.now.frame.function (c.args.state.now.frame.at + 1) ∷ [] in
    steps_by c.args.program.now (IsPlanned c.args.program.now.facts Proceed) (g.M.Memory.means c.args.memory.now) (g.M.Memory.means c.do_action.new.memory) _ _ c.args.state.now c.do_action.new.state c.do_action.result (effect c.args.program.now.facts c.in-Some-Do.action)
    (λ d k. (next, step_does c.args.program.now c.args.state.now (Some (Do c.in-Some-Do.action)) c.in-Some-Do.action next i refl d k))
    (λ d k. if_goes c.do_action.result c.do_action.ensures.place (λ at. subst (λ n. StepIs c.args.program.now d (place_of c.args.program.now c.args.state.now) n (effect c.args.program.now.facts c.in-Some-Do.action d)) (at_place c.args.program.now c.args.state.now c.do_action.new.state (c.args.state.now.frame.at + 1) at)
    (step_does c.args.program.now c.args.state.now (Some (Do c.in-Some-Do.action)) c.in-Some-Do.action next i refl d k)))
    c.do_action.ensures.moves

pub branch-alloc-requires : goal.branch-alloc-requires
branch-alloc-requires g c = may_choose c.args.program.now (g.M.Memory.means c.args.memory.now) (g.M.Memory.means c.args.memory.now) c.args.state.now c.args.state.now c.in-Some-Unless.by (instr_there c.in-Some-Unless.field-0-is c.in-Some-Unless.ensures) c.requires

pub returns-in-Some-Unless-clause-steps : goal.returns-in-Some-Unless-clause-steps
returns-in-Some-Unless-clause-steps g c =
    chosen_steps c.args.program.now (g.M.Memory.means c.args.memory.now) (g.M.Memory.means c.branch-alloc.new.memory) c.args.state.now c.branch-alloc.new.state c.in-Some-Unless.by (instr_there c.in-Some-Unless.field-0-is c.in-Some-Unless.ensures) _ c.branch-alloc.result c.branch-alloc.ensures

pub returns-in-Some-Go-clause-steps : goal.returns-in-Some-Go-clause-steps
returns-in-Some-Go-clause-steps g c =
    passes c.args.program.now c.args.state.now c.go.new.state (c.args.state.now.frame.at + 1 + c.in-Some-Go.by) c.in-Some-Go.by (instr_there c.in-Some-Go.field-0-is c.in-Some-Go.ensures) refl (g.M.Memory.means c.args.memory.now) _ c.go.result c.go.ensures

pub returns-in-Some-TickBack-clause-steps : goal.returns-in-Some-TickBack-clause-steps
returns-in-Some-TickBack-clause-steps g c =
    let back = subst (λ m. Ticks c.args.state.now c.tick.new.state c.in-Some-TickBack.line m c.tick.result) c.place_before-at.ensures c.tick.ensures in
    let i = instr_there c.in-Some-TickBack.field-0-is c.in-Some-TickBack.ensures in
    let at = c.args.state.now.frame.at - c.in-Some-TickBack.by in
    let next = place c.args.state.now.frame.function at ∷ [] in
    let a = Jump (Tick c.in-Some-TickBack.line) in
    steps_by c.args.program.now (IsPlanned c.args.program.now.facts Proceed) (g.M.Memory.means c.args.memory.now) (g.M.Memory.means c.args.memory.now) _ _ c.args.state.now c.tick.new.state c.tick.result (effect c.args.program.now.facts a)
    (λ d k. (next, step_does c.args.program.now c.args.state.now (Some (TickBack c.in-Some-TickBack.line c.in-Some-TickBack.by)) a next i refl d k))
    (λ d k. if_goes c.tick.result (tick_place c.args.program.now.facts c.args.state.now c.tick.new.state c.in-Some-TickBack.line at c.tick.result back) (λ there. subst (λ n. StepIs c.args.program.now d (place_of c.args.program.now c.args.state.now) n (effect c.args.program.now.facts a d)) (at_place c.args.program.now c.args.state.now c.tick.new.state at there)
    (step_does c.args.program.now c.args.state.now (Some (TickBack c.in-Some-TickBack.line c.in-Some-TickBack.by)) a next i refl d k)))
    (ticks c.args.program.now.facts c.args.state.now c.tick.new.state c.in-Some-TickBack.line at (g.M.Memory.means c.args.memory.now) _ c.tick.result back)

pub returns-in-Some-Unless-clause-faults : goal.returns-in-Some-Unless-clause-faults
returns-in-Some-Unless-clause-faults g c =
    choice_faults (g.M.Memory.means c.args.memory.now) (g.M.Memory.means c.branch-alloc.new.memory) c.args.state.now c.branch-alloc.new.state c.in-Some-Unless.by c.branch-alloc.result _
    (may_choose c.args.program.now (g.M.Memory.means c.args.memory.now) (g.M.Memory.means c.args.memory.now) c.args.state.now c.args.state.now c.in-Some-Unless.by (instr_there c.in-Some-Unless.field-0-is c.in-Some-Unless.ensures) c.requires) c.branch-alloc.ensures
