use Rattle.std.proofs.Common.{refl, subst, arith}
use Rattle.php_actions.specs.declared.action.Action.TheVariants.{Stack, Operator, Output, Name}
use Rattle.php_actions.specs.Places.{effect_place}
use Rattle.php_actions.specs.Effect.{effect}
use Rattle.php_vm_actions.specs.Acting.{frame_of}
use Rattle.php_vm.specs.Running.{IfGoes}
use Rattle.php_vm.specs.Stepping.{IsAt, body_ended}
use Rattle.php_vm.proofs.LiftLemmas.{can_act, acts_move, acts_move_writing, if_goes_all, act_faults, part_is, place_is}
use Rattle.php_vm.proofs.StepLemmas.{may_as, moves_as, body_of_action, jumps, jump_place, jump_faults}
use Rattle.php_vm.proofs.step.do_action.Goals as goal

pub do_stack-did-requires : goal.do_stack-did-requires
do_stack-did-requires g c = can_act (g.M.Memory.means c.args.memory.now) c.args.state.now (effect c.args.program.now.facts c.args.action.now) _ (part_is c.args.program.now.facts c.args.state.now c.args.action.now (Stack c.in-Stack.a) c.in-Stack.is) c.requires

pub returns-in-Stack-clause-moves : goal.returns-in-Stack-clause-moves
returns-in-Stack-clause-moves g c =
    acts_move (g.M.Memory.means c.args.memory.now) (g.M.Memory.means c.do_stack-did.new.memory) c.args.state.now _ (effect c.args.program.now.facts c.args.action.now) _ (part_is c.args.program.now.facts c.args.state.now c.args.action.now (Stack c.in-Stack.a) c.in-Stack.is) refl refl refl _ c.do_stack-did.result c.do_stack-did.ensures

pub returns-in-Stack-clause-place : goal.returns-in-Stack-clause-place
returns-in-Stack-clause-place g c = if_goes_all c.do_stack-did.result (refl, (let e = c.in-Some.ensures in omega (arith, e)))

pub returns-in-Stack-clause-faults : goal.returns-in-Stack-clause-faults
returns-in-Stack-clause-faults g c =
    act_faults (g.M.Memory.means c.args.memory.now) (g.M.Memory.means c.do_stack-did.new.memory) c.args.state.now.frame.block.0 c.do_stack-did.result _
    (can_act (g.M.Memory.means c.args.memory.now) c.args.state.now (effect c.args.program.now.facts c.args.action.now) _ (part_is c.args.program.now.facts c.args.state.now c.args.action.now (Stack c.in-Stack.a) c.in-Stack.is) c.requires) c.do_stack-did.ensures _

pub do_place-did-requires : goal.do_place-did-requires
do_place-did-requires g c = can_act (g.M.Memory.means c.args.memory.now) c.args.state.now (effect c.args.program.now.facts c.args.action.now) (effect_place c.in-Place.a c.has_this-this.result (frame_of c.args.state.now.frame)) (place_is c.args.program.now.facts c.args.state.now c.args.action.now c.in-Place.a c.has_this-this.result c.has_this-this.ensures c.in-Place.is) c.requires

pub returns-in-Place-clause-moves : goal.returns-in-Place-clause-moves
returns-in-Place-clause-moves g c =
    acts_move (g.M.Memory.means c.args.memory.now) (g.M.Memory.means c.do_place-did.new.memory) c.args.state.now _ (effect c.args.program.now.facts c.args.action.now) (effect_place c.in-Place.a c.has_this-this.result (frame_of c.args.state.now.frame)) (place_is c.args.program.now.facts c.args.state.now c.args.action.now c.in-Place.a c.has_this-this.result c.has_this-this.ensures c.in-Place.is) refl refl refl _ c.do_place-did.result c.do_place-did.ensures

pub returns-in-Place-clause-place : goal.returns-in-Place-clause-place
returns-in-Place-clause-place g c = if_goes_all c.do_place-did.result (refl, (let e = c.in-Some.ensures in omega (arith, e)))

pub returns-in-Place-clause-faults : goal.returns-in-Place-clause-faults
returns-in-Place-clause-faults g c =
    act_faults (g.M.Memory.means c.args.memory.now) (g.M.Memory.means c.do_place-did.new.memory) c.args.state.now.frame.block.0 c.do_place-did.result (effect_place c.in-Place.a c.has_this-this.result (frame_of c.args.state.now.frame))
    (can_act (g.M.Memory.means c.args.memory.now) c.args.state.now (effect c.args.program.now.facts c.args.action.now) (effect_place c.in-Place.a c.has_this-this.result (frame_of c.args.state.now.frame)) (place_is c.args.program.now.facts c.args.state.now c.args.action.now c.in-Place.a c.has_this-this.result c.has_this-this.ensures c.in-Place.is) c.requires) c.do_place-did.ensures _

pub do_operator-did-requires : goal.do_operator-did-requires
do_operator-did-requires g c = can_act (g.M.Memory.means c.args.memory.now) c.args.state.now (effect c.args.program.now.facts c.args.action.now) _ (part_is c.args.program.now.facts c.args.state.now c.args.action.now (Operator c.in-Operator.a) c.in-Operator.is) c.requires

pub returns-in-Operator-clause-moves : goal.returns-in-Operator-clause-moves
returns-in-Operator-clause-moves g c =
    acts_move (g.M.Memory.means c.args.memory.now) (g.M.Memory.means c.do_operator-did.new.memory) c.args.state.now _ (effect c.args.program.now.facts c.args.action.now) _ (part_is c.args.program.now.facts c.args.state.now c.args.action.now (Operator c.in-Operator.a) c.in-Operator.is) refl refl refl _ c.do_operator-did.result c.do_operator-did.ensures

pub returns-in-Operator-clause-place : goal.returns-in-Operator-clause-place
returns-in-Operator-clause-place g c = if_goes_all c.do_operator-did.result (refl, (let e = c.in-Some.ensures in omega (arith, e)))

pub returns-in-Operator-clause-faults : goal.returns-in-Operator-clause-faults
returns-in-Operator-clause-faults g c =
    act_faults (g.M.Memory.means c.args.memory.now) (g.M.Memory.means c.do_operator-did.new.memory) c.args.state.now.frame.block.0 c.do_operator-did.result _
    (can_act (g.M.Memory.means c.args.memory.now) c.args.state.now (effect c.args.program.now.facts c.args.action.now) _ (part_is c.args.program.now.facts c.args.state.now c.args.action.now (Operator c.in-Operator.a) c.in-Operator.is) c.requires) c.do_operator-did.ensures _

pub do_output-did-requires : goal.do_output-did-requires
do_output-did-requires g c = can_act (g.M.Memory.means c.args.memory.now) c.args.state.now (effect c.args.program.now.facts c.args.action.now) _ (part_is c.args.program.now.facts c.args.state.now c.args.action.now (Output c.in-Output.a) c.in-Output.is) c.requires

pub returns-in-Output-clause-moves : goal.returns-in-Output-clause-moves
returns-in-Output-clause-moves g c =
    acts_move_writing (g.M.Memory.means c.args.memory.now) (g.M.Memory.means c.do_output-did.new.memory) c.args.state.now _ (effect c.args.program.now.facts c.args.action.now) _ (part_is c.args.program.now.facts c.args.state.now c.args.action.now (Output c.in-Output.a) c.in-Output.is) refl refl refl _ _ c.do_output-did.result c.do_output-did.ensures.done

pub returns-in-Output-clause-place : goal.returns-in-Output-clause-place
returns-in-Output-clause-place g c = if_goes_all c.do_output-did.result (refl, (let e = c.in-Some.ensures in omega (arith, e)))

pub returns-in-Name-clause-moves : goal.returns-in-Name-clause-moves
returns-in-Name-clause-moves g c =
    acts_move (g.M.Memory.means c.args.memory.now) (g.M.Memory.means c.args.memory.now) c.args.state.now _ (effect c.args.program.now.facts c.args.action.now) _ (part_is c.args.program.now.facts c.args.state.now c.args.action.now (Name c.in-Name.a) c.in-Name.is) refl refl refl _ c.do_name-did.result (c.do_name-did.ensures c.args.program.now.facts.statics)

pub returns-in-Name-clause-place : goal.returns-in-Name-clause-place
returns-in-Name-clause-place g c = if_goes_all c.do_name-did.result (refl, (let e = c.in-Some.ensures in omega (arith, e)))

pub returns-in-Name-clause-faults : goal.returns-in-Name-clause-faults
returns-in-Name-clause-faults g c =
    act_faults (g.M.Memory.means c.args.memory.now) (g.M.Memory.means c.args.memory.now) c.args.state.now.frame.block.0 c.do_name-did.result _
    (can_act (g.M.Memory.means c.args.memory.now) c.args.state.now (effect c.args.program.now.facts c.args.action.now) _ (part_is c.args.program.now.facts c.args.state.now c.args.action.now (Name c.in-Name.a) c.in-Name.is) c.requires) (c.do_name-did.ensures c.args.program.now.facts.statics) _

pub end_body-requires : goal.end_body-requires
end_body-requires g c =
    may_as (g.M.Memory.means c.args.memory.now) c.args.state.now (effect c.args.program.now.facts c.args.action.now) body_ended (λ d e h. body_of_action c.args.program.now.facts c.args.action.now c.in-Call-EndBody.field-0 c.in-Call-EndBody.is d h) c.requires

pub returns-in-Call-EndBody-clause-moves : goal.returns-in-Call-EndBody-clause-moves
returns-in-Call-EndBody-clause-moves g c =
    moves_as (g.M.Memory.means c.args.memory.now) (g.M.Memory.means c.end_body.new.memory) _ _ c.args.state.now _ c.end_body.result (effect c.args.program.now.facts c.args.action.now) body_ended (λ d e h. body_of_action c.args.program.now.facts c.args.action.now c.in-Call-EndBody.field-0 c.in-Call-EndBody.is d h) (c.end_body.ensures.moves _)

pub returns-in-Jump-clause-moves : goal.returns-in-Jump-clause-moves
returns-in-Jump-clause-moves g c = jumps c.args.program.now.facts c.args.state.now _ c.args.action.now c.in-Some.next c.in-Jump.a c.in-Jump.is (g.M.Memory.means c.args.memory.now) _ c.jump.result c.jump.ensures

pub returns-in-Jump-clause-place : goal.returns-in-Jump-clause-place
returns-in-Jump-clause-place g c = subst (λ n. IfGoes c.jump.result (IsAt c.args.state.now c.jump.new.state n)) (let e = c.in-Some.ensures in omega (arith, e)) (jump_place c.args.program.now.facts c.args.state.now c.jump.new.state c.args.action.now c.in-Some.next c.in-Jump.a c.jump.result c.jump.ensures)

pub returns-in-Jump-clause-faults : goal.returns-in-Jump-clause-faults
returns-in-Jump-clause-faults g c = jump_faults c.args.program.now.facts c.args.state.now c.jump.new.state c.args.action.now c.in-Some.next c.in-Jump.a c.jump.result _ c.jump.ensures
