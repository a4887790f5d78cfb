-- What the next step is, and how a choice is made.
use Rattle.std.specs.Prelude.{Bool, true, false, cond, List, [], ◌∷◌, Option, Some, None}
use Rattle.php_frames.specs.declared.completion.Completion.{Completion}
use Rattle.php_frames.specs.declared.completion.Completion.TheVariants.{Normal}
use Rattle.php_frames.specs.declared.frame.Way.{Way}
use Rattle.php_frames.specs.declared.frame.Way.TheVariants.{Going, Landed, Ending}
use Rattle.php_memdef.specs.declared.answer.Fallen.{Fallen}
use Rattle.php_memdef.specs.declared.answer.Fallen.TheVariants.{Nothing, Destroy, Frame as FrameOf}
use Rattle.php_memdef.specs.Contents.{Content, Item, Mem, scope_of}
use Rattle.php_memdef.specs.Temporaries.{drop_top}
use Rattle.php_memdef.specs.Releases.{fall}
use Rattle.php_machine.specs.Moves.{Wrong, Proceed, Complete, Make, Yes, No, NoValue, Rules}
use Rattle.php_actions.specs.declared.action.Action.{Action}
use Rattle.php_actions.specs.declared.facts.Facts.{Facts}
use Rattle.php_actions.specs.declared.ending.Ending.{Ending as RunEnding}
use Rattle.php_actions.specs.Data.{Frame, Data, Move, Plan, Truth, with_mem, next_with}
use Rattle.php_actions.specs.Contents.{truth_of}
use Rattle.php_memdef.specs.Operations as op
use Rattle.php_memdef.specs.Deciders.{can}
use Rattle.php_actions.specs.Steps.{operand}
use Rattle.php_actions.specs.Effect.{effect}
use Rattle.php_actions.specs.Frames.{ending, landed, unserved}

-- a release that is finished; destructors and the frames of generators join with classes
abbrev pub released : Mem × Fallen → Data → Move
released (m, Nothing) d = next_with d m
released (m, Destroy h) d = Wrong
released (m, FrameOf b) d = Wrong

abbrev pub planned_by : Way → Completion → Facts → Data → Frame → List Frame → Plan
planned_by Going Normal facts d f fs = Proceed
planned_by Going why facts d f fs = Complete why
planned_by Landed why facts d f fs = Proceed
planned_by Ending why facts d f fs = Make (ending facts d f fs)

-- what has fallen is released first
abbrev pub planned_after : List Item → Facts → Data → Frame → List Frame → Plan
planned_after (i ∷ is) facts d f fs = Make (cond (can (op.fall f.block) d.mem) (released (fall d.mem f.block) d) Wrong)
planned_after [] facts d f fs = planned_by f.way f.pending facts d f fs

abbrev pub planned : Facts → Data → List Frame → Plan
planned facts d [] = Make Wrong
planned facts d (f ∷ fs) = planned_after (scope_of d.mem f.block).falling facts d f fs

unfoldable pub plan : Facts → Data → Plan
plan facts d = planned facts d d.frames

abbrev pub chosen : Bool → Data → Truth
chosen true d = Yes d
chosen false d = No d

abbrev pub truth_by : Option Content → Bool → Frame → Data → Truth
truth_by None can f d = NoValue
truth_by (Some c) false f d = NoValue
truth_by (Some c) true f d = chosen (truth_of c) (with_mem d (drop_top d.mem f.block))

abbrev pub truth_in : Data → List Frame → Truth
truth_in d [] = NoValue
truth_in d (f ∷ fs) = truth_by (operand d.mem f.block 0) (can (op.drop_top f.block) d.mem) f d

-- the value on top is taken as a truth, and falls
unfoldable pub truth : Data → Truth
truth d = truth_in d d.frames

-- the rules of a script with these facts
abbrev pub rules : Facts → Rules Action Data Completion RunEnding
rules facts = record { effect = effect facts; plan = plan facts; truth = truth; landed = landed; unserved = unserved facts }
