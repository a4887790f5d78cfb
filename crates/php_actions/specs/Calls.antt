-- Actions that begin and end frames.
use Rattle.std.specs.Prelude.{Bool, true, false, List}
use Rattle.php_value.specs.declared.scalar.Scalar.TheVariants as scalar
use Rattle.php_frames.specs.declared.completion.Completion.{Completion}
use Rattle.php_frames.specs.declared.completion.Completion.TheVariants.{Return}
use Rattle.php_frames.specs.declared.frame.Way.TheVariants.{Going}
use Rattle.php_machine.specs.Moves.{Next, Wrong}
use Rattle.php_actions.specs.declared.calls.CallAction.{CallAction}
use Rattle.php_actions.specs.declared.calls.CallAction.TheVariants.{EndBody}
use Rattle.php_actions.specs.Data.{Frame, Data, Move, with_mem, with_newest}
use Rattle.php_actions.specs.Steps.{pushed}

-- a completion is under way, whose value is on top
abbrev pub completes : Completion → Frame → List Frame → Data → Move
completes why f fs d = Next (with_newest d (record f { pending = why; way = Going }) fs)

-- at the end of a body null is returned; a result that is declared would have to fit first, which joins with
-- the declared types
abbrev pub effect_call : CallAction → Bool → Frame → List Frame → Data → Move
effect_call EndBody true f fs d = Wrong
effect_call EndBody false f fs d = pushed f.block scalar.Null d.mem (λ m. completes Return f fs (with_mem d m))
