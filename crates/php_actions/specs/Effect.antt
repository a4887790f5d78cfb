-- What each action does.
use Rattle.std.specs.Prelude.{ℕ, zero, suc, Bool, false, is_some, List, [], ◌∷◌, Option, Some, None}
use Rattle.php_actions.specs.declared.facts.Facts.{Facts}
use Rattle.php_actions.specs.declared.facts.FunctionFact.{FunctionFact}
use Rattle.php_actions.specs.declared.action.Action.{Action}
use Rattle.php_actions.specs.declared.action.Action.TheVariants.{Stack, Place, Operator, Output, Name, Call, Jump}
use Rattle.php_actions.specs.Data.{Frame, Data, Move, by_frame}
use Rattle.php_actions.specs.Stack.{effect_stack}
use Rattle.php_actions.specs.Places.{effect_place}
use Rattle.php_actions.specs.Operators.{effect_operator}
use Rattle.php_actions.specs.Output.{effect_output}
use Rattle.php_actions.specs.Names.{effect_name}
use Rattle.php_actions.specs.Calls.{effect_call}
use Rattle.php_actions.specs.Jumps.{effect_jump}

abbrev pub nth_fact : List FunctionFact → ℕ → Option FunctionFact
nth_fact [] n = None
nth_fact (x ∷ xs) zero = Some x
nth_fact (x ∷ xs) (suc n) = nth_fact xs n

abbrev pub fact_of : Facts → Frame → Option FunctionFact
fact_of facts f = nth_fact facts.functions f.function

abbrev pub this_if : Option FunctionFact → Bool
this_if None = false
this_if (Some x) = x.has_this

abbrev pub result_if : Option FunctionFact → Bool
result_if None = false
result_if (Some x) = is_some x.result

abbrev pub effect_in : Facts → Action → Data → Frame → List Frame → Move
effect_in facts (Stack a) d f fs = effect_stack a f d
effect_in facts (Place a) d f fs = effect_place a (this_if (fact_of facts f)) f d
effect_in facts (Operator a) d f fs = effect_operator a f d
effect_in facts (Output a) d f fs = effect_output a f d
effect_in facts (Name a) d f fs = effect_name a facts.statics f d
effect_in facts (Call a) d f fs = effect_call a (result_if (fact_of facts f)) f fs d
effect_in facts (Jump a) d f fs = effect_jump a f fs d

-- an action is done in the newest frame
unfoldable pub effect : Facts → Action → Data → Move
effect facts a d = by_frame d.frames (effect_in facts a d)
