-- The control of code: a place is the number of an instruction in a function.
use Rattle.std.specs.Prelude.{ℕ, ◌+◌, ◌-◌, nat_le, cond, List, [], Option, Some, None, slice_get}
use Rattle.php_frames.specs.declared.completion.Completion.{Completion}
use Rattle.php_frames.specs.declared.ranges.HandlerRange.{HandlerRange}
use Rattle.php_frames.specs.Served.{handler_of}
use Rattle.php_actions.specs.declared.action.Action.{Action}
use Rattle.php_actions.specs.declared.action.Action.TheVariants.{Call, Jump}
use Rattle.php_actions.specs.declared.calls.CallAction.TheVariants.{EndBody}
use Rattle.php_actions.specs.declared.jumps.JumpAction.TheVariants.{Tick}
use Rattle.php_machine.specs.Control.{Fetch, Silent, Act, Branch, Control}
use Rattle.php_layers.specs.Layers.{Layer, layered}
use Rattle.php_code.specs.declared.instr.Instr.{Instr}
use Rattle.php_code.specs.declared.instr.Instr.TheVariants.{Do, Unless, Go, TickBack}
use Rattle.php_code.specs.declared.program.Function.{Function}
use Rattle.php_code.specs.declared.program.Program.{Program}

pub record Place : Type 0 where
  pub function : ℕ
  pub at : ℕ

abbrev pub place : ℕ → ℕ → Place
place f p = record { function = f; at = p }

-- what the instruction at p does, and where it goes on
abbrev pub decoded : ℕ → ℕ → Option Instr → Option (Fetch Action Place)
decoded f p None = None
decoded f p (Some (Do a)) = Some (Act a (place f (p + 1)))
decoded f p (Some (Unless n)) = Some (Branch (place f (p + 1)) (place f (p + 1 + n)))
decoded f p (Some (Go n)) = Some (Silent (place f (p + 1 + n)))
decoded f p (Some (TickBack line n)) = Some (Act (Jump (Tick line)) (place f (p - n)))

-- a function that isn't there has no code
abbrev pub code_in : Option Function → List Instr
code_in None = []
code_in (Some g) = g.code

abbrev pub ranges_in : Option Function → List HandlerRange
ranges_in None = []
ranges_in (Some g) = g.ranges

-- a range that would lead back isn't taken, so that any code ends
abbrev pub target_of : ℕ → Option HandlerRange → Option Place
target_of f None = None
target_of f (Some r) = cond (nat_le r.to r.target) (Some (place f r.target)) None

abbrev pub range_at : List HandlerRange → Option ℕ → Option HandlerRange
range_at ranges None = None
range_at ranges (Some n) = slice_get ranges n

abbrev pub served_at : List HandlerRange → ℕ → ℕ → Completion → Option Place
served_at ranges f p why = target_of f (range_at ranges (handler_of ranges p why))

abbrev pub fetched_at : List Instr → ℕ → ℕ → Option (Fetch Action Place)
fetched_at code f p = decoded f p (slice_get code p)

-- places in these functions
abbrev pub code_layer : List Function → Layer Action Completion Place
code_layer functions = record {
  start = λ f. place f 0;
  fetch = λ c. fetched_at (code_in (slice_get functions c.function)) c.function c.at;
  serve = λ why c. served_at (ranges_in (slice_get functions c.function)) c.function c.at why;
}

-- the control of a program
abbrev pub code : Program → Control Action Completion (List Place)
code program = layered (Call EndBody) (code_layer program.functions)
