-- Runs of small programs. What they come to is proved by computing.
use Rattle.std.specs.Prelude.{◌≡◌, ℕ, true, false, List, [], ◌∷◌, Option, Some, None, pos, codes}
use Rattle.php_value.specs.declared.scalar.Scalar.{Scalar}
use Rattle.php_value.specs.declared.scalar.Scalar.TheVariants as scalar
use Rattle.php_frames.specs.declared.ranges.HandlerRange.{HandlerRange}
use Rattle.php_frames.specs.declared.ranges.Serves.TheVariants.{Loop}
use Rattle.php_frames.specs.declared.completion.Completion.TheVariants.{Break, Return}
use Rattle.php_machine.specs.Moves.{Outcome, Ended, Stuck, Unnumbered, Unfinished}
use Rattle.php_machine.specs.Machine.{runs}
use Rattle.php_actions.specs.declared.action.Action.TheVariants.{Stack, Output, Jump}
use Rattle.php_actions.specs.declared.stack.StackAction.TheVariants.{Push}
use Rattle.php_actions.specs.declared.output.OutputAction.TheVariants.{Echo, Write}
use Rattle.php_actions.specs.declared.jumps.JumpAction.TheVariants.{Tick}
use Rattle.php_actions.specs.declared.ending.Ending.{Ending}
use Rattle.php_actions.specs.declared.ending.Ending.TheVariants.{Done, Cut}
use Rattle.php_actions.specs.declared.facts.Facts.{Facts}
use Rattle.php_actions.specs.Data.{Data}
use Rattle.php_actions.specs.Plan.{rules}
use Rattle.php_actions.specs.Start.{first}
use Rattle.php_code.specs.declared.instr.Instr.{Instr}
use Rattle.php_code.specs.declared.instr.Instr.TheVariants.{Do, Unless, Go, TickBack}
use Rattle.php_code.specs.declared.program.Program.{Program}
use Rattle.php_code.specs.Code.{place, code, served_at}

abbrev pub script_facts : Facts
script_facts = record {
  functions = record { name = []; line = 1; params = []; required = 0; returns_link = false; result = None; room = 9; has_this = false; is_strict = false; is_prelude = false } ∷ [];
  statics = 0;
}

-- a program whose script's own part has this code
abbrev pub program : List Instr → Program
program is = record { functions = record { code = is; ranges = [] } ∷ []; facts = script_facts }

abbrev pub tick : ℕ → Instr
tick line = Do (Jump (Tick line))

abbrev pub push : Scalar → Instr
push v = Do (Stack (Push v))

-- how a run ends, with what output and after how many ticks
pub record Report : Type 0 where
  pub ending : Ending
  pub out : List ℕ
  pub ticks : ℕ

abbrev pub report_of : Outcome Data Ending → Option Report
report_of (Ended e d) = Some (record { ending = e; out = d.out; ticks = d.taken })
report_of Stuck = None
report_of Unnumbered = None
report_of Unfinished = None

-- of a run that may take so many ticks
abbrev pub report : ℕ → List Instr → Option Report
report allowance is = report_of (runs (rules (program is).facts) (code (program is)) 40 [] (first (program is).facts allowance [] 0))

abbrev pub ends : Ending → List ℕ → ℕ → Option Report
ends e out ticks = Some (record { ending = e; out = out; ticks = ticks })

-- a loop whose places are 1 and 2
abbrev pub loop_to : ℕ → HandlerRange
loop_to target = record { serves = Loop; from = 1; to = 3; target = target }

pub record CodeExamples : Type 0 where
  pub writes : report 9 (tick 1 ∷ Do (Output (Write (codes "a"))) ∷ tick 2 ∷ push (scalar.Int (pos 12)) ∷ Do (Output Echo) ∷ []) ≡ ends (Done 0) (codes "a12") 2
  pub passes_over : report 9 (Go 1 ∷ Do (Output (Write (codes "a"))) ∷ Do (Output (Write (codes "b"))) ∷ []) ≡ ends (Done 0) (codes "b") 0
  pub chooses_first : report 9 (push (scalar.Bool true) ∷ Unless 2 ∷ Do (Output (Write (codes "a"))) ∷ Go 1 ∷ Do (Output (Write (codes "b"))) ∷ []) ≡ ends (Done 0) (codes "a") 0
  pub chooses_second : report 9 (push (scalar.Bool false) ∷ Unless 2 ∷ Do (Output (Write (codes "a"))) ∷ Go 1 ∷ Do (Output (Write (codes "b"))) ∷ []) ≡ ends (Done 0) (codes "b") 0
  pub goes_back_with_a_tick : report 2 (Do (Output (Write (codes "a"))) ∷ TickBack 3 1 ∷ []) ≡ ends Cut (codes "aaa") 2
  pub no_code : report 9 [] ≡ ends (Done 0) [] 0
  pub break_is_served : served_at (loop_to 4 ∷ []) 0 2 (Break 1) ≡ Some (place 0 4)
  pub outside_is_not_served : served_at (loop_to 4 ∷ []) 0 3 (Break 1) ≡ None
  pub return_is_not_served : served_at (loop_to 4 ∷ []) 0 2 Return ≡ None
  pub target_before_its_range_is_not_taken : served_at (loop_to 0 ∷ []) 0 2 (Break 1) ≡ None
