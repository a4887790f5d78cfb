-- Tasks, and the place in the code that stands for them.
use Rattle.std.specs.Prelude.{◌≡◌, ℕ, zero, suc, ◌+◌, cond, List, [], ◌∷◌, ◌++◌, length, Option, Some, None, slice_get}
use Rattle.php_frames.specs.declared.ranges.HandlerRange.{HandlerRange}
use Rattle.php_frames.specs.Served.{holds_place}
use Rattle.php_actions.specs.declared.action.Action.{Action}
use Rattle.php_machine.specs.Control.{Fetch, Silent}
use Rattle.php_code.specs.declared.instr.Instr.{Instr}
use Rattle.php_code.specs.declared.instr.Instr.TheVariants as instr
use Rattle.php_code.specs.declared.program.Function.{Function}
use Rattle.php_code.specs.Code.{Place, place, decoded, code_in, ranges_in, fetched_at}
use Rattle.php_meaning.specs.Slots.{Names}
use Rattle.php_meaning.specs.Tasks.{Task, Do, Eval, Keys, EvalPieces, EchoItems, Run, Runs, RunItems}
use Rattle.php_meaning.specs.Meaning.{Left}
use Rattle.php_compile.specs.ExpressionCode.{expr_code, pieces_code, keys_code, echo_code}
use Rattle.php_compile.specs.StatementCode.{statement_code, statements_code, items_code}

module _ (ns : Names) where
  abbrev pub task_code : Task → List Instr
  task_code (Do a) = instr.Do a ∷ []
  task_code (Eval e) = expr_code ns e
  task_code (Keys e) = keys_code ns e
  task_code (EvalPieces ps) = pieces_code ns ps
  task_code (EchoItems is) = echo_code ns is
  task_code (Run d s) = statement_code ns d s
  task_code (Runs d ss) = statements_code ns d ss
  task_code (RunItems is) = items_code ns is

  abbrev pub tasks_code : List Task → List Instr
  tasks_code [] = []
  tasks_code (t ∷ ts) = task_code t ++ tasks_code ts

-- the ranges that hold a place
abbrev pub around : ℕ → List HandlerRange → List HandlerRange
around p [] = []
around p (r ∷ rs) = cond (holds_place r p) (r ∷ around p rs) (around p rs)

module _ (functions : List Function) (f : ℕ) where
  abbrev pub fetch_at : ℕ → Option (Fetch Action Place)
  fetch_at p = fetched_at (code_in (slice_get functions f)) f p

  abbrev pub around_at : ℕ → List HandlerRange
  around_at p = around p (ranges_in (slice_get functions f))

  -- these instructions stand at p, each within just these ranges
  abbrev pub Lies : ℕ → List Instr → List HandlerRange → Type 0
  Lies p [] rs = Unit {0}
  Lies p (i ∷ is) rs = (fetch_at p ≡ decoded f p (Some i)) × (around_at p ≡ rs) × Lies (p + 1) is rs

  -- silent steps from p to q
  abbrev pub Jumps : ℕ → ℕ → ℕ → Type 0
  Jumps zero p q = p ≡ q
  Jumps (suc j) p q = (r : ℕ) × (fetch_at p ≡ Some (Silent (place f r))) × Jumps j r q

  -- after jumps, from a place within these ranges
  abbrev pub Via : (ℕ → Type 0) → ℕ → List HandlerRange → Type 0
  Via S p rs = (around_at p ≡ rs) × (j : ℕ) × (q : ℕ) × Jumps j p q × S q

module _ (ns : Names) (functions : List Function) (f : ℕ) where
  -- the tasks stand in the code at p, within these ranges
  abbrev pub Stands : List Task → ℕ → List HandlerRange → Type 0
  Stands [] p rs = (fetch_at functions f p ≡ None) × (around_at functions f p ≡ rs) × (rs ≡ [])
  Stands (t ∷ k) p rs = Lies functions f p (task_code ns t) rs × Via functions f (λ q. Stands k q rs) (p + length (task_code ns t)) rs

  -- they stand behind jumps
  abbrev pub Reach : List Task → ℕ → List HandlerRange → Type 0
  Reach k p rs = Via functions f (λ q. Stands k q rs) p rs

-- what is left of a function, and a place in its code
abbrev pub Meant : Names → List Function → Left → Place → Type 0
Meant ns functions l c = (l.function ≡ c.function) × (rs : List HandlerRange) × Reach ns functions c.function l.tasks c.at rs
