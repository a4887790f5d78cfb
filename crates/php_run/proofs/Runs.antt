-- What a run of the language that runs today comes to.
use Rattle.std.proofs.Common.{◌≡◌, ℕ, ◌≤◌, List, refl, sym, ap, ◌∙◌, subst}
use Rattle.php_base.specs.Streams.{Stream, IsFront}
use Rattle.php_first_run.specs.Running.{Outcome, Ending, completed, overflowed, cut_off}
use Rattle.php_first_run.specs.Walking.{Ends, Breaks, Walks}
use Rattle.php_first_run.specs.declared.walking.Stop.{Stop}
use Rattle.php_first_run.specs.declared.walking.Stop.TheVariants.{Done, Overflow, Cut, SinkFault}
use Rattle.php_run.specs.declared.answer.Answer as program
use Rattle.php_run.specs.Answer.{Answer, write_fault}
use Rattle.php_run.specs.Called.{CanEnd, finished, out_failed}
use Rattle.php_run.specs.Shown.{shown}
use Rattle.php_run.specs.Today.{answer_of, ended, IsAfter}

ended-output : (e : Ending) (ticks : ℕ) (output : List ℕ) → (ended e ticks output).output ≡ output
ended-output completed ticks output = refl
ended-output (overflowed line) ticks output = refl
ended-output cut_off ticks output = refl

ended-ticks : (e : Ending) (ticks : ℕ) (output : List ℕ) → (ended e ticks output).ticks ≡ ticks
ended-ticks completed ticks output = refl
ended-ticks (overflowed line) ticks output = refl
ended-ticks cut_off ticks output = refl

-- the answer that a run is to come to
abbrev pub IsOf : Outcome → Answer → Type 0
IsOf whole answer = answer ≡ answer_of whole

-- a run that came to its end
ran_to_end : (whole : Outcome) (ending : Ending) (ticks : ℕ) (old new : Stream) (a : program.Answer) →
    Ends whole ending ticks old new → ((output : List ℕ) → shown a output ≡ ended ending ticks output) →
    (output : List ℕ) × CanEnd (IsOf whole) old new (shown a output)
ran_to_end whole ending ticks old new a w after =
    (whole.output, finished (after whole.output ∙ ap (λ e. ended e ticks whole.output) (sym w.ended) ∙ ap (λ n. ended whole.ending n whole.output) (sym w.ticks_taken)) w.output)

-- a run whose output failed
broke_off : (whole : Outcome) (ticks : ℕ) (old new : Stream) (a : program.Answer) →
    Breaks whole ticks old new → ((output : List ℕ) → shown a output ≡ write_fault ticks output) →
    (output : List ℕ) × CanEnd (IsOf whole) old new (shown a output)
broke_off whole ticks old new a w after =
    let front = w.output.front in
    let same : a.ticks ≡ ticks = ap (λ (x : Answer). x.ticks) (after front) in
    let P : List ℕ → Type 0 = λ l. IsFront front l in
    let Q : ℕ → Type 0 = λ n. n ≤ (answer_of whole).ticks in
    let R : ℕ → Type 0 = λ n. ticks ≤ n in (
      front,
      out_failed (answer_of whole) refl w.output.fault
          (record {
            front = subst P (sym (ended-output whole.ending whole.ticks whole.output)) w.output.is_front;
            ticks_taken = subst Q (sym same) (subst R (sym (ended-ticks whole.ending whole.ticks whole.output)) w.ticks_taken);
          })
          w.output.grew
          (after front ∙ ap (λ n. write_fault n front) (sym same)),
    )

pub run_ends : (whole : Outcome) (stop : Stop) (ticks : ℕ) (old new : Stream) (a : program.Answer) →
    Walks whole stop ticks old new → IsAfter stop ticks a → (output : List ℕ) × CanEnd (IsOf whole) old new (shown a output)
run_ends whole Done ticks old new a w after = ran_to_end whole completed ticks old new a w after
run_ends whole (Overflow line) ticks old new a w after = ran_to_end whole (overflowed line) ticks old new a w after
run_ends whole Cut ticks old new a w after = ran_to_end whole cut_off ticks old new a w after
run_ends whole SinkFault ticks old new a w after = broke_off whole ticks old new a w after
