-- What was written so far, and what is left to write.
use Rattle.std.proofs.Common.{◌≡◌, ℕ, ◌≤◌, ◌<◌, List, [], ◌++◌, ◌∷◌, drop, length, Option, sym, ◌∙◌, ap, refl, true, false, Bool, nat_lt, if◌then◌else◌, ◌+◌, map, get_or, arith}
use Rattle.std.proofs.lemmas.List.{append-nil}
use Rattle.php_base.specs.Streams.{Stream}
use Rattle.php_base.proofs.Streams.{Wrote}
use Rattle.php_first_tree.specs.Expression.{part_view, statement_view, command_view}
use Rattle.php_first_tree.specs.declared.Statement.{Statement}
use Rattle.php_first_tree.specs.declared.Part.{Part}
use Rattle.php_first_tree.specs.Expression as meaning
use Rattle.php_first_run.specs.Running.{cut_off, overflowed, Effect, Outcome, part_text, part_written, echoed, step, takes_tick, run, followed_by}
use Rattle.php_first_run.proofs.Lists.{drop_at}
use Rattle.php_first_run.specs.declared.value.Value.{Value}

-- Of a whole effect some bytes are written, and the effect of the rest goes on.
pub record SoFar (whole rest : Effect) (old now : Stream) : Type 0 where
  pub bytes : Wrote whole.bytes rest.bytes old now
  pub overflows : rest.overflows ≡ whole.overflows
  pub values : rest.values ≡ whole.values

-- Of a whole run some output is written, and the run of the rest goes on.
pub record RunSoFar (whole rest : Outcome) (old now : Stream) : Type 0 where
  pub output : Wrote whole.output rest.output old now
  pub ending : rest.ending ≡ whole.ending
  pub ticks : rest.ticks ≡ whole.ticks

-- the parts from a place on
pub echoed-at : (texts : List (List ℕ)) (values : List Value) (parts : List Part) (i : ℕ) (part : Part) (text : Option (List ℕ)) →
    i < length parts → part ≡ get_or parts i part → part_text texts values (part_view part) ≡ text →
    echoed texts values (map part_view (drop i parts)) ≡ part_written values text (echoed texts values (map part_view (drop (i + 1) parts)))
echoed-at texts values parts i part text within is worth =
    ap (λ ps. echoed texts values (map part_view ps)) (drop_at parts i part within is)
    ∙ ap (λ t. part_written values t (echoed texts values (map part_view (drop (i + 1) parts)))) worth

-- the statements from a place on, where the first one wants a tick and one is left
pub run-at : (texts : List (List ℕ)) (allowance ticks : ℕ) (values : List Value) (statements : List Statement) (i : ℕ) (s : Statement) →
    i < length statements → s ≡ get_or statements i s → takes_tick (command_view s.action) ≡ true → nat_lt ticks allowance ≡ true →
    run texts allowance ticks values (map statement_view (drop i statements))
    ≡ followed_by (step texts values (command_view s.action)) s.line (ticks + 1)
    (run texts allowance (ticks + 1) (step texts values (command_view s.action)).values (map statement_view (drop (i + 1) statements)))
run-at texts allowance ticks values statements i s within is takes left =
    let e = step texts values (command_view s.action) in
    let rest = map statement_view (drop (i + 1) statements) in
    let begun = λ (b : Bool). if b then followed_by e s.line (ticks + 1) (run texts allowance (ticks + 1) e.values rest) else record { ending = cut_off; ticks = ticks; output = [] } in
    ap (λ ss. run texts allowance ticks values (map statement_view ss)) (drop_at statements i s within is)
    ∙ ap (λ (b : Bool). if b then begun (nat_lt ticks allowance) else run texts allowance ticks values rest) takes
    ∙ ap begun left

-- what a statement writes is the beginning of what is written from it on
pub followed_by-output : (e : Effect) (line ticks : ℕ) (rest : Outcome) → (more : List ℕ) × ((followed_by e line ticks rest).output ≡ e.bytes ++ more)
followed_by-output e line ticks rest = by_cases e.overflows where
  by_cases : (b : Bool) → (more : List ℕ) × ((if b then record { ending = overflowed line; ticks = ticks; output = e.bytes } else record rest { output = e.bytes ++ rest.output }).output ≡ e.bytes ++ more)
  by_cases true = ([], sym (append-nil e.bytes))
  by_cases false = (rest.output, refl)

-- ticks never fall
pub run-ticks : (texts : List (List ℕ)) (allowance ticks : ℕ) (values : List Value) (statements : List meaning.Statement) → ticks ≤ (run texts allowance ticks values statements).ticks
run-ticks texts allowance ticks values [] = omega arith
run-ticks texts allowance ticks values (s ∷ ss) =
    by_cases (takes_tick s.command) (nat_lt ticks allowance) (step texts values s.command).overflows
    (run-ticks texts allowance (ticks + 1) (step texts values s.command).values ss) (run-ticks texts allowance ticks values ss) where
      by_cases : (takes left over : Bool) → ticks + 1 ≤ (run texts allowance (ticks + 1) (step texts values s.command).values ss).ticks →
          ticks ≤ (run texts allowance ticks values ss).ticks →
          ticks ≤ (if takes then (if left then (if over then record { ending = overflowed s.line; ticks = ticks + 1; output = (step texts values s.command).bytes } else record (run texts allowance (ticks + 1) (step texts values s.command).values ss) { output = (step texts values s.command).bytes ++ (run texts allowance (ticks + 1) (step texts values s.command).values ss).output }) else record { ending = cut_off; ticks = ticks; output = [] }) else run texts allowance ticks values ss).ticks
      by_cases true true true later past = omega arith
      by_cases true true false later past = omega arith
      by_cases true false over later past = omega arith
      by_cases false left over later past = past

-- the ticks of a statement that was begun
pub followed_by-ticks : (e : Effect) (line ticks : ℕ) (rest : Outcome) → ticks ≤ rest.ticks → ticks ≤ (followed_by e line ticks rest).ticks
followed_by-ticks e line ticks rest later = by_cases e.overflows where
  by_cases : (b : Bool) → ticks ≤ (if b then record { ending = overflowed line; ticks = ticks; output = e.bytes } else record rest { output = e.bytes ++ rest.output }).ticks
  by_cases true = omega arith
  by_cases false = later

-- a statement ran without an overflow, and left these values
pub run-on : (texts : List (List ℕ)) (allowance ticks : ℕ) (values left : List Value) (statements : List Statement) (i : ℕ) (s : Statement) →
    i < length statements → s ≡ get_or statements i s → takes_tick (command_view s.action) ≡ true → nat_lt ticks allowance ≡ true →
    (step texts values (command_view s.action)).overflows ≡ false → left ≡ (step texts values (command_view s.action)).values →
    run texts allowance ticks values (map statement_view (drop i statements))
    ≡ record (run texts allowance (ticks + 1) left (map statement_view (drop (i + 1) statements))) {
      output = (step texts values (command_view s.action)).bytes ++ (run texts allowance (ticks + 1) left (map statement_view (drop (i + 1) statements))).output;
    }
run-on texts allowance ticks values left statements i s within is takes tick goes same =
    let e = step texts values (command_view s.action) in
    let later = λ (vs : List Value). run texts allowance (ticks + 1) vs (map statement_view (drop (i + 1) statements)) in
    run-at texts allowance ticks values statements i s within is takes tick
    ∙ ap (λ (b : Bool). if b then record { ending = overflowed s.line; ticks = ticks + 1; output = e.bytes } else record (later e.values) { output = e.bytes ++ (later e.values).output }) goes
    ∙ ap (λ (vs : List Value). record (later vs) { output = e.bytes ++ (later vs).output }) (sym same)
