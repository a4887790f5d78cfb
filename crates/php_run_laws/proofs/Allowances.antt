-- A longer allowance takes nothing from a run: neither its output nor an end that it came to.
use Rattle.std.proofs.Common.{◌≡◌, true, false, ℕ, ◌+◌, ◌≤◌, inl, inr, List, [], ◌∷◌, ◌++◌, refl, ◌∙◌, ap, arith}
use Rattle.std.proofs.lemmas.Bool.{cases_Bool, cases_lt, lt-ltb, le-ltb}
use Rattle.std.proofs.Math.Dec.{ltb}
use Rattle.std.proofs.lemmas.List.{append-nil, append_assoc}
use Rattle.php_first_tree.specs.Expression.{Statement}
use Rattle.php_first_run.specs.declared.value.Value.{Value}
use Rattle.php_first_run.specs.Running.{Effect, Outcome, cut_off, followed_by, step, takes_tick, run}
use Rattle.php_base.specs.Streams.{IsFront}

-- what a statement writes stands before what follows writes
front_behind : (effect : Effect) (line ticks : ℕ) (first second : Outcome) → IsFront first.output second.output →
    IsFront (followed_by effect line ticks first).output (followed_by effect line ticks second).output
front_behind effect line ticks first second (rest, is) = elim (cases_Bool effect.overflows) [
  | inl over ↦ rw over ([], append-nil effect.bytes)
  | inr on ↦ rw on (rest, append_assoc effect.bytes first.output rest ∙ ap (λ l. effect.bytes ++ l) is)
]

pub run_front : (statements : List Statement) (texts : List (List ℕ)) (values : List Value) (ticks less more : ℕ) → less ≤ more →
    IsFront (run texts less ticks values statements).output (run texts more ticks values statements).output
run_front [] texts values ticks less more le = ([], refl)
run_front (s ∷ ss) texts values ticks less more le = elim (cases_Bool (takes_tick s.command)) [
  | inl takes ↦ rw takes (elim (cases_lt ticks less) [
    | inl goes_on ↦
        rw (lt-ltb ticks less goes_on, lt-ltb ticks more (omega arith))
        (front_behind (step texts values s.command) s.line (ticks + 1)
        (run texts less (ticks + 1) (step texts values s.command).values ss) (run texts more (ticks + 1) (step texts values s.command).values ss)
        (run_front ss texts (step texts values s.command).values (ticks + 1) less more le))
    | inr stops ↦ rw (le-ltb ticks less stops) (_, refl)
  ])
  | inr idle ↦ rw idle (run_front ss texts values ticks less more le)
]

-- where what follows is the same, so is the whole
same_behind : (effect : Effect) (line ticks : ℕ) (first second : Outcome) →
    ((followed_by effect line ticks first).ending ≡ cut_off → ⊥) →
    ((first.ending ≡ cut_off → ⊥) → second ≡ first) →
    followed_by effect line ticks second ≡ followed_by effect line ticks first
same_behind effect line ticks first second ends same = elim (cases_Bool effect.overflows) [
  | inl over ↦ rw over refl
  | inr on ↦ rw on (ap (λ (o : Outcome). record o { output = effect.bytes ++ o.output }) (same (rw on at ends)))
]

pub run_same : (statements : List Statement) (texts : List (List ℕ)) (values : List Value) (ticks less more : ℕ) → less ≤ more →
    ((run texts less ticks values statements).ending ≡ cut_off → ⊥) → run texts more ticks values statements ≡ run texts less ticks values statements
run_same [] texts values ticks less more le ends = refl
run_same (s ∷ ss) texts values ticks less more le ends = elim (cases_Bool (takes_tick s.command)) [
  | inl takes ↦
      let ends_taken = rw takes at ends in
      rw takes (elim (cases_lt ticks less) [
        | inl goes_on ↦
            let here : ltb ticks less ≡ true = lt-ltb ticks less goes_on in
            let ends_on = rw here at ends_taken in
            rw (here, lt-ltb ticks more (omega arith))
            (same_behind (step texts values s.command) s.line (ticks + 1)
            (run texts less (ticks + 1) (step texts values s.command).values ss) (run texts more (ticks + 1) (step texts values s.command).values ss)
            ends_on (run_same ss texts (step texts values s.command).values (ticks + 1) less more le))
        | inr stops ↦ (let here : ltb ticks less ≡ false = le-ltb ticks less stops in absurd (ends_taken (rw here refl)))
      ])
  | inr idle ↦ (let ends_on = rw idle at ends in rw idle (run_same ss texts values ticks less more le ends_on))
]
