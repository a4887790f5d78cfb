-- The loop that makes the steps of a run.
use Rattle.std.proofs.Common.{◌≡◌, ℕ, zero, suc, ◌+◌, ◌-◌, ◌<◌, ◌≤◌, List, [], ◌++◌, Option, Some, None, refl, sym, ap, ◌∙◌, subst, arith, append-nil}
use Rattle.php_base.specs.Written.{GrewBy}
use Rattle.php_memdef.specs.Contents.{Mem}
use Rattle.php_machine.specs.Moves.{Outcome, Ended}
use Rattle.php_machine.specs.Same.{IsOver}
use Rattle.php_machine.specs.Outputs.{Begins, OnlyWrites}
use Rattle.php_machine.proofs.OutputLemmas.{OutcomeBegins, run_writes, Begins_trans}
use Rattle.php_actions.specs.declared.ending.Ending.{Ending}
use Rattle.php_actions.specs.Data.{Data}
use Rattle.php_actions.specs.Plan.{rules}
use Rattle.php_actions.specs.Allowances.{output_of}
use Rattle.php_actions.proofs.OutputRules.{only_writes-lem}
use Rattle.php_code.specs.declared.program.Program.{Program}
use Rattle.php_code.specs.Code.{Place, code}
use Rattle.php_code_laws.proofs.EndLemmas.{all_end}
use Rattle.php_vm_actions.specs.declared.did.Did.{Did}
use Rattle.php_vm_actions.specs.declared.did.Did.TheVariants.{Goes, Ends, SinkFault, NoMemory}
use Rattle.php_vm_actions.specs.declared.did.Cause.{Cause}
use Rattle.php_vm.specs.declared.state.State.{State}
use Rattle.php_vm_actions.specs.Causes.{ending_of}
use Rattle.php_vm.specs.Running.{control_of, Stands, runs_from, NeverStuck, Comes, StopsShort, IsStepped, Steps, CanStep}
use Rattle.php_vm.specs.Stepping.{AnyData}
use Rattle.php_vm.specs.Finishing.{BeginsWith, EndsSo, IsLeft}
use Rattle.php_vm.proofs.TickLemmas.{ticks_of, fewer_zeros, only_ticks-lem}
use Rattle.php_vm.proofs.RunLemmas.{comes_both, comes_nowhere, comes_less, never_stuck_on, over_ahead, from_here}

module _ (program : Program) (first : Data) (cs : List (List Place)) where
  -- so many steps make the run
  pub bound : ℕ
  bound = (all_end program.facts program [] [] first cs).0

  pub bound_ends : IsOver (runs_from program bound [] first cs)
  unfolding bound
  bound_ends = (all_end program.facts program [] [] first cs).1

  -- the machine stands where the run leads, and this many steps are left at most
  pub record IsUnderWay (Means : Mem → Type 0) (written before : Option (List ℕ)) (s : State) (count : ℕ) : Type 0 where
    pub here : Data
    pub rest : ℕ
    pub stands : Stands Means written before s here
    pub comes : Comes program 0 first cs here (control_of s.frame)
    pub within : rest + count ≤ bound
    pub over : IsOver (runs_from program rest [] here (control_of s.frame))

  told_first : (w : Option (List ℕ)) (out : List ℕ) → out ≡ [] → GrewBy w w out
  told_first None out e = refl
  told_first (Some x) out e = ap Some (sym (append-nil x) ∙ ap (λ y. x ++ y) (sym e))

  pub begun : (Means : Mem → Type 0) (written : Option (List ℕ)) (s : State) (count : ℕ) → cs ≡ control_of s.frame → count ≡ 0 → s.taken ≡ 0 → BeginsWith Means s.frame s.left first → IsUnderWay Means written written s count
  begun Means written s count c z t h = record {
    here = first;
    rest = bound;
    stands = record { mem = h.mem; told = told_first written first.out h.out; left = h.left; taken = h.taken ∙ sym t; frames = h.frames; constants = h.constants; status = h.status; block = h.block };
    comes = subst (λ x. Comes program 0 first cs first x) c (comes_nowhere program first cs);
    within = omega (arith, z);
    over = subst (λ x. IsOver (runs_from program bound [] first x)) c bound_ends;
  }

  pub may_step : (Means : Mem → Type 0) (written before : Option (List ℕ)) (s : State) (count : ℕ) → NeverStuck program first cs → IsUnderWay Means written before s count → CanStep program AnyData Means s
  may_step Means written before s count never u = record {
    written = written;
    before = before;
    here = u.here;
    stands = u.stands;
    holds = tt;
    never_stuck = never_stuck_on program u.comes never;
  }

  module _ (Old New : Mem → Type 0) (wo wn before : Option (List ℕ)) (so sn : State) (count : ℕ) (never : NeverStuck program first cs) (u : IsUnderWay Old wo before so count) where
    by_step : (did : Did) → Steps program AnyData Old New wo wn so sn did → IsStepped program New wn before sn did u.here (control_of so.frame)
    by_step did steps = steps.each before u.here u.stands tt (never_stuck_on program u.comes never)

    pub goes_on : Steps program AnyData Old New wo wn so sn Goes → IsUnderWay New wn before sn (count + 1)
    goes_on steps =
        let g = by_step Goes steps in
        let r = over_ahead program g.comes.steps u.here g.to (control_of so.frame) (control_of sn.frame) g.comes.way u.rest [] u.over in
        let e = g.comes.enough in
        let w = u.within in
        record {
          here = g.to;
          rest = r.0;
          stands = g.stands;
          comes = comes_both program u.comes (comes_less program g.comes);
          within = omega (arith, r.1.0, e, w);
          over = subst IsOver (sym r.1.1) u.over;
        }

    -- a step is left
    pub counts : count < bound
    counts = by u.rest u.over u.within
      where
        by : (n : ℕ) → IsOver (runs_from program n [] u.here (control_of so.frame)) → n + count ≤ bound → count < bound
        by zero over h = absurd over
        by (suc n) over h = omega (arith, h)

    pub ends_so : (cause : Cause) → Steps program AnyData Old New wo wn so sn (Ends cause) → EndsSo program first cs New wn before sn.taken (ending_of cause)
    ends_so cause steps =
        let o = by_step (Ends cause) steps in
        let way = comes_both program u.comes o.comes in
        let r = from_here program way.steps first o.at cs o.control way.way 1 in
        record { steps = r.0; to = o.to; ends = λ ns. r.1 ns ∙ o.ends 0 ns; last = o.last }

    begins_ended : (out : Data → List ℕ) (xs : List ℕ) (o : Outcome Data Ending) (ending : Ending) (e : Data) → o ≡ Ended ending e → OutcomeBegins out xs o → Begins xs (out e)
    begins_ended out xs o ending e is h = subst (OutcomeBegins out xs) is h

    module _ (s : StopsShort program wn before sn u.here (control_of so.frame)) where
      way : Comes program 0 first cs s.to s.control
      way = comes_both program u.comes s.comes

      -- what only grows has grown at the end of the whole run
      grown : (out : Data → List ℕ) → OnlyWrites (rules program.facts) out → (n : ℕ) (ns : List ℕ) (ending : Ending) (e : Data) → runs_from program n ns first cs ≡ Ended ending e → Begins (out s.to) (out e)
      grown out only n ns ending e is =
          let r = over_ahead program way.steps first s.to cs s.control way.way n ns (subst IsOver (sym is) tt) in
          begins_ended out (out s.to) (runs_from program r.0 ns s.to s.control) ending e (r.1.1 ∙ is) (run_writes (rules program.facts) (code program) out only r.0 ns s.to s.control [])

      fewer : (n : ℕ) (ns : List ℕ) (ending : Ending) (e : Data) → runs_from program n ns first cs ≡ Ended ending e → sn.taken ≤ e.taken
      fewer n ns ending e is =
          let g = grown ticks_of (only_ticks-lem program.facts) n ns ending e is in
          let t = s.short.taken in
          let h = fewer_zeros s.to.taken e.taken g.0 g.1 in
          omega (arith, t, h)

      left_at : IsLeft program first cs wn before sn.taken
      left_at = record {
        to = s.to;
        control = s.control;
        comes = way;
        short = s.short;
        begins = λ n ns ending e is. Begins_trans s.short.sent s.to.out e.out s.short.begins (grown output_of (only_writes-lem program.facts) n ns ending e is);
        no_more_ticks = fewer;
      }

    pub fails_so : Steps program AnyData Old New wo wn so sn SinkFault → IsLeft program first cs wn before sn.taken
    fails_so steps = left_at (by_step SinkFault steps)

    pub wants_so : Steps program AnyData Old New wo wn so sn NoMemory → IsLeft program first cs wn before sn.taken
    wants_so steps = left_at (by_step NoMemory steps)

  pub counted_on : (Means : Mem → Type 0) (written before : Option (List ℕ)) (s : State) (count more : ℕ) → more ≡ count + 1 → IsUnderWay Means written before s (count + 1) → IsUnderWay Means written before s more
  counted_on Means written before s count more e u = subst (IsUnderWay Means written before s) (sym e) u

pub is_less : (n count more : ℕ) → more ≡ count + 1 → count < n → n - more < n - count
is_less n count more e h = omega (arith, e, h)
