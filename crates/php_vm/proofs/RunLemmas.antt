-- Steps of a run of the code.
use Rattle.std.proofs.Common.{◌≡◌, ◌≢◌, ℕ, zero, suc, ◌+◌, ◌≤◌, List, [], ◌∷◌, Option, Some, None, refl, sym, ap, ◌∙◌, subst, arith}
use Rattle.php_base.specs.Written.{GrewBy}
use Rattle.php_memdef.specs.Contents.{Mem}
use Rattle.php_memdef.specs.Conditions.{IsBlock}
use Rattle.php_frames.specs.declared.completion.Completion.{Completion}
use Rattle.php_frames.specs.declared.frame.Frame.{Frame as FrameWithPlace}
use Rattle.php_machine.specs.Moves.{Next, End, Wrong, Proceed, Complete, Make, Outcome, Stuck}
use Rattle.php_machine.specs.Control.{Silent, Act, Branch}
use Rattle.php_machine.specs.Machine.{moved, chosen, fetched, served, stepped, run}
use Rattle.php_machine.specs.Same.{IsOver}
use Rattle.php_actions.specs.declared.ending.Ending.{Ending}
use Rattle.php_actions.specs.declared.action.Action.{Action}
use Rattle.php_actions.specs.Data.{Data, Move, Plan, Truth}
use Rattle.php_actions.specs.Effect.{effect}
use Rattle.php_actions.specs.Frames.{landed, unserved}
use Rattle.php_actions.specs.Plan.{plan, truth, rules}
use Rattle.php_code.specs.declared.program.Program.{Program}
use Rattle.php_code.specs.Code.{Place, place, code}
use Rattle.php_vm_actions.specs.declared.did.Did.{Did}
use Rattle.php_vm_actions.specs.declared.did.Did.TheVariants.{Goes, Ends, SinkFault, NoMemory}
use Rattle.php_vm.specs.declared.state.State.{State}
use Rattle.php_vm_actions.specs.Causes.{ending_of}
use Rattle.php_vm_actions.specs.Acting.{frame_of}
use Rattle.php_vm.specs.Stepping.{IsNow}
use Rattle.php_vm.specs.Running.{control_of, Stands, IsMoved, Moves, MayMove, IfGoes, runs_from, NextIs, LeadsIn, NeverStuck, EndsNow, Comes, IsStepped, Steps, CanStep}

abbrev Controls : Type 0
Controls = List (List Place)

pub stuck_over : {o : Outcome Data Ending} → o ≡ Stuck → IsOver o
stuck_over e = subst IsOver (sym e) tt

-- data in which the machine stands, where the frame is another one
pub stands_now : (old new : State) (f : FrameWithPlace) → IsNow old new f → (Means : Mem → Type 0) (written before : Option (List ℕ)) (d : Data) → Means d.mem → GrewBy before written d.out → d.left ≡ old.left → d.taken ≡ old.taken → d.frames ≡ frame_of f ∷ [] → d.constants ≡ [] → d.status ≡ 0 → IsBlock d.mem f.block.0
    → Stands Means written before new d
stands_now old new f e Means written before d mem told left taken frames constants status block = record {
  mem = mem;
  told = told;
  left = left ∙ sym e.1.0;
  taken = taken ∙ sym e.1.1;
  frames = frames ∙ ap (λ g. frame_of g ∷ []) (sym e.0);
  constants = constants;
  status = status;
  block = subst (λ (g : FrameWithPlace). IsBlock d.mem g.block.0) (sym e.0) block;
}

module _ (program : Program) where
  -- ---- ways

  pub append_ways : (k l : ℕ) (d e f : Data) (cs bs zs : Controls) → LeadsIn program k d cs e bs → LeadsIn program l e bs f zs
      → (n : ℕ) × ((k ≤ n) × ((l ≤ n) × LeadsIn program n d cs f zs))
  append_ways zero l d e f cs bs zs h k =
      (l, (omega arith, (omega arith, subst (λ x. LeadsIn program l x cs f zs) (sym h.0) (subst (λ x. LeadsIn program l e x f zs) (sym h.1) k))))
  append_ways (suc n) l d e f cs bs zs h k =
      let r = append_ways n l h.0 e f h.1.0 bs zs h.1.1.1 k in
      (suc r.0, (omega (arith, r.1.0), (omega (arith, r.1.1.0), (h.0, (h.1.0, (h.1.1.0, r.1.1.1))))))

  pub comes_both : {a b : ℕ} {d e f : Data} {cs bs zs : Controls} → Comes program a d cs e bs → Comes program b e bs f zs → Comes program b d cs f zs
  comes_both {a} {b} {d} {e} {f} {cs} {bs} {zs} h k =
      let r = append_ways h.steps k.steps d e f cs bs zs h.way k.way in
      record { steps = r.0; enough = (let n = k.enough in omega (arith, n, r.1.1.0)); way = r.1.1.1 }

  pub comes_nowhere : (d : Data) (cs : Controls) → Comes program 0 d cs d cs
  comes_nowhere d cs = record { steps = 0; enough = omega arith; way = (refl, refl) }

  pub comes_next : {d e : Data} {cs bs : Controls} → NextIs program d cs e bs → Comes program 1 d cs e bs
  comes_next {d} {e} {cs} {bs} h = record { steps = 1; enough = omega arith; way = (e, (bs, (h, (refl, refl)))) }

  pub comes_less : {d e : Data} {cs bs : Controls} → Comes program 1 d cs e bs → Comes program 0 d cs e bs
  comes_less h = record { steps = h.steps; enough = omega arith; way = h.way }

  stuck_ahead : (k : ℕ) (d e : Data) (cs bs : Controls) → LeadsIn program k d cs e bs → (n : ℕ) (ns : List ℕ) → runs_from program n ns e bs ≡ Stuck → (m : ℕ) × (runs_from program m ns d cs ≡ Stuck)
  stuck_ahead zero d e cs bs h n ns s = (n, ap (λ x. runs_from program n ns x cs) h.0 ∙ ap (λ x. runs_from program n ns e x) h.1 ∙ s)
  stuck_ahead (suc k) d e cs bs h n ns s =
      let r = stuck_ahead k h.0 e h.1.0 bs h.1.1.1 n ns s in
      (suc r.0, h.1.1.0 r.0 ns ∙ r.1)

  pub never_stuck_on : {a : ℕ} {d e : Data} {cs bs : Controls} → Comes program a d cs e bs → NeverStuck program d cs → NeverStuck program e bs
  never_stuck_on {a} {d} {e} {cs} {bs} h never n ns s =
      let r = stuck_ahead h.steps d e cs bs h.way n ns s in never r.0 ns r.1

  -- a run that is over after n steps is over after the steps that are left
  pub over_ahead : (k : ℕ) (d e : Data) (cs bs : Controls) → LeadsIn program k d cs e bs → (n : ℕ) (ns : List ℕ) → IsOver (runs_from program n ns d cs)
      → (m : ℕ) × ((m + k ≡ n) × (runs_from program m ns e bs ≡ runs_from program n ns d cs))
  over_ahead zero d e cs bs h n ns over = (n, (omega arith, sym (ap (λ x. runs_from program n ns x cs) h.0 ∙ ap (λ x. runs_from program n ns e x) h.1)))
  over_ahead (suc k) d e cs bs h zero ns over = absurd over
  over_ahead (suc k) d e cs bs h (suc n) ns over =
      let s = h.1.1.0 n ns in
      let r = over_ahead k h.0 e h.1.0 bs h.1.1.1 n ns (subst IsOver s over) in
      (r.0, (omega (arith, r.1.0), r.1.1 ∙ sym s))

  -- what comes of a run from there comes of one from here, after one number of steps for all numbers of frames
  pub from_here : (k : ℕ) (d e : Data) (cs bs : Controls) → LeadsIn program k d cs e bs → (n : ℕ)
      → (m : ℕ) × ((ns : List ℕ) → runs_from program m ns d cs ≡ runs_from program n ns e bs)
  from_here zero d e cs bs h n = (n, λ ns. ap (λ x. runs_from program n ns x cs) h.0 ∙ ap (λ x. runs_from program n ns e x) h.1)
  from_here (suc k) d e cs bs h n =
      let r = from_here k h.0 e h.1.0 bs h.1.1.1 n in
      (suc r.0, λ ns. h.1.1.0 r.0 ns ∙ r.1 ns)

  -- ---- a step that is a move

  abbrev pub StepIs : Data → List Place → List Place → Move → Type 0
  StepIs d c next mv = (n : ℕ) (ns : List ℕ) → runs_from program (suc n) ns d (c ∷ []) ≡ moved (rules program.facts) (code program) (run (rules program.facts) (code program) n) ns mv c next [] []

  planned_step : (d : Data) (c : List Place) (p : Plan) → plan program.facts d ≡ p → (n : ℕ) (ns : List ℕ)
      → runs_from program (suc n) ns d (c ∷ []) ≡ stepped (rules program.facts) (code program) (run (rules program.facts) (code program) n) ns p d c [] []
  planned_step d c p e n ns = ap (λ q. stepped (rules program.facts) (code program) (run (rules program.facts) (code program) n) ns q d c [] []) e

  pub step_makes : (d : Data) (c next : List Place) (mv : Move) → plan program.facts d ≡ Make mv → next ≡ c → StepIs d c next mv
  step_makes d c next mv e f n ns =
      planned_step d c (Make mv) e n ns
      ∙ ap (λ x. moved (rules program.facts) (code program) (run (rules program.facts) (code program) n) ns mv c x [] []) (sym f)

  pub step_acts : (d : Data) (c next : List Place) (a : Action) → plan program.facts d ≡ Proceed → (code program).fetch c ≡ Act a next → StepIs d c next (effect program.facts a d)
  step_acts d c next a e f n ns =
      planned_step d c Proceed e n ns
      ∙ ap (λ x. fetched (rules program.facts) (code program) (run (rules program.facts) (code program) n) ns x d c [] []) f

  pub step_unserved : (d : Data) (c : List Place) (why : Completion) → plan program.facts d ≡ Complete why → (code program).serve why c ≡ None → StepIs d c c (unserved program.facts d)
  step_unserved d c why e f n ns =
      planned_step d c (Complete why) e n ns
      ∙ ap (λ x. served (rules program.facts) (code program) (run (rules program.facts) (code program) n) ns x d c [] []) f

  pub next_served : (d : Data) (c at : List Place) (why : Completion) → plan program.facts d ≡ Complete why → (code program).serve why c ≡ Some at → NextIs program d (c ∷ []) (landed d) (at ∷ [])
  next_served d c at why e f n ns =
      planned_step d c (Complete why) e n ns
      ∙ ap (λ x. served (rules program.facts) (code program) (run (rules program.facts) (code program) n) ns x d c [] []) f

  pub next_silent : (d : Data) (c next : List Place) → plan program.facts d ≡ Proceed → (code program).fetch c ≡ Silent next → NextIs program d (c ∷ []) d (next ∷ [])
  next_silent d c next e f n ns =
      planned_step d c Proceed e n ns
      ∙ ap (λ x. fetched (rules program.facts) (code program) (run (rules program.facts) (code program) n) ns x d c [] []) f

  pub step_chooses : (d : Data) (c a b : List Place) (t : Truth) → plan program.facts d ≡ Proceed → (code program).fetch c ≡ Branch a b → truth d ≡ t → (n : ℕ) (ns : List ℕ)
      → runs_from program (suc n) ns d (c ∷ []) ≡ chosen (rules program.facts) (code program) (run (rules program.facts) (code program) n) ns t a b [] []
  step_chooses d c a b t e f g n ns =
      planned_step d c Proceed e n ns
      ∙ ap (λ x. fetched (rules program.facts) (code program) (run (rules program.facts) (code program) n) ns x d c [] []) f
      ∙ ap (λ x. chosen (rules program.facts) (code program) (run (rules program.facts) (code program) n) ns x a b [] []) g

  pub able_step : (d : Data) (c next : List Place) (mv : Move) → StepIs d c next mv → NeverStuck program d (c ∷ []) → mv ≢ Wrong
  able_step d c next mv is never w =
      never 1 [] (is 0 [] ∙ ap (λ x. moved (rules program.facts) (code program) (run (rules program.facts) (code program) 0) [] x c next [] []) w)

  pub next_of : (d e : Data) (c next : List Place) (mv : Move) → StepIs d c next mv → mv ≡ Next e → NextIs program d (c ∷ []) e (next ∷ [])
  next_of d e c next mv is f n ns = is n ns ∙ ap (λ x. moved (rules program.facts) (code program) (run (rules program.facts) (code program) n) ns x c next [] []) f

  pub end_of : (d e : Data) (c next : List Place) (ending : Ending) (mv : Move) → StepIs d c next mv → mv ≡ End ending e → EndsNow program d (c ∷ []) ending e
  end_of d e c next ending mv is f n ns = is n ns ∙ ap (λ x. moved (rules program.facts) (code program) (run (rules program.facts) (code program) n) ns x c next [] []) f

  -- ---- what is moved is stepped

  abbrev pub place_of : State → List Place
  place_of s = place s.frame.function s.frame.at ∷ []

  -- the step from here is this move, wherever it leads
  abbrev pub SomeStep : State → Data → Move → Type 0
  SomeStep s d mv = (next : List Place) × StepIs d (place_of s) next mv

  module _ (New : Mem → Type 0) (written before : Option (List ℕ)) (old new : State) (d : Data) (mv : Move) (some : SomeStep old d mv) where
    stepped_of : (did : Did) → IfGoes did (StepIs d (place_of old) (place_of new) mv) → IsMoved New written before new did d mv → IsStepped program New written before new did d (control_of old.frame)
    stepped_of Goes is h = record { to = h.to; comes = comes_next (next_of d h.to (place_of old) (place_of new) mv is h.is); stands = h.holds }
    stepped_of (Ends cause) is h =
        record { at = d; control = control_of old.frame; to = h.to; comes = comes_nowhere d (control_of old.frame); ends = end_of d h.to (place_of old) some.0 (ending_of cause) mv some.1 h.is; last = h.holds }
    stepped_of SinkFault is h = record { to = h.to; control = some.0 ∷ []; comes = comes_less (comes_next (next_of d h.to (place_of old) some.0 mv some.1 h.is)); short = h.holds }
    stepped_of NoMemory is h = record { to = d; control = control_of old.frame; comes = comes_nowhere d (control_of old.frame); short = h }

  -- what is known of data in which the machine stands
  abbrev pub Known : (Data → Type 0) → State → Data → Type 0
  Known P s d = (d.frames ≡ frame_of s.frame ∷ []) × P d

  pub steps_by : (P : Data → Type 0) (Old New : Mem → Type 0) (wo wn : Option (List ℕ)) (old new : State) (did : Did) (move : Data → Move)
      → ((d : Data) → Known P old d → SomeStep old d (move d))
      → ((d : Data) → Known P old d → IfGoes did (StepIs d (place_of old) (place_of new) (move d)))
      → Moves Old New wo wn old new did move → Steps program P Old New wo wn old new did
  steps_by P Old New wo wn old new did move some is moves = record {
    each = λ before d stands p never.
        let s = some d (stands.frames, p) in
        stepped_of New wn before old new d (move d) s did (is d (stands.frames, p))
        (moves.each before d stands (able_step d (place_of old) s.0 (move d) s.1 never));
  }

  pub may_move : (P : Data → Type 0) (Means : Mem → Type 0) (s : State) (move : Data → Move) → ((d : Data) → Known P s d → SomeStep s d (move d)) → CanStep program P Means s → MayMove Means s move
  may_move P Means s move some c =
      let t = some c.here (c.stands.frames, c.holds) in
      record { written = c.written; before = c.before; here = c.here; stands = c.stands; able = able_step c.here (place_of s) t.0 (move c.here) t.1 c.never_stuck }
