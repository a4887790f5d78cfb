-- The parts of a step.
use Rattle.std.proofs.Common.{◌≡◌, ◌≢◌, inl, inr, ℕ, suc, ◌+◌, Bool, true, false, cond, List, [], ◌∷◌, Option, Some, None, refl, sym, ap, ◌∙◌, subst, arith, append-nil}
use Rattle.std.specs.Prelude.{slice_get}
use Rattle.php_frames.specs.declared.completion.Completion.{Completion}
use Rattle.php_frames.specs.declared.completion.Completion.TheVariants.{Normal, Break, Continue, Return, Throw, Exit}
use Rattle.php_frames.specs.declared.frame.Way.TheVariants.{Going, Landed, Ending as EndingWay}
use Rattle.php_memdef.specs.declared.answer.Fallen.{Fallen}
use Rattle.php_memdef.specs.declared.answer.Fallen.TheVariants.{Nothing, Destroy, Frame as FrameOf}
use Rattle.php_memdef.specs.Contents.{Content, Item, Mem, scope_of}
use Rattle.php_memdef.specs.Temporaries.{drop_top}
use Rattle.php_memdef_laws.proofs.DecidedOperations.{can-decides}
use Rattle.php_memdef.specs.Conditions.{IsBlock}
use Rattle.php_memdef.specs.Meanings.{SomeMeant, EachMeant, Does, Answers}
use Rattle.php_memdef.specs.Releases.{fall, first_released, fall_after}
use Rattle.php_memdef.specs.Operations.{Can, run}
use Rattle.php_memdef.specs.Operations as op
use Rattle.php_memdef.specs.Deciders.{can}
use Rattle.php_memdef_laws.proofs.EndLemmas.{fall_ends, fall_unfolds}
use Rattle.php_machine.specs.Moves.{Next, End, Wrong, Proceed, Complete, Make, Yes, No, NoValue}
use Rattle.php_machine.specs.Machine.{chosen as chosen_by, run as run_machine}
use Rattle.php_machine.specs.Control.{Act}
use Rattle.php_layers.specs.Layers.{fetched_over}
use Rattle.php_frames.specs.declared.frame.Frame.{Frame as FrameWithPlace}
use Rattle.php_actions.specs.declared.action.Action.{Action}
use Rattle.php_actions.specs.declared.action.Action.TheVariants.{Call, Jump}
use Rattle.php_actions.specs.declared.calls.CallAction.{CallAction}
use Rattle.php_actions.specs.declared.jumps.JumpAction.{JumpAction}
use Rattle.php_actions.specs.declared.calls.CallAction.TheVariants.{EndBody}
use Rattle.php_actions.specs.declared.jumps.JumpAction.TheVariants.{Tick}
use Rattle.php_actions.specs.Calls.{effect_call}
use Rattle.php_actions.specs.Jumps.{ticked}
use Rattle.php_actions.specs.Effect.{effect, effect_in, fact_of, result_if}
use Rattle.php_code.specs.declared.instr.Instr.{Instr}
use Rattle.php_code.specs.declared.instr.Instr.TheVariants.{Unless, Go}
use Rattle.php_code.specs.Code.{Place, place, decoded, code_in, code}
use Rattle.php_vm_actions.specs.declared.did.Cause.{Cause}
use Rattle.php_vm_actions.specs.declared.did.Did.TheVariants.{Goes, Ends, SinkFault, NoMemory}
use Rattle.php_vm_actions.specs.Causes.{ending_of}
use Rattle.php_actions.specs.declared.facts.Facts.{Facts}
use Rattle.php_actions.specs.Data.{Frame, Data, Move, Truth, with_mem, with_newest, by_frame}
use Rattle.php_actions.specs.Frames.{ending}
use Rattle.php_actions.specs.Contents.{truth_of}
use Rattle.php_actions.specs.Steps.{operand}
use Rattle.php_actions.specs.Plan.{plan, planned, planned_after, planned_by, released, chosen, truth_by, truth_in, truth, rules}
use Rattle.php_code.specs.declared.program.Program.{Program}
use Rattle.php_vm_actions.specs.declared.did.Did.{Did}
use Rattle.php_vm.specs.declared.state.State.{State}
use Rattle.php_vm_actions.specs.Acting.{CountsFault, frame_of}
use Rattle.php_vm_actions.specs.Operands.{HasOperand}
use Rattle.php_vm.specs.Running.{Stands, IsMoved, IfGoes, control_of, runs_from, NextIs, NeverStuck, Comes, GoesOn, IsStepped, CanStep, Steps, MayMove, Moves}
use Rattle.php_vm.specs.Stepping.{AnyData, IsQuiet, IsPlanned, Releases, IsAt, IsNow, Ticks, JumpsTo, Passes, Chooses, IsChosen, MayChoose, body_ended}
use Rattle.php_vm_actions.proofs.StraightLemmas.{kept_one}
use Rattle.php_vm.proofs.RunLemmas.{comes_both, never_stuck_on, comes_nowhere, comes_next, comes_less, StepIs, step_makes, step_acts, step_chooses, next_silent, able_step, next_of, place_of, Known, stands_now}

-- ---- plans

pub plan_is : (facts : Facts) (d : Data) (f : Frame) → d.frames ≡ f ∷ [] → plan facts d ≡ planned_after (scope_of d.mem f.block).falling facts d f []
unfolding plan
plan_is facts d f e = ap (planned facts d) e

pub plan_quiet : (facts : Facts) (d : Data) (f : Frame) → d.frames ≡ f ∷ [] → (scope_of d.mem f.block).falling ≡ [] → plan facts d ≡ planned_by f.way f.pending facts d f []
plan_quiet facts d f e quiet = plan_is facts d f e ∙ ap (λ l. planned_after l facts d f []) quiet

module _ (facts : Facts) (s : State) (d : Data) (frames : d.frames ≡ frame_of s.frame ∷ []) (quiet : IsQuiet s d) where
  pub plan_landed : s.frame.way ≡ Landed → IsPlanned facts Proceed d
  plan_landed w = plan_quiet facts d (frame_of s.frame) frames quiet ∙ ap (λ w. planned_by w s.frame.pending facts d (frame_of s.frame) []) w

  pub plan_normal : s.frame.way ≡ Going → s.frame.pending ≡ Normal → IsPlanned facts Proceed d
  plan_normal w p =
      plan_quiet facts d (frame_of s.frame) frames quiet ∙ ap (λ w. planned_by w s.frame.pending facts d (frame_of s.frame) []) w ∙ ap (λ p. planned_by Going p facts d (frame_of s.frame) []) p

  under_way : (why : Completion) → why ≢ Normal → planned_by Going why facts d (frame_of s.frame) [] ≡ Complete why
  under_way Normal h = absurd (h refl)
  under_way (Break n) h = refl
  under_way (Continue n) h = refl
  under_way Return h = refl
  under_way Throw h = refl
  under_way (Exit n) h = refl

  pub plan_complete : s.frame.way ≡ Going → s.frame.pending ≢ Normal → IsPlanned facts (Complete s.frame.pending) d
  plan_complete w p =
      plan_quiet facts d (frame_of s.frame) frames quiet ∙ ap (λ w. planned_by w s.frame.pending facts d (frame_of s.frame) []) w ∙ under_way s.frame.pending p

  pub plan_ending : s.frame.way ≡ EndingWay → IsPlanned facts (Make (ending facts d (frame_of s.frame) [])) d
  plan_ending w = plan_quiet facts d (frame_of s.frame) frames quiet ∙ ap (λ w. planned_by w s.frame.pending facts d (frame_of s.frame) []) w

-- ---- other knowledge of the data

pub steps_from : (program : Program) (P Q : Data → Type 0) (Old New : Mem → Type 0) (wo wn : Option (List ℕ)) (old new : State) (did : Did)
    → ((d : Data) → Known program P old d → Q d) → Steps program Q Old New wo wn old new did → Steps program P Old New wo wn old new did
steps_from program P Q Old New wo wn old new did leads steps = record { each = λ before d stands p never. steps.each before d stands (leads d (stands.frames, p)) never }

pub can_step_from : (program : Program) (P Q : Data → Type 0) (Means : Mem → Type 0) (s : State) → ((d : Data) → Known program P s d → Q d) → CanStep program P Means s → CanStep program Q Means s
can_step_from program P Q Means s leads c =
    record { written = c.written; before = c.before; here = c.here; stands = c.stands; holds = leads c.here (c.stands.frames, c.holds); never_stuck = c.never_stuck }

-- ---- releases

module _ (program : Program) (s : State) where
  abbrev b : ℕ
  b = s.frame.block.0

  fall_none : (m : Mem) → (scope_of m b).falling ≡ [] → fall m b ≡ (m, Nothing)
  fall_none m e = fall_unfolds m b ∙ ap (λ l. fall_after (first_released l m b) (λ n. fall n b)) e

  make_release : (d : Data) (i : Item) (is : List Item) → d.frames ≡ frame_of s.frame ∷ [] → (scope_of d.mem b).falling ≡ i ∷ is → plan program.facts d ≡ Make (cond (can (op.fall b) d.mem) (released (fall d.mem b) d) Wrong)
  make_release d i is e f = plan_is program.facts d (frame_of s.frame) e ∙ ap (λ l. planned_after l program.facts d (frame_of s.frame) []) f

  released_next : (t : Bool) (r : Mem × Fallen) (d : Data) → cond t (released r d) Wrong ≢ Wrong → (r.1 ≡ Nothing) × (cond t (released r d) Wrong ≡ Next (with_mem d r.0))
  released_next true (m, Nothing) d h = (refl, refl)
  released_next true (m, Destroy o) d h = absurd (h refl)
  released_next true (m, FrameOf c) d h = absurd (h refl)
  released_next false r d h = absurd (h refl)

  -- the answer is that nothing is left, and no more than one step leads there
  release_is : (d : Data) → d.frames ≡ frame_of s.frame ∷ [] → NeverStuck program d (control_of s.frame)
      → ((fall d.mem b).1 ≡ Nothing) × Comes program 0 d (control_of s.frame) (with_mem d (fall d.mem b).0) (control_of s.frame)
  release_is d frames never = by (scope_of d.mem b).falling refl
    where
      by : (l : List Item) → (scope_of d.mem b).falling ≡ l → ((fall d.mem b).1 ≡ Nothing) × Comes program 0 d (control_of s.frame) (with_mem d (fall d.mem b).0) (control_of s.frame)
      by [] e =
          let f = fall_none d.mem e in
          (ap (λ r. r.1) f, subst (λ n. Comes program 0 d (control_of s.frame) (with_mem d n) (control_of s.frame)) (sym (ap (λ r. r.0) f)) (comes_nowhere program d (control_of s.frame)))
      by (i ∷ is) e =
          let c = place_of program s in
          let step = step_makes program d c c (cond (can (op.fall b) d.mem) (released (fall d.mem b) d) Wrong) (make_release d i is frames e) refl in
          let r = released_next (can (op.fall b) d.mem) (fall d.mem b) d (able_step program d c c (cond (can (op.fall b) d.mem) (released (fall d.mem b) d) Wrong) step never) in
          (r.0, comes_less program (comes_next program (next_of program d (with_mem d (fall d.mem b).0) c c (cond (can (op.fall b) d.mem) (released (fall d.mem b) d) Wrong) step r.1)))

  pub can_release : (Means : Mem → Type 0) → CanStep program AnyData Means s → SomeMeant Means (Can (op.fall b))
  can_release Means c = (c.here.mem, c.stands.mem, c.stands.block)

  pub releases : (Old New : Mem → Type 0) (r : Fallen) → Answers Old New r (run (op.fall b)) → Releases program Old New s
  releases Old New r answers = record {
    each = λ written before d stands never.
        let is = release_is d stands.frames never in
        record {
          to = with_mem d (fall d.mem b).0;
          comes = is.1;
          stands = record {
            mem = (answers d.mem stands.mem).0;
            told = stands.told;
            left = stands.left;
            taken = stands.taken;
            frames = stands.frames;
            constants = stands.constants;
            status = stands.status;
            block = (kept_one (op.fall b) d.mem tt stands.block).blocks b stands.block;
          };
          quiet = fall_ends d.mem b is.0;
        };
  }

  -- a release stops for nothing else
  pub stops_for_nothing : (Old New : Mem → Type 0) (r : Fallen) → Answers Old New r (run (op.fall b)) → CanStep program AnyData Old s → r ≡ Nothing
  stops_for_nothing Old New r answers c = (answers c.here.mem c.stands.mem).1 ∙ (release_is c.here c.stands.frames c.never_stuck).0

-- a step behind a release

module _ (program : Program) (s : State) (Old Mid : Mem → Type 0) where
  pub can_step_on : Releases program Old Mid s → CanStep program AnyData Old s → CanStep program (IsQuiet s) Mid s
  can_step_on r c =
      let t = r.each c.written c.before c.here c.stands c.never_stuck in
      record { written = c.written; before = c.before; here = t.to; stands = t.stands; holds = t.quiet; never_stuck = never_stuck_on program t.comes c.never_stuck }

  after : (New : Mem → Type 0) (wn before : Option (List ℕ)) (new : State) (did : Did) (d e : Data) (cs bs : List (List Place)) → Comes program 0 d cs e bs → IsStepped program New wn before new did e bs → IsStepped program New wn before new did d cs
  after New wn before new Goes d e cs bs way h = record { to = h.to; comes = comes_both program way h.comes; stands = h.stands }
  after New wn before new (Ends cause) d e cs bs way h = record { at = h.at; control = h.control; to = h.to; comes = comes_both program way h.comes; ends = h.ends; last = h.last }
  after New wn before new SinkFault d e cs bs way h = record { to = h.to; control = h.control; comes = comes_both program way h.comes; short = h.short }
  after New wn before new NoMemory d e cs bs way h = record { to = h.to; control = h.control; comes = comes_both program way h.comes; short = h.short }

  pub step_after_release : (New : Mem → Type 0) (wo wn : Option (List ℕ)) (new : State) (did : Did) → Releases program Old Mid s → Steps program (IsQuiet s) Mid New wo wn s new did → Steps program AnyData Old New wo wn s new did
  step_after_release New wo wn new did r steps = record {
    each = λ before d stands p never.
        let t = r.each wo before d stands never in
        after New wn before new did d t.to (control_of s.frame) (control_of s.frame) t.comes (steps.each before t.to t.stands t.quiet (never_stuck_on program t.comes never));
  }

-- ---- what the code says next

pub if_goes : {A B : Type 0} (did : Did) → IfGoes did A → (A → B) → IfGoes did B
if_goes Goes a f = f a
if_goes (Ends cause) a f = tt
if_goes SinkFault a f = tt
if_goes NoMemory a f = tt

pub at_place : (program : Program) (old new : State) (at : ℕ) → IsAt old new at → place old.frame.function at ∷ [] ≡ place_of program new
at_place program old new at h = λ i. place (sym h.0 i) (sym h.1 i) ∷ []

-- one move for another
pub moves_as : (Old New : Mem → Type 0) (wo wn : Option (List ℕ)) (old new : State) (did : Did) (move other : Data → Move)
    → ((d : Data) → d.frames ≡ frame_of old.frame ∷ [] → move d ≢ Wrong → move d ≡ other d) → Moves Old New wo wn old new did other → Moves Old New wo wn old new did move
moves_as Old New wo wn old new did move other same moves = record {
  each = λ before d stands h.
      let e = same d stands.frames h in
      subst (IsMoved New wn before new did d) (sym e) (moves.each before d stands (λ w. h (e ∙ w)));
}

pub may_as : (Means : Mem → Type 0) (s : State) (move other : Data → Move) → ((d : Data) → d.frames ≡ frame_of s.frame ∷ [] → move d ≢ Wrong → move d ≡ other d) → MayMove Means s move → MayMove Means s other
may_as Means s move other same c =
    record { written = c.written; before = c.before; here = c.here; stands = c.stands; able = λ w. c.able (same c.here c.stands.frames c.able ∙ w) }

module _ (program : Program) (s : State) where
  abbrev f : ℕ
  f = s.frame.function

  abbrev p : ℕ
  p = s.frame.at

  abbrev next_instr : Option Instr
  next_instr = slice_get (code_in (slice_get program.functions f)) p

  pub fetch_as : (i : Option Instr) → i ≡ next_instr → (code program).fetch (place_of program s) ≡ fetched_over (Call EndBody) (decoded f p i) (place f p) []
  fetch_as i e = ap (λ o. fetched_over (Call EndBody) (decoded f p o) (place f p) []) (sym e)

  -- an action that stands there
  pub step_does : (i : Option Instr) (a : Action) (next : List Place) → i ≡ next_instr → fetched_over (Call EndBody) (decoded f p i) (place f p) [] ≡ Act a next → (d : Data) → Known program (IsPlanned program.facts Proceed) s d
      → StepIs program d (place_of program s) next (effect program.facts a d)
  step_does i a next e h d known = step_acts program d (place_of program s) next a known.1 (fetch_as i e ∙ h)

pub instr_there : {i j : Instr} {o : Option Instr} → j ≡ i → Some j ≡ o → Some i ≡ o
instr_there e h = ap Some (sym e) ∙ h

-- ---- the end of a body

body_by : (typed : Bool) (f : Frame) (fs : List Frame) (d : Data) → effect_call EndBody typed f fs d ≢ Wrong → effect_call EndBody typed f fs d ≡ effect_call EndBody false f fs d
body_by true f fs d h = absurd (h refl)
body_by false f fs d h = refl

body_in : (facts : Facts) (d : Data) (l : List Frame) → by_frame l (effect_in facts (Call EndBody) d) ≢ Wrong → by_frame l (effect_in facts (Call EndBody) d) ≡ by_frame l (λ f fs. effect_call EndBody false f fs d)
body_in facts d [] h = refl
body_in facts d (f ∷ fs) h = body_by (result_if (fact_of facts f)) f fs d h

pub body_is : (facts : Facts) (d : Data) → effect facts (Call EndBody) d ≢ Wrong → effect facts (Call EndBody) d ≡ body_ended d
unfolding effect
body_is facts d h = body_in facts d d.frames h

only_call : (a : CallAction) → a ≡ EndBody
only_call EndBody = refl

-- there is no other call so far
pub body_of_action : (facts : Facts) (a : Action) (b : CallAction) → a ≡ Call b → (d : Data) → effect facts a d ≢ Wrong → effect facts a d ≡ body_ended d
body_of_action facts a b e d h = let k = ap (λ x. effect facts x d) (e ∙ ap Call (only_call b)) in k ∙ body_is facts d (λ w. h (k ∙ w))

-- ---- ticks

module _ (facts : Facts) (old new : State) (line at : ℕ) where
  ticked_in : (d : Data) → d.frames ≡ frame_of old.frame ∷ [] → (n : ℕ) → d.left ≡ n → effect facts (Jump (Tick line)) d ≡ ticked n line (frame_of old.frame) [] d
  unfolding effect
  ticked_in d e n h = ap (λ l. by_frame l (effect_in facts (Jump (Tick line)) d)) e ∙ ap (λ k. ticked k line (frame_of old.frame) [] d) h

  pub ticks : (Means : Mem → Type 0) (written : Option (List ℕ)) (did : Did) → Ticks old new line at did → Moves Means Means written written old new did (effect facts (Jump (Tick line)))
  ticks Means written Goes t = record {
    each = λ before d stands h. record {
      to = with_newest (record d { left = new.left; taken = d.taken + 1 }) (record (frame_of old.frame) { line = line }) [];
      is = ticked_in d stands.frames (suc new.left) (stands.left ∙ (let u = t.0 in omega (arith, u)));
      holds = record {
        mem = stands.mem;
        told = stands.told;
        left = refl;
        taken = ap (λ n. n + 1) stands.taken ∙ sym t.1.0;
        frames = ap (λ g. frame_of g ∷ []) (sym t.1.1);
        constants = stands.constants;
        status = stands.status;
        block = subst (λ (g : FrameWithPlace). IsBlock d.mem g.block.0) (sym t.1.1) stands.block;
      };
    };
  }
  ticks Means written (Ends cause) t = record {
    each = λ before d stands h. record {
      to = d;
      is = ticked_in d stands.frames 0 (stands.left ∙ t.0) ∙ ap (λ (c : Cause). End (ending_of c) d) (sym t.1.0);
      holds = record { mem = stands.mem; told = stands.told; taken = stands.taken ∙ sym t.1.1 };
    };
  }
  ticks Means written SinkFault t = absurd t
  ticks Means written NoMemory t = absurd t

  pub tick_place : (did : Did) → Ticks old new line at did → IfGoes did (IsAt old new at)
  tick_place Goes t = (ap (λ (g : FrameWithPlace). g.function) t.1.1, ap (λ (g : FrameWithPlace). g.at) t.1.1)
  tick_place (Ends cause) t = tt
  tick_place SinkFault t = tt
  tick_place NoMemory t = tt

  pub tick_faults : (did : Did) (n : ℕ) → Ticks old new line at did → CountsFault did n n
  tick_faults Goes n t = refl
  tick_faults (Ends cause) n t = refl
  tick_faults SinkFault n t = absurd t
  tick_faults NoMemory n t = refl

-- an action of this group is a tick
module _ (facts : Facts) (old new : State) (a : Action) (at : ℕ) where
  pub jumps : (j : JumpAction) → a ≡ Jump j → (Means : Mem → Type 0) (written : Option (List ℕ)) (did : Did) → JumpsTo old new j at did → Moves Means Means written written old new did (effect facts a)
  jumps (Tick line) e Means written did t = subst (λ x. Moves Means Means written written old new did (effect facts x)) (sym e) (ticks facts old new line at Means written did t)

  pub jump_place : (j : JumpAction) (did : Did) → JumpsTo old new j at did → IfGoes did (IsAt old new at)
  jump_place (Tick line) did t = tick_place facts old new line at did t

  pub jump_faults : (j : JumpAction) (did : Did) (n : ℕ) → JumpsTo old new j at did → CountsFault did n n
  jump_faults (Tick line) did n t = tick_faults facts old new line at did n t

-- ---- silent steps

module _ (program : Program) (old new : State) (at : ℕ) where
  goes_there : IsNow old new (record old.frame { at = at }) → (d : Data) → NextIs program d (control_of old.frame) d ((place old.frame.function at ∷ []) ∷ []) → (New : Mem → Type 0) (written before : Option (List ℕ)) → Stands New written before old d
      → GoesOn program New written before new d (control_of old.frame)
  goes_there e d next New written before stands = record {
    to = d;
    comes = comes_next program (subst (λ (f : FrameWithPlace). NextIs program d (control_of old.frame) d (control_of f)) (sym e.0) next);
    stands = stands_now old new (record old.frame { at = at }) e New written before d stands.mem stands.told stands.left stands.taken stands.frames stands.constants stands.status stands.block;
  }

  pub passes : (n : ℕ) → Some (Go n) ≡ next_instr program old → at ≡ old.frame.at + 1 + n → (New : Mem → Type 0) (written : Option (List ℕ)) (did : Did) → Passes old new at did
      → Steps program (IsPlanned program.facts Proceed) New New written written old new did
  passes n i e New written Goes h = record {
    each = λ before d stands p never.
        let there : List Place = place old.frame.function (old.frame.at + 1 + n) ∷ [] in
        let next = next_silent program d (place_of program old) there p (fetch_as program old (Some (Go n)) i) in
        goes_there h d (subst (λ m. NextIs program d (control_of old.frame) d ((place old.frame.function m ∷ []) ∷ [])) (sym e) next) New written before stands;
  }
  passes n i e New written (Ends cause) h = absurd h
  passes n i e New written SinkFault h = absurd h
  passes n i e New written NoMemory h = record {
    each = λ before d stands p never. record {
      to = d;
      control = control_of old.frame;
      comes = comes_nowhere program d (control_of old.frame);
      short = record { sent = d.out; told = stands.told; begins = ([], sym (append-nil d.out)); taken = stands.taken ∙ sym h };
    };
  }

  pub pass_faults : (did : Did) (n : ℕ) → Passes old new at did → CountsFault did n n
  pass_faults Goes n h = refl
  pass_faults (Ends cause) n h = absurd h
  pass_faults SinkFault n h = absurd h
  pass_faults NoMemory n h = refl

-- ---- choices

pub record TruthIs (d : Data) (b : ℕ) : Type 0 where
  pub x : Content
  pub there : operand d.mem b 0 ≡ Some x
  pub can : Can (op.drop_top b) d.mem
  pub is : truth d ≡ chosen (truth_of x) (with_mem d (drop_top d.mem b))

truth_by_is : (d : Data) (f : Frame) (o : Option Content) (c : Bool) → operand d.mem f.block 0 ≡ o → can (op.drop_top f.block) d.mem ≡ c → truth d ≡ truth_by o c f d → truth d ≢ NoValue → TruthIs d f.block
truth_by_is d f None c e k t h = absurd (h t)
truth_by_is d f (Some x) false e k t h = absurd (h t)
truth_by_is d f (Some x) true e k t h = record { x = x; there = e; can = (can-decides d.mem (op.drop_top f.block)).0 k; is = t }

truth_unfolds : (d : Data) (f : Frame) → d.frames ≡ f ∷ [] → truth d ≡ truth_by (operand d.mem f.block 0) (can (op.drop_top f.block) d.mem) f d
unfolding truth
truth_unfolds d f e = ap (truth_in d) e

pub truth_is : (d : Data) (f : Frame) → d.frames ≡ f ∷ [] → truth d ≢ NoValue → TruthIs d f.block
truth_is d f e h = truth_by_is d f (operand d.mem f.block 0) (can (op.drop_top f.block) d.mem) refl refl (truth_unfolds d f e) h

module _ (Old New : Mem → Type 0) (old new : State) (by : ℕ) where
  pub may_look : MayChoose Old old → SomeMeant Old (HasOperand old.frame.block.0 0)
  may_look c = let t = truth_is c.here (frame_of old.frame) c.stands.frames c.able in (c.here.mem, c.stands.mem, (t.x, t.there))

  pub may_drop : MayChoose Old old → SomeMeant Old (Can (op.drop_top old.frame.block.0))
  may_drop c = let t = truth_is c.here (frame_of old.frame) c.stands.frames c.able in (c.here.mem, c.stands.mem, t.can)

  module _ (does : Does Old New (λ m. drop_top m old.frame.block.0)) (at : ℕ) (is_new : IsNow old new (record old.frame { at = at })) where
    stands_there : (written before : Option (List ℕ)) (d : Data) → Can (op.drop_top old.frame.block.0) d.mem → Stands Old written before old d → Stands New written before new (with_mem d (drop_top d.mem old.frame.block.0))
    stands_there written before d can stands =
        stands_now old new (record old.frame { at = at }) is_new New written before (with_mem d (drop_top d.mem old.frame.block.0)) (does d.mem stands.mem) stands.told stands.left stands.taken stands.frames stands.constants stands.status
        ((kept_one (op.drop_top old.frame.block.0) d.mem tt can).blocks old.frame.block.0 stands.block)

    is_at : IsAt old new at
    is_at = (ap (λ (f : FrameWithPlace). f.function) is_new.0, ap (λ (f : FrameWithPlace). f.at) is_new.0)

    module _ (t : Bool) (looked : EachMeant Old (λ m. (x : Content) → operand m old.frame.block.0 0 ≡ Some x → t ≡ truth_of x)) where
      chosen_is : (v : Bool) → t ≡ v → (d : Data) → Old d.mem → (i : TruthIs d old.frame.block.0) → truth d ≡ chosen v (with_mem d (drop_top d.mem old.frame.block.0))
      chosen_is v e d m i = i.is ∙ ap (λ w. chosen w (with_mem d (drop_top d.mem old.frame.block.0))) (sym (looked d.mem m i.x i.there) ∙ e)

      pub chooses_yes : t ≡ true → at ≡ old.frame.at + 1 → Chooses Old New old new by Goes
      chooses_yes e a = record {
        each = λ written before d stands h.
            let i = truth_is d (frame_of old.frame) stands.frames h in
            inl (subst (IsAt old new) a is_at, record { to = with_mem d (drop_top d.mem old.frame.block.0); is = chosen_is true e d stands.mem i; stands = stands_there written before d i.can stands });
      }

      pub chooses_no : t ≡ false → at ≡ old.frame.at + 1 + by → Chooses Old New old new by Goes
      chooses_no e a = record {
        each = λ written before d stands h.
            let i = truth_is d (frame_of old.frame) stands.frames h in
            inr (subst (IsAt old new) a is_at, record { to = with_mem d (drop_top d.mem old.frame.block.0); is = chosen_is false e d stands.mem i; stands = stands_there written before d i.can stands });
      }

  pub chooses_not : new.taken ≡ old.taken → Chooses Old Old old new by NoMemory
  chooses_not e = record { each = λ written before d stands h. e }

  pub choice_faults : (did : Did) (n : ℕ) → MayChoose Old old → Chooses Old New old new by did → CountsFault did n n
  choice_faults Goes n c h = refl
  choice_faults (Ends cause) n c h = absurd (h.each c.written c.before c.here c.stands c.able)
  choice_faults SinkFault n c h = absurd (h.each c.written c.before c.here c.stands c.able)
  choice_faults NoMemory n c h = refl

module _ (program : Program) (Old New : Mem → Type 0) (old new : State) (by : ℕ) (i : Some (Unless by) ≡ next_instr program old) where
  abbrev place_at : List Place → ℕ
  place_at [] = 0
  place_at (c ∷ cs) = c.at

  abbrev first : List Place
  first = place old.frame.function (old.frame.at + 1) ∷ []

  abbrev second : List Place
  second = place old.frame.function (old.frame.at + 1 + by) ∷ []

  chosen_step : (d : Data) (t : Truth) → IsPlanned program.facts Proceed d → truth d ≡ t → (n : ℕ) (ns : List ℕ)
      → runs_from program (suc n) ns d (control_of old.frame) ≡ chosen_by (rules program.facts) (code program) (run_machine (rules program.facts) (code program) n) ns t first second [] []
  chosen_step d t p e n ns = step_chooses program d (place_of program old) first second t p (fetch_as program old (Some (Unless by)) i) e n ns

  some_value : (d : Data) → IsPlanned program.facts Proceed d → NeverStuck program d (control_of old.frame) → truth d ≢ NoValue
  some_value d p never e = never 1 [] (chosen_step d NoValue p e 0 [])

  pub may_choose : CanStep program (IsPlanned program.facts Proceed) Old old → MayChoose Old old
  may_choose c = record { written = c.written; before = c.before; here = c.here; stands = c.stands; able = some_value c.here c.holds c.never_stuck }

  module _ (written before : Option (List ℕ)) (d : Data) (p : IsPlanned program.facts Proceed d) (stands : Stands Old written before old d) where
    went : (to : Data) (next : List Place) → IsAt old new (place_at next) → NextIs program d (control_of old.frame) to (next ∷ []) → next ≡ place old.frame.function (place_at next) ∷ [] → Stands New written before new to → GoesOn program New written before new d (control_of old.frame)
    went to next at is e there = record { to = to; comes = comes_next program (subst (λ c. NextIs program d (control_of old.frame) to (c ∷ [])) (e ∙ at_place program old new (place_at next) at) is); stands = there }

    by_choice : (did : Did) → IsChosen New written before old new by (truth d) did → IsStepped program New written before new did d (control_of old.frame)
    by_choice Goes (inl h) = went h.1.to first h.0 (λ n ns. chosen_step d (Yes h.1.to) p h.1.is n ns) refl h.1.stands
    by_choice Goes (inr h) = went h.1.to second h.0 (λ n ns. chosen_step d (No h.1.to) p h.1.is n ns) refl h.1.stands
    by_choice (Ends cause) h = absurd h
    by_choice SinkFault h = absurd h
    by_choice NoMemory h = record {
      to = d;
      control = control_of old.frame;
      comes = comes_nowhere program d (control_of old.frame);
      short = record { sent = d.out; told = stands.told; begins = ([], sym (append-nil d.out)); taken = stands.taken ∙ sym h };
    }

  pub chosen_steps : (written : Option (List ℕ)) (did : Did) → Chooses Old New old new by did → Steps program (IsPlanned program.facts Proceed) Old New written written old new did
  chosen_steps written did h = record { each = λ before d stands p never. by_choice written before d p stands did (h.each written before d stands (some_value d p never)) }
