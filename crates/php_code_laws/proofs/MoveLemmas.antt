-- What moves the actions that are told make.
use Rattle.std.proofs.Common.{◌≡◌, ℕ, zero, suc, ◌-◌, ◌≤◌, Bool, true, false, List, [], ◌∷◌, Option, Some, None, sym, subst, arith}
use Rattle.php_value.specs.declared.scalar.Scalar.TheVariants as scalar
use Rattle.php_frames.specs.declared.completion.Completion.TheVariants.{Return}
use Rattle.php_frames.specs.declared.frame.Way.TheVariants.{Ending}
use Rattle.php_memdef.specs.Contents.{Content, Mem}
use Rattle.php_memdef.specs.Temporaries.{push, turn, drop_top}
use Rattle.php_memdef.specs.Operations as op
use Rattle.php_memdef.specs.Deciders.{can}
use Rattle.php_machine.specs.Moves.{Next, Leave, End, Wrong, Yes, No, NoValue}
use Rattle.php_actions.specs.declared.facts.Facts.{Facts}
use Rattle.php_actions.specs.declared.action.Action.{Action}
use Rattle.php_actions.specs.declared.action.Action.TheVariants.{Call, Jump}
use Rattle.php_actions.specs.declared.calls.CallAction.TheVariants.{EndBody}
use Rattle.php_actions.specs.declared.jumps.JumpAction.{JumpAction}
use Rattle.php_actions.specs.declared.jumps.JumpAction.TheVariants.{Tick}
use Rattle.php_actions.specs.Data.{Frame, Data, Move, Truth, with_mem, with_newest, by_frame, on}
use Rattle.php_actions.specs.Contents.{truth_of}
use Rattle.php_actions.specs.Steps.{turned, drops, sink, trim}
use Rattle.php_actions.specs.Steps.{operand}
use Rattle.php_actions.specs.Calls.{completes, effect_call}
use Rattle.php_actions.specs.Jumps.{ticked, effect_jump}
use Rattle.php_actions.specs.Effect.{effect_in, effect, fact_of, result_if}
use Rattle.php_actions.specs.Frames.{operand_count, cleared, unserved_in, unserved}
use Rattle.php_actions.specs.Plan.{chosen, truth_by, truth_in, truth}
use Rattle.php_actions.proofs.EvenLemmas.{effect_in-R}

-- the move goes on in the frame, or the frame or the run ends; no more than so many ticks are left
abbrev pub Plain : ℕ → Move → Type 0
Plain left (Next d) = d.left ≤ left
Plain left (Leave d) = d.left ≤ left
Plain left (End e d) = Unit {0}
Plain left Wrong = Unit {0}
Plain left _ = ⊥

module _ (left : ℕ) where
  abbrev HasNoMore : ℕ → List ℕ → Type 0
  HasNoMore n out = n ≤ left

  abbrev IsPlain : Move → Move → Type 0
  IsPlain move too = Plain left move

  ticked-plain : (n line : ℕ) (f : Frame) (fs : List Frame) (d : Data) → n ≤ left → Plain left (ticked n line f fs d)
  ticked-plain zero line f fs d h = tt
  ticked-plain (suc n) line f fs d h = omega (arith, h)

  jump-plain : (j : JumpAction) (f : Frame) (fs : List Frame) (d : Data) → d.left ≤ left → Plain left (effect_jump j f fs d)
  jump-plain (Tick line) f fs d h = ticked-plain d.left line f fs d h

  by_frame-plain : (facts : Facts) (a : Action) (d : Data) (fs : List Frame) → d.left ≤ left → Plain left (by_frame fs (effect_in facts a d))
  by_frame-plain facts a d [] h = tt
  by_frame-plain facts a d (f ∷ fs) h =
      effect_in-R 0 HasNoMore IsPlain tt (λ e k. k) (λ e k. k) (λ w e k. tt) (λ l o t k. k) facts a d f fs h (λ j. jump-plain j f fs d h)

  pub effect-plain : (facts : Facts) (a : Action) (d : Data) → d.left ≤ left → Plain left (effect facts a d)
  unfolding effect
  effect-plain facts a d h = by_frame-plain facts a d d.frames h

-- ---- choices

abbrev pub PlainTruth : ℕ → Truth → Type 0
PlainTruth left (Yes d) = d.left ≤ left
PlainTruth left (No d) = d.left ≤ left
PlainTruth left NoValue = Unit {0}

module _ (left : ℕ) where
  chosen-plain : (b : Bool) (d : Data) → d.left ≤ left → PlainTruth left (chosen b d)
  chosen-plain true d h = h
  chosen-plain false d h = h

  truth_by-plain : (c : Option Content) (can : Bool) (f : Frame) (d : Data) → d.left ≤ left → PlainTruth left (truth_by c can f d)
  truth_by-plain None can f d h = tt
  truth_by-plain (Some c) false f d h = tt
  truth_by-plain (Some c) true f d h = chosen-plain (truth_of c) (with_mem d (drop_top d.mem f.block)) h

  truth_in-plain : (d : Data) (fs : List Frame) → d.left ≤ left → PlainTruth left (truth_in d fs)
  truth_in-plain d [] h = tt
  truth_in-plain d (f ∷ fs) h = truth_by-plain (operand d.mem f.block 0) (can (op.drop_top f.block) d.mem) f d h

  pub truth-plain : (d : Data) → d.left ≤ left → PlainTruth left (truth d)
  unfolding truth
  truth-plain d h = truth_in-plain d d.frames h

-- ---- what goes on after operations holds of the move, or they can't be made

module _ (P : Move → Type 0) (wrong : P Wrong) where
  pub on-leads : (t : Bool) (m : Mem) (go : Mem → Move) → ((n : Mem) → P (go n)) → P (on t m go)
  on-leads true m go h = h m
  on-leads false m go h = wrong

  pub turned-leads : (b k : ℕ) (m : Mem) (go : Mem → Move) → ((n : Mem) → P (go n)) → P (turned b k m go)
  turned-leads b k m go h = on-leads (can (op.turn b k) m) (turn m b k) go h

  pub drops-leads : (b k : ℕ) (m : Mem) (go : Mem → Move) → ((n : Mem) → P (go n)) → P (drops b k m go)
  drops-leads b zero m go h = h m
  drops-leads b (suc k) m go h = on-leads (can (op.drop_top b) m) (drop_top m b) (λ n. drops b k n go) (λ n. drops-leads b k n go h)

  sink-leads : (b k : ℕ) (m : Mem) (go : Mem → Move) → ((n : Mem) → P (go n)) → P (sink b k m go)
  sink-leads b zero m go h = h m
  sink-leads b (suc k) m go h = turned-leads b (suc (suc k)) m (λ n. drops b (suc k) n go) (λ n. drops-leads b (suc k) n go h)

  trim-leads : (b k : ℕ) (m : Mem) (go : Mem → Move) → ((n : Mem) → P (go n)) → P (trim b k m go)
  trim-leads b zero m go h = h m
  trim-leads b (suc k) m go h =
      turned-leads b (suc (suc k)) m (λ n. turned b (suc k) n (λ l. drops b (suc k) l go))
      (λ n. turned-leads b (suc k) n (λ l. drops b (suc k) l go) (λ l. drops-leads b (suc k) l go h))

  cleared-leads : (given : Option ℕ) (b k : ℕ) (m : Mem) (go : Mem → Move) → ((n : Mem) → P (go n)) → P (cleared given b k m go)
  cleared-leads None b k m go h = trim-leads b k m go h
  cleared-leads (Some given) b k m go h = sink-leads b k m go h

  -- nothing serves the completion: the frame begins to end
  pub unserved-leads : (facts : Facts) (d : Data) (f : Frame) (fs : List Frame) → d.frames ≡ f ∷ fs
      → ((n : Mem) → P (Next (with_newest (with_mem d n) (record f { way = Ending }) fs))) → P (unserved facts d)
  unfolding unserved
  unserved-leads facts d f fs e h =
      subst (λ l. P (by_frame l (unserved_in facts d))) (sym e)
      (cleared-leads f.given f.block (operand_count facts f d.mem - 1) d.mem (λ m. Next (with_newest (with_mem d m) (record f { way = Ending }) fs)) h)

  body-leads : (typed : Bool) (f : Frame) (fs : List Frame) (d : Data) → ((n : Mem) → P (completes Return f fs (with_mem d n))) → P (effect_call EndBody typed f fs d)
  body-leads true f fs d h = wrong
  body-leads false f fs d h = on-leads (can (op.push f.block scalar.Null) d.mem) (push d.mem f.block scalar.Null) (λ m. completes Return f fs (with_mem d m)) h

  -- at the end of a body a return is under way
  pub end-leads : (facts : Facts) (d : Data) (f : Frame) (fs : List Frame) → d.frames ≡ f ∷ fs
      → ((n : Mem) → P (completes Return f fs (with_mem d n))) → P (effect facts (Call EndBody) d)
  unfolding effect
  end-leads facts d f fs e h =
      subst (λ l. P (by_frame l (effect_in facts (Call EndBody) d))) (sym e) (body-leads (result_if (fact_of facts f)) f fs d h)

-- a tick lowers what is left, or the run is cut
abbrev pub Fewer : ℕ → Move → Type 0
Fewer left (Next d) = suc d.left ≤ left
Fewer left (End e d) = Unit {0}
Fewer left Wrong = Unit {0}
Fewer left _ = ⊥

ticked-fewer : (n line : ℕ) (f : Frame) (fs : List Frame) (d : Data) → Fewer n (ticked n line f fs d)
ticked-fewer zero line f fs d = tt
ticked-fewer (suc n) line f fs d = omega arith

tick_in-fewer : (facts : Facts) (line : ℕ) (d : Data) (fs : List Frame) → Fewer d.left (by_frame fs (effect_in facts (Jump (Tick line)) d))
tick_in-fewer facts line d [] = tt
tick_in-fewer facts line d (f ∷ fs) = ticked-fewer d.left line f fs d

pub tick-fewer : (facts : Facts) (line : ℕ) (d : Data) → Fewer d.left (effect facts (Jump (Tick line)) d)
unfolding effect
tick-fewer facts line d = tick_in-fewer facts line d d.frames
