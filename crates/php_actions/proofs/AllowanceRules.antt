-- Data with more ticks left goes on in the same way, until the other has none.
use Rattle.std.proofs.Common.{◌≡◌, ℕ, zero, suc, ◌≤◌, Bool, true, false, List, [], ◌∷◌, Option, Some, None, refl, subst, sym, ◌⊎◌, inl, inr, arith}
use Rattle.php_memdef.specs.Contents.{Content}
use Rattle.php_memdef.specs.Temporaries.{drop_top}
use Rattle.php_machine.specs.Moves.{Proceed, Complete, Make}
use Rattle.php_machine.specs.Allowance.{SameMove, SamePlan, SameTruth, Cuts, Allows}
use Rattle.php_machine.proofs.OutputLemmas.{Begins_refl}
use Rattle.php_actions.specs.declared.ending.Ending.TheVariants.{Cut}
use Rattle.php_actions.specs.declared.facts.Facts.{Facts}
use Rattle.php_actions.specs.declared.action.Action.{Action}
use Rattle.php_actions.specs.declared.jumps.JumpAction.{JumpAction}
use Rattle.php_actions.specs.declared.jumps.JumpAction.TheVariants.{Tick}
use Rattle.php_actions.specs.Data.{Frame, Data, Move, Plan, with_mem, with_left, by_frame}
use Rattle.php_actions.specs.Contents.{truth_of}
use Rattle.php_memdef.specs.Operations as op
use Rattle.php_memdef.specs.Deciders.{can}
use Rattle.php_actions.specs.Steps.{operand}
use Rattle.php_actions.specs.Jumps.{ticked, effect_jump}
use Rattle.php_actions.specs.Effect.{effect_in, effect}
use Rattle.php_actions.specs.Frames.{landed, unserved_in, unserved}
use Rattle.php_actions.specs.Plan.{planned, plan, chosen, truth_by, truth_in, truth, rules}
use Rattle.php_actions.specs.Allowances.{output_of, HasMoreTicks}
use Rattle.php_actions.proofs.EvenLemmas.{SamePlanBy, effect_in-R, unserved_in-R, planned-R}

-- an action may be cut, and no other step is
abbrev Acts : List ℕ → Move → Move → Type 0
Acts ys move too = Cuts Cut output_of move ys ⊎ SameMove HasMoreTicks move too

abbrev Within : ℕ → ℕ → List ℕ → Type 0
Within n left out = left ≤ n

module _ (n : ℕ) where
  ticked-allows : (left m line : ℕ) (f : Frame) (fs : List Frame) (d : Data) → left ≤ m → Acts d.out (ticked left line f fs d) (ticked m line f fs (with_left n d))
  ticked-allows zero m line f fs d le = inl (d, refl, Begins_refl d.out)
  ticked-allows (suc l) zero line f fs d le = absurd (omega (arith, le))
  ticked-allows (suc l) (suc m) line f fs d le = inr (_, refl, (refl, omega (arith, le)))

  jump-allows : (j : JumpAction) (f : Frame) (fs : List Frame) (d : Data) → d.left ≤ n → Acts d.out (effect_jump j f fs d) (effect_jump j f fs (with_left n d))
  jump-allows (Tick line) f fs d le = ticked-allows d.left n line f fs d le

  by_frame-allows : (facts : Facts) (a : Action) (d : Data) (fs : List Frame) → d.left ≤ n → Acts d.out (by_frame fs (effect_in facts a d)) (by_frame fs (effect_in facts a (with_left n d)))
  by_frame-allows facts a d [] le = inr refl
  by_frame-allows facts a d (f ∷ fs) le =
      effect_in-R n (Within n) (Acts d.out) (inr refl) (λ e k. inr (with_left n e, refl, (refl, k))) (λ e k. inr (with_left n e, refl, (refl, k))) (λ w e k. inr (with_left n e, refl, (refl, k))) (λ l o t h. h)
      facts a d f fs le (λ j. jump-allows j f fs d le)

  unserved-allows : (facts : Facts) (d : Data) (fs : List Frame) → d.left ≤ n → SameMove HasMoreTicks (by_frame fs (unserved_in facts d)) (by_frame fs (unserved_in facts (with_left n d)))
  unserved-allows facts d [] le = refl
  unserved-allows facts d (f ∷ fs) le =
      unserved_in-R n (Within n) (SameMove HasMoreTicks) refl (λ e k. (with_left n e, refl, (refl, k))) (λ e k. (with_left n e, refl, (refl, k))) (λ w e k. (with_left n e, refl, (refl, k))) (λ l o t h. h)
      facts d f fs le

  plan_of : (p too : Plan) → SamePlanBy (SameMove HasMoreTicks) p too → SamePlan HasMoreTicks p too
  plan_of Proceed too h = h
  plan_of (Complete why) too h = h
  plan_of (Make move) too h = h

  planned-allows : (facts : Facts) (d : Data) → d.left ≤ n → SamePlan HasMoreTicks (planned facts d d.frames) (planned facts (with_left n d) d.frames)
  planned-allows facts d le =
      plan_of (planned facts d d.frames) (planned facts (with_left n d) d.frames)
      (planned-R n (Within n) (SameMove HasMoreTicks) refl (λ e k. (with_left n e, refl, (refl, k))) (λ e k. (with_left n e, refl, (refl, k))) (λ w e k. (with_left n e, refl, (refl, k))) (λ l o t h. h) facts d d.frames le)

  chosen-allows : (b : Bool) (d : Data) → d.left ≤ n → SameTruth HasMoreTicks (chosen b d) (chosen b (with_left n d))
  chosen-allows true d le = (with_left n d, refl, (refl, le))
  chosen-allows false d le = (with_left n d, refl, (refl, le))

  truth_by-allows : (c : Option Content) (can : Bool) (f : Frame) (d : Data) → d.left ≤ n → SameTruth HasMoreTicks (truth_by c can f d) (truth_by c can f (with_left n d))
  truth_by-allows None can f d le = refl
  truth_by-allows (Some c) false f d le = refl
  truth_by-allows (Some c) true f d le = chosen-allows (truth_of c) (with_mem d (drop_top d.mem f.block)) le

  truth_in-allows : (d : Data) (fs : List Frame) → d.left ≤ n → SameTruth HasMoreTicks (truth_in d fs) (truth_in (with_left n d) fs)
  truth_in-allows d [] le = refl
  truth_in-allows d (f ∷ fs) le = truth_by-allows (operand d.mem f.block 0) (can (op.drop_top f.block) d.mem) f d le

-- what holds of the same data with n ticks left holds of any that has more
with_more : (P : Data → Data → Type 0) (d e : Data) → ((n : ℕ) → d.left ≤ n → P d (with_left n d)) → HasMoreTicks d e → P d e
with_more P d e h more = subst (P d) (sym more.0) (h e.left more.1)

pub allows-lem : (facts : Facts) → Allows (rules facts) output_of Cut HasMoreTicks
unfolding effect plan truth landed unserved
allows-lem facts = record {
  outputs = λ d e more. with_more (λ d e. d.out ≡ e.out) d e (λ n le. refl) more;
  effect = λ a d e more. with_more (λ d e. Acts e.out (effect facts a d) (effect facts a e)) d e (λ n le. by_frame-allows n facts a d d.frames le) more;
  plan = λ d e more. with_more (λ d e. SamePlan HasMoreTicks (plan facts d) (plan facts e)) d e (λ n le. planned-allows n facts d le) more;
  truth = λ d e more. with_more (λ d e. SameTruth HasMoreTicks (truth d) (truth e)) d e (λ n le. truth_in-allows n d d.frames le) more;
  landed = λ d e more. with_more (λ d e. HasMoreTicks (landed d) (landed e)) d e (λ n le. (refl, le)) more;
  unserved = λ d e more. with_more (λ d e. SameMove HasMoreTicks (unserved facts d) (unserved facts e)) d e (λ n le. unserved-allows n facts d d.frames le) more;
}
