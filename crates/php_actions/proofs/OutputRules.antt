-- No step takes back what was written.
use Rattle.std.proofs.Common.{ℕ, zero, suc, Bool, true, false, List, [], ◌∷◌, ◌++◌, Option, Some, None, ap, ◌∙◌, subst}
use Rattle.std.proofs.lemmas.List.{append_assoc}
use Rattle.php_memdef.specs.Contents.{Content}
use Rattle.php_memdef.specs.Temporaries.{drop_top}
use Rattle.php_machine.specs.Moves.{Proceed, Complete, Make}
use Rattle.php_machine.specs.Outputs.{Begins, MoveBegins, TruthBegins, OnlyWrites}
use Rattle.php_machine.proofs.OutputLemmas.{Begins_refl}
use Rattle.php_actions.specs.declared.facts.Facts.{Facts}
use Rattle.php_actions.specs.declared.action.Action.{Action}
use Rattle.php_actions.specs.declared.jumps.JumpAction.{JumpAction}
use Rattle.php_actions.specs.declared.jumps.JumpAction.TheVariants.{Tick}
use Rattle.php_actions.specs.Data.{Frame, Data, Move, Plan, with_mem, with_left, by_frame}
use Rattle.php_actions.specs.Contents.{truth_of}
use Rattle.php_memdef.specs.Operations as op
use Rattle.php_memdef.specs.Deciders.{can}
use Rattle.php_actions.specs.Steps.{operand}
use Rattle.php_actions.specs.Jumps.{ticked, effect_jump}
use Rattle.php_actions.specs.Effect.{effect_in, effect}
use Rattle.php_actions.specs.Frames.{landed, unserved_in, unserved}
use Rattle.php_actions.specs.Plan.{planned, plan, chosen, truth_by, truth_in, truth, rules}
use Rattle.php_actions.specs.Allowances.{output_of}
use Rattle.php_actions.proofs.EvenLemmas.{SamePlanBy, effect_in-R, unserved_in-R, planned-R}

module _ (xs : List ℕ) where
  abbrev Writes : Move → Move → Type 0
  Writes move too = MoveBegins output_of xs move

  abbrev Written : ℕ → List ℕ → Type 0
  Written left out = Begins xs out

  more : (l : ℕ) (o t : List ℕ) → Begins xs o → Begins xs (o ++ t)
  more l o t h = (h.0 ++ t, ap (λ y. y ++ t) h.1 ∙ append_assoc xs h.0 t)

  ticked-writes : (left line : ℕ) (f : Frame) (fs : List Frame) (d : Data) → Begins xs d.out → MoveBegins output_of xs (ticked left line f fs d)
  ticked-writes zero line f fs d h = h
  ticked-writes (suc n) line f fs d h = h

  jump-writes : (j : JumpAction) (f : Frame) (fs : List Frame) (d : Data) → Begins xs d.out → MoveBegins output_of xs (effect_jump j f fs d)
  jump-writes (Tick line) f fs d h = ticked-writes d.left line f fs d h

  by_frame-writes : (facts : Facts) (a : Action) (d : Data) (fs : List Frame) → Begins xs d.out → MoveBegins output_of xs (by_frame fs (effect_in facts a d))
  by_frame-writes facts a d [] h = tt
  by_frame-writes facts a d (f ∷ fs) h =
      effect_in-R 0 Written Writes tt (λ e k. k) (λ e k. k) (λ w e k. k) more facts a d f fs h (λ j. jump-writes j f fs d h)

  unserved-writes : (facts : Facts) (d : Data) (fs : List Frame) → Begins xs d.out → MoveBegins output_of xs (by_frame fs (unserved_in facts d))
  unserved-writes facts d [] h = tt
  unserved-writes facts d (f ∷ fs) h = unserved_in-R 0 Written Writes tt (λ e k. k) (λ e k. k) (λ w e k. k) more facts d f fs h

  abbrev PlanWrites : Plan → Type 0
  PlanWrites Proceed = Unit {0}
  PlanWrites (Complete why) = Unit {0}
  PlanWrites (Make move) = MoveBegins output_of xs move

  plan_of : (p too : Plan) → SamePlanBy Writes p too → PlanWrites p
  plan_of Proceed too h = tt
  plan_of (Complete why) too h = tt
  plan_of (Make move) too h = h.2

  planned-writes : (facts : Facts) (d : Data) → Begins xs d.out → PlanWrites (planned facts d d.frames)
  planned-writes facts d h =
      plan_of (planned facts d d.frames) (planned facts (with_left 0 d) d.frames) (planned-R 0 Written Writes tt (λ e k. k) (λ e k. k) (λ w e k. k) more facts d d.frames h)

  chosen-writes : (b : Bool) (d : Data) → Begins xs d.out → TruthBegins output_of xs (chosen b d)
  chosen-writes true d h = h
  chosen-writes false d h = h

  truth_by-writes : (c : Option Content) (can : Bool) (f : Frame) (d : Data) → Begins xs d.out → TruthBegins output_of xs (truth_by c can f d)
  truth_by-writes None can f d h = tt
  truth_by-writes (Some c) false f d h = tt
  truth_by-writes (Some c) true f d h = chosen-writes (truth_of c) (with_mem d (drop_top d.mem f.block)) h

  truth_in-writes : (d : Data) (fs : List Frame) → Begins xs d.out → TruthBegins output_of xs (truth_in d fs)
  truth_in-writes d [] h = tt
  truth_in-writes d (f ∷ fs) h = truth_by-writes (operand d.mem f.block 0) (can (op.drop_top f.block) d.mem) f d h

pub only_writes-lem : (facts : Facts) → OnlyWrites (rules facts) output_of
unfolding effect plan truth landed unserved
only_writes-lem facts = record {
  effect = λ a d. by_frame-writes d.out facts a d d.frames (Begins_refl d.out);
  truth = λ d. truth_in-writes d.out d d.frames (Begins_refl d.out);
  landed = λ d. Begins_refl d.out;
  unserved = λ d. unserved-writes d.out facts d d.frames (Begins_refl d.out);
  makes = λ d mv e. subst (PlanWrites d.out) e (planned-writes d.out facts d (Begins_refl d.out));
}
