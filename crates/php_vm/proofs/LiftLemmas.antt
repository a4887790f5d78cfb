-- From actions to moves of the machine.
use Rattle.std.proofs.Common.{◌≡◌, ℕ, Bool, List, [], ◌∷◌, ◌++◌, Option, Some, None, refl, sym, ap, ◌∙◌, subst, append_assoc, append-nil}
use Rattle.std.specs.Prelude.{option_map, take, drop}
use Rattle.std.proofs.lemmas.List.{take-append-drop}
use Rattle.php_base.specs.Written.{GrewBy}
use Rattle.php_memdef.specs.Contents.{Mem}
use Rattle.php_memdef.specs.Conditions.{IsBlock}
use Rattle.php_actions.specs.declared.facts.Facts.{Facts}
use Rattle.php_actions.specs.declared.action.Action.{Action}
use Rattle.php_actions.specs.Data.{Frame, Data, Move, by_frame}
use Rattle.php_actions.specs.declared.action.Action.TheVariants.{Place}
use Rattle.php_actions.specs.declared.places.PlaceAction.{PlaceAction}
use Rattle.php_actions.specs.Places.{effect_place}
use Rattle.php_actions.specs.Effect.{effect, effect_in, fact_of, this_if}
use Rattle.php_vm_actions.specs.declared.did.Did.{Did}
use Rattle.php_vm_actions.specs.declared.did.Did.TheVariants.{Goes, Ends, SinkFault, NoMemory}
use Rattle.php_vm.specs.declared.state.State.{State}
use Rattle.php_vm_actions.specs.Acting.{frame_of, Ready, CanMove, IsDone, Acts, IsDoneWriting, ActsWriting, CountsFault}
use Rattle.php_vm.specs.Running.{Stands, IfGoes, IsMoved, MayMove, Moves}

pub effect_is : (facts : Facts) (a : Action) (d : Data) (f : Frame) → d.frames ≡ f ∷ [] → effect facts a d ≡ effect_in facts a d f []
unfolding effect
effect_is facts a d f e = ap (λ l. by_frame l (effect_in facts a d)) e

pub ready_of : (Means : Mem → Type 0) (written before : Option (List ℕ)) (s : State) (d : Data) → Stands Means written before s d → Ready Means s.frame.block.0 d
ready_of Means written before s d h = record { mem = h.mem; block = h.block; constants = h.constants }

pub can_act : (Means : Mem → Type 0) (s : State) (move part : Data → Move) → ((d : Data) → d.frames ≡ frame_of s.frame ∷ [] → move d ≡ part d) → MayMove Means s move → CanMove Means s.frame.block.0 part
can_act Means s move part same c =
    record { here = c.here; ready = ready_of Means c.written c.before s c.here c.stands; able = λ w. c.able (same c.here c.stands.frames ∙ w) }

pub grown_twice : (before : Option (List ℕ)) (xs ys : List ℕ) → option_map (λ w. w ++ ys) (option_map (λ w. w ++ xs) before) ≡ option_map (λ w. w ++ (xs ++ ys)) before
grown_twice None xs ys = refl
grown_twice (Some w) xs ys = ap Some (append_assoc w xs ys)

grown_by : (before old new : Option (List ℕ)) (xs ys : List ℕ) → GrewBy before old xs → GrewBy old new ys → GrewBy before new (xs ++ ys)
grown_by before old new xs ys h k = k ∙ ap (λ o. option_map (λ w. w ++ ys) o) h ∙ grown_twice before xs ys

grown_by_none : (before old new : Option (List ℕ)) (xs : List ℕ) → GrewBy before old xs → new ≡ old → GrewBy before new xs
grown_by_none before old new xs h k = k ∙ h

module _ (Old New : Mem → Type 0) (old new : State) (move part : Data → Move)
    (same : (d : Data) → d.frames ≡ frame_of old.frame ∷ [] → move d ≡ part d)
    (frames : frame_of new.frame ≡ frame_of old.frame) (left : new.left ≡ old.left) (taken : new.taken ≡ old.taken) where
  block_same : (d : Data) → IsBlock d.mem old.frame.block.0 → IsBlock d.mem new.frame.block.0
  block_same d h = subst (λ (g : Frame). IsBlock d.mem g.block) (sym frames) h

  module _ (written before : Option (List ℕ)) (d : Data) (stands : Stands Old written before old d) where
    moved : (did : Did) → IsDone New did d (part d) → IsMoved New written before new did d (move d)
    moved Goes r =
        let o = r.follows.others in
        record {
          to = r.to;
          is = same d stands.frames ∙ r.is;
          holds = record {
            mem = r.follows.mem;
            told = stands.told ∙ ap (λ x. option_map (λ w. w ++ x) before) (sym (ap (λ (e : Data). e.out) o));
            left = ap (λ (e : Data). e.left) o ∙ stands.left ∙ sym left;
            taken = ap (λ (e : Data). e.taken) o ∙ stands.taken ∙ sym taken;
            frames = ap (λ (e : Data). e.frames) o ∙ stands.frames ∙ ap (λ g. g ∷ []) (sym frames);
            constants = ap (λ (e : Data). e.constants) o ∙ stands.constants;
            status = ap (λ (e : Data). e.status) o ∙ stands.status;
            block = block_same r.to (r.follows.kept.blocks old.frame.block.0 stands.block);
          };
        }
    moved (Ends cause) r =
        let o = r.follows.others in
        record {
          to = r.to;
          is = same d stands.frames ∙ r.is;
          holds = record {
            mem = r.follows.mem;
            told = stands.told ∙ ap (λ x. option_map (λ w. w ++ x) before) (sym (ap (λ (e : Data). e.out) o));
            taken = ap (λ (e : Data). e.taken) o ∙ stands.taken ∙ sym taken;
          };
        }
    moved SinkFault r = absurd r
    moved NoMemory r = record { sent = d.out; told = stands.told; begins = ([], sym (append-nil d.out)); taken = stands.taken ∙ sym taken }

  pub acts_move : (written : Option (List ℕ)) (did : Did) → Acts Old New old.frame.block.0 did part → Moves Old New written written old new did move
  acts_move written did acts = record {
    each = λ before d stands h. moved written before d stands did (acts.each d (ready_of Old written before old d stands) (λ w. h (same d stands.frames ∙ w)));
  }

  module _ (wo wn before : Option (List ℕ)) (d : Data) (stands : Stands Old wo before old d) where
    moved_writing : (did : Did) → IsDoneWriting New wo wn did d (part d) → IsMoved New wn before new did d (move d)
    moved_writing Goes r =
        let o = r.wrote.others in
        record {
          to = r.to;
          is = same d stands.frames ∙ r.is;
          holds = record {
            mem = r.wrote.mem;
            told = grown_by before wo wn d.out r.text stands.told r.grew ∙ ap (λ x. option_map (λ w. w ++ x) before) (sym (ap (λ (e : Data). e.out) o));
            left = ap (λ (e : Data). e.left) o ∙ stands.left ∙ sym left;
            taken = ap (λ (e : Data). e.taken) o ∙ stands.taken ∙ sym taken;
            frames = ap (λ (e : Data). e.frames) o ∙ stands.frames ∙ ap (λ g. g ∷ []) (sym frames);
            constants = ap (λ (e : Data). e.constants) o ∙ stands.constants;
            status = ap (λ (e : Data). e.status) o ∙ stands.status;
            block = block_same r.to (r.wrote.kept.blocks old.frame.block.0 stands.block);
          };
        }
    moved_writing (Ends cause) r =
        let o = r.wrote.others in
        record {
          to = r.to;
          is = same d stands.frames ∙ r.is;
          holds = record {
            mem = r.wrote.mem;
            told = grown_by before wo wn d.out r.text stands.told r.grew ∙ ap (λ x. option_map (λ w. w ++ x) before) (sym (ap (λ (e : Data). e.out) o));
            taken = ap (λ (e : Data). e.taken) o ∙ stands.taken ∙ sym taken;
          };
        }
    moved_writing SinkFault r =
        let part_sent : List ℕ = take r.grew.0 r.text in
        record {
          to = r.to;
          is = same d stands.frames ∙ r.is;
          holds = record {
            sent = d.out ++ part_sent;
            told = grown_by before wo wn d.out part_sent stands.told r.grew.2;
            begins = (drop r.grew.0 r.text, r.out ∙ ap (λ x. d.out ++ x) (sym (take-append-drop r.grew.0 r.text)) ∙ sym (append_assoc d.out part_sent (drop r.grew.0 r.text)));
            taken = r.taken ∙ stands.taken ∙ sym taken;
          };
        }
    moved_writing NoMemory r = record { sent = d.out; told = grown_by_none before wo wn d.out stands.told r; begins = ([], sym (append-nil d.out)); taken = stands.taken ∙ sym taken }

  pub acts_move_writing : (wo wn : Option (List ℕ)) (did : Did) → ActsWriting Old New wo wn old.frame.block.0 did part → Moves Old New wo wn old new did move
  acts_move_writing wo wn did acts = record {
    each = λ before d stands h. moved_writing wo wn before d stands did (acts.each d (ready_of Old wo before old d stands) (λ w. h (same d stands.frames ∙ w)));
  }

-- ---- what holds however an action went

pub if_goes_all : {A : Type 0} (did : Did) → A → IfGoes did A
if_goes_all Goes a = a
if_goes_all (Ends cause) a = tt
if_goes_all SinkFault a = tt
if_goes_all NoMemory a = tt

pub act_faults : (Old New : Mem → Type 0) (b : ℕ) (did : Did) (part : Data → Move) → CanMove Old b part → Acts Old New b did part → (n : ℕ) → CountsFault did n n
act_faults Old New b Goes part c a n = refl
act_faults Old New b (Ends cause) part c a n = refl
act_faults Old New b SinkFault part c a n = absurd (a.each c.here c.ready c.able)
act_faults Old New b NoMemory part c a n = refl

-- the action of a group that stands there
module _ (facts : Facts) (s : State) (action wanted : Action) (is : action ≡ wanted) where
  pub part_is : (d : Data) → d.frames ≡ frame_of s.frame ∷ [] → effect facts action d ≡ effect_in facts wanted d (frame_of s.frame) []
  part_is d e = ap (λ a. effect facts a d) is ∙ effect_is facts wanted d (frame_of s.frame) e

-- an action on a place, in a function that has `$this` or not
module _ (facts : Facts) (s : State) (action : Action) (a : PlaceAction) (this : Bool) (has : this ≡ this_if (fact_of facts (frame_of s.frame))) (is : action ≡ Place a) where
  pub place_is : (d : Data) → d.frames ≡ frame_of s.frame ∷ [] → effect facts action d ≡ effect_place a this (frame_of s.frame) d
  place_is d e = part_is facts s action (Place a) is d e ∙ ap (λ t. effect_place a t (frame_of s.frame) d) (sym has)
