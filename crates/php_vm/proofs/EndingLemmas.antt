-- How completions go on, and how frames end.
use Rattle.std.proofs.Common.{◌≡◌, ◌≢◌, ℕ, zero, suc, ◌-◌, ◌<◌, Bool, true, false, cond, List, [], ◌∷◌, Option, Some, None, refl, sym, ap, ◌∙◌, subst, arith}
use Rattle.std.specs.Prelude.{slice_get, nat_eq, ◌&&◌}
use Rattle.php_value.specs.declared.scalar.Scalar.TheVariants as scalar
use Rattle.php_frames.specs.declared.completion.Completion.{Completion}
use Rattle.php_frames.specs.declared.completion.Completion.TheVariants.{Return}
use Rattle.php_frames.specs.declared.frame.Frame.{Frame as FrameWithPlace}
use Rattle.php_frames.specs.declared.frame.Way.TheVariants.{Going, Landed, Ending as EndingWay}
use Rattle.php_memdef.specs.Contents.{Variable, Mem, scope_of}
use Rattle.php_memdef.specs.Writes.{shed, shed_first}
use Rattle.php_memdef.specs.Temporaries.{push}
use Rattle.php_memdef.specs.Deciders.{can}
use Rattle.php_memdef_laws.proofs.DecidedOperations.{can-decides}
use Rattle.php_actions.specs.Steps.{turned, drops}
use Rattle.php_memdef.specs.Conditions.{IsBlock}
use Rattle.php_memdef.specs.Meanings.{SomeMeant, EachMeant, Does, Answers}
use Rattle.php_memdef.specs.Operations.{Operation, Can, run}
use Rattle.php_memdef.specs.Operations as op
use Rattle.php_memdef.specs.Views.{temps_count}
use Rattle.php_machine.specs.Moves.{Next, End, Wrong, Complete}
use Rattle.php_layers.specs.Layers.{served_over}
use Rattle.php_actions.specs.declared.facts.Facts.{Facts}
use Rattle.php_actions.specs.Data.{Frame, Data, Move, with_mem, with_newest, by_frame, next_with}
use Rattle.php_actions.specs.declared.calls.CallAction.TheVariants.{EndBody}
use Rattle.php_actions.specs.Calls.{effect_call}
use Rattle.php_actions.specs.Effect.{fact_of, this_if, nth_fact}
use Rattle.php_actions.specs.Frames.{landed, landed_frames, unserved, unserved_in, operand_count, cleared, after_shed, is_untold, value_fallen, script_ended}
use Rattle.php_vm_actions.specs.declared.did.Cause.TheVariants.{Status}
use Rattle.php_vm_actions.specs.Causes.{ending_of}
use Rattle.php_code.specs.declared.program.Program.{Program}
use Rattle.php_code.specs.Code.{Place, place, ranges_in, served_at, code}
use Rattle.php_vm_actions.specs.declared.did.Did.{Did}
use Rattle.php_vm_actions.specs.declared.did.Did.TheVariants.{Goes, Ends}
use Rattle.php_vm.specs.declared.state.State.{State}
use Rattle.php_vm_actions.specs.Straight.{CanAll, all, behind, LeaveNone}
use Rattle.php_vm_actions.specs.Acting.{frame_of}
use Rattle.php_vm.specs.Running.{Stands, IsMoved, control_of, NextIs, Steps, MayMove, Moves}
use Rattle.php_vm.specs.Stepping.{IsPlanned, IsNow, body_ended, frame_ended, rest_ended, fallen_of, clearing, CanClear, cleared_as}
use Rattle.php_vm_actions.proofs.StraightLemmas.{kept_one, behind_goes, kept_all, trim_behind, sink_behind, trim_leaves_none, sink_leaves_none}
use Rattle.php_vm.proofs.RunLemmas.{comes_next, next_served, step_unserved, place_of, SomeStep, StepIs, stands_now}

-- ---- operations in a row, and the frame as it is then

module _ (Old New : Mem → Type 0) (old : State) (move : Data → Move) (f : Frame) (os : Mem → List Operation)
    (is : (d : Data) → d.frames ≡ frame_of old.frame ∷ [] → Old d.mem → move d ≢ Wrong → move d ≡ behind (os d.mem) d.mem (λ m. Next (with_newest (with_mem d m) f []))) where
  abbrev go : Data → Mem → Move
  go d m = Next (with_newest (with_mem d m) f [])

  pub can_row : MayMove Old old move → SomeMeant Old (λ m. CanAll (os m) m)
  can_row c =
      let e = is c.here c.stands.frames c.stands.mem c.able in
      (c.here.mem, c.stands.mem, (behind_goes (os c.here.mem) c.here.mem (go c.here) (λ w. c.able (e ∙ w))).0)

  pub row_moves : (new : State) → frame_of new.frame ≡ f → f.block ≡ old.frame.block.0 → new.left ≡ old.left → new.taken ≡ old.taken → ((m : Mem) → LeaveNone (os m)) → Does Old New (λ m. all (os m) m) → (written : Option (List ℕ)) → Moves Old New written written old new Goes move
  row_moves new frame block left taken none does written = record {
    each = λ before d stands h.
        let e = is d stands.frames stands.mem h in
        let t = behind_goes (os d.mem) d.mem (go d) (λ w. h (e ∙ w)) in
        record {
          to = with_newest (with_mem d (all (os d.mem) d.mem)) f [];
          is = e ∙ t.1;
          holds = record {
            mem = does d.mem stands.mem;
            told = stands.told;
            left = stands.left ∙ sym left;
            taken = stands.taken ∙ sym taken;
            frames = ap (λ g. g ∷ []) (sym frame);
            constants = stands.constants;
            status = stands.status;
            block = subst (λ (g : Frame). IsBlock (all (os d.mem) d.mem) g.block) (sym frame) (subst (IsBlock (all (os d.mem) d.mem)) (sym block) ((kept_all (os d.mem) d.mem (none d.mem) t.0).blocks old.frame.block.0 stands.block));
          };
        };
  }

-- ---- the end of a body

module _ (Old New : Mem → Type 0) (old : State) where
  abbrev returning : Frame
  returning = record (frame_of old.frame) { pending = Return; way = Going }

  abbrev null_pushed : Mem → List Operation
  null_pushed m = op.push old.frame.block.0 scalar.Null ∷ []

  body_row : (d : Data) → d.frames ≡ frame_of old.frame ∷ [] → body_ended d ≡ behind (null_pushed d.mem) d.mem (λ m. Next (with_newest (with_mem d m) returning []))
  body_row d frames = ap (λ l. by_frame l (λ f fs. effect_call EndBody false f fs d)) frames

  pub can_end_body : MayMove Old old body_ended → SomeMeant Old (Can (op.push old.frame.block.0 scalar.Null))
  can_end_body c = let t = can_row Old New old body_ended returning null_pushed (λ d e o h. body_row d e) c in (t.0, t.1, t.2.0)

  pub body_moves : (new : State) → frame_of new.frame ≡ returning → new.left ≡ old.left → new.taken ≡ old.taken → Does Old New (λ m. push m old.frame.block.0 scalar.Null) → (written : Option (List ℕ)) → Moves Old New written written old new Goes body_ended
  body_moves new frame left taken does written = row_moves Old New old body_ended returning null_pushed (λ d e o h. body_row d e) new frame refl left taken (λ m. (tt, tt)) does written

-- ---- completions

module _ (program : Program) (old new : State) (why : Completion) where
  abbrev served : Option Place
  served = served_at (ranges_in (slice_get program.functions old.frame.function)) old.frame.function old.frame.at why

  serve_is : (o : Option Place) → o ≡ served → (code program).serve why (place_of program old) ≡ served_over o [] None
  serve_is o e = ap (λ x. served_over x [] None) (sym e)

  pub stays_unserved : None ≡ served → (d : Data) → IsPlanned program.facts (Complete why) d → StepIs program d (place_of program old) (place_of program old) (unserved program.facts d)
  stays_unserved e d p = step_unserved program d (place_of program old) why p (serve_is None e)

  pub step_unserves : None ≡ served → (d : Data) → IsPlanned program.facts (Complete why) d → SomeStep program old d (unserved program.facts d)
  step_unserves e d p = (place_of program old, stays_unserved e d p)

  landed_is : (d : Data) (f : Frame) → d.frames ≡ f ∷ [] → landed d ≡ record d { frames = record f { way = Landed } ∷ [] }
  unfolding landed
  landed_is d f e = ap (λ l. record d { frames = landed_frames l }) e

  pub lands : (at : ℕ) → Some (place old.frame.function at) ≡ served → IsNow old new (record old.frame { way = Landed; at = at })
      → (New : Mem → Type 0) (written : Option (List ℕ)) → Steps program (IsPlanned program.facts (Complete why)) New New written written old new Goes
  lands at e is_new New written = record {
    each = λ before d stands p never.
        let there : List Place = place old.frame.function at ∷ [] in
        let next = next_served program d (place_of program old) there why p (serve_is (Some (place old.frame.function at)) e) in
        let to = landed_is d (frame_of old.frame) stands.frames in
        record {
          to = landed d;
          comes = comes_next program (subst (λ (f : FrameWithPlace). NextIs program d (control_of old.frame) (landed d) (control_of f)) (sym is_new.0) next);
          stands = subst (Stands New written before new) (sym to)
              (stands_now old new (record old.frame { way = Landed; at = at }) is_new New written before (record d { frames = record (frame_of old.frame) { way = Landed } ∷ [] }) stands.mem stands.told stands.left stands.taken refl stands.constants stands.status stands.block);
        };
  }

-- ---- a frame begins to end

cleared_row : (given : Option ℕ) (b n : ℕ) (m : Mem) (go : Mem → Move) → cleared given b n m go ≡ behind (fallen_of given b n) m go
cleared_row None b n m go = trim_behind b n m go
cleared_row (Some given) b n m go = sink_behind b n m go

fallen_leaves_none : (given : Option ℕ) (b n : ℕ) → LeaveNone (fallen_of given b n)
fallen_leaves_none None b n = trim_leaves_none b n
fallen_leaves_none (Some given) b n = sink_leaves_none b n

module _ (facts : Facts) (Old New : Mem → Type 0) (old : State) where
  abbrev ending_frame : Frame
  ending_frame = record (frame_of old.frame) { way = EndingWay }

  unserved_row : (d : Data) → d.frames ≡ frame_of old.frame ∷ [] → unserved facts d ≡ behind (clearing facts (frame_of old.frame) d.mem) d.mem (λ m. Next (with_newest (with_mem d m) ending_frame []))
  unfolding unserved
  unserved_row d e =
      ap (λ l. by_frame l (unserved_in facts d)) e
      ∙ cleared_row (frame_of old.frame).given (frame_of old.frame).block (operand_count facts (frame_of old.frame) d.mem - 1) d.mem (λ m. Next (with_newest (with_mem d m) ending_frame []))

  pub can_unserve : MayMove Old old (unserved facts) → SomeMeant Old (CanClear facts (frame_of old.frame))
  can_unserve c = can_row Old New old (unserved facts) ending_frame (clearing facts (frame_of old.frame)) (λ d e o h. unserved_row d e) c

  pub unserved_moves : (new : State) → frame_of new.frame ≡ ending_frame → new.left ≡ old.left → new.taken ≡ old.taken → Does Old New (cleared_as facts (frame_of old.frame)) → (written : Option (List ℕ)) → Moves Old New written written old new Goes (unserved facts)
  unserved_moves new frame left taken does written =
      row_moves Old New old (unserved facts) ending_frame (clearing facts (frame_of old.frame)) (λ d e o h. unserved_row d e) new frame refl left taken (λ m. fallen_leaves_none (frame_of old.frame).given (frame_of old.frame).block (operand_count facts (frame_of old.frame) m - 1)) does written

-- how many temporaries stand under the value, by what a look at the memory told
module _ (facts : Facts) (f : FrameWithPlace) (standing below : ℕ) (is : below ≡ cond (this_if (nth_fact facts.functions f.function)) (standing - 1) standing - 1) where
  below_is : (m : Mem) → standing ≡ temps_count m f.block.0 → below ≡ operand_count facts (frame_of f) m - 1
  below_is m h = is ∙ ap (λ n. cond (this_if (nth_fact facts.functions f.function)) (n - 1) n - 1) h

  module _ (Old : Mem → Type 0) (counts : EachMeant Old (λ m. standing ≡ temps_count m f.block.0)) where
    pub can_fall : SomeMeant Old (CanClear facts (frame_of f)) → SomeMeant Old (CanAll (fallen_of f.given f.block.0 below))
    can_fall c = (c.0, c.1, subst (λ n. CanAll (fallen_of f.given f.block.0 n) c.0) (sym (below_is c.0 (counts c.0 c.1))) c.2)

    pub falls : (New : Mem → Type 0) → Does Old New (all (fallen_of f.given f.block.0 below)) → Does Old New (cleared_as facts (frame_of f))
    falls New does m o = subst (λ n. New (all (fallen_of f.given f.block.0 n) m)) (below_is m (counts m o)) (does m o)

-- ---- the end of a frame

same_frames : (d : Data) (f : Frame) → d.frames ≡ f ∷ [] → (m : Mem) → next_with d m ≡ Next (with_newest (with_mem d m) f [])
same_frames d f e m = ap (λ l. Next (record (with_mem d m) { frames = l })) e

row_same : (os : List Operation) (d : Data) (f : Frame) → d.frames ≡ f ∷ [] → (m : Mem) → behind os m (next_with d) ≡ behind os m (λ n. Next (with_newest (with_mem d n) f []))
row_same os d f e m = λ i. behind os m (λ n. same_frames d f e n i)

cond_is : (t : Bool) (x : Move) → cond t x Wrong ≢ Wrong → (t ≡ true) × (cond t x Wrong ≡ x)
cond_is true x h = (refl, refl)
cond_is false x h = absurd (h refl)

module _ (facts : Facts) (s : State) where
  abbrev f : Frame
  f = frame_of s.frame

  abbrev this : Bool
  this = this_if (fact_of facts f)

  ended_able : (d : Data) → frame_ended facts f d ≢ Wrong → Can (op.shed f.block) d.mem × (frame_ended facts f d ≡ after_shed (shed d.mem f.block) this f [] d)
  ended_able d h =
      let t = cond_is (can (op.shed f.block) d.mem) (after_shed (shed d.mem f.block) this f [] d) h in
      ((can-decides d.mem (op.shed f.block)).0 t.0, t.1)

  pub can_shed : (Old : Mem → Type 0) → MayMove Old s (frame_ended facts f) → SomeMeant Old (Can (op.shed f.block))
  can_shed Old c = (c.here.mem, c.stands.mem, (ended_able c.here c.able).0)

  shed_goes : (r : Mem × Bool) (d : Data) → true ≡ r.1 → after_shed r this f [] d ≡ Next (with_mem d r.0)
  shed_goes (m, true) d h = refl
  shed_goes (m, false) d h = absurd (cc)

  shed_rests : (r : Mem × Bool) (d : Data) → false ≡ r.1 → after_shed r this f [] d ≡ rest_ended facts f d
  shed_rests (m, true) d h = absurd (cc)
  shed_rests (m, false) d h = refl

  none_shed : (vs : List Variable) (m : Mem) → false ≡ (shed_first vs m f.block).1 → (shed_first vs m f.block).0 ≡ m
  none_shed [] m h = refl
  none_shed (v ∷ vs) m h = absurd (cc)

  shed_same : (m : Mem) → false ≡ (shed m f.block).1 → (shed m f.block).0 ≡ m
  unfolding shed
  shed_same m h = none_shed (scope_of m f.block).variables m h

  module _ (Old New : Mem → Type 0) (r : Bool) (answers : Answers Old New r (run (op.shed f.block))) where
    pub shed_moves : r ≡ true → (written : Option (List ℕ)) → Moves Old New written written s s Goes (frame_ended facts f)
    shed_moves e written = record {
      each = λ before d stands h.
          let t = ended_able d h in
          let a = answers d.mem stands.mem in
          record {
            to = with_mem d (shed d.mem f.block).0;
            is = t.1 ∙ shed_goes (shed d.mem f.block) d (sym e ∙ a.1);
            holds = record {
              mem = a.0;
              told = stands.told;
              left = stands.left;
              taken = stands.taken;
              frames = stands.frames;
              constants = stands.constants;
              status = stands.status;
              block = (kept_one (op.shed f.block) d.mem tt t.0).blocks f.block stands.block;
            };
          };
    }

    module _ (none : r ≡ false) where
      stands_still : (written before : Option (List ℕ)) (d : Data) → Stands Old written before s d → Stands New written before s d
      stands_still written before d stands =
          let a = answers d.mem stands.mem in
          record {
            mem = subst New (shed_same d.mem (sym none ∙ a.1)) a.0;
            told = stands.told;
            left = stands.left;
            taken = stands.taken;
            frames = stands.frames;
            constants = stands.constants;
            status = stands.status;
            block = stands.block;
          }

      rests : (d : Data) → Old d.mem → frame_ended facts f d ≢ Wrong → frame_ended facts f d ≡ rest_ended facts f d
      rests d o h = (ended_able d h).1 ∙ shed_rests (shed d.mem f.block) d (sym none ∙ (answers d.mem o).1)

      pub may_rest : MayMove Old s (frame_ended facts f) → MayMove New s (rest_ended facts f)
      may_rest c = record {
        written = c.written;
        before = c.before;
        here = c.here;
        stands = stands_still c.written c.before c.here c.stands;
        able = λ w. c.able (rests c.here c.stands.mem c.able ∙ w);
      }

      pub rest_moves : (Last : Mem → Type 0) (written : Option (List ℕ)) (did : Did) → Moves New Last written written s s did (rest_ended facts f) → Moves Old Last written written s s did (frame_ended facts f)
      rest_moves Last written did moves = record {
        each = λ before d stands h.
            let e = rests d stands.mem h in
            subst (IsMoved Last written before s did d) (sym e) (moves.each before d (stands_still written before d stands) (λ w. h (e ∙ w)));
      }

  -- ---- without a variable

  module _ (Old : Mem → Type 0) (standing : ℕ) (counted : EachMeant Old (λ m. standing ≡ temps_count m f.block)) where
    abbrev leaves : Bool
    leaves = this && nat_eq standing 2

    rest_as : (d : Data) → Old d.mem → rest_ended facts f d ≡ cond leaves (turned f.block 2 d.mem (λ m. drops f.block 1 m (next_with d))) (script_ended f.pending standing f d)
    rest_as d o = ap (λ n. cond (this && nat_eq n 2) (turned f.block 2 d.mem (λ m. drops f.block 1 m (next_with d))) (script_ended f.pending n f d)) (sym (counted d.mem o))

    pub leaves_row : leaves ≡ true → (d : Data) → d.frames ≡ f ∷ [] → Old d.mem → rest_ended facts f d ≡ behind (op.turn f.block 2 ∷ op.drop_top f.block ∷ []) d.mem (λ m. Next (with_newest (with_mem d m) f []))
    leaves_row e d frames o =
        rest_as d o ∙ ap (λ t. cond t (turned f.block 2 d.mem (λ m. drops f.block 1 m (next_with d))) (script_ended f.pending standing f d)) e
        ∙ row_same (op.turn f.block 2 ∷ op.drop_top f.block ∷ []) d f frames d.mem

    told_able : (t : Bool) (x : Move) → cond t Wrong x ≢ Wrong → cond t Wrong x ≡ x
    told_able true x h = absurd (h refl)
    told_able false x h = refl

    ends_as : leaves ≡ false → (d : Data) → Old d.mem → rest_ended facts f d ≡ script_ended f.pending standing f d
    ends_as e d o = rest_as d o ∙ ap (λ t. cond t (turned f.block 2 d.mem (λ m. drops f.block 1 m (next_with d))) (script_ended f.pending standing f d)) e

    value_falls : (n : ℕ) (d : Data) → 0 < n → value_fallen n f d ≡ behind (op.drop_top f.block ∷ []) d.mem (next_with d)
    value_falls zero d h = absurd (omega (arith, h))
    value_falls (suc n) d h = refl

    -- the value falls
    pub value_row : leaves ≡ false → 0 < standing → (d : Data) → d.frames ≡ f ∷ [] → Old d.mem → rest_ended facts f d ≢ Wrong → rest_ended facts f d ≡ behind (op.drop_top f.block ∷ []) d.mem (λ m. Next (with_newest (with_mem d m) f []))
    value_row e some d frames o h =
        let k = ends_as e d o in
        k ∙ told_able (is_untold f.pending) (value_fallen standing f d) (λ w. h (k ∙ w)) ∙ value_falls standing d some ∙ row_same (op.drop_top f.block ∷ []) d f frames d.mem

    over : (n : ℕ) (d : Data) → n ≡ 0 → value_fallen n f d ≡ End (ending_of (Status d.status)) d
    over zero d h = refl
    over (suc n) d h = absurd (omega (arith, h))

    -- the run is over
    pub rest_is_over : leaves ≡ false → standing ≡ 0 → (written : Option (List ℕ)) → Moves Old Old written written s s (Ends (Status 0)) (rest_ended facts f)
    rest_is_over e none written = record {
      each = λ before d stands h.
          let k = ends_as e d stands.mem in
          record {
            to = d;
            is = k ∙ told_able (is_untold f.pending) (value_fallen standing f d) (λ w. h (k ∙ w)) ∙ over standing d none ∙ ap (λ n. End (ending_of (Status n)) d) stands.status;
            holds = record { mem = stands.mem; told = stands.told; taken = stands.taken };
          };
    }

    -- ---- these as moves

    abbrev this_left : Mem → List Operation
    this_left m = op.turn f.block 2 ∷ op.drop_top f.block ∷ []

    abbrev value_left : Mem → List Operation
    value_left m = op.drop_top f.block ∷ []

    pub can_leave_this : leaves ≡ true → MayMove Old s (rest_ended facts f) → SomeMeant Old (CanAll (op.turn f.block 2 ∷ op.drop_top f.block ∷ []))
    can_leave_this e c = can_row Old Old s (rest_ended facts f) f this_left (λ d x o h. leaves_row e d x o) c

    pub leaves_this_moves : leaves ≡ true → (New : Mem → Type 0) → Does Old New (all (op.turn f.block 2 ∷ op.drop_top f.block ∷ [])) → (written : Option (List ℕ)) → Moves Old New written written s s Goes (rest_ended facts f)
    leaves_this_moves e New does written = row_moves Old New s (rest_ended facts f) f this_left (λ d x o h. leaves_row e d x o) s refl refl refl refl (λ m. (tt, (tt, tt))) does written

    pub can_drop_value : leaves ≡ false → 0 < standing → MayMove Old s (rest_ended facts f) → SomeMeant Old (Can (op.drop_top f.block))
    can_drop_value e some c = let t = can_row Old Old s (rest_ended facts f) f value_left (λ d x o h. value_row e some d x o h) c in (t.0, t.1, t.2.0)

    pub drops_value_moves : leaves ≡ false → 0 < standing → (New : Mem → Type 0) → Does Old New (all (op.drop_top f.block ∷ [])) → (written : Option (List ℕ)) → Moves Old New written written s s Goes (rest_ended facts f)
    drops_value_moves e some New does written = row_moves Old New s (rest_ended facts f) f value_left (λ d x o h. value_row e some d x o h) s refl refl refl refl (λ m. (tt, tt)) does written
