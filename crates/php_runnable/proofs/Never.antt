-- No run of a script is stuck whose forms are all told, and none needs a number for a frame.
use Rattle.std.proofs.Common.{◌≡◌, ◌≢◌, ◌⊎◌, inl, inr, ℕ, zero, suc, ◌+◌, ◌-◌, Bool, true, false, cond, List, [], ◌∷◌, ◌++◌, length, Option, Some, None, refl, sym, ap, ◌∙◌, subst, arith}
use Rattle.php_value.specs.declared.scalar.Scalar.TheVariants as scalar
use Rattle.php_frames.specs.declared.completion.Completion.{Completion}
use Rattle.php_frames.specs.declared.completion.Completion.TheVariants.{Normal, Return}
use Rattle.php_frames.specs.declared.frame.Way.{Way}
use Rattle.php_frames.specs.declared.frame.Way.TheVariants.{Going, Ending}
use Rattle.php_memdef.specs.declared.answer.Fallen.{Fallen}
use Rattle.php_memdef.specs.declared.answer.Fallen.TheVariants.{Nothing, Destroy, Frame as FrameOf}
use Rattle.php_memdef.specs.Contents.{Item, Mem, scope_of}
use Rattle.php_memdef.specs.Writes.{shed}
use Rattle.php_memdef.specs.Releases.{fall}
use Rattle.php_memdef.specs.Views.{temps_count}
use Rattle.php_memdef.specs.Operations.{effect as made, Can}
use Rattle.php_memdef.specs.Operations as op
use Rattle.php_memdef.specs.Deciders.{can}
use Rattle.php_machine.specs.Moves.{Next, Again, Enter, Ask, Inside, Leave, Park, Wake, End, Wrong, Make, Outcome, Ended, Stuck, Unnumbered, Unfinished}
use Rattle.php_machine.specs.Control.{Kept}
use Rattle.php_machine.specs.Machine.{Rest, moved, fetched, served, stepped, step, run, runs}
use Rattle.php_layers.specs.Layers.{serve_layers}
use Rattle.php_ast.specs.declaration.Tree.{Script}
use Rattle.php_ast.specs.expression.View.{Note}
use Rattle.php_actions.specs.declared.ending.Ending.{Ending as RunEnding}
use Rattle.php_actions.specs.declared.action.Action.{Action}
use Rattle.php_actions.specs.declared.action.Action.TheVariants.{Call}
use Rattle.php_actions.specs.declared.calls.CallAction.TheVariants.{EndBody}
use Rattle.php_actions.specs.Data.{Frame, Data, Move, Plan, with_mem, with_newest, by_frame, next_with}
use Rattle.php_actions.specs.Calls.{completes, effect_call}
use Rattle.php_actions.specs.Effect.{nth_fact, fact_of, this_if, result_if, effect_in, effect}
use Rattle.php_actions.specs.Frames.{operand_count, cleared, unserved_in, unserved, value_fallen, script_ended, after_shed, ending}
use Rattle.php_actions.specs.Plan.{released, planned_by, planned_after, planned, plan, rules}
use Rattle.php_meaning.specs.Facts.{script_fact, facts_of, SPARE}
use Rattle.php_meaning.specs.Heights.{peak_of_script}
use Rattle.php_meaning.specs.Slots.{Names, script_names}
use Rattle.php_meaning.specs.Tasks.{Task, Do, Eval, Keys, EvalPieces, EchoItems, Run, Runs, RunItems}
use Rattle.php_meaning.specs.Meaning.{Left, left, unfolded, tree_layer, tree}
use Rattle.php_runnable.specs.Told.{IsScriptTold}
use Rattle.php_runnable.specs.Begins.{CanBegin}
use Rattle.php_runnable.proofs.Actions.{Ready, Goes, next, action-goes}
use Rattle.php_runnable.proofs.Blocks.{Holds, block_there, temps_are, has_falling_room, after, can_now}
use Rattle.php_runnable.proofs.Fits.{Fits, unfolded-fits}
use Rattle.php_runnable.proofs.Releases.{release-ends, release-holds}
use Rattle.php_runnable.proofs.Signatures.{leaves, spare, FitsOver}
use Rattle.php_runnable.proofs.Steps.{pushed_ok, drops_ok}
use Rattle.php_runnable.proofs.Unions.{union-goes}

-- the run has ended, or more steps are needed
abbrev GoesWell : {D E : Type 0} → Outcome D E → Type 0
GoesWell (Ended e d) = Unit {0}
GoesWell Unfinished = Unit {0}
GoesWell Stuck = ⊥
GoesWell Unnumbered = ⊥

module _ (script : Script Note) where
  abbrev ns : Names
  ns = script_names script

  abbrev top : ℕ
  top = peak_of_script ns 0 script

  abbrev room : ℕ
  room = top + SPARE

  abbrev K : Type 0
  K = List (Kept (List Left))

  -- tasks are done, or a return is under way, or the frame ends
  pub record Does (d : Data) (x : List Left) : Type 0 where
    pub tasks : List Task
    pub stands : x ≡ left 0 tasks ∷ []
    pub count : ℕ
    pub fits : Fits ns top tasks count
    pub ready : Ready room Normal Going count d

  pub record Ends (d : Data) : Type 0 where
    pub count : ℕ
    pub ready : Ready room Return Ending count d

  abbrev Inv : Data → List (List Left) → K → Type 0
  Inv d [] kept = ⊥
  Inv d (x ∷ []) kept = Does d x ⊎ (Ready room Return Going 1 d ⊎ Ends d)
  Inv d (x ∷ (y ∷ cs)) kept = ⊥

  fact-is : (f : Frame) → f.function ≡ 0 → fact_of (facts_of script) f ≡ Some (script_fact top)
  fact-is f e = ap (nth_fact (facts_of script).functions) e

  no_this : (f : Frame) → f.function ≡ 0 → this_if (fact_of (facts_of script) f) ≡ false
  no_this f e = ap this_if (fact-is f e)

  over_room : (r k : ℕ) → FitsOver top r k → FitsOver room r k
  over_room r zero l = tt
  over_room r (suc k) l = omega (arith, l)

  module _ (rest : Rest Data RunEnding (List Left)) (numbers : List ℕ) (kept : K)
      (on_going : (ms : List ℕ) (e : Data) (bs : List (List Left)) (held : K) → Inv e bs held → GoesWell (rest ms e bs held)) where
    moved-goes : (why : Completion) (way : Way) (n : ℕ) (mv : Move) (here next : List Left) → Goes room why way n mv
        → ((e : Data) → Ready room why way n e → GoesWell (rest numbers e (next ∷ []) kept)) → GoesWell (moved (rules (facts_of script)) (tree script) rest numbers mv here next [] kept)
    moved-goes why way n (Next d) here next h go = go d h
    moved-goes why way n (End e d) here next h go = tt
    moved-goes why way n (Again d) here next h go = absurd h
    moved-goes why way n (Enter f is_free at) here next h go = absurd h
    moved-goes why way n (Ask f is_free at) here next h go = absurd h
    moved-goes why way n (Inside f d) here next h go = absurd h
    moved-goes why way n (Leave d) here next h go = absurd h
    moved-goes why way n (Park g d) here next h go = absurd h
    moved-goes why way n (Wake g d) here next h go = absurd h
    moved-goes why way n Wrong here next h go = absurd h

    plan-is : (d : Data) (f : Frame) → d.frames ≡ f ∷ [] → plan (facts_of script) d ≡ planned_after (scope_of d.mem f.block).falling (facts_of script) d f []
    unfolding plan
    plan-is d f e = ap (planned (facts_of script) d) e

    stepped-as : (d : Data) (x : List Left) (p : Plan) → plan (facts_of script) d ≡ p → GoesWell (stepped (rules (facts_of script)) (tree script) rest numbers p d x [] kept)
        → GoesWell (step (rules (facts_of script)) (tree script) rest numbers d (x ∷ []) kept)
    stepped-as d x p e h = subst (λ q. GoesWell (stepped (rules (facts_of script)) (tree script) rest numbers q d x [] kept)) (sym e) h

    -- ---- what has fallen is released first

    released-goes : (why : Completion) (way : Way) (n : ℕ) (r : Mem × Fallen) (d : Data) → r.1 ≡ Nothing → Ready room why way n (with_mem d r.0) → Goes room why way n (released r d)
    released-goes why way n (m, Nothing) d e h = h
    released-goes why way n (m, Destroy g) d e h = absurd (cc)
    released-goes why way n (m, FrameOf g) d e h = absurd (cc)

    able-goes : (why : Completion) (way : Way) (n : ℕ) (t : Bool) (mv : Move) → t ≡ true → Goes room why way n mv → Goes room why way n (cond t mv Wrong)
    able-goes why way n true mv e h = h
    able-goes why way n false mv e h = absurd (cc)

    -- by what has fallen
    module _ (why : Completion) (way : Way) (n : ℕ) (d : Data) (x : List Left) (r : Ready room why way n d)
        (again : (e : Data) → Ready room why way n e → GoesWell (rest numbers e (x ∷ []) kept))
        (quiet : Holds r.frame.block room d.mem n 0 → GoesWell (stepped (rules (facts_of script)) (tree script) rest numbers (planned_by way why (facts_of script) d r.frame []) d x [] kept)) where
      abbrev b : ℕ
      b = r.frame.block

      planned-as : planned_by r.frame.way r.frame.pending (facts_of script) d r.frame [] ≡ planned_by way why (facts_of script) d r.frame []
      planned-as = ap (λ y. planned_by y r.frame.pending (facts_of script) d r.frame []) r.way_is ∙ ap (λ y. planned_by way y (facts_of script) d r.frame []) r.pending

      step-goes : GoesWell (step (rules (facts_of script)) (tree script) rest numbers d (x ∷ []) kept)
      step-goes = by (scope_of d.mem b).falling refl
        where
          by : (is : List Item) → (scope_of d.mem b).falling ≡ is → GoesWell (step (rules (facts_of script)) (tree script) rest numbers d (x ∷ []) kept)
          by [] e =
              stepped-as d x (planned_by way why (facts_of script) d r.frame []) (plan-is d r.frame r.frames ∙ ap (λ is. planned_after is (facts_of script) d r.frame []) e ∙ planned-as)
              (quiet (record { sound = r.holds.sound; no_object = r.holds.no_object; looks = r.holds.looks; falling = omega (arith, ap length e) }))
          by (i ∷ is) e =
              stepped-as d x (Make (cond (can (op.fall b) d.mem) (released (fall d.mem b) d) Wrong)) (plan-is d r.frame r.frames ∙ ap (λ is. planned_after is (facts_of script) d r.frame []) e)
              (moved-goes why way n (cond (can (op.fall b) d.mem) (released (fall d.mem b) d) Wrong) x x
              (able-goes why way n (can (op.fall b) d.mem) (released (fall d.mem b) d) (can_now b room (op.fall b) d.mem (block_there b room d.mem n r.fallen r.holds))
              (released-goes why way n (fall d.mem b) d (release-ends d.mem b r.holds.no_object)
              (record {
                frame = r.frame;
                frames = r.frames;
                function = r.function;
                pending = r.pending;
                way_is = r.way_is;
                constants = r.constants;
                fallen = 0;
                holds = release-holds b room d.mem n r.fallen r.holds;
              })))
              again)

    -- ---- the frame ends

    module _ (d : Data) (n : ℕ) (r : Ready room Return Ending n d) (quiet : Holds r.frame.block room d.mem n 0) where
      ends : (k : ℕ) (m : Mem) (q : ℕ) → Holds r.frame.block room m k q → Ready room Return Ending k (with_mem d m)
      ends k m q s = record { frame = r.frame; frames = r.frames; function = r.function; pending = r.pending; way_is = r.way_is; constants = r.constants; fallen = q; holds = s }

      -- over some number of temporaries, or the run is over
      abbrev EndsSome : Move → Type 0
      EndsSome mv = (k : ℕ) × Goes room Return Ending k mv

      value-ends : (k : ℕ) → temps_count d.mem r.frame.block ≡ k → EndsSome (value_fallen k r.frame d)
      value-ends zero e = (0, tt)
      value-ends (suc k) e =
          (k, drops_ok (λ mv. Goes room Return Ending k mv) r.frame.block room 1 d.mem n 0 k (next_with d) quiet (omega (arith, e, temps_are r.frame.block room d.mem n 0 quiet)) (omega arith) (λ m s. ends k m 1 s))

      shed-holds : Can (op.shed r.frame.block) d.mem → Holds r.frame.block room (shed d.mem r.frame.block).0 n (length (scope_of (shed d.mem r.frame.block).0 r.frame.block).falling)
      shed-holds c = after r.frame.block room (op.shed r.frame.block) d.mem n 0 n (length (scope_of (shed d.mem r.frame.block).0 r.frame.block).falling) quiet c tt (λ h. refl) quiet.looks (omega arith)

      shed-ends : (s : Mem × Bool) (this : Bool) → this ≡ false → Ready room Return Ending n (with_mem d s.0) → EndsSome (after_shed s this r.frame [] d)
      shed-ends (m, true) this e h = (n, h)
      shed-ends (m, false) true e h = absurd (cc)
      shed-ends (m, false) false e h =
          subst (λ why. EndsSome (script_ended why (temps_count d.mem r.frame.block) r.frame d)) (sym r.pending) (value-ends (temps_count d.mem r.frame.block) refl)

      able-ends : (t : Bool) (mv : Move) → t ≡ true → EndsSome mv → EndsSome (cond t mv Wrong)
      able-ends true mv e h = h
      able-ends false mv e h = absurd (cc)

      frame-ends : EndsSome (ending (facts_of script) d r.frame [])
      frame-ends =
          let c : Can (op.shed r.frame.block) d.mem = record { block = block_there r.frame.block room d.mem n 0 quiet; falling_room = has_falling_room r.frame.block room d.mem n 0 quiet (omega arith) } in
          able-ends (can (op.shed r.frame.block) d.mem) (after_shed (shed d.mem r.frame.block) (this_if (fact_of (facts_of script) r.frame)) r.frame [] d) (can_now r.frame.block room (op.shed r.frame.block) d.mem c)
          (shed-ends (shed d.mem r.frame.block) (this_if (fact_of (facts_of script) r.frame)) (no_this r.frame r.function) (ends n (shed d.mem r.frame.block).0 _ (shed-holds c)))

    ending-goes : (d : Data) (x : List Left) (n : ℕ) → Ready room Return Ending n d → GoesWell (step (rules (facts_of script)) (tree script) rest numbers d (x ∷ []) kept)
    ending-goes d x n r =
        step-goes Return Ending n d x r (λ e s. on_going numbers e (x ∷ []) kept (inr (inr (record { count = n; ready = s }))))
        (λ quiet.
        let over = frame-ends d n r quiet in
        moved-goes Return Ending over.0 (ending (facts_of script) d r.frame []) x x over.1 (λ e s. on_going numbers e (x ∷ []) kept (inr (inr (record { count = over.0; ready = s })))))

    -- ---- a return is under way, and nothing serves it

    serves-none : (why : Completion) (x : List Left) → serve_layers (tree_layer script) why x ≡ None
    serves-none why [] = refl
    serves-none why (l ∷ ls) = serves-none why ls

    cleared-goes : (given : Option ℕ) (b k : ℕ) (m : Mem) (go : Mem → Move) → k ≡ 0 → Goes room Return Ending 1 (go m) → Goes room Return Ending 1 (cleared given b k m go)
    cleared-goes None b zero m go e h = h
    cleared-goes None b (suc k) m go e h = absurd (omega (arith, e))
    cleared-goes (Some given) b zero m go e h = h
    cleared-goes (Some given) b (suc k) m go e h = absurd (omega (arith, e))

    one_operand : (d : Data) (r : Ready room Return Going 1 d) → Holds r.frame.block room d.mem 1 0 → operand_count (facts_of script) r.frame d.mem - 1 ≡ 0
    one_operand d r quiet =
        ap (λ t. cond t (temps_count d.mem r.frame.block - 1) (temps_count d.mem r.frame.block) - 1) (no_this r.frame r.function)
        ∙ ap (λ k. k - 1) (temps_are r.frame.block room d.mem 1 0 quiet)

    unserved-goes : (d : Data) (r : Ready room Return Going 1 d) → Holds r.frame.block room d.mem 1 0 → Goes room Return Ending 1 (unserved (facts_of script) d)
    unfolding unserved
    unserved-goes d r quiet =
        subst (λ fs. Goes room Return Ending 1 (by_frame fs (unserved_in (facts_of script) d))) (sym r.frames)
        (cleared-goes r.frame.given r.frame.block (operand_count (facts_of script) r.frame d.mem - 1) d.mem (λ m. Next (with_newest (with_mem d m) (record r.frame { way = Ending }) [])) (one_operand d r quiet)
        (record {
          frame = record r.frame { way = Ending };
          frames = refl;
          function = r.function;
          pending = r.pending;
          way_is = refl;
          constants = r.constants;
          fallen = 0;
          holds = quiet;
        }))

    return-goes : (d : Data) (x : List Left) → Ready room Return Going 1 d → GoesWell (step (rules (facts_of script)) (tree script) rest numbers d (x ∷ []) kept)
    return-goes d x r =
        step-goes Return Going 1 d x r (λ e s. on_going numbers e (x ∷ []) kept (inr (inl s)))
        (λ quiet. subst (λ o. GoesWell (served (rules (facts_of script)) (tree script) rest numbers o d x [] kept)) (sym (serves-none Return x))
        (moved-goes Return Ending 1 (unserved (facts_of script) d) x x (unserved-goes d r quiet) (λ e s. on_going numbers e (x ∷ []) kept (inr (inr (record { count = 1; ready = s }))))))

    -- ---- tasks

    effect-goes : (why : Completion) (way : Way) (n : ℕ) (a : Action) (d : Data) (f : Frame) → d.frames ≡ f ∷ [] → Goes room why way n (effect_in (facts_of script) a d f []) → Goes room why way n (effect (facts_of script) a d)
    unfolding effect
    effect-goes why way n a d f e h = subst (λ fs. Goes room why way n (by_frame fs (effect_in (facts_of script) a d))) (sym e) h

    body-goes : (typed : Bool) (d : Data) (r : Ready room Normal Going 0 d) → typed ≡ false → Holds r.frame.block room d.mem 0 0 → Goes room Return Going 1 (effect_call EndBody typed r.frame [] d)
    body-goes true d r e quiet = absurd (cc)
    body-goes false d r e quiet =
        pushed_ok (λ mv. Goes room Return Going 1 mv) r.frame.block room scalar.Null d.mem 0 0 (λ m. completes Return r.frame [] (with_mem d m)) quiet tt (omega arith)
        (λ m s. record {
          frame = record r.frame { pending = Return; way = Going };
          frames = refl;
          function = r.function;
          pending = refl;
          way_is = refl;
          constants = r.constants;
          fallen = 0;
          holds = s;
        })

    module _ (d : Data) (n : ℕ) (r : Ready room Normal Going n d) (quiet : Holds r.frame.block room d.mem n 0) where
      silent-goes : (t : Task) (k : List Task) → Fits ns top (t ∷ k) n → GoesWell (rest numbers d ((left 0 (unfolded ns t ++ k) ∷ []) ∷ []) kept)
      silent-goes t k h = on_going numbers d ((left 0 (unfolded ns t ++ k) ∷ []) ∷ []) kept (inl (record { tasks = unfolded ns t ++ k; stands = refl; count = n; fits = unfolded-fits ns top t k n h; ready = r }))

      tasks-go : (k : List Task) → Fits ns top k n → GoesWell (fetched (rules (facts_of script)) (tree script) rest numbers ((tree script).fetch (left 0 k ∷ [])) d (left 0 k ∷ []) [] kept)
      tasks-go [] h =
          moved-goes Return Going 1 (effect (facts_of script) (Call EndBody) d) (left 0 [] ∷ []) (left 0 [] ∷ [])
          (effect-goes Return Going 1 (Call EndBody) d r.frame r.frames (nothing-left n r quiet h))
          (λ e s. on_going numbers e ((left 0 [] ∷ []) ∷ []) kept (inr (inl s)))
        where
          nothing-left : (n : ℕ) (r : Ready room Normal Going n d) → Holds r.frame.block room d.mem n 0 → n ≡ 0 → Goes room Return Going 1 (effect_in (facts_of script) (Call EndBody) d r.frame [])
          nothing-left zero r quiet e = body-goes (result_if (fact_of (facts_of script) r.frame)) d r (ap result_if (fact-is r.frame r.function)) quiet
          nothing-left (suc n) r quiet e = absurd (omega (arith, e))
      tasks-go (Do a ∷ k) h =
          moved-goes Normal Going (leaves a + h.0) (effect (facts_of script) a d) (left 0 (Do a ∷ k) ∷ []) (left 0 k ∷ [])
          (effect-goes Normal Going (leaves a + h.0) a d r.frame r.frames
          (action-goes room Normal Going r.frame r.function r.pending r.way_is d r.frames r.constants n h.0 quiet
          (union-goes room Normal Going r.frame r.function r.pending r.way_is d r.frames r.constants n h.0 quiet)
          ns (facts_of script) a (no_this r.frame r.function) h.1.0 h.1.1.0.0 (over_room h.0 (spare a) h.1.1.0.1)))
          (λ e s. on_going numbers e ((left 0 k ∷ []) ∷ []) kept (inl (record { tasks = k; stands = refl; count = leaves a + h.0; fits = h.1.1.1; ready = s })))
      tasks-go (Eval e ∷ k) h = silent-goes (Eval e) k h
      tasks-go (Keys e ∷ k) h = silent-goes (Keys e) k h
      tasks-go (EvalPieces ps ∷ k) h = silent-goes (EvalPieces ps) k h
      tasks-go (EchoItems is ∷ k) h = silent-goes (EchoItems is) k h
      tasks-go (Run i s ∷ k) h = silent-goes (Run i s) k h
      tasks-go (Runs i ss ∷ k) h = silent-goes (Runs i ss) k h
      tasks-go (RunItems is ∷ k) h = silent-goes (RunItems is) k h

    task-goes : (d : Data) (x : List Left) → Does d x → GoesWell (step (rules (facts_of script)) (tree script) rest numbers d (x ∷ []) kept)
    task-goes d x h =
        subst (λ y. GoesWell (step (rules (facts_of script)) (tree script) rest numbers d (y ∷ []) kept)) (sym h.stands)
        (step-goes Normal Going h.count d (left 0 h.tasks ∷ []) h.ready
        (λ e s. on_going numbers e ((left 0 h.tasks ∷ []) ∷ []) kept (inl (record { tasks = h.tasks; stands = refl; count = h.count; fits = h.fits; ready = s })))
        (λ quiet. tasks-go d h.count h.ready quiet h.tasks h.fits))

  keeps : (rest : Rest Data RunEnding (List Left)) → ((ms : List ℕ) (e : Data) (bs : List (List Left)) (held : K) → Inv e bs held → GoesWell (rest ms e bs held))
      → (numbers : List ℕ) (d : Data) (cs : List (List Left)) (kept : K) → Inv d cs kept → GoesWell (step (rules (facts_of script)) (tree script) rest numbers d cs kept)
  keeps rest go numbers d [] kept inv = absurd inv
  keeps rest go numbers d (x ∷ []) kept (inl h) = task-goes rest numbers kept go d x h
  keeps rest go numbers d (x ∷ []) kept (inr (inl h)) = return-goes rest numbers kept go d x h
  keeps rest go numbers d (x ∷ []) kept (inr (inr h)) = ending-goes rest numbers kept go d x h.count h.ready
  keeps rest go numbers d (x ∷ (y ∷ cs)) kept inv = absurd inv

  run-goes : (n : ℕ) (numbers : List ℕ) (d : Data) (cs : List (List Left)) (kept : K) → Inv d cs kept → GoesWell (run (rules (facts_of script)) (tree script) n numbers d cs kept)
  run-goes zero numbers d cs kept inv = tt
  run-goes (suc n) numbers d cs kept inv = keeps (run (rules (facts_of script)) (tree script) n) (run-goes n) numbers d cs kept inv

  goes-well : (f : Frame) (d : Data) → IsScriptTold script → CanBegin (facts_of script) f d → (n : ℕ) (numbers : List ℕ) → GoesWell (runs (rules (facts_of script)) (tree script) n numbers d)
  goes-well f d told h n numbers =
      run-goes n numbers d ((tree script).start 0 ∷ []) []
      (inl (record {
        tasks = RunItems script ∷ [];
        stands = refl;
        count = 0;
        fits = (refl, ((told, omega arith), refl));
        ready = record {
          frame = f;
          frames = h.frames;
          function = h.function;
          pending = h.pending;
          way_is = h.way;
          constants = h.constants;
          fallen = length (scope_of d.mem f.block).falling;
          holds = record { sound = h.sound; no_object = h.no_object; looks = h.block; falling = omega arith };
        };
      }))

  pub never-stuck : (f : Frame) (d : Data) → IsScriptTold script → CanBegin (facts_of script) f d → (n : ℕ) (numbers : List ℕ) → runs (rules (facts_of script)) (tree script) n numbers d ≢ Stuck
  never-stuck f d told h n numbers stuck = subst GoesWell stuck (goes-well f d told h n numbers)

  pub never-unnumbered : (f : Frame) (d : Data) → IsScriptTold script → CanBegin (facts_of script) f d → (n : ℕ) (numbers : List ℕ) → runs (rules (facts_of script)) (tree script) n numbers d ≢ Unnumbered
  never-unnumbered f d told h n numbers unnumbered = subst GoesWell unnumbered (goes-well f d told h n numbers)
