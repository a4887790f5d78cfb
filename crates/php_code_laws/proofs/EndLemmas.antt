-- Any code ends. A tick lowers what is left of the allowance. Between two ticks a frame's place goes ahead until
-- its completion is served by nothing; then its variables and temporaries go one by one, and the frame is gone.
use Rattle.std.proofs.Common.{◌≡◌, ◌⊎◌, inl, inr, ℕ, zero, suc, ◌+◌, ◌-◌, ◌<◌, ◌≤◌, Bool, true, false, cond, ◌&&◌, List, [], ◌∷◌, length, Option, Some, None, refl, sym, ap, ◌∙◌, subst, arith}
use Rattle.std.specs.Prelude.{slice_get, nat_eq}
use Rattle.std.proofs.lemmas.Bool.Decides.{nat_tests}
use Rattle.php_frames.specs.declared.completion.Completion.{Completion}
use Rattle.php_frames.specs.declared.completion.Completion.TheVariants.{Normal, Break, Continue, Return, Throw, Exit}
use Rattle.php_frames.specs.declared.frame.Way.{Way}
use Rattle.php_frames.specs.declared.frame.Way.TheVariants.{Going, Landed, Ending}
use Rattle.php_memdef.specs.declared.answer.Fallen.{Fallen}
use Rattle.php_memdef.specs.declared.answer.Fallen.TheVariants.{Nothing, Destroy, Frame as FrameOf}
use Rattle.php_memdef.specs.Contents.{Item, Variable, Mem, scope_of}
use Rattle.php_memdef.specs.Temporaries.{turn, drop_top, pass, leave as leave_block}
use Rattle.php_memdef.specs.Writes.{shed_first, shed}
use Rattle.php_memdef.specs.Releases.{fall}
use Rattle.php_memdef.specs.Views.{temps_count}
use Rattle.php_memdef.specs.Operations as op
use Rattle.php_memdef.specs.Deciders.{can}
use Rattle.php_memdef_laws.proofs.EndLemmas.{fall_ends}
use Rattle.php_machine.specs.Moves.{Next, Again, Enter, Ask, Inside, Leave, Park, Wake, End, Wrong, Proceed, Complete, Make, Yes, No, NoValue}
use Rattle.php_machine.specs.Control.{Fetch, Silent, Act, Branch, Kept}
use Rattle.php_machine.specs.Machine.{moved, chosen, fetched, served, stepped, run}
use Rattle.php_machine.specs.Same.{IsOver}
use Rattle.php_layers.specs.Layers.{fetched_over, served_over, serve_layers}
use Rattle.php_actions.specs.declared.facts.Facts.{Facts}
use Rattle.php_actions.specs.declared.action.Action.{Action}
use Rattle.php_actions.specs.declared.action.Action.TheVariants.{Call, Jump}
use Rattle.php_actions.specs.declared.calls.CallAction.TheVariants.{EndBody}
use Rattle.php_actions.specs.declared.jumps.JumpAction.TheVariants.{Tick}
use Rattle.php_actions.specs.Data.{Frame, Data, Move, Plan, Truth, with_mem, with_newest, on, next_with}
use Rattle.php_actions.specs.Steps.{turned, drops}
use Rattle.php_actions.specs.Calls.{completes}
use Rattle.php_actions.specs.Effect.{effect, fact_of, this_if}
use Rattle.php_actions.specs.Frames.{landed, passed_to, is_untold, value_fallen, ended, after_shed, ending}
use Rattle.php_actions.specs.Plan.{released, planned_by, planned_after, planned, plan, truth, rules}
use Rattle.php_code.specs.declared.instr.Instr.{Instr}
use Rattle.php_code.specs.declared.instr.Instr.TheVariants as instr
use Rattle.php_code.specs.declared.program.Function.{Function}
use Rattle.php_code.specs.declared.program.Program.{Program}
use Rattle.php_code.specs.Code.{Place, place, decoded, code_in, ranges_in, served_at, code_layer, code}
use Rattle.php_code_laws.proofs.ScopeLemmas.{size, shed-size, turn-size, turn-temps, drop-size, release-size}
use Rattle.php_code_laws.proofs.MoveLemmas.{Plain, effect-plain, PlainTruth, truth-plain, unserved-leads, end-leads, Fewer, tick-fewer}
use Rattle.php_code_laws.proofs.PlaceLemmas.{ends_of, span, span_in, span-of, within, served-ahead}

-- ---- places

abbrev ends_in : Option Function → ℕ
ends_in o = ends_of (ranges_in o)

some_same : {A : Type 0} {a b : A} → Some a ≡ Some b → a ≡ b
some_same h = cc

module _ (functions : List Function) where
  abbrev end : ℕ
  end = suc (span functions)

  -- what lies behind the places of a frame
  abbrev weigh : List Place → ℕ
  weigh [] = 0
  weigh (c ∷ cs) = suc (end - c.at) + weigh cs

  -- what a fetch leads to: further ahead, or a tick, or the end of the body where the place stays
  abbrev ActFalls : List Place → Action → List Place → Type 0
  ActFalls here a next = (weigh next < weigh here) ⊎ (((line : ℕ) × (a ≡ Jump (Tick line))) ⊎ ((a ≡ Call EndBody) × (next ≡ here)))

  abbrev FetchFalls : List Place → Fetch Action (List Place) → Type 0
  FetchFalls here (Silent next) = weigh next < weigh here
  FetchFalls here (Act a next) = ActFalls here a next
  FetchFalls here (Branch a b) = (weigh a < weigh here) × (weigh b < weigh here)

  none-falls : (l : Place) (ls : List Place) → FetchFalls (l ∷ ls) (fetched_over (Call EndBody) None l ls)
  none-falls l [] = inr (inr (refl, refl))
  none-falls l (m ∷ ms) = omega arith

  instr-falls : (i : Instr) (f p : ℕ) (ls : List Place) → p < end → FetchFalls (place f p ∷ ls) (fetched_over (Call EndBody) (decoded f p (Some i)) (place f p) ls)
  instr-falls (instr.Do a) f p ls h = inl (omega (arith, h))
  instr-falls (instr.Unless n) f p ls h = (omega (arith, h), omega (arith, h))
  instr-falls (instr.Go n) f p ls h = omega (arith, h)
  instr-falls (instr.TickBack line n) f p ls h = inr (inl (line, refl))

  code-falls : (o : Option Function) (f p : ℕ) (ls : List Place) → span_in o ≤ span functions
      → FetchFalls (place f p ∷ ls) (fetched_over (Call EndBody) (decoded f p (slice_get (code_in o) p)) (place f p) ls)
  code-falls o f p ls h = by (slice_get (code_in o) p) refl
    where
      inside : (o : Option Function) (p : ℕ) → p < length (code_in o) → p < suc (span_in o)
      inside None p h = omega (arith, h)
      inside (Some g) p h = omega (arith, h)

      by : (u : Option Instr) → slice_get (code_in o) p ≡ u → FetchFalls (place f p ∷ ls) (fetched_over (Call EndBody) (decoded f p u) (place f p) ls)
      by None e = none-falls (place f p) ls
      by (Some i) e = let w = inside o p (within (code_in o) p i e) in instr-falls i f p ls (omega (arith, w, h))

  -- a completion is served further ahead
  serve-falls : (why : Completion) (cs a : List Place) → serve_layers (code_layer functions) why cs ≡ Some a → weigh a < weigh cs
  serve-falls why [] a h = absurd (cc)
  serve-falls why (c ∷ cs) a h = by (serve-falls why cs a) (served_at (ranges_in (slice_get functions c.function)) c.function c.at why) refl h
    where
      ranges-end : (o : Option Function) → ends_in o ≤ span_in o
      ranges-end None = omega arith
      ranges-end (Some g) = omega arith

      by : (serve_layers (code_layer functions) why cs ≡ Some a → weigh a < weigh cs) → (o : Option Place) → served_at (ranges_in (slice_get functions c.function)) c.function c.at why ≡ o
          → served_over o cs (serve_layers (code_layer functions) why cs) ≡ Some a → weigh a < weigh (c ∷ cs)
      by rest None e h = let t = rest h in omega (arith, t)
      by rest (Some n) e h =
          let t = served-ahead (ranges_in (slice_get functions c.function)) c.function c.at why n e in
          let u = ranges-end (slice_get functions c.function) in
          let v = span-of functions c.function in
          let less : weigh (n ∷ cs) < weigh (c ∷ cs) = omega (arith, t.0, t.1, u, v) in
          subst (λ x. weigh x < weigh (c ∷ cs)) (some_same h) less

-- ---- runs

module _ (facts : Facts) (program : Program) (ns : List ℕ) (kept : List (Kept (List Place))) where
  abbrev Over : Data → List (List Place) → Type 0
  Over d cs = (n : ℕ) × IsOver (run (rules facts) (code program) n ns d cs kept)

  one_step : (d : Data) (x : List Place) (xs : List (List Place)) (p : Plan) → plan facts d ≡ p
      → (n : ℕ) × IsOver (stepped (rules facts) (code program) (run (rules facts) (code program) n) ns p d x xs kept) → Over d (x ∷ xs)
  one_step d x xs p e h = (suc h.0, subst (λ q. IsOver (stepped (rules facts) (code program) (run (rules facts) (code program) h.0) ns q d x xs kept)) (sym e) h.1)

  plan-is : (d : Data) (fs : List Frame) → d.frames ≡ fs → plan facts d ≡ planned facts d fs
  unfolding plan
  plan-is d fs e = ap (planned facts d) e

  planned-as : (d : Data) (f : Frame) (fs : List Frame) (way : Way) (why : Completion) → f.way ≡ way → f.pending ≡ why
      → planned_by f.way f.pending facts d f fs ≡ planned_by way why facts d f fs
  planned-as d f fs way why i j = ap (λ y. planned_by y f.pending facts d f fs) i ∙ ap (λ y. planned_by way y facts d f fs) j

  -- data with fewer ticks left, and what is below the newest frame
  module _ (t : ℕ) (fewer_ticks : (d : Data) (cs : List (List Place)) → suc d.left ≤ t → Over d cs) (xs : List (List Place)) (below : (d : Data) → d.left ≤ t → Over d xs) where
    abbrev MoveOver : Move → List Place → List Place → Type 0
    MoveOver mv here next = (n : ℕ) × IsOver (moved (rules facts) (code program) (run (rules facts) (code program) n) ns mv here next xs kept)

    plain-over : (mv : Move) (here next : List Place) → Plain t mv → ((d : Data) → d.left ≤ t → Over d (next ∷ xs)) → MoveOver mv here next
    plain-over (Next d) here next h go = go d h
    plain-over (Leave d) here next h go = below d h
    plain-over (End e d) here next h go = (0, tt)
    plain-over Wrong here next h go = (0, tt)
    plain-over (Again d) here next h go = absurd h
    plain-over (Enter f is_free at) here next h go = absurd h
    plain-over (Ask f is_free at) here next h go = absurd h
    plain-over (Inside f d) here next h go = absurd h
    plain-over (Park g d) here next h go = absurd h
    plain-over (Wake g d) here next h go = absurd h

    fewer-over : (left : ℕ) (mv : Move) (here next : List Place) → left ≤ t → Fewer left mv → MoveOver mv here next
    fewer-over left (Next d) here next h less = fewer_ticks d (next ∷ xs) (omega (arith, h, less))
    fewer-over left (End e d) here next h less = (0, tt)
    fewer-over left Wrong here next h less = (0, tt)
    fewer-over left (Leave d) here next h less = absurd less
    fewer-over left (Again d) here next h less = absurd less
    fewer-over left (Enter f is_free at) here next h less = absurd less
    fewer-over left (Ask f is_free at) here next h less = absurd less
    fewer-over left (Inside f d) here next h less = absurd less
    fewer-over left (Park g d) here next h less = absurd less
    fewer-over left (Wake g d) here next h less = absurd less

    cond-over : (b : Bool) (mv : Move) (here next : List Place) → MoveOver mv here next → MoveOver (cond b mv Wrong) here next
    cond-over true mv here next h = h
    cond-over false mv here next h = (0, tt)

    wrong-or : (b : Bool) (mv : Move) (here next : List Place) → MoveOver mv here next → MoveOver (cond b Wrong mv) here next
    wrong-or true mv here next h = (0, tt)
    wrong-or false mv here next h = h

    on-over : (b : Bool) (m : Mem) (go : Mem → Move) (here next : List Place) → MoveOver (go m) here next → MoveOver (on b m go) here next
    on-over true m go here next h = h
    on-over false m go here next h = (0, tt)

    -- ---- what has fallen is released first

    module _ (d : Data) (f : Frame) (fs : List Frame) (x : List Place) (e : d.frames ≡ f ∷ fs)
        (go : (m : Mem) → (scope_of m f.block).falling ≡ [] → size m f.block ≡ size d.mem f.block → Over (with_mem d m) (x ∷ xs)) where
      released-over : (r : Mem × Fallen) → (r.1 ≡ Nothing → (scope_of r.0 f.block).falling ≡ []) → size r.0 f.block ≡ size d.mem f.block → MoveOver (released r d) x x
      released-over (m, Nothing) quiet same = go m (quiet refl) same
      released-over (m, Destroy h) quiet same = (0, tt)
      released-over (m, FrameOf b) quiet same = (0, tt)

      released_first : Over d (x ∷ xs)
      released_first = by (scope_of d.mem f.block).falling refl
        where
          by : (is : List Item) → (scope_of d.mem f.block).falling ≡ is → Over d (x ∷ xs)
          by [] quiet = go d.mem quiet refl
          by (i ∷ is) falls =
              one_step d x xs (Make (cond (can (op.fall f.block) d.mem) (released (fall d.mem f.block) d) Wrong)) (plan-is d (f ∷ fs) e ∙ ap (λ l. planned_after l facts d f fs) falls)
              (cond-over (can (op.fall f.block) d.mem) (released (fall d.mem f.block) d) x x (released-over (fall d.mem f.block) (fall_ends d.mem f.block) (release-size d.mem f.block)))

    plan-by : (d : Data) (f : Frame) (fs : List Frame) → d.frames ≡ f ∷ fs → (scope_of d.mem f.block).falling ≡ [] → plan facts d ≡ planned_by f.way f.pending facts d f fs
    plan-by d f fs e quiet = plan-is d (f ∷ fs) e ∙ ap (λ l. planned_after l facts d f fs) quiet

    -- ---- the end of a frame

    module _ (d : Data) (f : Frame) (fs : List Frame) (x : List Place) (h : d.left ≤ t)
        (lower : (m : Mem) → suc (size m f.block) ≤ size d.mem f.block → Over (with_mem d m) (x ∷ xs)) where
      -- a temporary falls where there is one
      drop-over : (m : Mem) → size m f.block ≡ size d.mem f.block → 0 < length (scope_of m f.block).temps → MoveOver (drops f.block 1 m (next_with d)) x x
      drop-over m same some =
          let less = drop-size m f.block some in
          on-over (can (op.drop_top f.block) m) (drop_top m f.block) (λ n. drops f.block 0 n (next_with d)) x x (lower (drop_top m f.block) (omega (arith, less, same)))

      value-over : (k : ℕ) → temps_count d.mem f.block ≡ k → MoveOver (value_fallen k f d) x x
      value-over zero e = (0, tt)
      value-over (suc k) e = drop-over d.mem refl (omega (arith, e))

      ended-over : (gs : List Frame) → MoveOver (ended f gs d) x x
      ended-over [] = wrong-or (is_untold f.pending) (value_fallen (temps_count d.mem f.block) f d) x x (value-over (temps_count d.mem f.block) refl)
      ended-over (g ∷ gs) =
          on-over (can (op.pass f.block g.block) d.mem) (pass d.mem f.block g.block)
          (λ m. on (can (op.leave f.block) m) (leave_block m f.block) (λ n. Leave (with_newest (with_mem d n) (passed_to f.pending g) gs))) x x
          (on-over (can (op.leave f.block) (pass d.mem f.block g.block)) (leave_block (pass d.mem f.block g.block) f.block)
          (λ n. Leave (with_newest (with_mem d n) (passed_to f.pending g) gs)) x x
          (below (with_newest (with_mem d (leave_block (pass d.mem f.block g.block) f.block)) (passed_to f.pending g) gs) h))

      two : (a : Bool) (n : ℕ) → (a && nat_eq n 2) ≡ true → n ≡ 2
      two true n e = grind (arith, nat_tests)
      two false n e = absurd (cc)

      this-over : (this c : Bool) → (this && nat_eq (temps_count d.mem f.block) 2) ≡ c
          → MoveOver (cond c (turned f.block 2 d.mem (λ m. drops f.block 1 m (next_with d))) (ended f fs d)) x x
      this-over this true e =
          let n = two this (temps_count d.mem f.block) e in
          let l = turn-temps d.mem f.block 2 in
          on-over (can (op.turn f.block 2) d.mem) (turn d.mem f.block 2) (λ m. drops f.block 1 m (next_with d)) x x
          (drop-over (turn d.mem f.block 2) (turn-size d.mem f.block 2) (omega (arith, n, l)))
      this-over this false e = ended-over fs

      shed-over : (vs : List Variable) (this : Bool) → (scope_of d.mem f.block).variables ≡ vs → MoveOver (after_shed (shed_first vs d.mem f.block) this f fs d) x x
      shed-over [] this e = this-over this (this && nat_eq (temps_count d.mem f.block) 2) refl
      shed-over (v ∷ vs) this e = let less = shed-size d.mem f.block v vs e in lower _ (omega (arith, less))

      ending-over : MoveOver (ending facts d f fs) x x
      unfolding shed
      ending-over =
          cond-over (can (op.shed f.block) d.mem) (after_shed (shed d.mem f.block) (this_if (fact_of facts f)) f fs d) x x
          (shed-over (scope_of d.mem f.block).variables (this_if (fact_of facts f)) refl)

    frame_ends : (v : ℕ) (d : Data) (f : Frame) (fs : List Frame) (x : List Place) → d.frames ≡ f ∷ fs → f.way ≡ Ending → d.left ≤ t → size d.mem f.block ≤ v → Over d (x ∷ xs)
    frame_ends zero d f fs x e w h s = released_first d f fs x e (λ m quiet same.
        one_step (with_mem d m) x xs (Make (ending facts (with_mem d m) f fs)) (plan-by (with_mem d m) f fs e quiet ∙ ap (λ y. planned_by y f.pending facts (with_mem d m) f fs) w)
        (ending-over (with_mem d m) f fs x h (λ n less. absurd (omega (arith, same, s, less)))))
    frame_ends (suc v) d f fs x e w h s = released_first d f fs x e (λ m quiet same.
        one_step (with_mem d m) x xs (Make (ending facts (with_mem d m) f fs)) (plan-by (with_mem d m) f fs e quiet ∙ ap (λ y. planned_by y f.pending facts (with_mem d m) f fs) w)
        (ending-over (with_mem d m) f fs x h (λ n less. frame_ends v (with_mem d n) f fs x e w h (omega (arith, same, s, less)))))

    -- ---- a frame whose code lies behind fewer places

    module _ (p : ℕ) (ahead : (d : Data) (x : List Place) → d.left ≤ t → weigh program.functions x < p → Over d (x ∷ xs)) where
      landed-left : (d : Data) → d.left ≤ t → (landed d).left ≤ t
      unfolding landed
      landed-left d h = h

      complete-over : (why : Completion) (d : Data) (f : Frame) (fs : List Frame) (x : List Place) → d.frames ≡ f ∷ fs → (scope_of d.mem f.block).falling ≡ []
          → planned_by f.way f.pending facts d f fs ≡ Complete why → d.left ≤ t → weigh program.functions x ≤ p → Over d (x ∷ xs)
      complete-over why d f fs x e quiet c h w =
          one_step d x xs (Complete why) (plan-by d f fs e quiet ∙ c) (by (serve_layers (code_layer program.functions) why x) refl)
        where
          by : (o : Option (List Place)) → serve_layers (code_layer program.functions) why x ≡ o
              → (n : ℕ) × IsOver (served (rules facts) (code program) (run (rules facts) (code program) n) ns o d x xs kept)
          by None none =
              unserved-leads (λ mv. MoveOver mv x x) (0, tt) facts d f fs e
              (λ n. frame_ends (size n f.block) (with_newest (with_mem d n) (record f { way = Ending }) fs) (record f { way = Ending }) fs x refl refl h (omega arith))
          by (Some a) is = let less = serve-falls program.functions why x a is in ahead (landed d) a (landed-left d h) (omega (arith, less, w))

      -- at the end of a body the place stays, and a return is under way
      returns-over : (d : Data) (f : Frame) (fs : List Frame) (x : List Place) → d.left ≤ t → weigh program.functions x ≤ p → MoveOver (completes Return f fs d) x x
      returns-over d f fs x h w =
          released_first (with_newest d (record f { pending = Return; way = Going }) fs) (record f { pending = Return; way = Going }) fs x refl
          (λ m quiet same. complete-over Return (with_mem (with_newest d (record f { pending = Return; way = Going }) fs) m) (record f { pending = Return; way = Going }) fs x refl quiet refl h w)

      act-over : (a : Action) (d : Data) (f : Frame) (fs : List Frame) (x next : List Place) → d.frames ≡ f ∷ fs → d.left ≤ t → weigh program.functions x ≤ p
          → ActFalls program.functions x a next → MoveOver (effect facts a d) x next
      act-over a d f fs x next e h w (inl less) = plain-over (effect facts a d) x next (effect-plain t facts a d h) (λ n k. ahead n next k (omega (arith, less, w)))
      act-over a d f fs x next e h w (inr (inl tick)) =
          subst (λ b. MoveOver (effect facts b d) x next) (sym tick.1) (fewer-over d.left (effect facts (Jump (Tick tick.0)) d) x next h (tick-fewer facts tick.0 d))
      act-over a d f fs x next e h w (inr (inr stays)) =
          subst (λ b. MoveOver (effect facts b d) x next) (sym stays.0)
          (subst (λ y. MoveOver (effect facts (Call EndBody) d) x y) (sym stays.1)
          (end-leads (λ mv. MoveOver mv x x) (0, tt) facts d f fs e (λ n. returns-over (with_mem d n) f fs x h w)))

      truth-over : (u : Truth) (a b x : List Place) → PlainTruth t u → weigh program.functions a < p → weigh program.functions b < p
          → (n : ℕ) × IsOver (chosen (rules facts) (code program) (run (rules facts) (code program) n) ns u a b xs kept)
      truth-over (Yes d) a b x h v w = ahead d a h v
      truth-over (No d) a b x h v w = ahead d b h w
      truth-over NoValue a b x h v w = (0, tt)

      fetch-over : (g : Fetch Action (List Place)) (d : Data) (f : Frame) (fs : List Frame) (x : List Place) → d.frames ≡ f ∷ fs → d.left ≤ t → weigh program.functions x ≤ p
          → FetchFalls program.functions x g → (n : ℕ) × IsOver (fetched (rules facts) (code program) (run (rules facts) (code program) n) ns g d x xs kept)
      fetch-over (Silent next) d f fs x e h w less = ahead d next h (omega (arith, less, w))
      fetch-over (Act a next) d f fs x e h w falls = act-over a d f fs x next e h w falls
      fetch-over (Branch a b) d f fs x e h w less = truth-over (truth d) a b x (truth-plain t d h) (omega (arith, less.0, w)) (omega (arith, less.1, w))

      fetch-falls : (x : List Place) → FetchFalls program.functions x ((code program).fetch x)
      fetch-falls [] = inr (inr (refl, refl))
      fetch-falls (c ∷ cs) = code-falls program.functions (slice_get program.functions c.function) c.function c.at cs (span-of program.functions c.function)

      proceed-over : (d : Data) (f : Frame) (fs : List Frame) (x : List Place) → d.frames ≡ f ∷ fs → (scope_of d.mem f.block).falling ≡ []
          → planned_by f.way f.pending facts d f fs ≡ Proceed → d.left ≤ t → weigh program.functions x ≤ p → Over d (x ∷ xs)
      proceed-over d f fs x e quiet c h w =
          one_step d x xs Proceed (plan-by d f fs e quiet ∙ c) (fetch-over ((code program).fetch x) d f fs x e h w (fetch-falls x))

      -- by how far the completion of the frame has come
      way-over : (way : Way) (why : Completion) (d : Data) (f : Frame) (fs : List Frame) (x : List Place) → f.way ≡ way → f.pending ≡ why
          → d.frames ≡ f ∷ fs → (scope_of d.mem f.block).falling ≡ [] → d.left ≤ t → weigh program.functions x ≤ p → Over d (x ∷ xs)
      way-over Going Normal d f fs x i j e quiet h w = proceed-over d f fs x e quiet (planned-as d f fs Going Normal i j) h w
      way-over Going (Break n) d f fs x i j e quiet h w = complete-over (Break n) d f fs x e quiet (planned-as d f fs Going (Break n) i j) h w
      way-over Going (Continue n) d f fs x i j e quiet h w = complete-over (Continue n) d f fs x e quiet (planned-as d f fs Going (Continue n) i j) h w
      way-over Going Return d f fs x i j e quiet h w = complete-over Return d f fs x e quiet (planned-as d f fs Going Return i j) h w
      way-over Going Throw d f fs x i j e quiet h w = complete-over Throw d f fs x e quiet (planned-as d f fs Going Throw i j) h w
      way-over Going (Exit n) d f fs x i j e quiet h w = complete-over (Exit n) d f fs x e quiet (planned-as d f fs Going (Exit n) i j) h w
      way-over Landed why d f fs x i j e quiet h w = proceed-over d f fs x e quiet (planned-as d f fs Landed why i j) h w
      way-over Ending why d f fs x i j e quiet h w = frame_ends (size d.mem f.block) d f fs x e i h (omega arith)

      here-over : (d : Data) (x : List Place) → d.left ≤ t → weigh program.functions x ≤ p → Over d (x ∷ xs)
      here-over d x h w = by d.frames refl
        where
          by : (l : List Frame) → d.frames ≡ l → Over d (x ∷ xs)
          by [] e = one_step d x xs (Make Wrong) (plan-is d [] e) (0, tt)
          by (f ∷ fs) e = released_first d f fs x e (λ m quiet same. way-over f.way f.pending (with_mem d m) f fs x refl refl e quiet h w)

    by_weight : (p : ℕ) (d : Data) (x : List Place) → d.left ≤ t → weigh program.functions x < p → Over d (x ∷ xs)
    by_weight zero d x h w = absurd (omega (arith, w))
    by_weight (suc p) d x h w = here-over p (by_weight p) d x h (omega (arith, w))

  by_frames : (t : ℕ) → ((d : Data) (cs : List (List Place)) → suc d.left ≤ t → Over d cs) → (cs : List (List Place)) (d : Data) → d.left ≤ t → Over d cs
  by_frames t fewer_ticks [] d h = (1, tt)
  by_frames t fewer_ticks (x ∷ xs) d h = by_weight t fewer_ticks xs (by_frames t fewer_ticks xs) (suc (weigh program.functions x)) d x h (omega arith)

  by_ticks : (t : ℕ) (d : Data) (cs : List (List Place)) → suc d.left ≤ t → Over d cs
  by_ticks zero d cs h = absurd (omega (arith, h))
  by_ticks (suc t) d cs h = by_frames t (by_ticks t) cs d (omega (arith, h))

  pub all_end : (d : Data) (cs : List (List Place)) → Over d cs
  all_end d cs = by_ticks (suc d.left) d cs (omega arith)
