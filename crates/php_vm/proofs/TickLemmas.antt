-- No step takes back a tick: the number of ticks, as a list of so many zeros, only grows.
use Rattle.std.proofs.Common.{◌≡◌, ◌∙◌, ◌≤◌, ap, subst, arith, ℕ, zero, suc, ◌+◌, ◌-◌, Bool, true, false, List, [], ◌∷◌, ◌++◌, length, Option, Some, None, Result, Ok, Err, refl}
use Rattle.std.specs.Prelude.{nat_eq, nat_lt, not, ◌&&◌, cond, pos}
use Rattle.php_value.specs.declared.fault.Fault.{Fault}
use Rattle.php_value.specs.declared.fault.Fault.TheVariants.{ArrayLimit}
use Rattle.php_value.specs.declared.fault.Stopped.{Stopped}
use Rattle.php_value.specs.declared.fault.Stopped.TheVariants.{Fault as Ends, Throws, NoMemory}
use Rattle.php_value.specs.declared.key.Key.{Key}
use Rattle.php_value.specs.declared.op.Op.{Op}
use Rattle.php_value.specs.declared.scalar.Scalar.{Scalar}
use Rattle.php_value.specs.declared.scalar.Scalar.TheVariants as scalar
use Rattle.php_value.specs.declared.error_kind.ErrorKind.{ErrorKind}
use Rattle.php_value.specs.declared.error_kind.TheConstants.ErrorKind.{NOT_AN_ARRAY, NO_KEY_LEFT, NO_THIS, TYPE_MISMATCH, UNDEFINED_CONSTANT, UNSUPPORTED_OPERANDS, NOT_COUNTABLE}
use Rattle.php_value.specs.Operator.{complement_of, joined}
use Rattle.php_entries.specs.Listing.{Listing, ENTRY_LIMIT}
use Rattle.php_frames.specs.declared.completion.Completion.{Completion}
use Rattle.php_frames.specs.declared.completion.Completion.TheVariants.{Normal, Break, Continue, Return, Throw, Exit}
use Rattle.php_frames.specs.declared.frame.Way.{Way}
use Rattle.php_frames.specs.declared.frame.Way.TheVariants.{Going, Landed, Ending as EndingWay}
use Rattle.php_memdef.specs.declared.place.Base.{Base}
use Rattle.php_memdef.specs.declared.place.Step.{Step}
use Rattle.php_memdef.specs.declared.place.Place.{Place}
use Rattle.php_memdef.specs.declared.answer.Read.{Read}
use Rattle.php_memdef.specs.declared.answer.Read.TheVariants.{Found, Absent}
use Rattle.php_memdef.specs.declared.answer.Wrote.{Wrote}
use Rattle.php_memdef.specs.declared.answer.Wrote.TheVariants.{Done, NotArray, Full, Limit}
use Rattle.php_memdef.specs.declared.answer.Fallen.{Fallen}
use Rattle.php_memdef.specs.declared.answer.Fallen.TheVariants.{Nothing, Destroy, Frame as FrameOf}
use Rattle.php_memdef.specs.Contents.{Content, Item, value, link, Mem, scope_of}
use Rattle.php_memdef.specs.Temporaries.{push, push_array, copy, settle, turn, drop_top, pass, leave as leave_block}
use Rattle.php_memdef.specs.Writes.{assign, shed}
use Rattle.php_memdef.specs.Releases.{fall}
use Rattle.php_memdef.specs.Views.{temps_count, cost_of}
use Rattle.php_memdef.specs.Reading.{Reading, gives, throws as throws_kind, loud, reading}
use Rattle.php_machine.specs.Moves.{Next, Leave, Wrong, Proceed, Complete, Make}
use Rattle.php_actions.specs.declared.facts.Facts.{Facts}
use Rattle.php_actions.specs.declared.action.Action.{Action}
use Rattle.php_actions.specs.declared.action.Action.TheVariants as action
use Rattle.php_actions.specs.declared.stack.StackAction.{StackAction}
use Rattle.php_actions.specs.declared.stack.StackAction.TheVariants as stack
use Rattle.php_actions.specs.declared.places.PlaceAction.{PlaceAction}
use Rattle.php_actions.specs.declared.places.PlaceAction.TheVariants as places
use Rattle.php_actions.specs.declared.place_form.BaseForm.{BaseForm}
use Rattle.php_actions.specs.declared.place_form.BaseForm.TheVariants.{Variable, Standing, This}
use Rattle.php_actions.specs.declared.place_form.PlaceForm.{PlaceForm}
use Rattle.php_actions.specs.declared.operators.OperatorAction.{OperatorAction}
use Rattle.php_actions.specs.declared.operators.OperatorAction.TheVariants as operators
use Rattle.php_actions.specs.declared.output.OutputAction.{OutputAction}
use Rattle.php_actions.specs.declared.output.OutputAction.TheVariants as output
use Rattle.php_actions.specs.declared.names.NameAction.{NameAction}
use Rattle.php_actions.specs.declared.names.NameAction.TheVariants as names
use Rattle.php_actions.specs.declared.calls.CallAction.{CallAction}
use Rattle.php_actions.specs.declared.calls.CallAction.TheVariants as calls
use Rattle.php_actions.specs.declared.jumps.JumpAction.{JumpAction}
use Rattle.php_actions.specs.Data.{Frame, Data, Move, Plan, by_frame, with_mem, with_newest, on, next_with}
use Rattle.php_actions.specs.Contents.{type_name, scalar_of, truth_of, text_of_content, number_of, is_null}
use Rattle.php_memdef.specs.Operations as op
use Rattle.php_memdef.specs.Deciders.{can}
use Rattle.php_actions.specs.Steps.{temp, operand, turned, drops, sink, trim, pushed, replaced, fault, throws, throws_about, stopped, blocking, throws_blocked, written, assigns, copied_or_pushed, read_as, reads}
use Rattle.php_actions.specs.PlaceForms.{size, Steps, steps, refused, missing, steps_of, evaluated_count, variable, temporary, with_base, with_steps, with_place}
use Rattle.php_actions.specs.Stack.{settled_if, tested, effect_stack}
use Rattle.php_actions.specs.Places.{effect_place}
use Rattle.php_actions.specs.Operators.{Computed, keys_of, keys_lacking, element, taken_over, united, finish_two, operated, united_or, elements_to_unite, operate_on, finish_one, int_of_content, as_text, sign_of, on_scalar, counted_by, differ, with_operand, with_two, texts_of, join_as, join_if, below, text_if, effect_operator}
use Rattle.php_compare.specs.Ordering.{order_in}
use Rattle.php_compare.specs.Identity.{same_in}
use Rattle.php_actions.specs.declared.relation.Relation.TheVariants.{Equal}
use Rattle.php_actions.specs.Comparisons.{compared_as, identical_as}
use Rattle.php_actions.specs.Output.{with_out, with_text, effect_output}
use Rattle.php_actions.specs.Names.{place_among, static, found_copy, constant_pushed, effect_name}
use Rattle.php_actions.specs.Calls.{completes, effect_call}
use Rattle.php_actions.specs.Jumps.{effect_jump}
use Rattle.php_actions.specs.Effect.{fact_of, this_if, result_if, effect_in}
use Rattle.php_actions.specs.Frames.{operand_count, cleared, unserved_in, passed_to, handed, is_untold, value_fallen, ended, after_shed, ending}
use Rattle.php_actions.specs.Plan.{released, planned_by, planned_after, planned}
use Rattle.php_machine.specs.Outputs.{Begins, MoveBegins, TruthBegins, OnlyWrites}
use Rattle.php_machine.proofs.OutputLemmas.{Begins_refl, Begins_trans}
use Rattle.php_actions.specs.declared.jumps.JumpAction.TheVariants.{Tick}
use Rattle.php_actions.specs.Jumps.{ticked}
use Rattle.php_actions.specs.Effect.{effect}
use Rattle.php_actions.specs.Frames.{landed, unserved}
use Rattle.php_actions.specs.Plan.{plan, chosen, truth_by, truth_in, truth, rules}

-- so many zeros
abbrev pub zeros : ℕ → List ℕ
zeros zero = []
zeros (suc n) = 0 ∷ zeros n

abbrev pub ticks_of : Data → List ℕ
ticks_of d = zeros d.taken

zeros_end : (n : ℕ) → zeros (suc n) ≡ zeros n ++ 0 ∷ []
zeros_end zero = refl
zeros_end (suc n) = ap (λ l. 0 ∷ l) (zeros_end n)

one_more : (n : ℕ) → Begins (zeros n) (zeros (n + 1))
one_more n = let e : n + 1 ≡ suc n = omega arith in (0 ∷ [], ap zeros e ∙ zeros_end n)

tail_same : {x y : ℕ} {xs ys : List ℕ} → x ∷ xs ≡ y ∷ ys → xs ≡ ys
tail_same h = cc

nil_is_no_cons : {A : Type 0} {x : ℕ} {xs : List ℕ} → [] ≡ x ∷ xs → A
nil_is_no_cons h = absurd cc

pub fewer_zeros : (m n : ℕ) (more : List ℕ) → zeros n ≡ zeros m ++ more → m ≤ n
fewer_zeros zero n more h = omega arith
fewer_zeros (suc m) zero more h = nil_is_no_cons h
fewer_zeros (suc m) (suc n) more h = let k = fewer_zeros m n more (tail_same h) in omega (arith, k)

-- whatever data a move leads to, so many ticks were taken at least
module _ (xs : List ℕ) where
  on-ticks : (t : Bool) (m : Mem) (go : Mem → Move) → ((m' : Mem) → MoveBegins ticks_of xs (go m')) → MoveBegins ticks_of xs (on t m go)
  on-ticks true m go h = h m
  on-ticks false m go h = tt

  cond-ticks : (t : Bool) (a b : Move) → MoveBegins ticks_of xs a → MoveBegins ticks_of xs b → MoveBegins ticks_of xs (cond t a b)
  cond-ticks true a b h k = h
  cond-ticks false a b h k = k

  next_with-ticks : (d : Data) → Begins xs (ticks_of d) → (m : Mem) → MoveBegins ticks_of xs (next_with d m)
  next_with-ticks d h m = h

  turned-ticks : (b k : ℕ) (m : Mem) (go : Mem → Move) → ((m' : Mem) → MoveBegins ticks_of xs (go m')) → MoveBegins ticks_of xs (turned b k m go)
  turned-ticks b k m go h = on-ticks (can (op.turn b k) m) (turn m b k) go h

  drops-ticks : (b k : ℕ) (m : Mem) (go : Mem → Move) → ((m' : Mem) → MoveBegins ticks_of xs (go m')) → MoveBegins ticks_of xs (drops b k m go)
  drops-ticks b zero m go h = h m
  drops-ticks b (suc k) m go h = on-ticks (can (op.drop_top b) m) (drop_top m b) (λ m'. drops b k m' go) (λ m'. drops-ticks b k m' go h)

  sink-ticks : (b k : ℕ) (m : Mem) (go : Mem → Move) → ((m' : Mem) → MoveBegins ticks_of xs (go m')) → MoveBegins ticks_of xs (sink b k m go)
  sink-ticks b zero m go h = h m
  sink-ticks b (suc k) m go h = turned-ticks b (suc (suc k)) m (λ m'. drops b (suc k) m' go) (λ m'. drops-ticks b (suc k) m' go h)

  trim-ticks : (b k : ℕ) (m : Mem) (go : Mem → Move) → ((m' : Mem) → MoveBegins ticks_of xs (go m')) → MoveBegins ticks_of xs (trim b k m go)
  trim-ticks b zero m go h = h m
  trim-ticks b (suc k) m go h =
      turned-ticks b (suc (suc k)) m (λ m'. turned b (suc k) m' (λ m''. drops b (suc k) m'' go))
      (λ m'. turned-ticks b (suc k) m' (λ m''. drops b (suc k) m'' go) (λ m''. drops-ticks b (suc k) m'' go h))

  pushed-ticks : (b : ℕ) (v : Scalar) (m : Mem) (go : Mem → Move) → ((m' : Mem) → MoveBegins ticks_of xs (go m')) → MoveBegins ticks_of xs (pushed b v m go)
  pushed-ticks b v m go h = on-ticks (can (op.push b v) m) (push m b v) go h

  replaced-ticks : (b k : ℕ) (v : Scalar) (m : Mem) (go : Mem → Move) → ((m' : Mem) → MoveBegins ticks_of xs (go m')) → MoveBegins ticks_of xs (replaced b k v m go)
  replaced-ticks b k v m go h =
      turned-ticks b k m (λ m'. drops b k m' (λ m''. pushed b v m'' go))
      (λ m'. drops-ticks b k m' (λ m''. pushed b v m'' go) (λ m''. pushed-ticks b v m'' go h))

  fault-ticks : (x : Fault) (f : Frame) (d : Data) → Begins xs (ticks_of d) → MoveBegins ticks_of xs (fault x f d)
  fault-ticks x f d h = h

  throws-ticks : (kind : ErrorKind) (name : List ℕ) (f : Frame) (d : Data) → Begins xs (ticks_of d) → MoveBegins ticks_of xs (throws kind name f d)
  throws-ticks kind name f d h = h

  throws_about-ticks : (kind : ErrorKind) (name : Option (List ℕ)) (f : Frame) (d : Data) → Begins xs (ticks_of d) → MoveBegins ticks_of xs (throws_about kind name f d)
  throws_about-ticks kind None f d h = tt
  throws_about-ticks kind (Some name) f d h = throws-ticks kind name f d h

  stopped-ticks : (s : Stopped) (f : Frame) (d : Data) → Begins xs (ticks_of d) → MoveBegins ticks_of xs (stopped s f d)
  stopped-ticks (Ends x) f d h = fault-ticks x f d h
  stopped-ticks (Throws kind) f d h = throws-ticks kind [] f d h
  stopped-ticks NoMemory f d h = tt

  throws_blocked-ticks : (c : Option Content) (f : Frame) (d : Data) → Begins xs (ticks_of d) → MoveBegins ticks_of xs (throws_blocked c f d)
  throws_blocked-ticks None f d h = tt
  throws_blocked-ticks (Some c) f d h = throws_about-ticks NOT_AN_ARRAY (type_name c) f d h

  written-ticks : (r : Mem × Wrote) (p : Place) (f : Frame) (d : Data) (go : Data → Move) → Begins xs (ticks_of d) → ((d' : Data) → Begins xs (ticks_of d') → MoveBegins ticks_of xs (go d')) → MoveBegins ticks_of xs (written r p f d go)
  written-ticks (m, Done) p f d go h k = k (record d { mem = m; writes = d.writes + cost_of d.mem p }) h
  written-ticks (m, NotArray) p f d go h k = throws_blocked-ticks (blocking d.mem p) f d h
  written-ticks (m, Full) p f d go h k = throws-ticks NO_KEY_LEFT [] f d h
  written-ticks (m, Limit) p f d go h k = fault-ticks ArrayLimit f d h

  assigns-ticks : (p : Place) (f : Frame) (d : Data) (go : Data → Move) → Begins xs (ticks_of d) → ((d' : Data) → Begins xs (ticks_of d') → MoveBegins ticks_of xs (go d')) → MoveBegins ticks_of xs (assigns p f d go)
  assigns-ticks p f d go h k =
      cond-ticks (can (op.assign f.block p) d.mem) (written (assign d.mem f.block p) p f d go) Wrong
      (written-ticks (assign d.mem f.block p) p f d go h k) tt

  copied_or_pushed-ticks : (r : Mem × Read) (b : ℕ) (v : Option Scalar) (m : Mem) (go : Mem → Move) → ((m' : Mem) → MoveBegins ticks_of xs (go m')) → MoveBegins ticks_of xs (copied_or_pushed r b v m go)
  copied_or_pushed-ticks (m', Found) b v m go h = h m'
  copied_or_pushed-ticks (m', Absent) b None m go h = tt
  copied_or_pushed-ticks (m', Absent) b (Some v) m go h = pushed-ticks b v m go h

  read_as-ticks : (r : Reading) (p : Place) (f : Frame) (d : Data) (go : Mem → Move) → Begins xs (ticks_of d) → ((m : Mem) → MoveBegins ticks_of xs (go m)) → MoveBegins ticks_of xs (read_as r p f d go)
  read_as-ticks (gives c) p f d go h k =
      cond-ticks (can (op.copy f.block p) d.mem) (copied_or_pushed (copy d.mem f.block p) f.block (scalar_of c) d.mem go) Wrong
      (copied_or_pushed-ticks (copy d.mem f.block p) f.block (scalar_of c) d.mem go k) tt
  read_as-ticks (throws_kind kind) p f d go h k =
      cond-ticks (nat_eq kind.0 NOT_AN_ARRAY.0) Wrong (throws kind [] f d) tt (throws-ticks kind [] f d h)

  with_base-ticks : (base : BaseForm) (this : Bool) (form : PlaceForm) (k : ℕ) (f : Frame) (d : Data) (go : Base → Move) → Begins xs (ticks_of d) → ((b : Base) → MoveBegins ticks_of xs (go b)) → MoveBegins ticks_of xs (with_base base this form k f d go)
  with_base-ticks (Variable name) this form k f d go h l = l (variable f.block name.0)
  with_base-ticks Standing this form k f d go h l = l (temporary f.block (k + evaluated_count form.steps))
  with_base-ticks This false form k f d go h l = throws-ticks NO_THIS [] f d h
  with_base-ticks This true form k f d go h l = l (temporary f.block (temps_count d.mem f.block - 1))

  with_steps-ticks : (s : Steps) (f : Frame) (d : Data) (go : List Step → Move) → Begins xs (ticks_of d) → ((path : List Step) → MoveBegins ticks_of xs (go path)) → MoveBegins ticks_of xs (with_steps s f d go)
  with_steps-ticks (steps path) f d go h l = l path
  with_steps-ticks (refused c) f d go h l = throws_about-ticks TYPE_MISMATCH (type_name c) f d h
  with_steps-ticks missing f d go h l = tt

  with_place-ticks : (form : PlaceForm) (k : ℕ) (this : Bool) (f : Frame) (d : Data) (go : Place → Move) → Begins xs (ticks_of d) → ((p : Place) → MoveBegins ticks_of xs (go p)) → MoveBegins ticks_of xs (with_place form k this f d go)
  with_place-ticks form k this f d go h l =
      with_steps-ticks (steps_of form.steps d.mem f.block k) f d (λ path. with_base form.base this form k f d (λ base. go (record { base = base; path = path }))) h
      (λ path. with_base-ticks form.base this form k f d (λ base. go (record { base = base; path = path })) h (λ base. l (record { base = base; path = path })))

  settled_if-ticks : (is : List Item) (b : ℕ) (m : Mem) (go : Mem → Move) → ((m' : Mem) → MoveBegins ticks_of xs (go m')) → MoveBegins ticks_of xs (settled_if is b m go)
  settled_if-ticks [] b m go h = tt
  settled_if-ticks (value c ∷ is) b m go h = h m
  settled_if-ticks (link s ∷ is) b m go h = on-ticks (can (op.settle b) m) (settle m b) go h

  tested-ticks : (c : Option Content) (test : Content → Bool) (b : ℕ) (m : Mem) (go : Mem → Move) → ((m' : Mem) → MoveBegins ticks_of xs (go m')) → MoveBegins ticks_of xs (tested c test b m go)
  tested-ticks None test b m go h = tt
  tested-ticks (Some c) test b m go h = pushed-ticks b (scalar.Bool (test c)) m go h

  effect_stack-ticks : (a : StackAction) (f : Frame) (d : Data) → Begins xs (ticks_of d) → MoveBegins ticks_of xs (effect_stack a f d)
  effect_stack-ticks (stack.Push v) f d h = pushed-ticks f.block v d.mem (next_with d) (next_with-ticks d h)
  effect_stack-ticks stack.PushArray f d h = on-ticks (can (op.push_array f.block) d.mem) (push_array d.mem f.block) (next_with d) (next_with-ticks d h)
  effect_stack-ticks stack.Drop f d h = drops-ticks f.block 1 d.mem (next_with d) (next_with-ticks d h)
  effect_stack-ticks stack.Swap f d h = turned-ticks f.block 2 d.mem (next_with d) (next_with-ticks d h)
  effect_stack-ticks stack.Duplicate f d h = on-ticks (can (op.copy f.block (temp f.block 0)) d.mem) (copy d.mem f.block (temp f.block 0)).0 (next_with d) (next_with-ticks d h)
  effect_stack-ticks stack.Settle f d h = settled_if-ticks (scope_of d.mem f.block).temps f.block d.mem (next_with d) (next_with-ticks d h)
  effect_stack-ticks stack.TestTruth f d h = tested-ticks (operand d.mem f.block 0) truth_of f.block d.mem (next_with d) (next_with-ticks d h)
  effect_stack-ticks stack.TestNotNull f d h = tested-ticks (operand d.mem f.block 0) (λ c. not (is_null c)) f.block d.mem (next_with d) (next_with-ticks d h)

  effect_place-ticks : (a : PlaceAction) (this : Bool) (f : Frame) (d : Data) → Begins xs (ticks_of d) → MoveBegins ticks_of xs (effect_place a this f d)
  effect_place-ticks (places.Read form) this f d h =
      with_place-ticks form 0 this f d (λ p. reads loud p f d (λ m. sink f.block (size form) m (next_with d))) h
      (λ p. read_as-ticks (reading loud d.mem p) p f d (λ m. sink f.block (size form) m (next_with d)) h
      (λ m. sink-ticks f.block (size form) m (next_with d) (next_with-ticks d h)))
  effect_place-ticks (places.Assign form) this f d h =
      with_place-ticks form 1 this f d _ h
      (λ _. on-ticks (can (op.copy f.block (temp f.block 0)) d.mem) (copy d.mem f.block (temp f.block 0)).0
      (λ m. with_place form 2 this f (with_mem d m) (λ p. assigns p f (with_mem d m) (λ d'. sink f.block (size form) d'.mem (next_with d'))))
      (λ m. with_place-ticks form 2 this f (with_mem d m) (λ p. assigns p f (with_mem d m) (λ d'. sink f.block (size form) d'.mem (next_with d'))) h
      (λ p. assigns-ticks p f (with_mem d m) (λ d'. sink f.block (size form) d'.mem (next_with d')) h
      (λ d' h'. sink-ticks f.block (size form) d'.mem (next_with d') (next_with-ticks d' h')))))

  taken_over-ticks : (k : ℕ) (ks : List Key) (f : Frame) (d : Data) (go : Data → Move) → Begins xs (ticks_of d) → ((d' : Data) → Begins xs (ticks_of d') → MoveBegins ticks_of xs (go d')) → MoveBegins ticks_of xs (taken_over k ks f d go)
  taken_over-ticks k [] f d go h l = l d h
  taken_over-ticks k (x ∷ ks) f d go h l =
      on-ticks (can (op.copy f.block (element f.block k x)) d.mem) (copy d.mem f.block (element f.block k x)).0
      (λ m. assigns (element f.block 1 x) f (with_mem d m) (λ d'. taken_over k ks f d' go))
      (λ m. assigns-ticks (element f.block 1 x) f (with_mem d m) (λ d'. taken_over k ks f d' go) h (λ d' h'. taken_over-ticks k ks f d' go h' l))

  united-ticks : (x y : Listing ℕ) (f : Frame) (d : Data) → Begins xs (ticks_of d) → MoveBegins ticks_of xs (united x y f d)
  united-ticks x y f d h =
      cond-ticks (nat_lt ENTRY_LIMIT (length (keys_of x.entries) + length (keys_lacking x y.entries))) (fault ArrayLimit f d) _ (fault-ticks ArrayLimit f d h)
      (on-ticks (can (op.push_array f.block) d.mem) (push_array d.mem f.block)
      (λ m. taken_over 2 (keys_of x.entries) f (with_mem d m) (λ d'. taken_over 1 (keys_lacking x y.entries) f d' (λ d''. sink f.block 2 d''.mem (next_with d''))))
      (λ m. taken_over-ticks 2 (keys_of x.entries) f (with_mem d m) (λ d'. taken_over 1 (keys_lacking x y.entries) f d' (λ d''. sink f.block 2 d''.mem (next_with d''))) h
      (λ d' h'. taken_over-ticks 1 (keys_lacking x y.entries) f d' (λ d''. sink f.block 2 d''.mem (next_with d'')) h'
      (λ d'' h''. sink-ticks f.block 2 d''.mem (next_with d'') (next_with-ticks d'' h'')))))

  finish_two-ticks : (c : Computed) (f : Frame) (d : Data) → Begins xs (ticks_of d) → MoveBegins ticks_of xs (finish_two c f d)
  finish_two-ticks None f d h = tt
  finish_two-ticks (Some (Ok v)) f d h = replaced-ticks f.block 2 v d.mem (next_with d) (next_with-ticks d h)
  finish_two-ticks (Some (Err (Ends x))) f d h = fault-ticks x f d h
  finish_two-ticks (Some (Err (Throws kind))) f d h =
      turned-ticks f.block 2 d.mem (λ m. drops f.block 2 m (λ m'. throws kind [] f (with_mem d m')))
      (λ m. drops-ticks f.block 2 m (λ m'. throws kind [] f (with_mem d m')) (λ m'. throws-ticks kind [] f (with_mem d m') h))
  finish_two-ticks (Some (Err NoMemory)) f d h = tt

  united_or-ticks : (x y : Option (Listing ℕ)) (op : Op) (v w : Content) (f : Frame) (d : Data) → Begins xs (ticks_of d) → MoveBegins ticks_of xs (united_or x y op v w f d)
  united_or-ticks (Some x) (Some y) op v w f d h = united-ticks x y f d h
  united_or-ticks (Some x) None op v w f d h = finish_two-ticks (operated (scalar_of v) (scalar_of w) op v w) f d h
  united_or-ticks None y op v w f d h = finish_two-ticks (operated (scalar_of v) (scalar_of w) op v w) f d h

  finish_one-ticks : (c : Computed) (f : Frame) (d : Data) → Begins xs (ticks_of d) → MoveBegins ticks_of xs (finish_one c f d)
  finish_one-ticks None f d h = tt
  finish_one-ticks (Some (Ok v)) f d h =
      drops-ticks f.block 1 d.mem (λ m. pushed f.block v m (next_with d))
      (λ m. pushed-ticks f.block v m (next_with d) (next_with-ticks d h))
  finish_one-ticks (Some (Err e)) f d h = stopped-ticks e f d h

  with_operand-ticks : (c : Option Content) (go : Content → Move) → ((x : Content) → MoveBegins ticks_of xs (go x)) → MoveBegins ticks_of xs (with_operand c go)
  with_operand-ticks None go h = tt
  with_operand-ticks (Some c) go h = h c

  with_two-ticks : (b c : Option Content) (go : Content → Content → Move) → ((x y : Content) → MoveBegins ticks_of xs (go x y)) → MoveBegins ticks_of xs (with_two b c go)
  with_two-ticks None c go h = tt
  with_two-ticks (Some x) None go h = tt
  with_two-ticks (Some x) (Some y) go h = h x y

  join_as-ticks : (r : Result Scalar Stopped) (k : ℕ) (f : Frame) (d : Data) → Begins xs (ticks_of d) → MoveBegins ticks_of xs (join_as r k f d)
  join_as-ticks (Ok v) k f d h =
      drops-ticks f.block k d.mem (λ m. pushed f.block v m (next_with d))
      (λ m. pushed-ticks f.block v m (next_with d) (next_with-ticks d h))
  join_as-ticks (Err e) k f d h = stopped-ticks e f d h

  join_if-ticks : (t : Option (List ℕ)) (k : ℕ) (f : Frame) (d : Data) → Begins xs (ticks_of d) → MoveBegins ticks_of xs (join_if t k f d)
  join_if-ticks None k f d h = tt
  join_if-ticks (Some t) k f d h = join_as-ticks (joined t) k f d h

  -- an action on the one operand
  one-ticks : (c : Content → Computed) (f : Frame) (d : Data) → Begins xs (ticks_of d) → MoveBegins ticks_of xs (with_operand (below 0 f d) (λ x. finish_one (c x) f d))
  one-ticks c f d h = with_operand-ticks (below 0 f d) (λ x. finish_one (c x) f d) (λ x. finish_one-ticks (c x) f d h)

  effect_operator-ticks : (a : OperatorAction) (f : Frame) (d : Data) → Begins xs (ticks_of d) → MoveBegins ticks_of xs (effect_operator a f d)
  effect_operator-ticks (operators.Operate op) f d h =
      with_two-ticks (below 1 f d) (below 0 f d) (λ x y. operate_on op x y f d) (λ x y. united_or-ticks (elements_to_unite op x) (elements_to_unite op y) op x y f d h)
  effect_operator-ticks (operators.Compare relation) f d h =
      with_two-ticks (below 1 f d) (below 0 f d) (λ x y. finish_two (Some (compared_as relation (order_in d.mem x y))) f d)
      (λ x y. finish_two-ticks (Some (compared_as relation (order_in d.mem x y))) f d h)
  effect_operator-ticks (operators.Identical negated) f d h =
      with_two-ticks (below 1 f d) (below 0 f d) (λ x y. finish_two (Some (identical_as negated (same_in d.mem x y))) f d)
      (λ x y. finish_two-ticks (Some (identical_as negated (same_in d.mem x y))) f d h)
  effect_operator-ticks operators.TestCase f d h =
      with_two-ticks (below 1 f d) (below 0 f d) (λ x y. finish_one (Some (compared_as Equal (order_in d.mem x y))) f d)
      (λ x y. finish_one-ticks (Some (compared_as Equal (order_in d.mem x y))) f d h)
  effect_operator-ticks operators.ExclusiveOr f d h =
      with_two-ticks (below 1 f d) (below 0 f d) (λ x y. finish_two (Some (Ok (scalar.Bool (differ (truth_of x) (truth_of y))))) f d)
      (λ x y. finish_two-ticks (Some (Ok (scalar.Bool (differ (truth_of x) (truth_of y))))) f d h)
  effect_operator-ticks operators.ToBool f d h = one-ticks (λ x. Some (Ok (scalar.Bool (truth_of x)))) f d h
  effect_operator-ticks operators.Not f d h = one-ticks (λ x. Some (Ok (scalar.Bool (not (truth_of x))))) f d h
  effect_operator-ticks operators.ToInt f d h = one-ticks int_of_content f d h
  effect_operator-ticks operators.ToText f d h = one-ticks (λ x. as_text (text_of_content x)) f d h
  effect_operator-ticks (operators.Sign negative) f d h = one-ticks (λ x. Some (sign_of negative (number_of x))) f d h
  effect_operator-ticks operators.Complement f d h = one-ticks (λ x. Some (on_scalar complement_of UNSUPPORTED_OPERANDS (scalar_of x))) f d h
  effect_operator-ticks (operators.Count up) f d h = one-ticks (λ x. Some (on_scalar (counted_by up) NOT_COUNTABLE (scalar_of x))) f d h
  effect_operator-ticks (operators.Join k) f d h = join_if-ticks (texts_of d.mem f.block k) k f d h

  with_text-ticks : (t : Option (List ℕ)) (go : List ℕ → Move) → ((u : List ℕ) → MoveBegins ticks_of xs (go u)) → MoveBegins ticks_of xs (with_text t go)
  with_text-ticks None go h = tt
  with_text-ticks (Some t) go h = h t

  effect_output-ticks : (a : OutputAction) (f : Frame) (d : Data) → Begins xs (ticks_of d) → MoveBegins ticks_of xs (effect_output a f d)
  effect_output-ticks output.Echo f d h =
      with_text-ticks (text_if (operand d.mem f.block 0)) (λ t. drops f.block 1 d.mem (next_with (with_out d t)))
      (λ t. drops-ticks f.block 1 d.mem (next_with (with_out d t)) (next_with-ticks (with_out d t) h))
  effect_output-ticks (output.Write t) f d h = h
  effect_output-ticks output.Print f d h =
      with_text-ticks (text_if (operand d.mem f.block 0)) (λ t. drops f.block 1 d.mem (λ m. pushed f.block (scalar.Int (pos 1)) m (next_with (with_out d t))))
      (λ t. drops-ticks f.block 1 d.mem (λ m. pushed f.block (scalar.Int (pos 1)) m (next_with (with_out d t)))
      (λ m. pushed-ticks f.block (scalar.Int (pos 1)) m (next_with (with_out d t)) (next_with-ticks (with_out d t) h)))

  found_copy-ticks : (r : Mem × Read) (d : Data) → Begins xs (ticks_of d) → MoveBegins ticks_of xs (found_copy r d)
  found_copy-ticks (m, Found) d h = next_with-ticks d h m
  found_copy-ticks (m, Absent) d h = tt

  constant_pushed-ticks : (i : Option ℕ) (name : List ℕ) (statics : ℕ) (f : Frame) (d : Data) → Begins xs (ticks_of d) → MoveBegins ticks_of xs (constant_pushed i name statics f d)
  constant_pushed-ticks None name statics f d h = throws-ticks UNDEFINED_CONSTANT name f d h
  constant_pushed-ticks (Some i) name statics f d h =
      cond-ticks (can (op.copy f.block (static (statics + i))) d.mem) (found_copy (copy d.mem f.block (static (statics + i))) d) Wrong
      (found_copy-ticks (copy d.mem f.block (static (statics + i))) d h) tt

  effect_name-ticks : (a : NameAction) (statics : ℕ) (f : Frame) (d : Data) → Begins xs (ticks_of d) → MoveBegins ticks_of xs (effect_name a statics f d)
  effect_name-ticks (names.PushConstant name) statics f d h = constant_pushed-ticks (place_among name d.constants) name statics f d h

  effect_call-ticks : (a : CallAction) (typed : Bool) (f : Frame) (fs : List Frame) (d : Data) → Begins xs (ticks_of d) → MoveBegins ticks_of xs (effect_call a typed f fs d)
  effect_call-ticks calls.EndBody true f fs d h = tt
  effect_call-ticks calls.EndBody false f fs d h =
      pushed-ticks f.block scalar.Null d.mem (λ m. completes Return f fs (with_mem d m))
      (λ m. h)

  -- an action, where that holds of the ones that take ticks
  pub effect_in-ticks : (facts : Facts) (a : Action) (d : Data) (f : Frame) (fs : List Frame) → Begins xs (ticks_of d) → ((j : JumpAction) → MoveBegins ticks_of xs (effect_jump j f fs d))
      → MoveBegins ticks_of xs (effect_in facts a d f fs)
  effect_in-ticks facts (action.Stack a) d f fs h j = effect_stack-ticks a f d h
  effect_in-ticks facts (action.Place a) d f fs h j = effect_place-ticks a (this_if (fact_of facts f)) f d h
  effect_in-ticks facts (action.Operator a) d f fs h j = effect_operator-ticks a f d h
  effect_in-ticks facts (action.Output a) d f fs h j = effect_output-ticks a f d h
  effect_in-ticks facts (action.Name a) d f fs h j = effect_name-ticks a facts.statics f d h
  effect_in-ticks facts (action.Call a) d f fs h j = effect_call-ticks a (result_if (fact_of facts f)) f fs d h
  effect_in-ticks facts (action.Jump a) d f fs h j = j a

  cleared-ticks : (given : Option ℕ) (b k : ℕ) (m : Mem) (go : Mem → Move) → ((m' : Mem) → MoveBegins ticks_of xs (go m')) → MoveBegins ticks_of xs (cleared given b k m go)
  cleared-ticks None b k m go h = trim-ticks b k m go h
  cleared-ticks (Some given) b k m go h = sink-ticks b k m go h

  pub unserved_in-ticks : (facts : Facts) (d : Data) (f : Frame) (fs : List Frame) → Begins xs (ticks_of d) → MoveBegins ticks_of xs (unserved_in facts d f fs)
  unserved_in-ticks facts d f fs h =
      cleared-ticks f.given f.block (operand_count facts f d.mem - 1) d.mem (λ m. Next (with_newest (with_mem d m) (record f { way = EndingWay }) fs))
      (λ m. h)

  handed-ticks : (f g : Frame) (fs : List Frame) (d : Data) → Begins xs (ticks_of d) → MoveBegins ticks_of xs (handed f g fs d)
  handed-ticks f g fs d h =
      on-ticks (can (op.pass f.block g.block) d.mem) (pass d.mem f.block g.block)
      (λ m. on (can (op.leave f.block) m) (leave_block m f.block) (λ m'. Leave (with_newest (with_mem d m') (passed_to f.pending g) fs)))
      (λ m. on-ticks (can (op.leave f.block) m) (leave_block m f.block) (λ m'. Leave (with_newest (with_mem d m') (passed_to f.pending g) fs))
      (λ m'. h))

  value_fallen-ticks : (k : ℕ) (f : Frame) (d : Data) → Begins xs (ticks_of d) → MoveBegins ticks_of xs (value_fallen k f d)
  value_fallen-ticks (suc k) f d h = drops-ticks f.block 1 d.mem (next_with d) (next_with-ticks d h)
  value_fallen-ticks zero f d h = h

  ended-ticks : (f : Frame) (fs : List Frame) (d : Data) → Begins xs (ticks_of d) → MoveBegins ticks_of xs (ended f fs d)
  ended-ticks f [] d h = cond-ticks (is_untold f.pending) Wrong (value_fallen (temps_count d.mem f.block) f d) tt (value_fallen-ticks (temps_count d.mem f.block) f d h)
  ended-ticks f (g ∷ fs) d h = handed-ticks f g fs d h

  after_shed-ticks : (r : Mem × Bool) (this : Bool) (f : Frame) (fs : List Frame) (d : Data) → Begins xs (ticks_of d) → MoveBegins ticks_of xs (after_shed r this f fs d)
  after_shed-ticks (m, true) this f fs d h = next_with-ticks d h m
  after_shed-ticks (m, false) this f fs d h =
      cond-ticks (this && nat_eq (temps_count d.mem f.block) 2) (turned f.block 2 d.mem (λ m'. drops f.block 1 m' (next_with d))) (ended f fs d)
      (turned-ticks f.block 2 d.mem (λ m'. drops f.block 1 m' (next_with d)) (λ m'. drops-ticks f.block 1 m' (next_with d) (next_with-ticks d h)))
      (ended-ticks f fs d h)

  ending-ticks : (facts : Facts) (d : Data) (f : Frame) (fs : List Frame) → Begins xs (ticks_of d) → MoveBegins ticks_of xs (ending facts d f fs)
  ending-ticks facts d f fs h =
      cond-ticks (can (op.shed f.block) d.mem) (after_shed (shed d.mem f.block) (this_if (fact_of facts f)) f fs d) Wrong
      (after_shed-ticks (shed d.mem f.block) (this_if (fact_of facts f)) f fs d h) tt

  released-ticks : (r : Mem × Fallen) (d : Data) → Begins xs (ticks_of d) → MoveBegins ticks_of xs (released r d)
  released-ticks (m, Nothing) d h = next_with-ticks d h m
  released-ticks (m, Destroy o) d h = tt
  released-ticks (m, FrameOf b) d h = tt

  ticked-ticks : (left line : ℕ) (f : Frame) (fs : List Frame) (d : Data) → Begins xs (ticks_of d) → MoveBegins ticks_of xs (ticked left line f fs d)
  ticked-ticks zero line f fs d h = h
  ticked-ticks (suc n) line f fs d h = Begins_trans xs (ticks_of d) (zeros (d.taken + 1)) h (one_more d.taken)

  jump-ticks : (j : JumpAction) (f : Frame) (fs : List Frame) (d : Data) → Begins xs (ticks_of d) → MoveBegins ticks_of xs (effect_jump j f fs d)
  jump-ticks (Tick line) f fs d h = ticked-ticks d.left line f fs d h

  by_frame-ticks : (facts : Facts) (a : Action) (d : Data) (fs : List Frame) → Begins xs (ticks_of d) → MoveBegins ticks_of xs (by_frame fs (effect_in facts a d))
  by_frame-ticks facts a d [] h = tt
  by_frame-ticks facts a d (f ∷ fs) h = effect_in-ticks facts a d f fs h (λ j. jump-ticks j f fs d h)

  unserved-ticks : (facts : Facts) (d : Data) (fs : List Frame) → Begins xs (ticks_of d) → MoveBegins ticks_of xs (by_frame fs (unserved_in facts d))
  unserved-ticks facts d [] h = tt
  unserved-ticks facts d (f ∷ fs) h = unserved_in-ticks facts d f fs h

  abbrev PlanTakes : Plan → Type 0
  PlanTakes Proceed = Unit {0}
  PlanTakes (Complete why) = Unit {0}
  PlanTakes (Make move) = MoveBegins ticks_of xs move

  planned_by-ticks : (way : Way) (why : Completion) (facts : Facts) (d : Data) (f : Frame) (fs : List Frame) → Begins xs (ticks_of d) → PlanTakes (planned_by way why facts d f fs)
  planned_by-ticks Going Normal facts d f fs h = tt
  planned_by-ticks Going (Break k) facts d f fs h = tt
  planned_by-ticks Going (Continue k) facts d f fs h = tt
  planned_by-ticks Going Return facts d f fs h = tt
  planned_by-ticks Going Throw facts d f fs h = tt
  planned_by-ticks Going (Exit k) facts d f fs h = tt
  planned_by-ticks Landed why facts d f fs h = tt
  planned_by-ticks EndingWay why facts d f fs h = ending-ticks facts d f fs h

  planned_after-ticks : (is : List Item) (facts : Facts) (d : Data) (f : Frame) (fs : List Frame) → Begins xs (ticks_of d) → PlanTakes (planned_after is facts d f fs)
  planned_after-ticks [] facts d f fs h = planned_by-ticks f.way f.pending facts d f fs h
  planned_after-ticks (i ∷ is) facts d f fs h = cond-ticks (can (op.fall f.block) d.mem) (released (fall d.mem f.block) d) Wrong (released-ticks (fall d.mem f.block) d h) tt

  planned-ticks : (facts : Facts) (d : Data) (fs : List Frame) → Begins xs (ticks_of d) → PlanTakes (planned facts d fs)
  planned-ticks facts d [] h = tt
  planned-ticks facts d (f ∷ fs) h = planned_after-ticks (scope_of d.mem f.block).falling facts d f fs h

  makes-ticks : (p : Plan) (move : Move) → p ≡ Make move → PlanTakes p → MoveBegins ticks_of xs move
  makes-ticks p move e h = subst PlanTakes e h

  chosen-ticks : (b : Bool) (d : Data) → Begins xs (ticks_of d) → TruthBegins ticks_of xs (chosen b d)
  chosen-ticks true d h = h
  chosen-ticks false d h = h

  truth_by-ticks : (c : Option Content) (can : Bool) (f : Frame) (d : Data) → Begins xs (ticks_of d) → TruthBegins ticks_of xs (truth_by c can f d)
  truth_by-ticks None can f d h = tt
  truth_by-ticks (Some c) false f d h = tt
  truth_by-ticks (Some c) true f d h = chosen-ticks (truth_of c) (with_mem d (drop_top d.mem f.block)) h

  truth_in-ticks : (d : Data) (fs : List Frame) → Begins xs (ticks_of d) → TruthBegins ticks_of xs (truth_in d fs)
  truth_in-ticks d [] h = tt
  truth_in-ticks d (f ∷ fs) h = truth_by-ticks (operand d.mem f.block 0) (can (op.drop_top f.block) d.mem) f d h

pub only_ticks-lem : (facts : Facts) → OnlyWrites (rules facts) ticks_of
unfolding effect plan truth landed unserved
only_ticks-lem facts = record {
  effect = λ a d. by_frame-ticks (ticks_of d) facts a d d.frames (Begins_refl (ticks_of d));
  truth = λ d. truth_in-ticks (ticks_of d) d d.frames (Begins_refl (ticks_of d));
  landed = λ d. Begins_refl (ticks_of d);
  unserved = λ d. unserved-ticks (ticks_of d) facts d d.frames (Begins_refl (ticks_of d));
  makes = λ d move e. makes-ticks (ticks_of d) (planned facts d d.frames) move e (planned-ticks (ticks_of d) facts d d.frames (Begins_refl (ticks_of d)));
}
