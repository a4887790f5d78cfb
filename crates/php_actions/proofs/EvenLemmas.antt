-- Whatever relates the moves that two data lead to, where they differ in nothing but the ticks that are left.
use Rattle.std.proofs.Common.{◌≡◌, ℕ, zero, suc, ◌+◌, ◌-◌, Bool, true, false, List, [], ◌∷◌, ◌++◌, length, Option, Some, None, Result, Ok, Err, refl}
use Rattle.std.specs.Prelude.{nat_eq, nat_lt, not, ◌&&◌, cond, pos}
use Rattle.php_value.specs.declared.fault.Fault.{Fault}
use Rattle.php_value.specs.declared.fault.Fault.TheVariants.{ArrayLimit}
use Rattle.php_value.specs.declared.fault.Stopped.{Stopped}
use Rattle.php_value.specs.declared.fault.Stopped.TheVariants.{Fault as Ends, Throws, NoMemory}
use Rattle.php_value.specs.declared.key.Key.{Key}
use Rattle.php_value.specs.declared.op.Op.{Op}
use Rattle.php_value.specs.declared.scalar.Scalar.{Scalar}
use Rattle.php_value.specs.declared.scalar.Scalar.TheVariants as scalar
use Rattle.php_value.specs.declared.error_kind.ErrorKind.{ErrorKind}
use Rattle.php_value.specs.declared.error_kind.TheConstants.ErrorKind.{NOT_AN_ARRAY, NO_KEY_LEFT, NO_THIS, TYPE_MISMATCH, UNDEFINED_CONSTANT, UNSUPPORTED_OPERANDS, NOT_COUNTABLE}
use Rattle.php_value.specs.Operator.{complement_of, joined}
use Rattle.php_entries.specs.Listing.{Listing, ENTRY_LIMIT}
use Rattle.php_frames.specs.declared.completion.Completion.{Completion}
use Rattle.php_frames.specs.declared.completion.Completion.TheVariants.{Normal, Break, Continue, Return, Throw, Exit}
use Rattle.php_frames.specs.declared.frame.Way.{Way}
use Rattle.php_frames.specs.declared.frame.Way.TheVariants.{Going, Landed, Ending as EndingWay}
use Rattle.php_memdef.specs.declared.place.Base.{Base}
use Rattle.php_memdef.specs.declared.place.Step.{Step}
use Rattle.php_memdef.specs.declared.place.Place.{Place}
use Rattle.php_memdef.specs.declared.answer.Read.{Read}
use Rattle.php_memdef.specs.declared.answer.Read.TheVariants.{Found, Absent}
use Rattle.php_memdef.specs.declared.answer.Wrote.{Wrote}
use Rattle.php_memdef.specs.declared.answer.Wrote.TheVariants.{Done, NotArray, Full, Limit}
use Rattle.php_memdef.specs.declared.answer.Fallen.{Fallen}
use Rattle.php_memdef.specs.declared.answer.Fallen.TheVariants.{Nothing, Destroy, Frame as FrameOf}
use Rattle.php_memdef.specs.Contents.{Content, Item, value, link, Mem, scope_of}
use Rattle.php_memdef.specs.Temporaries.{push, push_array, copy, settle, turn, drop_top, pass, leave as leave_block}
use Rattle.php_memdef.specs.Writes.{assign, shed}
use Rattle.php_memdef.specs.Releases.{fall}
use Rattle.php_memdef.specs.Views.{temps_count, cost_of}
use Rattle.php_memdef.specs.Reading.{Reading, gives, throws as throws_kind, loud, reading}
use Rattle.php_machine.specs.Moves.{Next, Leave, End, Wrong, Proceed, Complete, Make}
use Rattle.php_actions.specs.declared.ending.Ending.{Ending}
use Rattle.php_actions.specs.declared.ending.Ending.TheVariants.{Done as DoneWith, Fatal, Uncaught}
use Rattle.php_actions.specs.declared.facts.Facts.{Facts}
use Rattle.php_actions.specs.declared.action.Action.{Action}
use Rattle.php_actions.specs.declared.action.Action.TheVariants as action
use Rattle.php_actions.specs.declared.stack.StackAction.{StackAction}
use Rattle.php_actions.specs.declared.stack.StackAction.TheVariants as stack
use Rattle.php_actions.specs.declared.places.PlaceAction.{PlaceAction}
use Rattle.php_actions.specs.declared.places.PlaceAction.TheVariants as places
use Rattle.php_actions.specs.declared.place_form.BaseForm.{BaseForm}
use Rattle.php_actions.specs.declared.place_form.BaseForm.TheVariants.{Variable, Standing, This}
use Rattle.php_actions.specs.declared.place_form.PlaceForm.{PlaceForm}
use Rattle.php_actions.specs.declared.operators.OperatorAction.{OperatorAction}
use Rattle.php_actions.specs.declared.operators.OperatorAction.TheVariants as operators
use Rattle.php_actions.specs.declared.output.OutputAction.{OutputAction}
use Rattle.php_actions.specs.declared.output.OutputAction.TheVariants as output
use Rattle.php_actions.specs.declared.names.NameAction.{NameAction}
use Rattle.php_actions.specs.declared.names.NameAction.TheVariants as names
use Rattle.php_actions.specs.declared.calls.CallAction.{CallAction}
use Rattle.php_actions.specs.declared.calls.CallAction.TheVariants as calls
use Rattle.php_actions.specs.declared.jumps.JumpAction.{JumpAction}
use Rattle.php_actions.specs.Data.{Frame, Data, Move, Plan, with_mem, with_left, with_newest, on, next_with}
use Rattle.php_actions.specs.Errors.{class_of, message_of}
use Rattle.php_actions.specs.Contents.{type_name, scalar_of, truth_of, text_of_content, number_of, is_null}
use Rattle.php_memdef.specs.Operations as op
use Rattle.php_memdef.specs.Deciders.{can}
use Rattle.php_actions.specs.Steps.{temp, operand, turned, drops, sink, trim, pushed, replaced, fault, throws, throws_about, stopped, blocking, throws_blocked, written, assigns, copied_or_pushed, read_as, reads}
use Rattle.php_actions.specs.PlaceForms.{size, Steps, steps, refused, missing, steps_of, evaluated_count, variable, temporary, with_base, with_steps, with_place}
use Rattle.php_actions.specs.Stack.{settled_if, tested, effect_stack}
use Rattle.php_actions.specs.Places.{effect_place}
use Rattle.php_actions.specs.Operators.{Computed, keys_of, keys_lacking, element, taken_over, united, finish_two, operated, united_or, elements_to_unite, operate_on, finish_one, int_of_content, as_text, sign_of, on_scalar, counted_by, differ, with_operand, with_two, texts_of, join_as, join_if, below, text_if, effect_operator}
use Rattle.php_compare.specs.Ordering.{order_in}
use Rattle.php_compare.specs.Identity.{same_in}
use Rattle.php_actions.specs.declared.relation.Relation.TheVariants.{Equal}
use Rattle.php_actions.specs.Comparisons.{compared_as, identical_as}
use Rattle.php_actions.specs.Output.{with_out, with_text, effect_output}
use Rattle.php_actions.specs.Names.{place_among, static, found_copy, constant_pushed, effect_name}
use Rattle.php_actions.specs.Calls.{completes, effect_call}
use Rattle.php_actions.specs.Jumps.{effect_jump}
use Rattle.php_actions.specs.Effect.{fact_of, this_if, result_if, effect_in}
use Rattle.php_actions.specs.Frames.{operand_count, cleared, unserved_in, passed_to, handed, is_untold, value_fallen, ended, after_shed, ending}
use Rattle.php_actions.specs.Plan.{released, planned_by, planned_after, planned}

-- plans that tell related moves
abbrev pub SamePlanBy : (Move → Move → Type 0) → Plan → Plan → Type 0
SamePlanBy R Proceed p = p ≡ Proceed
SamePlanBy R (Complete why) p = p ≡ Complete why
SamePlanBy R (Make move) p = (too : Move) × (p ≡ Make too) × R move too

-- R relates moves to data of which the second one has n ticks left; q is what is known of ticks and output
module _ (n : ℕ) (q : ℕ → List ℕ → Type 0) (R : Move → Move → Type 0)
    (wrong : R Wrong Wrong)
    (next : (d : Data) → q d.left d.out → R (Next d) (Next (with_left n d)))
    (leave : (d : Data) → q d.left d.out → R (Leave d) (Leave (with_left n d)))
    (finish : (e : Ending) (d : Data) → q d.left d.out → R (End e d) (End e (with_left n d)))
    (written_more : (l : ℕ) (o t : List ℕ) → q l o → q l (o ++ t)) where
  abbrev Q : Data → Type 0
  Q d = q d.left d.out

  on-R : (t : Bool) (m : Mem) (go too : Mem → Move) → ((m' : Mem) → R (go m') (too m')) → R (on t m go) (on t m too)
  on-R true m go too h = h m
  on-R false m go too h = wrong

  cond-R : (t : Bool) (a b c e : Move) → R a c → R b e → R (cond t a b) (cond t c e)
  cond-R true a b c e h k = h
  cond-R false a b c e h k = k

  next_with-R : (d : Data) → Q d → (m : Mem) → R (next_with d m) (next_with (with_left n d) m)
  next_with-R d h m = next (with_mem d m) h

  turned-R : (b k : ℕ) (m : Mem) (go too : Mem → Move) → ((m' : Mem) → R (go m') (too m')) → R (turned b k m go) (turned b k m too)
  turned-R b k m go too h = on-R (can (op.turn b k) m) (turn m b k) go too h

  drops-R : (b k : ℕ) (m : Mem) (go too : Mem → Move) → ((m' : Mem) → R (go m') (too m')) → R (drops b k m go) (drops b k m too)
  drops-R b zero m go too h = h m
  drops-R b (suc k) m go too h = on-R (can (op.drop_top b) m) (drop_top m b) (λ m'. drops b k m' go) (λ m'. drops b k m' too) (λ m'. drops-R b k m' go too h)

  sink-R : (b k : ℕ) (m : Mem) (go too : Mem → Move) → ((m' : Mem) → R (go m') (too m')) → R (sink b k m go) (sink b k m too)
  sink-R b zero m go too h = h m
  sink-R b (suc k) m go too h = turned-R b (suc (suc k)) m (λ m'. drops b (suc k) m' go) (λ m'. drops b (suc k) m' too) (λ m'. drops-R b (suc k) m' go too h)

  trim-R : (b k : ℕ) (m : Mem) (go too : Mem → Move) → ((m' : Mem) → R (go m') (too m')) → R (trim b k m go) (trim b k m too)
  trim-R b zero m go too h = h m
  trim-R b (suc k) m go too h =
      turned-R b (suc (suc k)) m (λ m'. turned b (suc k) m' (λ m''. drops b (suc k) m'' go)) (λ m'. turned b (suc k) m' (λ m''. drops b (suc k) m'' too))
      (λ m'. turned-R b (suc k) m' (λ m''. drops b (suc k) m'' go) (λ m''. drops b (suc k) m'' too) (λ m''. drops-R b (suc k) m'' go too h))

  pushed-R : (b : ℕ) (v : Scalar) (m : Mem) (go too : Mem → Move) → ((m' : Mem) → R (go m') (too m')) → R (pushed b v m go) (pushed b v m too)
  pushed-R b v m go too h = on-R (can (op.push b v) m) (push m b v) go too h

  replaced-R : (b k : ℕ) (v : Scalar) (m : Mem) (go too : Mem → Move) → ((m' : Mem) → R (go m') (too m')) → R (replaced b k v m go) (replaced b k v m too)
  replaced-R b k v m go too h =
      turned-R b k m (λ m'. drops b k m' (λ m''. pushed b v m'' go)) (λ m'. drops b k m' (λ m''. pushed b v m'' too))
      (λ m'. drops-R b k m' (λ m''. pushed b v m'' go) (λ m''. pushed b v m'' too) (λ m''. pushed-R b v m'' go too h))

  fault-R : (x : Fault) (f : Frame) (d : Data) → Q d → R (fault x f d) (fault x f (with_left n d))
  fault-R x f d h = finish (Fatal x f.line) d h

  throws-R : (kind : ErrorKind) (name : List ℕ) (f : Frame) (d : Data) → Q d → R (throws kind name f d) (throws kind name f (with_left n d))
  throws-R kind name f d h = finish (Uncaught (class_of kind) (message_of kind name) (pos f.line)) d h

  throws_about-R : (kind : ErrorKind) (name : Option (List ℕ)) (f : Frame) (d : Data) → Q d → R (throws_about kind name f d) (throws_about kind name f (with_left n d))
  throws_about-R kind None f d h = wrong
  throws_about-R kind (Some name) f d h = throws-R kind name f d h

  stopped-R : (s : Stopped) (f : Frame) (d : Data) → Q d → R (stopped s f d) (stopped s f (with_left n d))
  stopped-R (Ends x) f d h = fault-R x f d h
  stopped-R (Throws kind) f d h = throws-R kind [] f d h
  stopped-R NoMemory f d h = wrong

  throws_blocked-R : (c : Option Content) (f : Frame) (d : Data) → Q d → R (throws_blocked c f d) (throws_blocked c f (with_left n d))
  throws_blocked-R None f d h = wrong
  throws_blocked-R (Some c) f d h = throws_about-R NOT_AN_ARRAY (type_name c) f d h

  written-R : (r : Mem × Wrote) (p : Place) (f : Frame) (d : Data) (go too : Data → Move) → Q d → ((d' : Data) → Q d' → R (go d') (too (with_left n d'))) → R (written r p f d go) (written r p f (with_left n d) too)
  written-R (m, Done) p f d go too h k = k (record d { mem = m; writes = d.writes + cost_of d.mem p }) h
  written-R (m, NotArray) p f d go too h k = throws_blocked-R (blocking d.mem p) f d h
  written-R (m, Full) p f d go too h k = throws-R NO_KEY_LEFT [] f d h
  written-R (m, Limit) p f d go too h k = fault-R ArrayLimit f d h

  assigns-R : (p : Place) (f : Frame) (d : Data) (go too : Data → Move) → Q d → ((d' : Data) → Q d' → R (go d') (too (with_left n d'))) → R (assigns p f d go) (assigns p f (with_left n d) too)
  assigns-R p f d go too h k =
      cond-R (can (op.assign f.block p) d.mem) (written (assign d.mem f.block p) p f d go) Wrong (written (assign d.mem f.block p) p f (with_left n d) too) Wrong
      (written-R (assign d.mem f.block p) p f d go too h k) wrong

  copied_or_pushed-R : (r : Mem × Read) (b : ℕ) (v : Option Scalar) (m : Mem) (go too : Mem → Move) → ((m' : Mem) → R (go m') (too m')) → R (copied_or_pushed r b v m go) (copied_or_pushed r b v m too)
  copied_or_pushed-R (m', Found) b v m go too h = h m'
  copied_or_pushed-R (m', Absent) b None m go too h = wrong
  copied_or_pushed-R (m', Absent) b (Some v) m go too h = pushed-R b v m go too h

  read_as-R : (r : Reading) (p : Place) (f : Frame) (d : Data) (go too : Mem → Move) → Q d → ((m : Mem) → R (go m) (too m)) → R (read_as r p f d go) (read_as r p f (with_left n d) too)
  read_as-R (gives c) p f d go too h k =
      cond-R (can (op.copy f.block p) d.mem) (copied_or_pushed (copy d.mem f.block p) f.block (scalar_of c) d.mem go) Wrong (copied_or_pushed (copy d.mem f.block p) f.block (scalar_of c) d.mem too) Wrong
      (copied_or_pushed-R (copy d.mem f.block p) f.block (scalar_of c) d.mem go too k) wrong
  read_as-R (throws_kind kind) p f d go too h k =
      cond-R (nat_eq kind.0 NOT_AN_ARRAY.0) Wrong (throws kind [] f d) Wrong (throws kind [] f (with_left n d)) wrong (throws-R kind [] f d h)

  with_base-R : (base : BaseForm) (this : Bool) (form : PlaceForm) (k : ℕ) (f : Frame) (d : Data) (go too : Base → Move) → Q d → ((b : Base) → R (go b) (too b)) → R (with_base base this form k f d go) (with_base base this form k f (with_left n d) too)
  with_base-R (Variable name) this form k f d go too h l = l (variable f.block name.0)
  with_base-R Standing this form k f d go too h l = l (temporary f.block (k + evaluated_count form.steps))
  with_base-R This false form k f d go too h l = throws-R NO_THIS [] f d h
  with_base-R This true form k f d go too h l = l (temporary f.block (temps_count d.mem f.block - 1))

  with_steps-R : (s : Steps) (f : Frame) (d : Data) (go too : List Step → Move) → Q d → ((path : List Step) → R (go path) (too path)) → R (with_steps s f d go) (with_steps s f (with_left n d) too)
  with_steps-R (steps path) f d go too h l = l path
  with_steps-R (refused c) f d go too h l = throws_about-R TYPE_MISMATCH (type_name c) f d h
  with_steps-R missing f d go too h l = wrong

  with_place-R : (form : PlaceForm) (k : ℕ) (this : Bool) (f : Frame) (d : Data) (go too : Place → Move) → Q d → ((p : Place) → R (go p) (too p)) → R (with_place form k this f d go) (with_place form k this f (with_left n d) too)
  with_place-R form k this f d go too h l =
      with_steps-R (steps_of form.steps d.mem f.block k) f d (λ path. with_base form.base this form k f d (λ base. go (record { base = base; path = path }))) (λ path. with_base form.base this form k f (with_left n d) (λ base. too (record { base = base; path = path }))) h
      (λ path. with_base-R form.base this form k f d (λ base. go (record { base = base; path = path })) (λ base. too (record { base = base; path = path })) h (λ base. l (record { base = base; path = path })))

  settled_if-R : (is : List Item) (b : ℕ) (m : Mem) (go too : Mem → Move) → ((m' : Mem) → R (go m') (too m')) → R (settled_if is b m go) (settled_if is b m too)
  settled_if-R [] b m go too h = wrong
  settled_if-R (value c ∷ is) b m go too h = h m
  settled_if-R (link s ∷ is) b m go too h = on-R (can (op.settle b) m) (settle m b) go too h

  tested-R : (c : Option Content) (test : Content → Bool) (b : ℕ) (m : Mem) (go too : Mem → Move) → ((m' : Mem) → R (go m') (too m')) → R (tested c test b m go) (tested c test b m too)
  tested-R None test b m go too h = wrong
  tested-R (Some c) test b m go too h = pushed-R b (scalar.Bool (test c)) m go too h

  effect_stack-R : (a : StackAction) (f : Frame) (d : Data) → Q d → R (effect_stack a f d) (effect_stack a f (with_left n d))
  effect_stack-R (stack.Push v) f d h = pushed-R f.block v d.mem (next_with d) (next_with (with_left n d)) (next_with-R d h)
  effect_stack-R stack.PushArray f d h = on-R (can (op.push_array f.block) d.mem) (push_array d.mem f.block) (next_with d) (next_with (with_left n d)) (next_with-R d h)
  effect_stack-R stack.Drop f d h = drops-R f.block 1 d.mem (next_with d) (next_with (with_left n d)) (next_with-R d h)
  effect_stack-R stack.Swap f d h = turned-R f.block 2 d.mem (next_with d) (next_with (with_left n d)) (next_with-R d h)
  effect_stack-R stack.Duplicate f d h = on-R (can (op.copy f.block (temp f.block 0)) d.mem) (copy d.mem f.block (temp f.block 0)).0 (next_with d) (next_with (with_left n d)) (next_with-R d h)
  effect_stack-R stack.Settle f d h = settled_if-R (scope_of d.mem f.block).temps f.block d.mem (next_with d) (next_with (with_left n d)) (next_with-R d h)
  effect_stack-R stack.TestTruth f d h = tested-R (operand d.mem f.block 0) truth_of f.block d.mem (next_with d) (next_with (with_left n d)) (next_with-R d h)
  effect_stack-R stack.TestNotNull f d h = tested-R (operand d.mem f.block 0) (λ c. not (is_null c)) f.block d.mem (next_with d) (next_with (with_left n d)) (next_with-R d h)

  effect_place-R : (a : PlaceAction) (this : Bool) (f : Frame) (d : Data) → Q d → R (effect_place a this f d) (effect_place a this f (with_left n d))
  effect_place-R (places.Read form) this f d h =
      with_place-R form 0 this f d (λ p. reads loud p f d (λ m. sink f.block (size form) m (next_with d))) (λ p. reads loud p f (with_left n d) (λ m. sink f.block (size form) m (next_with (with_left n d)))) h
      (λ p. read_as-R (reading loud d.mem p) p f d (λ m. sink f.block (size form) m (next_with d)) (λ m. sink f.block (size form) m (next_with (with_left n d))) h
      (λ m. sink-R f.block (size form) m (next_with d) (next_with (with_left n d)) (next_with-R d h)))
  effect_place-R (places.Assign form) this f d h =
      with_place-R form 1 this f d _ _ h
      (λ _. on-R (can (op.copy f.block (temp f.block 0)) d.mem) (copy d.mem f.block (temp f.block 0)).0
      (λ m. with_place form 2 this f (with_mem d m) (λ p. assigns p f (with_mem d m) (λ d'. sink f.block (size form) d'.mem (next_with d'))))
      (λ m. with_place form 2 this f (with_left n (with_mem d m)) (λ p. assigns p f (with_left n (with_mem d m)) (λ d'. sink f.block (size form) d'.mem (next_with d'))))
      (λ m. with_place-R form 2 this f (with_mem d m) (λ p. assigns p f (with_mem d m) (λ d'. sink f.block (size form) d'.mem (next_with d'))) (λ p. assigns p f (with_left n (with_mem d m)) (λ d'. sink f.block (size form) d'.mem (next_with d'))) h
      (λ p. assigns-R p f (with_mem d m) (λ d'. sink f.block (size form) d'.mem (next_with d')) (λ d'. sink f.block (size form) d'.mem (next_with d')) h
      (λ d' h'. sink-R f.block (size form) d'.mem (next_with d') (next_with (with_left n d')) (next_with-R d' h')))))

  taken_over-R : (k : ℕ) (ks : List Key) (f : Frame) (d : Data) (go too : Data → Move) → Q d → ((d' : Data) → Q d' → R (go d') (too (with_left n d'))) → R (taken_over k ks f d go) (taken_over k ks f (with_left n d) too)
  taken_over-R k [] f d go too h l = l d h
  taken_over-R k (x ∷ ks) f d go too h l =
      on-R (can (op.copy f.block (element f.block k x)) d.mem) (copy d.mem f.block (element f.block k x)).0
      (λ m. assigns (element f.block 1 x) f (with_mem d m) (λ d'. taken_over k ks f d' go)) (λ m. assigns (element f.block 1 x) f (with_left n (with_mem d m)) (λ d'. taken_over k ks f d' too))
      (λ m. assigns-R (element f.block 1 x) f (with_mem d m) (λ d'. taken_over k ks f d' go) (λ d'. taken_over k ks f d' too) h (λ d' h'. taken_over-R k ks f d' go too h' l))

  united-R : (x y : Listing ℕ) (f : Frame) (d : Data) → Q d → R (united x y f d) (united x y f (with_left n d))
  united-R x y f d h =
      cond-R (nat_lt ENTRY_LIMIT (length (keys_of x.entries) + length (keys_lacking x y.entries))) (fault ArrayLimit f d) _ (fault ArrayLimit f (with_left n d)) _ (fault-R ArrayLimit f d h)
      (on-R (can (op.push_array f.block) d.mem) (push_array d.mem f.block)
      (λ m. taken_over 2 (keys_of x.entries) f (with_mem d m) (λ d'. taken_over 1 (keys_lacking x y.entries) f d' (λ d''. sink f.block 2 d''.mem (next_with d''))))
      (λ m. taken_over 2 (keys_of x.entries) f (with_left n (with_mem d m)) (λ d'. taken_over 1 (keys_lacking x y.entries) f d' (λ d''. sink f.block 2 d''.mem (next_with d''))))
      (λ m. taken_over-R 2 (keys_of x.entries) f (with_mem d m) (λ d'. taken_over 1 (keys_lacking x y.entries) f d' (λ d''. sink f.block 2 d''.mem (next_with d''))) (λ d'. taken_over 1 (keys_lacking x y.entries) f d' (λ d''. sink f.block 2 d''.mem (next_with d''))) h
      (λ d' h'. taken_over-R 1 (keys_lacking x y.entries) f d' (λ d''. sink f.block 2 d''.mem (next_with d'')) (λ d''. sink f.block 2 d''.mem (next_with d'')) h'
      (λ d'' h''. sink-R f.block 2 d''.mem (next_with d'') (next_with (with_left n d'')) (next_with-R d'' h'')))))

  finish_two-R : (c : Computed) (f : Frame) (d : Data) → Q d → R (finish_two c f d) (finish_two c f (with_left n d))
  finish_two-R None f d h = wrong
  finish_two-R (Some (Ok v)) f d h = replaced-R f.block 2 v d.mem (next_with d) (next_with (with_left n d)) (next_with-R d h)
  finish_two-R (Some (Err (Ends x))) f d h = fault-R x f d h
  finish_two-R (Some (Err (Throws kind))) f d h =
      turned-R f.block 2 d.mem (λ m. drops f.block 2 m (λ m'. throws kind [] f (with_mem d m'))) (λ m. drops f.block 2 m (λ m'. throws kind [] f (with_left n (with_mem d m'))))
      (λ m. drops-R f.block 2 m (λ m'. throws kind [] f (with_mem d m')) (λ m'. throws kind [] f (with_left n (with_mem d m'))) (λ m'. throws-R kind [] f (with_mem d m') h))
  finish_two-R (Some (Err NoMemory)) f d h = wrong

  united_or-R : (x y : Option (Listing ℕ)) (op : Op) (v w : Content) (f : Frame) (d : Data) → Q d → R (united_or x y op v w f d) (united_or x y op v w f (with_left n d))
  united_or-R (Some x) (Some y) op v w f d h = united-R x y f d h
  united_or-R (Some x) None op v w f d h = finish_two-R (operated (scalar_of v) (scalar_of w) op v w) f d h
  united_or-R None y op v w f d h = finish_two-R (operated (scalar_of v) (scalar_of w) op v w) f d h

  finish_one-R : (c : Computed) (f : Frame) (d : Data) → Q d → R (finish_one c f d) (finish_one c f (with_left n d))
  finish_one-R None f d h = wrong
  finish_one-R (Some (Ok v)) f d h =
      drops-R f.block 1 d.mem (λ m. pushed f.block v m (next_with d)) (λ m. pushed f.block v m (next_with (with_left n d)))
      (λ m. pushed-R f.block v m (next_with d) (next_with (with_left n d)) (next_with-R d h))
  finish_one-R (Some (Err e)) f d h = stopped-R e f d h

  with_operand-R : (c : Option Content) (go too : Content → Move) → ((x : Content) → R (go x) (too x)) → R (with_operand c go) (with_operand c too)
  with_operand-R None go too h = wrong
  with_operand-R (Some c) go too h = h c

  with_two-R : (b c : Option Content) (go too : Content → Content → Move) → ((x y : Content) → R (go x y) (too x y)) → R (with_two b c go) (with_two b c too)
  with_two-R None c go too h = wrong
  with_two-R (Some x) None go too h = wrong
  with_two-R (Some x) (Some y) go too h = h x y

  join_as-R : (r : Result Scalar Stopped) (k : ℕ) (f : Frame) (d : Data) → Q d → R (join_as r k f d) (join_as r k f (with_left n d))
  join_as-R (Ok v) k f d h =
      drops-R f.block k d.mem (λ m. pushed f.block v m (next_with d)) (λ m. pushed f.block v m (next_with (with_left n d)))
      (λ m. pushed-R f.block v m (next_with d) (next_with (with_left n d)) (next_with-R d h))
  join_as-R (Err e) k f d h = stopped-R e f d h

  join_if-R : (t : Option (List ℕ)) (k : ℕ) (f : Frame) (d : Data) → Q d → R (join_if t k f d) (join_if t k f (with_left n d))
  join_if-R None k f d h = wrong
  join_if-R (Some t) k f d h = join_as-R (joined t) k f d h

  -- an action on the one operand
  one-R : (c : Content → Computed) (f : Frame) (d : Data) → Q d → R (with_operand (below 0 f d) (λ x. finish_one (c x) f d)) (with_operand (below 0 f d) (λ x. finish_one (c x) f (with_left n d)))
  one-R c f d h = with_operand-R (below 0 f d) (λ x. finish_one (c x) f d) (λ x. finish_one (c x) f (with_left n d)) (λ x. finish_one-R (c x) f d h)

  effect_operator-R : (a : OperatorAction) (f : Frame) (d : Data) → Q d → R (effect_operator a f d) (effect_operator a f (with_left n d))
  effect_operator-R (operators.Operate op) f d h =
      with_two-R (below 1 f d) (below 0 f d) (λ x y. operate_on op x y f d) (λ x y. operate_on op x y f (with_left n d)) (λ x y. united_or-R (elements_to_unite op x) (elements_to_unite op y) op x y f d h)
  effect_operator-R (operators.Compare relation) f d h =
      with_two-R (below 1 f d) (below 0 f d) (λ x y. finish_two (Some (compared_as relation (order_in d.mem x y))) f d) (λ x y. finish_two (Some (compared_as relation (order_in d.mem x y))) f (with_left n d))
      (λ x y. finish_two-R (Some (compared_as relation (order_in d.mem x y))) f d h)
  effect_operator-R (operators.Identical negated) f d h =
      with_two-R (below 1 f d) (below 0 f d) (λ x y. finish_two (Some (identical_as negated (same_in d.mem x y))) f d) (λ x y. finish_two (Some (identical_as negated (same_in d.mem x y))) f (with_left n d))
      (λ x y. finish_two-R (Some (identical_as negated (same_in d.mem x y))) f d h)
  effect_operator-R operators.TestCase f d h =
      with_two-R (below 1 f d) (below 0 f d) (λ x y. finish_one (Some (compared_as Equal (order_in d.mem x y))) f d) (λ x y. finish_one (Some (compared_as Equal (order_in d.mem x y))) f (with_left n d))
      (λ x y. finish_one-R (Some (compared_as Equal (order_in d.mem x y))) f d h)
  effect_operator-R operators.ExclusiveOr f d h =
      with_two-R (below 1 f d) (below 0 f d) (λ x y. finish_two (Some (Ok (scalar.Bool (differ (truth_of x) (truth_of y))))) f d) (λ x y. finish_two (Some (Ok (scalar.Bool (differ (truth_of x) (truth_of y))))) f (with_left n d))
      (λ x y. finish_two-R (Some (Ok (scalar.Bool (differ (truth_of x) (truth_of y))))) f d h)
  effect_operator-R operators.ToBool f d h = one-R (λ x. Some (Ok (scalar.Bool (truth_of x)))) f d h
  effect_operator-R operators.Not f d h = one-R (λ x. Some (Ok (scalar.Bool (not (truth_of x))))) f d h
  effect_operator-R operators.ToInt f d h = one-R int_of_content f d h
  effect_operator-R operators.ToText f d h = one-R (λ x. as_text (text_of_content x)) f d h
  effect_operator-R (operators.Sign negative) f d h = one-R (λ x. Some (sign_of negative (number_of x))) f d h
  effect_operator-R operators.Complement f d h = one-R (λ x. Some (on_scalar complement_of UNSUPPORTED_OPERANDS (scalar_of x))) f d h
  effect_operator-R (operators.Count up) f d h = one-R (λ x. Some (on_scalar (counted_by up) NOT_COUNTABLE (scalar_of x))) f d h
  effect_operator-R (operators.Join k) f d h = join_if-R (texts_of d.mem f.block k) k f d h

  with_text-R : (t : Option (List ℕ)) (go too : List ℕ → Move) → ((u : List ℕ) → R (go u) (too u)) → R (with_text t go) (with_text t too)
  with_text-R None go too h = wrong
  with_text-R (Some t) go too h = h t

  effect_output-R : (a : OutputAction) (f : Frame) (d : Data) → Q d → R (effect_output a f d) (effect_output a f (with_left n d))
  effect_output-R output.Echo f d h =
      with_text-R (text_if (operand d.mem f.block 0)) (λ t. drops f.block 1 d.mem (next_with (with_out d t))) (λ t. drops f.block 1 d.mem (next_with (with_left n (with_out d t))))
      (λ t. drops-R f.block 1 d.mem (next_with (with_out d t)) (next_with (with_left n (with_out d t))) (next_with-R (with_out d t) (written_more d.left d.out t h)))
  effect_output-R (output.Write t) f d h = next (with_out d t) (written_more d.left d.out t h)
  effect_output-R output.Print f d h =
      with_text-R (text_if (operand d.mem f.block 0)) (λ t. drops f.block 1 d.mem (λ m. pushed f.block (scalar.Int (pos 1)) m (next_with (with_out d t)))) (λ t. drops f.block 1 d.mem (λ m. pushed f.block (scalar.Int (pos 1)) m (next_with (with_left n (with_out d t)))))
      (λ t. drops-R f.block 1 d.mem (λ m. pushed f.block (scalar.Int (pos 1)) m (next_with (with_out d t))) (λ m. pushed f.block (scalar.Int (pos 1)) m (next_with (with_left n (with_out d t))))
      (λ m. pushed-R f.block (scalar.Int (pos 1)) m (next_with (with_out d t)) (next_with (with_left n (with_out d t))) (next_with-R (with_out d t) (written_more d.left d.out t h))))

  found_copy-R : (r : Mem × Read) (d : Data) → Q d → R (found_copy r d) (found_copy r (with_left n d))
  found_copy-R (m, Found) d h = next_with-R d h m
  found_copy-R (m, Absent) d h = wrong

  constant_pushed-R : (i : Option ℕ) (name : List ℕ) (statics : ℕ) (f : Frame) (d : Data) → Q d → R (constant_pushed i name statics f d) (constant_pushed i name statics f (with_left n d))
  constant_pushed-R None name statics f d h = throws-R UNDEFINED_CONSTANT name f d h
  constant_pushed-R (Some i) name statics f d h =
      cond-R (can (op.copy f.block (static (statics + i))) d.mem) (found_copy (copy d.mem f.block (static (statics + i))) d) Wrong (found_copy (copy d.mem f.block (static (statics + i))) (with_left n d)) Wrong
      (found_copy-R (copy d.mem f.block (static (statics + i))) d h) wrong

  effect_name-R : (a : NameAction) (statics : ℕ) (f : Frame) (d : Data) → Q d → R (effect_name a statics f d) (effect_name a statics f (with_left n d))
  effect_name-R (names.PushConstant name) statics f d h = constant_pushed-R (place_among name d.constants) name statics f d h

  effect_call-R : (a : CallAction) (typed : Bool) (f : Frame) (fs : List Frame) (d : Data) → Q d → R (effect_call a typed f fs d) (effect_call a typed f fs (with_left n d))
  effect_call-R calls.EndBody true f fs d h = wrong
  effect_call-R calls.EndBody false f fs d h =
      pushed-R f.block scalar.Null d.mem (λ m. completes Return f fs (with_mem d m)) (λ m. completes Return f fs (with_left n (with_mem d m)))
      (λ m. next (with_newest (with_mem d m) (record f { pending = Return; way = Going }) fs) h)

  -- an action, where that holds of the ones that take ticks
  pub effect_in-R : (facts : Facts) (a : Action) (d : Data) (f : Frame) (fs : List Frame) → Q d → ((j : JumpAction) → R (effect_jump j f fs d) (effect_jump j f fs (with_left n d)))
      → R (effect_in facts a d f fs) (effect_in facts a (with_left n d) f fs)
  effect_in-R facts (action.Stack a) d f fs h j = effect_stack-R a f d h
  effect_in-R facts (action.Place a) d f fs h j = effect_place-R a (this_if (fact_of facts f)) f d h
  effect_in-R facts (action.Operator a) d f fs h j = effect_operator-R a f d h
  effect_in-R facts (action.Output a) d f fs h j = effect_output-R a f d h
  effect_in-R facts (action.Name a) d f fs h j = effect_name-R a facts.statics f d h
  effect_in-R facts (action.Call a) d f fs h j = effect_call-R a (result_if (fact_of facts f)) f fs d h
  effect_in-R facts (action.Jump a) d f fs h j = j a

  cleared-R : (given : Option ℕ) (b k : ℕ) (m : Mem) (go too : Mem → Move) → ((m' : Mem) → R (go m') (too m')) → R (cleared given b k m go) (cleared given b k m too)
  cleared-R None b k m go too h = trim-R b k m go too h
  cleared-R (Some given) b k m go too h = sink-R b k m go too h

  pub unserved_in-R : (facts : Facts) (d : Data) (f : Frame) (fs : List Frame) → Q d → R (unserved_in facts d f fs) (unserved_in facts (with_left n d) f fs)
  unserved_in-R facts d f fs h =
      cleared-R f.given f.block (operand_count facts f d.mem - 1) d.mem (λ m. Next (with_newest (with_mem d m) (record f { way = EndingWay }) fs)) (λ m. Next (with_left n (with_newest (with_mem d m) (record f { way = EndingWay }) fs)))
      (λ m. next (with_newest (with_mem d m) (record f { way = EndingWay }) fs) h)

  handed-R : (f g : Frame) (fs : List Frame) (d : Data) → Q d → R (handed f g fs d) (handed f g fs (with_left n d))
  handed-R f g fs d h =
      on-R (can (op.pass f.block g.block) d.mem) (pass d.mem f.block g.block)
      (λ m. on (can (op.leave f.block) m) (leave_block m f.block) (λ m'. Leave (with_newest (with_mem d m') (passed_to f.pending g) fs)))
      (λ m. on (can (op.leave f.block) m) (leave_block m f.block) (λ m'. Leave (with_left n (with_newest (with_mem d m') (passed_to f.pending g) fs))))
      (λ m. on-R (can (op.leave f.block) m) (leave_block m f.block) (λ m'. Leave (with_newest (with_mem d m') (passed_to f.pending g) fs)) (λ m'. Leave (with_left n (with_newest (with_mem d m') (passed_to f.pending g) fs)))
      (λ m'. leave (with_newest (with_mem d m') (passed_to f.pending g) fs) h))

  value_fallen-R : (k : ℕ) (f : Frame) (d : Data) → Q d → R (value_fallen k f d) (value_fallen k f (with_left n d))
  value_fallen-R (suc k) f d h = drops-R f.block 1 d.mem (next_with d) (next_with (with_left n d)) (next_with-R d h)
  value_fallen-R zero f d h = finish (DoneWith d.status) d h

  ended-R : (f : Frame) (fs : List Frame) (d : Data) → Q d → R (ended f fs d) (ended f fs (with_left n d))
  ended-R f [] d h = cond-R (is_untold f.pending) Wrong (value_fallen (temps_count d.mem f.block) f d) Wrong (value_fallen (temps_count d.mem f.block) f (with_left n d)) wrong (value_fallen-R (temps_count d.mem f.block) f d h)
  ended-R f (g ∷ fs) d h = handed-R f g fs d h

  after_shed-R : (r : Mem × Bool) (this : Bool) (f : Frame) (fs : List Frame) (d : Data) → Q d → R (after_shed r this f fs d) (after_shed r this f fs (with_left n d))
  after_shed-R (m, true) this f fs d h = next_with-R d h m
  after_shed-R (m, false) this f fs d h =
      cond-R (this && nat_eq (temps_count d.mem f.block) 2) (turned f.block 2 d.mem (λ m'. drops f.block 1 m' (next_with d))) (ended f fs d) (turned f.block 2 d.mem (λ m'. drops f.block 1 m' (next_with (with_left n d)))) (ended f fs (with_left n d))
      (turned-R f.block 2 d.mem (λ m'. drops f.block 1 m' (next_with d)) (λ m'. drops f.block 1 m' (next_with (with_left n d))) (λ m'. drops-R f.block 1 m' (next_with d) (next_with (with_left n d)) (next_with-R d h)))
      (ended-R f fs d h)

  ending-R : (facts : Facts) (d : Data) (f : Frame) (fs : List Frame) → Q d → R (ending facts d f fs) (ending facts (with_left n d) f fs)
  ending-R facts d f fs h =
      cond-R (can (op.shed f.block) d.mem) (after_shed (shed d.mem f.block) (this_if (fact_of facts f)) f fs d) Wrong (after_shed (shed d.mem f.block) (this_if (fact_of facts f)) f fs (with_left n d)) Wrong
      (after_shed-R (shed d.mem f.block) (this_if (fact_of facts f)) f fs d h) wrong

  released-R : (r : Mem × Fallen) (d : Data) → Q d → R (released r d) (released r (with_left n d))
  released-R (m, Nothing) d h = next_with-R d h m
  released-R (m, Destroy o) d h = wrong
  released-R (m, FrameOf b) d h = wrong

  planned_by-R : (way : Way) (why : Completion) (facts : Facts) (d : Data) (f : Frame) (fs : List Frame) → Q d → SamePlanBy R (planned_by way why facts d f fs) (planned_by way why facts (with_left n d) f fs)
  planned_by-R Going Normal facts d f fs h = refl
  planned_by-R Going (Break k) facts d f fs h = refl
  planned_by-R Going (Continue k) facts d f fs h = refl
  planned_by-R Going Return facts d f fs h = refl
  planned_by-R Going Throw facts d f fs h = refl
  planned_by-R Going (Exit k) facts d f fs h = refl
  planned_by-R Landed why facts d f fs h = refl
  planned_by-R EndingWay why facts d f fs h = (ending facts (with_left n d) f fs, refl, ending-R facts d f fs h)

  planned_after-R : (is : List Item) (facts : Facts) (d : Data) (f : Frame) (fs : List Frame) → Q d → SamePlanBy R (planned_after is facts d f fs) (planned_after is facts (with_left n d) f fs)
  planned_after-R [] facts d f fs h = planned_by-R f.way f.pending facts d f fs h
  planned_after-R (i ∷ is) facts d f fs h = (
    cond (can (op.fall f.block) d.mem) (released (fall d.mem f.block) (with_left n d)) Wrong,
    refl,
    cond-R (can (op.fall f.block) d.mem) (released (fall d.mem f.block) d) Wrong (released (fall d.mem f.block) (with_left n d)) Wrong (released-R (fall d.mem f.block) d h) wrong,
  )

  pub planned-R : (facts : Facts) (d : Data) (fs : List Frame) → Q d → SamePlanBy R (planned facts d fs) (planned facts (with_left n d) fs)
  planned-R facts d [] h = (Wrong, refl, wrong)
  planned-R facts d (f ∷ fs) h = planned_after-R (scope_of d.mem f.block).falling facts d f fs h
