-- Actions that compute a value.
use Rattle.std.proofs.Common.{◌≡◌, ◌≢◌, ℕ, Bool, true, false, List, [], ◌∷◌, Option, Some, None, Result, Ok, Err, refl, sym, ap, ◌∙◌, subst}
use Rattle.std.specs.Prelude.{is_some, not}
use Rattle.php_value.specs.declared.scalar.Scalar.TheVariants as scalar
use Rattle.php_value.specs.declared.error_kind.TheConstants.ErrorKind.{UNSUPPORTED_OPERANDS, NOT_COUNTABLE}
use Rattle.php_value.specs.Operator.{complement_of}
use Rattle.php_value.specs.declared.fault.Fault.{Fault}
use Rattle.php_value.specs.declared.fault.Stopped.{Stopped}
use Rattle.php_value.specs.declared.fault.Stopped.TheVariants.{Fault as Stops, Throws, NoMemory as Wants}
use Rattle.php_value.specs.declared.error_kind.ErrorKind.{ErrorKind}
use Rattle.php_value.specs.declared.op.Op.{Op}
use Rattle.php_value.specs.declared.op.Op.TheVariants.{Add, Sub, Mul, Pow, Div, Mod, Shl, Shr, And, Or, Xor, Concat}
use Rattle.php_value.specs.declared.scalar.Scalar.{Scalar}
use Rattle.php_entries.specs.Listing.{Listing}
use Rattle.php_memdef.specs.Contents.{Content, Mem}
use Rattle.php_memdef.specs.Places.{elements_of}
use Rattle.php_memdef.specs.Meanings.{SomeMeant, Does}
use Rattle.php_memdef.specs.Operations.{Operation, Can, effect}
use Rattle.php_memdef.specs.Operations as op
use Rattle.php_machine.specs.Moves.{End, Wrong}
use Rattle.php_actions.specs.Data.{Frame, Data, Move, with_mem, next_with}
use Rattle.php_actions.specs.Contents.{scalar_of, truth_of}
use Rattle.php_actions.specs.Steps.{operand, throws}
use Rattle.php_actions.specs.declared.operators.OperatorAction.{OperatorAction}
use Rattle.php_actions.specs.declared.operators.OperatorAction.TheVariants.{Operate, Compare, Identical, TestCase, ExclusiveOr, ToBool, Not, ToInt, ToText, Sign, Complement, Count, Join}
use Rattle.php_actions.specs.Operators.{joined_texts, first_stop, as_text, sign_of, on_scalar, counted_by, differ}
use Rattle.php_actions.specs.Operators.{Computed, mixed, operated, united_or, operate_on, finish_one, finish_two, with_operand, with_two, below, effect_operator}
use Rattle.php_vm_actions.specs.declared.did.Did.{Did}
use Rattle.php_vm_actions.specs.declared.did.Did.TheVariants.{Goes, Ends}
use Rattle.php_vm_actions.specs.declared.did.Cause.TheVariants.{Fault as FaultCause, Error}
use Rattle.php_vm_actions.specs.declared.operands.Operand.{Operand}
use Rattle.php_vm_actions.specs.declared.operands.Operand.TheVariants as operand_is
use Rattle.php_vm_actions.specs.Causes.{ending_of}
use Rattle.php_vm_actions.specs.Straight.{CanAll, all, drops_of, replace_of}
use Rattle.php_vm_actions.specs.Acting.{Ready, CanMove, Acts}
use Rattle.php_vm_actions.specs.Operands.{HasOperand, HasTwo, Sees, scalar_in, mixed_in, operated_in, unites, is_array, one_of, one_in, one_operand, is_one, Tells, IfTold, FinishedBy}
use Rattle.php_vm_actions.proofs.StraightLemmas.{behind_goes, kept_all, replaced_behind, replace_leaves_none, drops_leave_none}
use Rattle.php_vm_actions.proofs.ActLemmas.{can_straight, acts_straight, acts_wanting, acts_ending, acts_as, can_as}

-- ---- a result that was told

pub told_is : (told wanted : Result Scalar Stopped) (P : Result Scalar Stopped → Type 0) → told ≡ wanted → P told → P wanted
told_is told wanted P e h = subst P e h

pub can_second : (Old New : Mem → Type 0) (o u : Operation) (os : List Operation) → Does Old New (effect o) → SomeMeant Old (CanAll (o ∷ u ∷ os)) → SomeMeant New (Can u)
can_second Old New o u os does (m, h, k) = (effect o m, does m h, k.1.0)

module _ (Old New : Mem → Type 0) (f : Frame) where
  abbrev b : ℕ
  b = f.block

  -- one operand

  pub can_one_ok : (v : Scalar) → CanMove Old b (finish_one (Some (Ok v)) f) → SomeMeant Old (CanAll (op.drop_top b ∷ op.push b v ∷ []))
  can_one_ok v c = can_straight (op.drop_top b ∷ op.push b v ∷ []) next_with (λ d. refl) c

  pub one_ok : (v : Scalar) → Does Old New (all (op.drop_top b ∷ op.push b v ∷ [])) → Acts Old New b Goes (finish_one (Some (Ok v)) f)
  one_ok v does = acts_straight Old New (op.drop_top b ∷ op.push b v ∷ []) (tt, (tt, tt)) (λ d. refl) does

  -- two operands

  pub can_two_ok : (v : Scalar) → CanMove Old b (finish_two (Some (Ok v)) f) → SomeMeant Old (CanAll (replace_of b 2 v))
  can_two_ok v c = can_straight (replace_of b 2 v) next_with (λ d. replaced_behind b 2 v d.mem (next_with d)) c

  pub two_ok : (v : Scalar) → Does Old New (all (replace_of b 2 v)) → Acts Old New b Goes (finish_two (Some (Ok v)) f)
  two_ok v does = acts_straight Old New (replace_of b 2 v) (replace_leaves_none b 2 v) (λ d. replaced_behind b 2 v d.mem (next_with d)) does

  abbrev fallen : List Operation
  fallen = op.turn b 2 ∷ drops_of b 2

  pub can_two_throws : (kind : ErrorKind) → CanMove Old b (finish_two (Some (Err (Throws kind))) f) → SomeMeant Old (CanAll fallen)
  can_two_throws kind c = can_straight fallen (λ d m. throws kind [] f (with_mem d m)) (λ d. refl) c

  pub two_throws : (kind : ErrorKind) (name : List ℕ) (line : ℕ) → name ≡ [] → line ≡ f.line → Does Old New (all fallen) → Acts Old New b (Ends (Error kind name line)) (finish_two (Some (Err (Throws kind))) f)
  two_throws kind name line e l does = record {
    each = λ d r h.
        let t = behind_goes fallen d.mem (λ m. throws kind [] f (with_mem d m)) h in
        record {
          to = with_mem d (all fallen d.mem);
          is = t.1 ∙ (λ i. End (ending_of (Error kind (sym e i) (sym l i))) (with_mem d (all fallen d.mem)));
          follows = record { mem = does d.mem r.mem; kept = kept_all fallen d.mem (tt, drops_leave_none b 2) t.0; others = refl };
        };
  }

pub one_fault : (Old : Mem → Type 0) (f : Frame) (x : Fault) (line : ℕ) → line ≡ f.line → Acts Old Old f.block (Ends (FaultCause x line)) (finish_one (Some (Err (Stops x))) f)
one_fault Old f x line l = acts_ending (FaultCause x line) (λ d r h i. End (ending_of (FaultCause x (sym l i))) d)

pub one_throws : (Old : Mem → Type 0) (f : Frame) (kind : ErrorKind) (name : List ℕ) (line : ℕ) → name ≡ [] → line ≡ f.line → Acts Old Old f.block (Ends (Error kind name line)) (finish_one (Some (Err (Throws kind))) f)
one_throws Old f kind name line e l = acts_ending (Error kind name line) (λ d r h i. End (ending_of (Error kind (sym e i) (sym l i))) d)

pub two_fault : (Old : Mem → Type 0) (f : Frame) (x : Fault) (line : ℕ) → line ≡ f.line → Acts Old Old f.block (Ends (FaultCause x line)) (finish_two (Some (Err (Stops x))) f)
two_fault Old f x line l = acts_ending (FaultCause x line) (λ d r h i. End (ending_of (FaultCause x (sym l i))) d)

-- ---- two operands that are there

two_there : (x y : Option Content) (go : Content → Content → Move) → with_two x y go ≢ Wrong → (v : Content) × ((w : Content) × ((x ≡ Some v) × ((y ≡ Some w) × (with_two x y go ≡ go v w))))
two_there None y go h = absurd (h refl)
two_there (Some v) None go h = absurd (h refl)
two_there (Some v) (Some w) go h = (v, (w, (refl, (refl, refl))))

module _ (Old New : Mem → Type 0) (f : Frame) (go : Data → Content → Content → Move) (finish : Result Scalar Stopped → Data → Move) where
  abbrev on_two : Data → Move
  on_two d = with_two (below 1 f d) (below 0 f d) (go d)

  pub can_look_at_two : CanMove Old f.block on_two → SomeMeant Old (HasTwo f.block)
  can_look_at_two c =
      let t = two_there (below 1 f c.here) (below 0 f c.here) (go c.here) c.able in
      (c.here.mem, c.ready.mem, record { left = (t.0, t.1.1.0); right = (t.1.0, t.1.1.1.0) })

  pub can_look_left : CanMove Old f.block on_two → SomeMeant Old (HasOperand f.block 1)
  can_look_left c = let t = can_look_at_two c in (t.0, t.1, t.2.left)

  pub can_look_right : CanMove Old f.block on_two → SomeMeant Old (HasOperand f.block 0)
  can_look_right c = let t = can_look_at_two c in (t.0, t.1, t.2.right)

  -- what the two come to is this, unless memory was wanted
  abbrev pub TwoCome : Result Scalar Stopped → Type 0
  TwoCome told = (d : Data) → Ready Old f.block d → (x y : Content) → operand d.mem f.block 1 ≡ Some x → operand d.mem f.block 0 ≡ Some y → IfTold told (go d x y ≡ finish told d)

  two_same : (told : Result Scalar Stopped) → ((d : Data) → Ready Old f.block d → (x y : Content) → operand d.mem f.block 1 ≡ Some x → operand d.mem f.block 0 ≡ Some y → go d x y ≡ finish told d)
      → (d : Data) → Ready Old f.block d → on_two d ≢ Wrong → on_two d ≡ finish told d
  two_same told h d r w =
      let t = two_there (below 1 f d) (below 0 f d) (go d) w in
      t.1.1.1.1 ∙ h d r t.0 t.1.0 t.1.1.0 t.1.1.1.0

  pub can_finish_two : (told : Result Scalar Stopped) → TwoCome told → CanMove Old f.block on_two → IfTold told (CanMove Old f.block (finish told))
  can_finish_two (Ok v) h c = can_as (two_same (Ok v) h) c
  can_finish_two (Err (Stops x)) h c = can_as (two_same (Err (Stops x)) h) c
  can_finish_two (Err (Throws k)) h c = can_as (two_same (Err (Throws k)) h) c
  can_finish_two (Err Wants) h c = tt

  pub acts_two : (told : Result Scalar Stopped) (did : Did) → TwoCome told → FinishedBy told did (Acts Old New f.block did (finish told)) → Acts Old New f.block did on_two
  acts_two (Ok v) did h a = acts_as (two_same (Ok v) h) a
  acts_two (Err (Stops x)) did h a = acts_as (two_same (Err (Stops x)) h) a
  acts_two (Err (Throws k)) did h a = acts_as (two_same (Err (Throws k)) h) a
  acts_two (Err Wants) did h a = subst (λ (e : Did). Acts Old New f.block e on_two) (sym a) acts_wanting

pub tells_two : (f : Frame) (d : Data) (told : Result Scalar Stopped) (c : Computed) → Tells told c → IfTold told (finish_two c f d ≡ finish_two (Some told) f d)
tells_two f d (Ok v) c h = ap (λ x. finish_two x f d) h
tells_two f d (Err (Stops x)) c h = ap (λ x. finish_two x f d) h
tells_two f d (Err (Throws k)) c h = ap (λ x. finish_two x f d) h
tells_two f d (Err Wants) c h = tt

told_after : (told : Result Scalar Stopped) (m n o : Move) → m ≡ n → IfTold told (n ≡ o) → IfTold told (m ≡ o)
told_after (Ok v) m n o e h = e ∙ h
told_after (Err (Stops x)) m n o e h = e ∙ h
told_after (Err (Throws k)) m n o e h = e ∙ h
told_after (Err Wants) m n o e h = tt

-- ---- one operand that is there

one_there : (x : Option Content) (go : Content → Move) → with_operand x go ≢ Wrong → (v : Content) × ((x ≡ Some v) × (with_operand x go ≡ go v))
one_there None go h = absurd (h refl)
one_there (Some v) go h = (v, (refl, refl))

module _ (Old New : Mem → Type 0) (f : Frame) (go : Data → Content → Move) (finish : Result Scalar Stopped → Data → Move) where
  abbrev on_one : Data → Move
  on_one d = with_operand (below 0 f d) (go d)

  pub can_look_at_one : CanMove Old f.block on_one → SomeMeant Old (HasOperand f.block 0)
  can_look_at_one c = let t = one_there (below 0 f c.here) (go c.here) c.able in (c.here.mem, c.ready.mem, (t.0, t.1.0))

  abbrev pub OneComes : Result Scalar Stopped → Type 0
  OneComes told = (d : Data) → Ready Old f.block d → (x : Content) → operand d.mem f.block 0 ≡ Some x → IfTold told (go d x ≡ finish told d)

  one_same : (told : Result Scalar Stopped) → ((d : Data) → Ready Old f.block d → (x : Content) → operand d.mem f.block 0 ≡ Some x → go d x ≡ finish told d)
      → (d : Data) → Ready Old f.block d → on_one d ≢ Wrong → on_one d ≡ finish told d
  one_same told h d r w = let t = one_there (below 0 f d) (go d) w in t.1.1 ∙ h d r t.0 t.1.0

  pub can_finish_one : (told : Result Scalar Stopped) → OneComes told → CanMove Old f.block on_one → IfTold told (CanMove Old f.block (finish told))
  can_finish_one (Ok v) h c = can_as (one_same (Ok v) h) c
  can_finish_one (Err (Stops x)) h c = can_as (one_same (Err (Stops x)) h) c
  can_finish_one (Err (Throws k)) h c = can_as (one_same (Err (Throws k)) h) c
  can_finish_one (Err Wants) h c = tt

  pub acts_one_told : (told : Result Scalar Stopped) (did : Did) → OneComes told → FinishedBy told did (Acts Old New f.block did (finish told)) → Acts Old New f.block did on_one
  acts_one_told (Ok v) did h a = acts_as (one_same (Ok v) h) a
  acts_one_told (Err (Stops x)) did h a = acts_as (one_same (Err (Stops x)) h) a
  acts_one_told (Err (Throws k)) did h a = acts_as (one_same (Err (Throws k)) h) a
  acts_one_told (Err Wants) did h a = subst (λ (e : Did). Acts Old New f.block e on_one) (sym a) acts_wanting

pub tells_one : (f : Frame) (d : Data) (told : Result Scalar Stopped) (c : Computed) → Tells told c → IfTold told (finish_one c f d ≡ finish_one (Some told) f d)
tells_one f d (Ok v) c h = ap (λ x. finish_one x f d) h
tells_one f d (Err (Stops x)) c h = ap (λ x. finish_one x f d) h
tells_one f d (Err (Throws k)) c h = ap (λ x. finish_one x f d) h
tells_one f d (Err Wants) c h = tt

-- ---- what operands show is what contents are

pub one_same_in : (a : OperatorAction) (o : Operand) (x : Content) → Sees o x → one_of a x ≡ one_in a o
one_same_in ToBool o x s = ap (λ t. Some (Ok (scalar.Bool t))) s.truth
one_same_in Not o x s = ap (λ t. Some (Ok (scalar.Bool (not t)))) s.truth
one_same_in ToInt o x s = s.int
one_same_in ToText o x s = ap as_text s.text
one_same_in (Sign negative) o x s = ap (λ n. Some (sign_of negative n)) s.number
one_same_in Complement o x s = ap (λ v. Some (on_scalar complement_of UNSUPPORTED_OPERANDS v)) s.scalar
one_same_in (Count up) o x s = ap (λ v. Some (on_scalar (counted_by up) NOT_COUNTABLE v)) s.scalar
one_same_in (Operate op) o x s = refl
one_same_in (Compare r) o x s = refl
one_same_in (Identical n) o x s = refl
one_same_in TestCase o x s = refl
one_same_in ExclusiveOr o x s = refl
one_same_in (Join n) o x s = refl

pub one_is : (a : OperatorAction) (f : Frame) (d : Data) → is_one a ≡ true → effect_operator a f d ≡ one_operand a f d
one_is ToBool f d h = refl
one_is Not f d h = refl
one_is ToInt f d h = refl
one_is ToText f d h = refl
one_is (Sign negative) f d h = refl
one_is Complement f d h = refl
one_is (Count up) f d h = refl
one_is (Operate op) f d h = absurd (cc)
one_is (Compare r) f d h = absurd (cc)
one_is (Identical n) f d h = absurd (cc)
one_is TestCase f d h = absurd (cc)
one_is ExclusiveOr f d h = absurd (cc)
one_is (Join n) f d h = absurd (cc)

module _ (o p : Operand) (x y : Content) (s : Sees o x) (t : Sees p y) where
  mixed_same : (op : Op) → mixed op x y ≡ mixed_in op o p
  mixed_same Concat = λ i. joined_texts (s.text i) (t.text i)
  mixed_same Add = λ i. Some (first_stop Add (s.number i) (t.number i))
  mixed_same Sub = λ i. Some (first_stop Sub (s.number i) (t.number i))
  mixed_same Mul = λ i. Some (first_stop Mul (s.number i) (t.number i))
  mixed_same Pow = λ i. Some (first_stop Pow (s.number i) (t.number i))
  mixed_same Div = λ i. Some (first_stop Div (s.number i) (t.number i))
  mixed_same Mod = λ i. Some (first_stop Mod (s.number i) (t.number i))
  mixed_same Shl = λ i. Some (first_stop Shl (s.number i) (t.number i))
  mixed_same Shr = λ i. Some (first_stop Shr (s.number i) (t.number i))
  mixed_same And = λ i. Some (first_stop And (s.number i) (t.number i))
  mixed_same Or = λ i. Some (first_stop Or (s.number i) (t.number i))
  mixed_same Xor = λ i. Some (first_stop Xor (s.number i) (t.number i))

operated_by : (op : Op) (o p : Operand) (x y : Content) → mixed op x y ≡ mixed_in op o p → operated (scalar_in o) (scalar_in p) op x y ≡ operated_in op o p
operated_by op (operand_is.Scalar v) (operand_is.Scalar w) x y h = refl
operated_by op (operand_is.Scalar v) (operand_is.Array e) x y h = h
operated_by op (operand_is.Scalar v) operand_is.Object x y h = h
operated_by op (operand_is.Array e) p x y h = h
operated_by op operand_is.Object p x y h = h

pub operated_same : (op : Op) (o p : Operand) (x y : Content) → Sees o x → Sees p y → operated (scalar_of x) (scalar_of y) op x y ≡ operated_in op o p
operated_same op o p x y s t = (λ i. operated (s.scalar i) (t.scalar i) op x y) ∙ operated_by op o p x y (mixed_same o p x y s t op)

-- ---- two operands that aren't united

united_not : (l r : Option (Listing ℕ)) (op : Op) (x y : Content) (f : Frame) (d : Data) → ((s t : Listing ℕ) → l ≡ Some s → r ≡ Some t → ⊥) → united_or l r op x y f d ≡ finish_two (operated (scalar_of x) (scalar_of y) op x y) f d
united_not None r op x y f d h = refl
united_not (Some s) None op x y f d h = refl
united_not (Some s) (Some t) op x y f d h = absurd (h s t refl refl)

array_seen : (o : Operand) (x : Content) (t : Listing ℕ) → Sees o x → elements_of x ≡ Some t → is_array o ≡ true
array_seen o x t s e = sym s.array ∙ ap is_some e

add_unites : (o p : Operand) → is_array o ≡ true → is_array p ≡ true → unites Add o p ≡ true
add_unites (operand_is.Array a) (operand_is.Array b) h k = refl
add_unites (operand_is.Array a) (operand_is.Scalar v) h k = absurd (cc)
add_unites (operand_is.Array a) operand_is.Object h k = absurd (cc)
add_unites (operand_is.Scalar v) p h k = absurd (cc)
add_unites operand_is.Object p h k = absurd (cc)

none_there : {t : Listing ℕ} → None ≡ Some t → ⊥
none_there h = cc

module _ (o p : Operand) (x y : Content) (f : Frame) (d : Data) (s : Sees o x) (t : Sees p y) where
  both_arrays : unites Add o p ≡ false → (u v : Listing ℕ) → elements_of x ≡ Some u → elements_of y ≡ Some v → ⊥
  both_arrays h u v a b =
      let k = add_unites o p (array_seen o x u s a) (array_seen p y v t b) in
      let e : true ≡ false = sym k ∙ h in
      cc

  pub operate_apart : (op : Op) → unites op o p ≡ false → operate_on op x y f d ≡ finish_two (operated (scalar_of x) (scalar_of y) op x y) f d
  operate_apart Add h = united_not (elements_of x) (elements_of y) Add x y f d (both_arrays h)
  operate_apart Sub h = refl
  operate_apart Mul h = refl
  operate_apart Pow h = refl
  operate_apart Div h = refl
  operate_apart Mod h = refl
  operate_apart Shl h = refl
  operate_apart Shr h = refl
  operate_apart And h = refl
  operate_apart Or h = refl
  operate_apart Xor h = refl
  operate_apart Concat h = refl

  pub operate_comes : (op : Op) (told : Result Scalar Stopped) → unites op o p ≡ false → Tells told (operated_in op o p) → IfTold told (operate_on op x y f d ≡ finish_two (Some told) f d)
  operate_comes op told h k =
      told_after told (operate_on op x y f d) (finish_two (operated_in op o p) f d) (finish_two (Some told) f d) (operate_apart op h ∙ ap (λ c. finish_two c f d) (operated_same op o p x y s t)) (tells_two f d told (operated_in op o p) k)

-- ---- whether one alone is a truth

pub exclusive_comes : (f : Frame) (d : Data) (x y : Content) (l r t : Bool) → l ≡ truth_of x → r ≡ truth_of y → t ≡ differ l r
    → finish_two (Some (Ok (scalar.Bool (differ (truth_of x) (truth_of y))))) f d ≡ finish_two (Some (Ok (scalar.Bool t))) f d
exclusive_comes f d x y l r t e k h = ap (λ b. finish_two (Some (Ok (scalar.Bool b))) f d) ((λ i. differ (sym e i) (sym k i)) ∙ sym h)
