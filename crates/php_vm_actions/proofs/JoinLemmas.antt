-- Joining the texts of temporaries.
use Rattle.std.proofs.Common.{◌≡◌, ◌≢◌, ℕ, suc, ◌-◌, ◌<◌, true, false, List, [], ◌∷◌, ◌++◌, length, Option, Some, None, Ok, Err, refl, sym, ap, ◌∙◌, subst, arith, append_assoc, append-nil}
use Rattle.std.specs.Prelude.{IsSome, option_map, nat_lt, if◌then◌else◌}
use Rattle.php_value.specs.declared.fault.Fault.TheVariants.{StringLimit}
use Rattle.php_value.specs.declared.scalar.Scalar.TheVariants as scalar
use Rattle.php_value.specs.declared.fault.Stopped.TheVariants.{Fault as Stops}
use Rattle.php_memdef.specs.Contents.{Content, Mem}
use Rattle.php_memdef.specs.Meanings.{SomeMeant, EachMeant, Does}
use Rattle.php_memdef.specs.Operations.{Operation, effect}
use Rattle.php_memdef.specs.Operations as op
use Rattle.php_machine.specs.Moves.{End, Wrong}
use Rattle.php_actions.specs.Data.{Frame, Data, Move, next_with}
use Rattle.php_actions.specs.Operators.{text_if, text_then, texts_of, join_as, join_if, effect_operator}
use Rattle.php_actions.specs.declared.operators.OperatorAction.TheVariants.{Join}
use Rattle.php_actions.specs.Steps.{operand}
use Rattle.php_vm_actions.specs.declared.did.Did.{Did}
use Rattle.php_vm_actions.specs.declared.did.Did.TheVariants.{Goes, Ends}
use Rattle.php_vm_actions.specs.declared.did.Cause.TheVariants.{Fault as FaultCause}
use Rattle.php_vm_actions.specs.Causes.{ending_of}
use Rattle.php_vm_actions.specs.Straight.{CanAll, all, drops_of}
use Rattle.php_vm_actions.specs.Acting.{Ready, CanMove, Acts}
use Rattle.php_vm_actions.specs.Operands.{HasOperand, text_joined}
use Rattle.php_vm_actions.proofs.StraightLemmas.{drops_push_behind, append_leaves_none, drops_leave_none, can_append, all_append}
use Rattle.php_vm_actions.proofs.ActLemmas.{can_straight, acts_straight, acts_ending, acts_as, can_as}

-- ---- one text more

then_operand : (o : Option Content) (r : Option (List ℕ)) → IsSome (text_then (text_if o) r) → (x : Content) × (o ≡ Some x)
then_operand None r h = absurd (cc)
then_operand (Some x) r h = (x, refl)

then_rest : (t r : Option (List ℕ)) → IsSome (text_then t r) → IsSome r
then_rest None r h = absurd (cc)
then_rest (Some s) None h = absurd (cc)
then_rest (Some s) (Some t) h = refl

then_is : (s : List ℕ) (r : Option (List ℕ)) → text_then (Some s) r ≡ option_map (λ t. s ++ t) r
then_is s None = refl
then_is s (Some t) = refl

mapped_twice : (xs ys : List ℕ) (r : Option (List ℕ)) → option_map (λ t. xs ++ t) (option_map (λ t. ys ++ t) r) ≡ option_map (λ t. (xs ++ ys) ++ t) r
mapped_twice xs ys None = refl
mapped_twice xs ys (Some t) = ap Some (sym (append_assoc xs ys t))

some_mapped : (xs : List ℕ) (r : Option (List ℕ)) → IsSome (option_map (λ t. xs ++ t) r) → IsSome r
some_mapped xs None h = absurd (cc)
some_mapped xs (Some t) h = refl

pred_of : (n : ℕ) → 0 < n → suc (n - 1) ≡ n
pred_of n h = omega (arith, h)

module _ (Means : Mem → Type 0) (b count : ℕ) where
  -- what the bytes so far and the texts that are left come to
  abbrev pub Joins : List ℕ → ℕ → Type 0
  Joins bytes n = (m : Mem) → Means m → IsSome (texts_of m b count) → texts_of m b count ≡ option_map (λ t. bytes ++ t) (texts_of m b n)

  abbrev pub Some_left : ℕ → Type 0
  Some_left n = SomeMeant Means (λ m. IsSome (texts_of m b n))

  as_suc : (P : ℕ → Type 0) (n : ℕ) → 0 < n → P n → P (suc (n - 1))
  as_suc P n h p = subst P (sym (pred_of n h)) p

  pub begins_joining : Joins [] count
  begins_joining m h some = sym (none_before (texts_of m b count))
    where
      none_before : (r : Option (List ℕ)) → option_map (λ t. [] ++ t) r ≡ r
      none_before None = refl
      none_before (Some t) = refl

  pub next_operand : (n : ℕ) → 0 < n → Some_left n → SomeMeant Means (HasOperand b (n - 1))
  next_operand n h s =
      let t = as_suc Some_left n h s in
      (t.0, t.1, then_operand (operand t.0 b (n - 1)) (texts_of t.0 b (n - 1)) t.2)

  pub fewer_left : (n : ℕ) → 0 < n → Some_left n → Some_left (n - 1)
  fewer_left n h s =
      let t = as_suc Some_left n h s in
      (t.0, t.1, then_rest (text_if (operand t.0 b (n - 1))) (texts_of t.0 b (n - 1)) t.2)

  pub joins_on : (n : ℕ) (bytes text more : List ℕ) → 0 < n → Joins bytes n → EachMeant Means (λ m. HasOperand b (n - 1) m → text_if (operand m b (n - 1)) ≡ Some text) → more ≡ bytes ++ text → Joins more (n - 1)
  joins_on n bytes text more h joins looked e m o some =
      let j = as_suc (Joins bytes) n h joins m o some in
      let s : IsSome (texts_of m b (suc (n - 1))) = some_mapped bytes (texts_of m b (suc (n - 1))) (subst IsSome j some) in
      let x = then_operand (operand m b (n - 1)) (texts_of m b (n - 1)) s in
      j ∙ ap (λ t. option_map (λ y. bytes ++ y) (text_then t (texts_of m b (n - 1)))) (looked m o x)
      ∙ ap (option_map (λ y. bytes ++ y)) (then_is text (texts_of m b (n - 1)))
      ∙ mapped_twice bytes text (texts_of m b (n - 1))
      ∙ ap (λ ys. option_map (λ y. ys ++ y) (texts_of m b (n - 1))) (sym e)

  pub joined_all : (n : ℕ) (bytes : List ℕ) → n ≡ 0 → Joins bytes n → EachMeant Means (λ m. IsSome (texts_of m b count) → texts_of m b count ≡ Some bytes)
  joined_all n bytes e joins m o some = subst (Joins bytes) e joins m o some ∙ ap Some (append-nil bytes)

-- ---- the move

module _ (Old New : Mem → Type 0) (f : Frame) (n : ℕ) where
  abbrev b : ℕ
  b = f.block

  abbrev move : Data → Move
  move d = effect_operator (Join n) f d

  some_texts : (o : Option (List ℕ)) (d : Data) → join_if o n f d ≢ Wrong → IsSome o
  some_texts None d h = absurd (h refl)
  some_texts (Some t) d h = refl

  pub can_join : CanMove Old b move → SomeMeant Old (λ m. IsSome (texts_of m b n))
  can_join c = (c.here.mem, c.ready.mem, some_texts (texts_of c.here.mem b n) c.here c.able)

  module _ (t : List ℕ) (looked : EachMeant Old (λ m. IsSome (texts_of m b n) → texts_of m b n ≡ Some t)) where
    join_is : (d : Data) → Ready Old b d → move d ≢ Wrong → move d ≡ join_if (Some t) n f d
    join_is d r h = ap (λ o. join_if o n f d) (looked d.mem r.mem (some_texts (texts_of d.mem b n) d h))

    pub joins_limit : (line : ℕ) → line ≡ f.line → nat_lt 16777216 (length t) ≡ true → Acts Old Old b (Ends (FaultCause StringLimit line)) move
    joins_limit line l e =
        acts_ending (FaultCause StringLimit line) (λ d r h. join_is d r h ∙ ap (λ x. join_as (if x then Err (Stops StringLimit) else Ok (scalar.Str t)) n f d) e ∙ (λ i. End (ending_of (FaultCause StringLimit (sym l i))) d))

    short_is : (s : List ℕ) → s ≡ t → nat_lt 16777216 (length t) ≡ false → (d : Data) → Ready Old b d → move d ≢ Wrong → move d ≡ text_joined n s f d
    short_is s e k d r h =
        join_is d r h ∙ ap (λ x. join_as (if x then Err (Stops StringLimit) else Ok (scalar.Str t)) n f d) k ∙ ap (λ y. text_joined n y f d) (sym e)

    pub can_put_joined : (s : List ℕ) → s ≡ t → nat_lt 16777216 (length t) ≡ false → CanMove Old b move → CanMove Old b (text_joined n s f)
    can_put_joined s e k c = can_as (short_is s e k) c

    pub acts_joined : (s : List ℕ) → s ≡ t → nat_lt 16777216 (length t) ≡ false → (did : Did) → Acts Old New b did (text_joined n s f) → Acts Old New b did move
    acts_joined s e k did acts = acts_as (short_is s e k) acts

  abbrev os : List ℕ → List Operation
  os t = drops_of b n ++ op.push b (scalar.Str t) ∷ []

  pub can_drops : (t : List ℕ) → CanMove Old b (text_joined n t f) → SomeMeant Old (CanAll (drops_of b n)) × ((Mid : Mem → Type 0) → Does Old Mid (all (drops_of b n)) → SomeMeant Mid (CanAll (op.push b (scalar.Str t) ∷ [])))
  can_drops t c =
      let s = can_straight (os t) next_with (λ d. drops_push_behind b n (scalar.Str t) d.mem (next_with d)) c in
      let p = can_append (drops_of b n) (op.push b (scalar.Str t) ∷ []) s.0 s.2 in
      ((s.0, s.1, p.0), λ Mid does. (all (drops_of b n) s.0, does s.0 s.1, p.1))

  pub acts_put : (t : List ℕ) (Mid : Mem → Type 0) → Does Old Mid (all (drops_of b n)) → Does Mid New (effect (op.push b (scalar.Str t))) → Acts Old New b Goes (text_joined n t f)
  acts_put t Mid first second =
      acts_straight Old New (os t) (append_leaves_none (drops_of b n) (op.push b (scalar.Str t) ∷ []) (drops_leave_none b n) (tt, tt)) (λ d. drops_push_behind b n (scalar.Str t) d.mem (next_with d))
      (λ m h. subst New (sym (all_append (drops_of b n) (op.push b (scalar.Str t) ∷ []) m)) (second (all (drops_of b n) m) (first m h)))
