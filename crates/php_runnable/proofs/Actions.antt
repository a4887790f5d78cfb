-- No action is stuck where its signature says that it may be done, and it leaves what that says.
use Rattle.std.proofs.Common.{◌≡◌, ℕ, zero, suc, ◌+◌, ◌<◌, ◌≤◌, Bool, true, false, cond, List, [], ◌∷◌, Option, Some, None, Result, Ok, Err, pos, refl, sym, ap, ◌∙◌, subst, arith}
use Rattle.std.specs.Prelude.{not}
use Rattle.php_value.specs.declared.fault.Stopped.{Stopped}
use Rattle.php_value.specs.declared.fault.Stopped.TheVariants.{Fault as Ends, Throws, NoMemory}
use Rattle.php_value.specs.declared.error_kind.TheConstants.ErrorKind.{UNSUPPORTED_OPERANDS, NOT_COUNTABLE}
use Rattle.php_value.specs.declared.op.Op.{Op}
use Rattle.php_value.specs.declared.op.Op.TheVariants.{Add, Sub, Mul, Pow, Div, Mod, Shl, Shr, And, Or, Xor, Concat}
use Rattle.php_value.specs.declared.scalar.Scalar.{Scalar}
use Rattle.php_value.specs.declared.scalar.Scalar.TheVariants as scalar
use Rattle.php_value.specs.Operator.{complement_of, joined}
use Rattle.php_frames.specs.declared.completion.Completion.{Completion}
use Rattle.php_frames.specs.declared.frame.Way.{Way}
use Rattle.php_entries.specs.Listing.{Listing}
use Rattle.php_memdef.specs.Contents.{Content, null, truth, int, text, array, object, Item, value, link, Mem, scope_of}
use Rattle.php_memdef.specs.Places.{nth_item}
use Rattle.php_memdef.specs.Sound.{IsSoundContent}
use Rattle.php_compare.specs.Ordering.{LEVELS, order_in}
use Rattle.php_compare.specs.Identity.{same_in}
use Rattle.php_machine.specs.Moves.{Next, Again, Enter, Ask, Inside, Leave, Park, Wake, End, Wrong}
use Rattle.php_actions.specs.declared.facts.Facts.{Facts}
use Rattle.php_actions.specs.declared.action.Action.{Action}
use Rattle.php_actions.specs.declared.action.Action.TheVariants.{Stack, Place, Operator, Output, Name as NameOf, Call, Jump}
use Rattle.php_actions.specs.declared.stack.StackAction.{StackAction}
use Rattle.php_actions.specs.declared.stack.StackAction.TheVariants.{Push, PushArray, Drop, Swap, Duplicate, Settle, TestTruth, TestNotNull}
use Rattle.php_actions.specs.declared.places.PlaceAction.{PlaceAction}
use Rattle.php_actions.specs.declared.places.PlaceAction.TheVariants.{Read, Assign}
use Rattle.php_actions.specs.declared.place_form.BaseForm.TheVariants.{Variable, This}
use Rattle.php_actions.specs.declared.place_form.PlaceForm.{PlaceForm}
use Rattle.php_actions.specs.declared.operators.OperatorAction.{OperatorAction}
use Rattle.php_actions.specs.declared.operators.OperatorAction.TheVariants.{Operate, Compare, Identical, TestCase, ExclusiveOr, ToBool, Not, ToInt, ToText, Sign, Complement, Count, Join}
use Rattle.php_actions.specs.declared.output.OutputAction.{OutputAction}
use Rattle.php_actions.specs.declared.output.OutputAction.TheVariants.{Echo, Write, Print}
use Rattle.php_actions.specs.declared.names.NameAction.{NameAction}
use Rattle.php_actions.specs.declared.names.NameAction.TheVariants.{PushConstant}
use Rattle.php_actions.specs.declared.jumps.JumpAction.{JumpAction}
use Rattle.php_actions.specs.declared.jumps.JumpAction.TheVariants.{Tick}
use Rattle.php_actions.specs.declared.relation.Relation.TheVariants.{Equal}
use Rattle.php_actions.specs.Data.{Frame, Data, Move, with_mem, next_with}
use Rattle.php_actions.specs.Comparisons.{compared_as, identical_as}
use Rattle.php_actions.specs.Contents.{scalar_of, truth_of, is_null, text_of_content, number_of}
use Rattle.php_actions.specs.Steps.{operand, drops, pushed, stopped, assigns, throws}
use Rattle.php_actions.specs.Stack.{settled_if, tested, effect_stack}
use Rattle.php_actions.specs.Places.{effect_place}
use Rattle.php_actions.specs.Operators.{Computed, operated, united, finish_two, operate_on, finish_one, int_of_content, as_text, sign_of, on_scalar, counted_by, differ, with_operand, with_two, text_if, text_then, texts_of, join_as, join_if, effect_operator}
use Rattle.php_actions.specs.Output.{with_out, with_text, effect_output}
use Rattle.php_actions.specs.Names.{place_among, constant_pushed, effect_name}
use Rattle.php_actions.specs.Jumps.{ticked, effect_jump}
use Rattle.php_actions.specs.Effect.{effect_in, fact_of, this_if}
use Rattle.php_actions.specs.Start.{variable_place}
use Rattle.php_meaning.specs.Slots.{Names, slot_in, is_this}
use Rattle.php_runnable.proofs.Numbers.{IsMade, complement-made, counted_up-made, counted_down-made, joined-made}
use Rattle.php_runnable.proofs.Blocks.{IsPlain, Stands, Holds, stands, holds_as}
use Rattle.php_runnable.proofs.Compare.{order-answered, compared-made, identity-answered, identical-made}
use Rattle.php_runnable.proofs.Values.{IsComputed, IsText, text-made, operated-computed, int-computed, text-computed, sign-computed, scalar-made}
use Rattle.php_runnable.proofs.Signatures.{found_stack, left_stack, spare_stack, IsStackFit, found_operator, left_operator, spare_operator, found_place, spare_place, IsVariable, found_output, left_output, found, leaves, spare, IsFit, FitsOver}
use Rattle.php_runnable.proofs.Steps.{within_room, operand_is, pushed_ok, array_ok, turned_ok, drops_ok, replaced_ok, copied_ok, read_ok, assign_ok}

-- data in which the script's own part is the one frame, over n temporaries
pub record Ready (room : ℕ) (why : Completion) (way : Way) (n : ℕ) (d : Data) : Type 0 where
  pub frame : Frame
  pub frames : d.frames ≡ frame ∷ []
  pub function : frame.function ≡ 0
  pub pending : frame.pending ≡ why
  pub way_is : frame.way ≡ way
  pub constants : d.constants ≡ []
  pub fallen : ℕ
  pub holds : Holds frame.block room d.mem n fallen

-- the frame goes on over n temporaries, or the run is over
abbrev pub Goes : ℕ → Completion → Way → ℕ → Move → Type 0
Goes room why way n (Next d) = Ready room why way n d
Goes room why way n (End e d) = Unit {0}
Goes room why way n (Again d) = ⊥
Goes room why way n (Enter f is_free at) = ⊥
Goes room why way n (Ask f is_free at) = ⊥
Goes room why way n (Inside f d) = ⊥
Goes room why way n (Leave d) = ⊥
Goes room why way n (Park g d) = ⊥
Goes room why way n (Wake g d) = ⊥
Goes room why way n Wrong = ⊥

module _ (room : ℕ) (why : Completion) (way : Way) (f : Frame) (function : f.function ≡ 0) (pending : f.pending ≡ why) (way_is : f.way ≡ way) where
  pub next : (d : Data) → d.frames ≡ f ∷ [] → d.constants ≡ [] → (m : Mem) (n k q : ℕ) → Holds f.block room m n q → n ≡ k → Goes room why way k (next_with d m)
  next d frames constants m n k q s e = record {
    frame = f;
    frames = frames;
    function = function;
    pending = pending;
    way_is = way_is;
    constants = constants;
    fallen = q;
    holds = holds_as f.block room m n k q q s e (omega arith);
  }

  module _ (d : Data) (frames : d.frames ≡ f ∷ []) (constants : d.constants ≡ []) (n r : ℕ) (s : Holds f.block room d.mem n 0) where
    abbrev P : ℕ → Move → Type 0
    P k mv = Goes room why way k mv

    abbrev b : ℕ
    b = f.block

    goes : (m : Mem) (j k q : ℕ) → Holds b room m j q → j ≡ k → P k (next_with d m)
    goes m j k q t e = next d frames constants m j k q t e

    all_fit : n ≤ room
    all_fit = within_room b room d.mem n 0 s

    at_hand : (k : ℕ) → k < n → Stands (scope_of d.mem b).temps k
    at_hand k lt = stands b room d.mem n 0 s k lt

    -- ---- temporaries

    settled-goes : (is : List Item) (c : Content) → nth_item is 0 ≡ Some (value c) → P n (next_with d d.mem) → P n (settled_if is b d.mem (next_with d))
    settled-goes [] c e h = absurd (cc)
    settled-goes (value x ∷ is) c e h = h
    settled-goes (link t ∷ is) c e h = absurd (cc)

    tested-goes : (test : Content → Bool) → n ≡ 1 + r → n < room → P (2 + r) (tested (operand d.mem b 0) test b d.mem (next_with d))
    tested-goes test e lt =
        let t = at_hand 0 (omega (arith, e)) in
        subst (λ o. P (2 + r) (tested o test b d.mem (next_with d))) (sym (operand_is b room d.mem 0 t))
        (pushed_ok (P (2 + r)) b room (scalar.Bool (test t.content)) d.mem n 0 (next_with d) s tt lt (λ m x. goes m (suc n) (2 + r) 0 x (omega (arith, e))))

    stack-goes : (a : StackAction) → n ≡ found_stack a + r → IsStackFit a → FitsOver room r (spare_stack a) → P (left_stack a + r) (effect_stack a f d)
    stack-goes (Push v) e w l = pushed_ok (P (1 + r)) b room v d.mem n 0 (next_with d) s w (omega (arith, e, l)) (λ m x. goes m (suc n) (1 + r) 0 x (omega (arith, e)))
    stack-goes PushArray e w l = array_ok (P (1 + r)) b room d.mem n 0 (next_with d) s (omega (arith, e, l)) (λ m x. goes m (suc n) (1 + r) 0 x (omega (arith, e)))
    stack-goes Drop e w l = drops_ok (P (0 + r)) b room 1 d.mem n 0 r (next_with d) s e (omega (arith, e, all_fit)) (λ m x. goes m r (0 + r) 1 x (omega arith))
    stack-goes Swap e w l = turned_ok (P (2 + r)) b room 2 d.mem n 0 (next_with d) s (omega (arith, e)) (λ m x. goes m n (2 + r) 0 x e)
    stack-goes Duplicate e w l = copied_ok (P (2 + r)) b room 0 d.mem n 0 (next_with d) s (omega (arith, e)) (omega (arith, e, l)) (λ m x. goes m (suc n) (2 + r) 0 x (omega (arith, e)))
    stack-goes Settle e w l =
        let t = at_hand 0 (omega (arith, e)) in
        subst (λ k. P k (settled_if (scope_of d.mem b).temps b d.mem (next_with d))) e (settled-goes (scope_of d.mem b).temps t.content t.there (goes d.mem n n 0 s refl))
    stack-goes TestTruth e w l = tested-goes truth_of e (omega (arith, e, l))
    stack-goes TestNotNull e w l = tested-goes (λ c. not (is_null c)) e (omega (arith, e, l))

    -- ---- places

    abbrev form_of : Bool → ℕ → PlaceForm
    form_of t x = record { base = cond t This (Variable (record { 0 = x })); steps = [] }

    read-goes : (t this : Bool) (x : ℕ) → this ≡ false → n ≡ 0 + r → n < room → P (1 + r) (effect_place (Read (form_of t x)) this f d)
    read-goes true true x not_this e lt = absurd (cc)
    read-goes true false x not_this e lt = tt
    read-goes false this x not_this e lt = read_ok (P (1 + r)) room f x d n 0 (next_with d) s lt (λ m y. goes m (suc n) (1 + r) 0 y (omega (arith, e)))

    assign-goes : (t this : Bool) (x : ℕ) → this ≡ false → n ≡ 1 + r → n < room → P (1 + r) (effect_place (Assign (form_of t x)) this f d)
    assign-goes true true x not_this e lt = absurd (cc)
    assign-goes true false x not_this e lt = tt
    assign-goes false this x not_this e lt =
        copied_ok (P (1 + r)) b room 0 d.mem n 0 (λ m. assigns (variable_place b x []) f (with_mem d m) (λ d'. next_with d' d'.mem)) s (omega (arith, e)) lt
        (λ m y. assign_ok (P (1 + r)) room f x (with_mem d m) n 0 (λ d'. next_with d' d'.mem) y
        (λ k w z. next (record (with_mem d m) { mem = k; writes = w }) frames constants k n (1 + r) 1 z e))

    place-goes : (ns : Names) (a : PlaceAction) (this : Bool) → this ≡ false → n ≡ found_place a + r → IsVariable ns a → FitsOver room r (spare_place a) → P (1 + r) (effect_place a this f d)
    place-goes ns (Read form) this not_this e is lt =
        subst (λ x. P (1 + r) (effect_place (Read x) this f d)) (sym is.1) (read-goes (is_this is.0) this (slot_in ns is.0) not_this e (omega (arith, e, lt)))
    place-goes ns (Assign form) this not_this e is lt =
        subst (λ x. P (1 + r) (effect_place (Assign x) this f d)) (sym is.1) (assign-goes (is_this is.0) this (slot_in ns is.0) not_this e (omega (arith, e, lt)))

    -- ---- operators

    finish_two-goes : (c : Computed) → IsComputed c → n ≡ 2 + r → P (1 + r) (finish_two c f d)
    finish_two-goes None h e = absurd h
    finish_two-goes (Some (Ok v)) h e =
        replaced_ok (P (1 + r)) b room 2 v d.mem n 0 r (next_with d) s e (omega (arith, e, all_fit)) h (omega (arith, e, all_fit)) (λ m x. goes m (suc r) (1 + r) 2 x (omega arith))
    finish_two-goes (Some (Err (Ends x))) h e = tt
    finish_two-goes (Some (Err (Throws kind))) h e =
        turned_ok (P (1 + r)) b room 2 d.mem n 0 (λ m. drops b 2 m (λ k. throws kind [] f (with_mem d k))) s (omega (arith, e))
        (λ m x. drops_ok (P (1 + r)) b room 2 m n 0 r (λ k. throws kind [] f (with_mem d k)) x e (omega (arith, e, all_fit)) (λ k y. tt))
    finish_two-goes (Some (Err NoMemory)) h e = absurd h

    stopped-goes : (k : ℕ) (x : Stopped) → IsMade (Err x) → P k (stopped x f d)
    stopped-goes k (Ends x) h = tt
    stopped-goes k (Throws kind) h = tt
    stopped-goes k NoMemory h = absurd h

    finish_one-goes : (c : Computed) (k : ℕ) → IsComputed c → n ≡ 1 + k → P (1 + k) (finish_one c f d)
    finish_one-goes None k h e = absurd h
    finish_one-goes (Some (Ok v)) k h e =
        drops_ok (P (1 + k)) b room 1 d.mem n 0 k (λ m. pushed b v m (next_with d)) s e (omega (arith, e, all_fit))
        (λ m x. pushed_ok (P (1 + k)) b room v m k 1 (next_with d) x h (omega (arith, e, all_fit)) (λ i y. goes i (suc k) (1 + k) 1 y (omega arith)))
    finish_one-goes (Some (Err x)) k h e = stopped-goes (1 + k) x h

    with_one-goes : (k : ℕ) (go : Content → Move) → 0 < n → ((c : Content) → IsPlain c → IsSoundContent c → P k (go c)) → P k (with_operand (operand d.mem b 0) go)
    with_one-goes k go lt h =
        let t = at_hand 0 lt in
        subst (λ o. P k (with_operand o go)) (sym (operand_is b room d.mem 0 t)) (h t.content t.plain t.sound)

    with_two-goes : (k : ℕ) (go : Content → Content → Move) → 1 < n
        → ((x : Stands (scope_of d.mem b).temps 1) (y : Stands (scope_of d.mem b).temps 0) → P k (go x.content y.content)) → P k (with_two (operand d.mem b 1) (operand d.mem b 0) go)
    with_two-goes k go lt h =
        let x = at_hand 1 lt in
        let y = at_hand 0 (omega (arith, lt)) in
        subst (λ o. P k (with_two o (operand d.mem b 0) go)) (sym (operand_is b room d.mem 1 x))
        (subst (λ o. P k (with_two (Some x.content) o go)) (sym (operand_is b room d.mem 0 y)) (h x y))

    -- texts of several operands

    abbrev HasText : Option (List ℕ) → Type 0
    HasText None = ⊥
    HasText (Some t) = Unit {0}

    text-there : (o : Option (List ℕ)) → IsText o → HasText o
    text-there None h = h
    text-there (Some t) h = tt

    both-there : (o p : Option (List ℕ)) → HasText o → HasText p → HasText (text_then o p)
    both-there None p h k = h
    both-there (Some t) None h k = k
    both-there (Some t) (Some u) h k = tt

    texts-there : (j : ℕ) → j ≤ n → HasText (texts_of d.mem b j)
    texts-there zero l = tt
    texts-there (suc j) l =
        let t = at_hand j (omega (arith, l)) in
        both-there (text_if (operand d.mem b j)) (texts_of d.mem b j)
        (subst (λ o. HasText (text_if o)) (sym (operand_is b room d.mem j t)) (text-there (text_of_content t.content) (text-made t.content t.plain t.sound)))
        (texts-there j (omega (arith, l)))

    join_as-goes : (j : ℕ) (x : Result Scalar Stopped) → IsMade x → n ≡ j + r → r + 1 ≤ room → P (1 + r) (join_as x j f d)
    join_as-goes j (Ok v) h e lt =
        drops_ok (P (1 + r)) b room j d.mem n 0 r (λ m. pushed b v m (next_with d)) s e (omega (arith, e, all_fit))
        (λ m x. pushed_ok (P (1 + r)) b room v m r (0 + j) (next_with d) x h (omega (arith, e, lt)) (λ i y. goes i (suc r) (1 + r) (0 + j) y (omega arith)))
    join_as-goes j (Err x) h e lt = stopped-goes (1 + r) x h

    join_if-goes : (j : ℕ) (o : Option (List ℕ)) → HasText o → n ≡ j + r → r + 1 ≤ room → P (1 + r) (join_if o j f d)
    join_if-goes j None h e lt = absurd h
    join_if-goes j (Some t) h e lt = join_as-goes j (joined t) (joined-made t) e lt

    -- two arrays are united

    module _ (unites : (x y : Listing ℕ) → nth_item (scope_of d.mem b).temps 1 ≡ Some (value (array x)) → nth_item (scope_of d.mem b).temps 0 ≡ Some (value (array y))
        → IsSoundContent (array x) → IsSoundContent (array y) → n ≡ 2 + r → r + 4 ≤ room → P (1 + r) (united x y f d)) where
      two-goes : (op : Op) (x : Stands (scope_of d.mem b).temps 1) (y : Stands (scope_of d.mem b).temps 0) → n ≡ 2 + r
          → P (1 + r) (finish_two (operated (scalar_of x.content) (scalar_of y.content) op x.content y.content) f d)
      two-goes op x y e = finish_two-goes (operated (scalar_of x.content) (scalar_of y.content) op x.content y.content) (operated-computed x.content y.content x.plain y.plain x.sound y.sound op) e

      add-goes : (x : Stands (scope_of d.mem b).temps 1) (y : Stands (scope_of d.mem b).temps 0) → n ≡ 2 + r → r + 4 ≤ room → P (1 + r) (operate_on Add x.content y.content f d)
      add-goes x y e lt = by x.content y.content refl refl
        where
          mixed : (c k : Content) → x.content ≡ c → y.content ≡ k → P (1 + r) (finish_two (operated (scalar_of c) (scalar_of k) Add c k) f d)
          mixed c k i j = subst (λ a. P (1 + r) (finish_two (operated (scalar_of a) (scalar_of k) Add a k) f d)) i (subst (λ a. P (1 + r) (finish_two (operated (scalar_of x.content) (scalar_of a) Add x.content a) f d)) j (two-goes Add x y e))

          by : (c k : Content) → x.content ≡ c → y.content ≡ k → P (1 + r) (operate_on Add c k f d)
          by (array t) (array u) i j = unites t u (x.there ∙ ap (λ a. Some (value a)) i) (y.there ∙ ap (λ a. Some (value a)) j) (subst IsSoundContent i x.sound) (subst IsSoundContent j y.sound) e lt
          by (array t) null i j = mixed (array t) null i j
          by (array t) (truth c) i j = mixed (array t) (truth c) i j
          by (array t) (int c) i j = mixed (array t) (int c) i j
          by (array t) (text c) i j = mixed (array t) (text c) i j
          by (array t) (object c) i j = mixed (array t) (object c) i j
          by null k i j = mixed null k i j
          by (truth c) k i j = mixed (truth c) k i j
          by (int c) k i j = mixed (int c) k i j
          by (text c) k i j = mixed (text c) k i j
          by (object c) k i j = mixed (object c) k i j

      operate-goes : (op : Op) (x : Stands (scope_of d.mem b).temps 1) (y : Stands (scope_of d.mem b).temps 0) → n ≡ 2 + r → r + 4 ≤ room → P (1 + r) (operate_on op x.content y.content f d)
      operate-goes Add x y e lt = add-goes x y e lt
      operate-goes Sub x y e lt = two-goes Sub x y e
      operate-goes Mul x y e lt = two-goes Mul x y e
      operate-goes Pow x y e lt = two-goes Pow x y e
      operate-goes Div x y e lt = two-goes Div x y e
      operate-goes Mod x y e lt = two-goes Mod x y e
      operate-goes Shl x y e lt = two-goes Shl x y e
      operate-goes Shr x y e lt = two-goes Shr x y e
      operate-goes And x y e lt = two-goes And x y e
      operate-goes Or x y e lt = two-goes Or x y e
      operate-goes Xor x y e lt = two-goes Xor x y e
      operate-goes Concat x y e lt = two-goes Concat x y e

      count-made : (up : Bool) (c : Content) → IsSoundContent c → IsMade (on_scalar (counted_by up) NOT_COUNTABLE (scalar_of c))
      count-made true c h = scalar-made (counted_by true) counted_up-made NOT_COUNTABLE c h
      count-made false c h = scalar-made (counted_by false) counted_down-made NOT_COUNTABLE c h

      one-goes : (of : Content → Computed) → n ≡ 1 + r → ((c : Content) → IsPlain c → IsSoundContent c → IsComputed (of c)) → P (1 + r) (with_operand (operand d.mem b 0) (λ c. finish_one (of c) f d))
      one-goes of e h = with_one-goes (1 + r) (λ c. finish_one (of c) f d) (omega (arith, e)) (λ c p k. finish_one-goes (of c) r (h c p k) e)

      both-go : (of : Content → Content → Computed) → n ≡ 2 + r → ((x y : Content) → IsComputed (of x y)) → P (1 + r) (with_two (operand d.mem b 1) (operand d.mem b 0) (λ x y. finish_two (of x y) f d))
      both-go of e h = with_two-goes (1 + r) (λ x y. finish_two (of x y) f d) (omega (arith, e)) (λ x y. finish_two-goes (of x.content y.content) (h x.content y.content) e)

      operator-goes : (a : OperatorAction) → n ≡ found_operator a + r → FitsOver room r (spare_operator a) → P (left_operator a + r) (effect_operator a f d)
      operator-goes (Operate op) e l = with_two-goes (1 + r) (λ x y. operate_on op x y f d) (omega (arith, e)) (λ x y. operate-goes op x y e l)
      operator-goes (Compare rel) e l = both-go (λ x y. Some (compared_as rel (order_in d.mem x y))) e (λ x y. compared-made rel (order_in d.mem x y) (order-answered d.mem LEVELS x y))
      operator-goes (Identical negated) e l = both-go (λ x y. Some (identical_as negated (same_in d.mem x y))) e (λ x y. identical-made negated (same_in d.mem x y) (identity-answered d.mem LEVELS x y))
      operator-goes TestCase e l =
          with_two-goes (2 + r) (λ x y. finish_one (Some (compared_as Equal (order_in d.mem x y))) f d) (omega (arith, e))
          (λ x y.
          let same : 1 + (1 + r) ≡ 2 + r = omega arith in
          subst (λ k. P k (finish_one (Some (compared_as Equal (order_in d.mem x.content y.content))) f d)) same
          (finish_one-goes (Some (compared_as Equal (order_in d.mem x.content y.content))) (1 + r) (compared-made Equal (order_in d.mem x.content y.content) (order-answered d.mem LEVELS x.content y.content)) (omega (arith, e))))
      operator-goes ExclusiveOr e l = both-go (λ x y. Some (Ok (scalar.Bool (differ (truth_of x) (truth_of y))))) e (λ x y. tt)
      operator-goes ToBool e l = one-goes (λ x. Some (Ok (scalar.Bool (truth_of x)))) e (λ c p k. tt)
      operator-goes Not e l = one-goes (λ x. Some (Ok (scalar.Bool (not (truth_of x))))) e (λ c p k. tt)
      operator-goes ToInt e l = one-goes int_of_content e (λ c p k. int-computed c k)
      operator-goes ToText e l = one-goes (λ x. as_text (text_of_content x)) e (λ c p k. text-computed (text_of_content c) (text-made c p k))
      operator-goes (Sign negative) e l = one-goes (λ x. Some (sign_of negative (number_of x))) e (λ c p k. sign-computed negative c k)
      operator-goes Complement e l = one-goes (λ x. Some (on_scalar complement_of UNSUPPORTED_OPERANDS (scalar_of x))) e (λ c p k. scalar-made complement_of complement-made UNSUPPORTED_OPERANDS c k)
      operator-goes (Count up) e l = one-goes (λ x. Some (on_scalar (counted_by up) NOT_COUNTABLE (scalar_of x))) e (λ c p k. count-made up c k)
      operator-goes (Join j) e l = join_if-goes j (texts_of d.mem b j) (texts-there j (omega (arith, e))) e l

      -- ---- output

      text-goes : (k : ℕ) (o : Option (List ℕ)) (go : List ℕ → Move) → HasText o → ((t : List ℕ) → P k (go t)) → P k (with_text o go)
      text-goes k None go h each = absurd h
      text-goes k (Some t) go h each = each t

      first_text : 0 < n → HasText (text_if (operand d.mem b 0))
      first_text lt =
          let t = at_hand 0 lt in
          subst (λ o. HasText (text_if o)) (sym (operand_is b room d.mem 0 t)) (text-there (text_of_content t.content) (text-made t.content t.plain t.sound))

      output-goes : (a : OutputAction) → n ≡ found_output a + r → P (left_output a + r) (effect_output a f d)
      output-goes Echo e =
          text-goes (0 + r) (text_if (operand d.mem b 0)) (λ t. drops b 1 d.mem (next_with (with_out d t))) (first_text (omega (arith, e)))
          (λ t. drops_ok (P (0 + r)) b room 1 d.mem n 0 r (next_with (with_out d t)) s e (omega (arith, e, all_fit)) (λ m x. next (with_out d t) frames constants m r (0 + r) 1 x (omega arith)))
      output-goes (Write t) e = next (with_out d t) frames constants d.mem n (0 + r) 0 s e
      output-goes Print e =
          text-goes (1 + r) (text_if (operand d.mem b 0)) (λ t. drops b 1 d.mem (λ m. pushed b (scalar.Int (pos 1)) m (next_with (with_out d t)))) (first_text (omega (arith, e)))
          (λ t. drops_ok (P (1 + r)) b room 1 d.mem n 0 r (λ m. pushed b (scalar.Int (pos 1)) m (next_with (with_out d t))) s e (omega (arith, e, all_fit))
          (λ m x. pushed_ok (P (1 + r)) b room (scalar.Int (pos 1)) m r 1 (next_with (with_out d t)) x (record { sfits = omega arith }) (omega (arith, e, all_fit))
          (λ i y. next (with_out d t) frames constants i (suc r) (1 + r) 1 y (omega arith))))

      -- ---- names, and statements that begin

      name-goes : (a : NameAction) (statics : ℕ) → P (1 + r) (effect_name a statics f d)
      name-goes (PushConstant x) statics =
          subst (λ cs. P (1 + r) (constant_pushed (place_among x cs) x statics f d)) (sym constants) tt

      ticked-goes : (left line : ℕ) → n ≡ 0 + r → P (0 + r) (ticked left line f [] d)
      ticked-goes zero line e = tt
      ticked-goes (suc left) line e = record {
        frame = record f { line = line };
        frames = refl;
        function = function;
        pending = pending;
        way_is = way_is;
        constants = constants;
        fallen = 0;
        holds = holds_as b room d.mem n (0 + r) 0 0 s e (omega arith);
      }

      jump-goes : (a : JumpAction) → n ≡ 0 + r → P (0 + r) (effect_jump a f [] d)
      jump-goes (Tick line) e = ticked-goes d.left line e

      pub action-goes : (ns : Names) (facts : Facts) (a : Action) → this_if (fact_of facts f) ≡ false → n ≡ found a + r → IsFit ns a → FitsOver room r (spare a)
          → P (leaves a + r) (effect_in facts a d f [])
      action-goes ns facts (Stack a) not_this e fit l = stack-goes a e fit l
      action-goes ns facts (Place a) not_this e fit l = place-goes ns a (this_if (fact_of facts f)) not_this e fit l
      action-goes ns facts (Operator a) not_this e fit l = operator-goes a e l
      action-goes ns facts (Output a) not_this e fit l = output-goes a e
      action-goes ns facts (NameOf a) not_this e fit l = name-goes a facts.statics
      action-goes ns facts (Call a) not_this e fit l = absurd fit
      action-goes ns facts (Jump a) not_this e fit l = jump-goes a e
