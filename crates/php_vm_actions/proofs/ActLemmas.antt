-- What each action's proof rests on.
use Rattle.std.proofs.Common.{◌≡◌, ◌≢◌, ℕ, Bool, true, false, List, [], ◌∷◌, Option, Some, None, refl, sym, ap, ◌∙◌, subst}
use Rattle.php_memdef.specs.Contents.{Content, Item, value, link, Mem, scope_of}
use Rattle.php_memdef.specs.Places.{nth_item}
use Rattle.php_memdef.specs.Views.{is_link, is_link_item}
use Rattle.php_memdef.specs.Operations as op
use Rattle.php_actions.specs.Stack.{settled_if}
use Rattle.php_memdef.specs.Conditions.{IsBlock}
use Rattle.php_memdef.specs.Meanings.{SomeMeant, Does, Answers}
use Rattle.php_memdef.specs.Operations.{Operation, Can, effect}
use Rattle.php_machine.specs.Moves.{End, Wrong}
use Rattle.php_vm_actions.specs.declared.did.Cause.{Cause}
use Rattle.php_vm_actions.specs.Causes.{ending_of}
use Rattle.php_actions.specs.Data.{Frame, Data, Move, with_mem, next_with}
use Rattle.php_vm_actions.specs.declared.did.Did.{Did}
use Rattle.php_vm_actions.specs.declared.did.Did.TheVariants.{Goes, Ends, NoMemory}
use Rattle.php_vm_actions.specs.Straight.{CanAll, all, behind, IsNoLeave, LeaveNone}
use Rattle.php_vm_actions.specs.Operands.{HasOperand}
use Rattle.php_actions.specs.Steps.{operand}
use Rattle.php_vm_actions.specs.Acting.{Ready, CanMove, IsDone, Acts}
use Rattle.php_vm_actions.proofs.StraightLemmas.{kept_none, kept_all, behind_goes}

-- the operations of a move that is made of them may be made
pub can_straight : {Means : Mem → Type 0} {b : ℕ} {move : Data → Move} (os : List Operation) (go : Data → Mem → Move) → ((d : Data) → move d ≡ behind os d.mem (go d)) → CanMove Means b move → SomeMeant Means (CanAll os)
can_straight os go is c = (c.here.mem, c.ready.mem, (behind_goes os c.here.mem (go c.here) (λ e. c.able (is c.here ∙ e))).0)

pub can_first : (Means : Mem → Type 0) (o : Operation) (os : List Operation) → SomeMeant Means (CanAll (o ∷ os)) → SomeMeant Means (Can o)
can_first Means o os (m, h, k) = (m, h, k.0)

-- such a move is done
pub acts_straight : (Old New : Mem → Type 0) {b : ℕ} {move : Data → Move} (os : List Operation) → LeaveNone os → ((d : Data) → move d ≡ behind os d.mem (next_with d)) → Does Old New (all os) → Acts Old New b Goes move
acts_straight Old New os none is does = record {
  each = λ d r h.
      let t = behind_goes os d.mem (next_with d) (λ e. h (is d ∙ e)) in
      record { to = with_mem d (all os d.mem); is = is d ∙ t.1; follows = record { mem = does d.mem r.mem; kept = kept_all os d.mem none t.0; others = refl } };
}

pub acts_wanting : {Old New : Mem → Type 0} {b : ℕ} {move : Data → Move} → Acts Old New b NoMemory move
acts_wanting = record { each = λ d r h. tt }

-- nothing changes and the run is over
pub acts_ending : {Old : Mem → Type 0} {b : ℕ} {move : Data → Move} (cause : Cause) → ((d : Data) → Ready Old b d → move d ≢ Wrong → move d ≡ End (ending_of cause) d) → Acts Old Old b (Ends cause) move
acts_ending cause is = record {
  each = λ d r h. record { to = d; is = is d r h; follows = record { mem = r.mem; kept = kept_none d.mem; others = refl } };
}

-- one move for another
pub acts_as : {Old New : Mem → Type 0} {b : ℕ} {did : Did} {move other : Data → Move} → ((d : Data) → Ready Old b d → move d ≢ Wrong → move d ≡ other d) → Acts Old New b did other → Acts Old New b did move
acts_as {Old} {New} {b} {did} {move} {other} same acts = record {
  each = λ d r h. let e = same d r h in subst (IsDone New did d) (sym e) (acts.each d r (λ w. h (e ∙ w)));
}

pub can_as : {Means : Mem → Type 0} {b : ℕ} {move other : Data → Move} → ((d : Data) → Ready Means b d → move d ≢ Wrong → move d ≡ other d) → CanMove Means b move → CanMove Means b other
can_as same c = record { here = c.here; ready = c.ready; able = λ w. c.able (same c.here c.ready c.able ∙ w) }

pub answers_does : {R : Type 0} (Old New : Mem → Type 0) (r : R) (op : Mem → Mem × R) → Answers Old New r op → Does Old New (λ m. (op m).0)
answers_does Old New r op h m k = (h m k).0

-- ---- actions that are one operation

module _ (Old New : Mem → Type 0) (b : ℕ) (move : Data → Move) (o : Operation) (is : (d : Data) → move d ≡ behind (o ∷ []) d.mem (next_with d)) where
  pub can_one : CanMove Old b move → SomeMeant Old (Can o)
  can_one c = can_first Old o [] (can_straight (o ∷ []) next_with is c)

  pub acts_one : IsNoLeave o → Does Old New (effect o) → Acts Old New b Goes move
  acts_one stays does = acts_straight Old New (o ∷ []) (stays, tt) is does

-- ---- actions that look at a temporary first, and make one operation by what it shows

module _ (Old New : Mem → Type 0) (b n : ℕ) (move : Data → Move) (by : Option Content → Data → Move) (o : Operation)
    (is : (d : Data) → move d ≡ by (operand d.mem b n) d) (none : (d : Data) → by None d ≡ Wrong) where
  looks : (d : Data) (c : Option Content) → by c d ≢ Wrong → (x : Content) × (c ≡ Some x)
  looks d None h = absurd (h (none d))
  looks d (Some x) h = (x, refl)

  pub looked : (d : Data) → move d ≢ Wrong → HasOperand b n d.mem
  looked d h = looks d (operand d.mem b n) (λ w. h (is d ∙ w))

  pub can_look : CanMove Old b move → SomeMeant Old (HasOperand b n)
  can_look c = (c.here.mem, c.ready.mem, looked c.here c.able)

  module _ (made : (d : Data) (x : Content) → Old d.mem → operand d.mem b n ≡ Some x → by (Some x) d ≡ behind (o ∷ []) d.mem (next_with d)) where
    looked_is : (d : Data) → Ready Old b d → move d ≢ Wrong → move d ≡ behind (o ∷ []) d.mem (next_with d)
    looked_is d r h = let x = looked d h in is d ∙ ap (λ c. by c d) x.1 ∙ made d x.0 r.mem x.1

    pub can_looked : CanMove Old b move → SomeMeant Old (Can o)
    can_looked c = can_one Old Old b (λ d. behind (o ∷ []) d.mem (next_with d)) o (λ d. refl) (can_as looked_is c)

    pub acts_looked : IsNoLeave o → Does Old New (effect o) → Acts Old New b Goes move
    acts_looked stays does = acts_as looked_is (acts_one Old New b (λ d. behind (o ∷ []) d.mem (next_with d)) o (λ d. refl) stays does)

-- ---- a link on top

settled_link : (is : List Item) (b : ℕ) (m : Mem) (go : Mem → Move) → is_link_item (nth_item is 0) ≡ true → settled_if is b m go ≡ behind (op.settle b ∷ []) m go
settled_link [] b m go h = absurd (cc)
settled_link (value c ∷ is) b m go h = absurd (cc)
settled_link (link s ∷ is) b m go h = refl

settled_value : (is : List Item) (b : ℕ) (m : Mem) (go : Mem → Move) → is_link_item (nth_item is 0) ≡ false → settled_if is b m go ≢ Wrong → settled_if is b m go ≡ behind [] m go
settled_value [] b m go h k = absurd (k refl)
settled_value (value c ∷ is) b m go h k = refl
settled_value (link s ∷ is) b m go h k = absurd (cc)

module _ (Old New : Mem → Type 0) (f : Frame) (t : Bool) (shown : (m : Mem) → Old m → t ≡ is_link m f.block 0) where
  abbrev settles : Data → Move
  settles d = settled_if (scope_of d.mem f.block).temps f.block d.mem (next_with d)

  settles_link : t ≡ true → (d : Data) → Ready Old f.block d → settles d ≢ Wrong → settles d ≡ behind (op.settle f.block ∷ []) d.mem (next_with d)
  settles_link e d r h = settled_link (scope_of d.mem f.block).temps f.block d.mem (next_with d) (sym (shown d.mem r.mem) ∙ e)

  settles_value : t ≡ false → (d : Data) → Ready Old f.block d → settles d ≢ Wrong → settles d ≡ behind [] d.mem (next_with d)
  settles_value e d r h = settled_value (scope_of d.mem f.block).temps f.block d.mem (next_with d) (sym (shown d.mem r.mem) ∙ e) h

  pub can_settle : t ≡ true → CanMove Old f.block settles → SomeMeant Old (Can (op.settle f.block))
  can_settle e c = can_one Old Old f.block (λ d. behind (op.settle f.block ∷ []) d.mem (next_with d)) (op.settle f.block) (λ d. refl) (can_as (settles_link e) c)

  pub acts_settle : t ≡ true → Does Old New (effect (op.settle f.block)) → Acts Old New f.block Goes settles
  acts_settle e does = acts_as (settles_link e) (acts_one Old New f.block (λ d. behind (op.settle f.block ∷ []) d.mem (next_with d)) (op.settle f.block) (λ d. refl) tt does)

  pub acts_settled : t ≡ false → Acts Old Old f.block Goes settles
  acts_settled e = acts_as (settles_value e) (acts_straight Old Old [] tt (λ d. refl) (λ m h. h))

pub block_there : (Means : Mem → Type 0) (b : ℕ) (move : Data → Move) → CanMove Means b move → SomeMeant Means (λ m. IsBlock m b)
block_there Means b move c = (c.here.mem, c.ready.mem, c.ready.block)
