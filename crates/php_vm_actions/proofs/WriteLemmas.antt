-- Actions that write.
use Rattle.std.proofs.Common.{◌≡◌, ◌≢◌, ℕ, List, Option, Some, None, refl, sym, ap, ◌∙◌, subst}
use Rattle.php_base.specs.Written.{GrewBy, GrewByPart}
use Rattle.php_memdef.specs.Contents.{Content, Mem}
use Rattle.php_memdef.specs.Meanings.{SomeMeant, EachMeant, Does}
use Rattle.php_memdef.specs.Operations.{Operation}
use Rattle.php_machine.specs.Moves.{Next, Wrong}
use Rattle.php_actions.specs.Data.{Frame, Data, Move, with_mem, next_with}
use Rattle.php_actions.specs.Operators.{text_if}
use Rattle.php_actions.specs.Output.{with_out, with_text}
use Rattle.php_actions.specs.Steps.{operand}
use Rattle.php_vm_actions.specs.declared.did.Did.{Did}
use Rattle.php_vm_actions.specs.declared.did.Did.TheVariants.{Goes, SinkFault, NoMemory}
use Rattle.php_vm_actions.specs.Straight.{CanAll, all, behind, LeaveNone}
use Rattle.php_vm_actions.specs.Acting.{Ready, CanMove, IsDoneWriting, ActsWriting}
use Rattle.php_vm_actions.specs.Operands.{HasOperand}
use Rattle.php_vm_actions.proofs.StraightLemmas.{behind_goes, kept_all}

-- a text is written, and operations are made behind it
module _ (Old New : Mem → Type 0) (wo wn : Option (List ℕ)) (b : ℕ) (text : List ℕ) (move : Data → Move) (os : List Operation) (none : LeaveNone os)
    (is : (d : Data) → move d ≡ behind os d.mem (next_with (with_out d text))) where
  row : (d : Data) → move d ≢ Wrong → CanAll os d.mem × (behind os d.mem (next_with (with_out d text)) ≡ Next (with_mem (with_out d text) (all os d.mem)))
  row d h = behind_goes os d.mem (next_with (with_out d text)) (λ e. h (is d ∙ e))

  pub can_write : CanMove Old b move → SomeMeant Old (CanAll os)
  can_write c = (c.here.mem, c.ready.mem, (row c.here c.able).0)

  pub writes_row : GrewBy wo wn text → Does Old New (all os) → ActsWriting Old New wo wn b Goes move
  writes_row grew does = record {
    each = λ d r h. record {
      to = with_mem (with_out d text) (all os d.mem);
      is = is d ∙ (row d h).1;
      text = text;
      grew = grew;
      wrote = record { mem = does d.mem r.mem; kept = kept_all os d.mem none (row d h).0; others = refl };
    };
  }

  pub fails_row : GrewByPart wo wn text → ActsWriting Old New wo wn b SinkFault move
  fails_row grew = record {
    each = λ d r h. record { to = with_mem (with_out d text) (all os d.mem); is = is d ∙ (row d h).1; text = text; grew = grew; out = refl; taken = refl };
  }

pub wants_writing : (Old New : Mem → Type 0) (w : Option (List ℕ)) (b : ℕ) (move : Data → Move) → ActsWriting Old New w w b NoMemory move
wants_writing Old New w b move = record { each = λ d r h. refl }

-- ---- the text on top

text_there : (o : Option Content) (go : List ℕ → Move) → with_text (text_if o) go ≢ Wrong → (x : Content) × (o ≡ Some x)
text_there None go h = absurd (h refl)
text_there (Some x) go h = (x, refl)

module _ (Old New : Mem → Type 0) (f : Frame) (go : List ℕ → Data → Move) where
  abbrev on_text : Data → Move
  on_text d = with_text (text_if (operand d.mem f.block 0)) (λ t. go t d)

  pub can_look_text : CanMove Old f.block on_text → SomeMeant Old (HasOperand f.block 0)
  can_look_text c = (c.here.mem, c.ready.mem, text_there (operand c.here.mem f.block 0) (λ t. go t c.here) c.able)

  module _ (t : List ℕ) (looked : EachMeant Old (λ m. HasOperand f.block 0 m → text_if (operand m f.block 0) ≡ Some t)) where
    text_is : (d : Data) → Ready Old f.block d → on_text d ≢ Wrong → on_text d ≡ go t d
    text_is d r h = ap (λ o. with_text o (λ t. go t d)) (looked d.mem r.mem (text_there (operand d.mem f.block 0) (λ t. go t d) h))

    pub can_go_text : CanMove Old f.block on_text → CanMove Old f.block (go t)
    can_go_text c = record { here = c.here; ready = c.ready; able = λ w. c.able (text_is c.here c.ready c.able ∙ w) }

    pub acts_text : (wo wn : Option (List ℕ)) (did : Did) → ActsWriting Old New wo wn f.block did (go t) → ActsWriting Old New wo wn f.block did on_text
    acts_text wo wn did acts = record {
      each = λ d r h. let e = text_is d r h in subst (IsDoneWriting New wo wn did d) (sym e) (acts.each d r (λ w. h (e ∙ w)));
    }
