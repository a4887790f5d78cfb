-- Reading and assigning variables.
use Rattle.std.proofs.Common.{◌≡◌, ◌≢◌, ℕ, ◌+◌, Bool, true, false, cond, List, [], ◌∷◌, Option, Some, None, refl, sym, ap, ◌∙◌, subst}
use Rattle.php_value.specs.declared.scalar.Scalar.{Scalar}
use Rattle.php_value.specs.declared.scalar.Scalar.TheVariants as scalar
use Rattle.php_value.specs.declared.fault.Fault.TheVariants.{ArrayLimit}
use Rattle.php_value.specs.declared.error_kind.TheConstants.ErrorKind.{NO_KEY_LEFT}
use Rattle.php_memdef.specs.declared.place.Place.{Place}
use Rattle.php_memdef.specs.declared.answer.Read.{Read}
use Rattle.php_memdef.specs.declared.answer.Read.TheVariants.{Found, Absent}
use Rattle.php_memdef.specs.declared.answer.Wrote.{Wrote}
use Rattle.php_memdef.specs.declared.answer.Wrote.TheVariants.{Done, NotArray, Full, Limit}
use Rattle.php_memdef.specs.Contents.{Content, null, Mem}
use Rattle.php_memdef.specs.Places.{Spot, base_spot, find_place, Walk, reached, stopped, walk}
use Rattle.php_memdef.specs.Temporaries.{copy, copy_of_spot}
use Rattle.php_memdef.specs.Writes.{assign, assigned}
use Rattle.php_memdef.specs.Views.{content_if_found, cost_of}
use Rattle.php_memdef.specs.Reading.{gives, loud, reading, content_or_null}
use Rattle.php_memdef.specs.Meanings.{SomeMeant, Does, Answers}
use Rattle.php_memdef.specs.Operations.{Operation, Can, run, effect}
use Rattle.php_memdef.specs.Operations as op
use Rattle.php_memdef.specs.Deciders.{can}
use Rattle.php_memdef_laws.proofs.DecidedOperations.{can-decides}
use Rattle.php_machine.specs.Moves.{Next, End, Wrong}
use Rattle.php_actions.specs.Data.{Frame, Data, Move, with_mem, on, next_with}
use Rattle.php_actions.specs.Contents.{scalar_of}
use Rattle.php_actions.specs.Steps.{written, copied_or_pushed, read_as}
use Rattle.php_vm_actions.specs.declared.did.Did.{Did}
use Rattle.php_vm_actions.specs.declared.did.Did.TheVariants.{Goes, Ends, SinkFault, NoMemory}
use Rattle.php_vm_actions.specs.declared.did.Cause.TheVariants.{Fault as FaultCause, Error}
use Rattle.php_vm_actions.specs.Causes.{ending_of}
use Rattle.php_vm_actions.specs.Straight.{Kept, IsNoLeave, behind}
use Rattle.php_vm_actions.specs.Acting.{Ready, CanMove, IsDone, Acts}
use Rattle.php_vm_actions.specs.Variables.{place_of, variable_read, variable_written}
use Rattle.php_vm_actions.proofs.StraightLemmas.{kept_one, kept_both, kept_none}

-- ---- an operation, and a move behind it

on_able : (t : Bool) (n : Mem) (go : Mem → Move) → on t n go ≢ Wrong → (t ≡ true) × (on t n go ≡ go n)
on_able true n go h = (refl, refl)
on_able false n go h = absurd (h refl)

cond_able : (t : Bool) (x : Move) → cond t x Wrong ≢ Wrong → (t ≡ true) × (cond t x Wrong ≡ x)
cond_able true x h = (refl, refl)
cond_able false x h = absurd (h refl)

done_after : (New : Mem → Type 0) (d : Data) (m : Mem) (did : Did) (move : Move) → Kept d.mem m → IsDone New did (with_mem d m) move → IsDone New did d move
done_after New d m Goes move k h = record { to = h.to; is = h.is; follows = record { mem = h.follows.mem; kept = kept_both d.mem m h.to.mem k h.follows.kept; others = h.follows.others } }
done_after New d m (Ends cause) move k h = record { to = h.to; is = h.is; follows = record { mem = h.follows.mem; kept = kept_both d.mem m h.to.mem k h.follows.kept; others = h.follows.others } }
done_after New d m SinkFault move k h = absurd h
done_after New d m NoMemory move k h = tt

module _ (Old Mid New : Mem → Type 0) (b : ℕ) (o : Operation) (stays : IsNoLeave o) (rest : Data → Move) where
  abbrev after_one : Data → Move
  after_one d = on (can o d.mem) (effect o d.mem) (λ m. rest (with_mem d m))

  pub ready_after : Does Old Mid (effect o) → (d : Data) → Ready Old b d → Can o d.mem → Ready Mid b (with_mem d (effect o d.mem))
  ready_after does d r c = record { mem = does d.mem r.mem; block = (kept_one o d.mem stays c).blocks b r.block; constants = r.constants }

  pub can_after : Does Old Mid (effect o) → CanMove Old b after_one → CanMove Mid b rest
  can_after does c =
      let t = on_able (can o c.here.mem) (effect o c.here.mem) (λ m. rest (with_mem c.here m)) c.able in
      record { here = with_mem c.here (effect o c.here.mem); ready = ready_after does c.here c.ready ((can-decides c.here.mem o).0 t.0); able = λ w. c.able (t.1 ∙ w) }

  pub acts_after : (did : Did) → Does Old Mid (effect o) → Acts Mid New b did rest → Acts Old New b did after_one
  acts_after did does acts = record {
    each = λ d r h.
        let t = on_able (can o d.mem) (effect o d.mem) (λ m. rest (with_mem d m)) h in
        let c = (can-decides d.mem o).0 t.0 in
        subst (IsDone New did d) (sym t.1)
        (done_after New d (effect o d.mem) did (rest (with_mem d (effect o d.mem))) (kept_one o d.mem stays c)
        (acts.each (with_mem d (effect o d.mem)) (ready_after does d r c) (λ w. h (t.1 ∙ w))));
  }

-- ---- writes

module _ (Old New : Mem → Type 0) (f : Frame) (name : ℕ) (place : Place) (place_is : place ≡ place_of f.block name) where
  abbrev p : Place
  p = place_of f.block name

  abbrev b : ℕ
  b = f.block

  answers_of : (w : Wrote) → Answers Old New w (run (op.assign b place)) → Answers Old New w (run (op.assign b p))
  answers_of w h = subst (λ (q : Place). Answers Old New w (run (op.assign b q))) place_is h

  write_able : (d : Data) → variable_written name f d ≢ Wrong → Can (op.assign b p) d.mem × (variable_written name f d ≡ written (assign d.mem b p) p f d (λ e. next_with e e.mem))
  write_able d h =
      let t = cond_able (can (op.assign b p) d.mem) (written (assign d.mem b p) p f d (λ e. next_with e e.mem)) h in
      ((can-decides d.mem (op.assign b p)).0 t.0, t.1)

  written_done : (r : Mem × Wrote) (d : Data) → Done ≡ r.1 → written r p f d (λ e. next_with e e.mem) ≡ Next (record d { mem = r.0; writes = d.writes + cost_of d.mem p })
  written_done (m, Done) d h = refl
  written_done (m, NotArray) d h = absurd (cc)
  written_done (m, Full) d h = absurd (cc)
  written_done (m, Limit) d h = absurd (cc)

  pub acts_done : Answers Old New Done (run (op.assign b place)) → Acts Old New b Goes (variable_written name f)
  acts_done answers = record {
    each = λ d r h.
        let t = write_able d h in
        let a = answers_of Done answers d.mem r.mem in
        record {
          to = record d { mem = (assign d.mem b p).0; writes = d.writes + cost_of d.mem p };
          is = t.1 ∙ written_done (assign d.mem b p) d a.1;
          follows = record { mem = a.0; kept = kept_one (op.assign b p) d.mem tt t.0; others = refl };
        };
  }

  -- a write that isn't done leaves the memory as it is
  assigned_same : (w : Walk) (m : Mem) → Done ≢ (assigned w m b).1 → (assigned w m b).0 ≡ m
  assigned_same (reached n spot) m h = absurd (h refl)
  assigned_same (stopped why) m h = refl

  assign_same : (m : Mem) (w : Wrote) → Done ≢ w → w ≡ (assign m b p).1 → (assign m b p).0 ≡ m
  unfolding assign
  assign_same m w h e = assigned_same (walk m p.base p.path) m (λ x. h (x ∙ sym e))

  written_full : (r : Mem × Wrote) (d : Data) → Full ≡ r.1 → written r p f d (λ e. next_with e e.mem) ≡ End (ending_of (Error NO_KEY_LEFT [] f.line)) d
  written_full (m, Done) d h = absurd (cc)
  written_full (m, NotArray) d h = absurd (cc)
  written_full (m, Full) d h = refl
  written_full (m, Limit) d h = absurd (cc)

  written_limit : (r : Mem × Wrote) (d : Data) → Limit ≡ r.1 → written r p f d (λ e. next_with e e.mem) ≡ End (ending_of (FaultCause ArrayLimit f.line)) d
  written_limit (m, Done) d h = absurd (cc)
  written_limit (m, NotArray) d h = absurd (cc)
  written_limit (m, Full) d h = absurd (cc)
  written_limit (m, Limit) d h = refl

  stays_meant : (w : Wrote) → Done ≢ w → Answers Old New w (run (op.assign b place)) → (d : Data) → Old d.mem → New d.mem
  stays_meant w h answers d o = let a = answers_of w answers d.mem o in subst New (assign_same d.mem w h a.1) a.0

  pub acts_full : (text : List ℕ) (line : ℕ) → text ≡ [] → line ≡ f.line → Answers Old New Full (run (op.assign b place)) → Acts Old New b (Ends (Error NO_KEY_LEFT text line)) (variable_written name f)
  acts_full text line e l answers = record {
    each = λ d r h.
        let t = write_able d h in
        let a = answers_of Full answers d.mem r.mem in
        record {
          to = d;
          is = t.1 ∙ written_full (assign d.mem b p) d a.1 ∙ (λ i. End (ending_of (Error NO_KEY_LEFT (sym e i) (sym l i))) d);
          follows = record { mem = stays_meant Full (λ x. cc) answers d r.mem; kept = kept_none d.mem; others = refl };
        };
  }

  pub acts_limit : (line : ℕ) → line ≡ f.line → Answers Old New Limit (run (op.assign b place)) → Acts Old New b (Ends (FaultCause ArrayLimit line)) (variable_written name f)
  acts_limit line l answers = record {
    each = λ d r h.
        let t = write_able d h in
        let a = answers_of Limit answers d.mem r.mem in
        record {
          to = d;
          is = t.1 ∙ written_limit (assign d.mem b p) d a.1 ∙ (λ i. End (ending_of (FaultCause ArrayLimit (sym l i))) d);
          follows = record { mem = stays_meant Limit (λ x. cc) answers d r.mem; kept = kept_none d.mem; others = refl };
        };
  }

-- ---- reads

module _ (Old New : Mem → Type 0) (f : Frame) (name : ℕ) (place : Place) (place_is : place ≡ place_of f.block name) where
  abbrev at : Place
  at = place_of f.block name

  abbrev here : Mem → Content
  here m = content_or_null (content_if_found m (base_spot m at.base))

  reading_is : (m : Mem) → reading loud m at ≡ gives (here m)
  unfolding reading
  reading_is m = refl

  read_is : (d : Data) → variable_read name f d ≡ cond (can (op.copy f.block at) d.mem) (copied_or_pushed (copy d.mem f.block at) f.block (scalar_of (here d.mem)) d.mem (next_with d)) Wrong
  read_is d = ap (λ r. read_as r at f d (next_with d)) (reading_is d.mem)

  read_able : (d : Data) → variable_read name f d ≢ Wrong
      → Can (op.copy f.block at) d.mem × (variable_read name f d ≡ copied_or_pushed (copy d.mem f.block at) f.block (scalar_of (here d.mem)) d.mem (next_with d))
  read_able d h =
      let t = cond_able (can (op.copy f.block at) d.mem) (copied_or_pushed (copy d.mem f.block at) f.block (scalar_of (here d.mem)) d.mem (next_with d)) (λ w. h (read_is d ∙ w)) in
      ((can-decides d.mem (op.copy f.block at)).0 t.0, read_is d ∙ t.1)

  pub can_read : CanMove Old f.block (variable_read name f) → SomeMeant Old (Can (op.copy f.block place))
  can_read c = (c.here.mem, c.ready.mem, subst (λ (q : Place). Can (op.copy f.block q) c.here.mem) (sym place_is) (read_able c.here c.able).0)

  answered : (w : Read) → Answers Old New w (run (op.copy f.block place)) → Answers Old New w (run (op.copy f.block at))
  answered w h = subst (λ (q : Place). Answers Old New w (run (op.copy f.block q))) place_is h

  found_goes : (r : Mem × Read) (v : Option Scalar) (d : Data) → Found ≡ r.1 → copied_or_pushed r f.block v d.mem (next_with d) ≡ Next (with_mem d r.0)
  found_goes (m, Found) v d h = refl
  found_goes (m, Absent) v d h = absurd (cc)

  pub acts_found : Answers Old New Found (run (op.copy f.block place)) → Acts Old New f.block Goes (variable_read name f)
  acts_found answers = record {
    each = λ d r h.
        let t = read_able d h in
        let a = answered Found answers d.mem r.mem in
        record {
          to = with_mem d (copy d.mem f.block at).0;
          is = t.1 ∙ found_goes (copy d.mem f.block at) (scalar_of (here d.mem)) d a.1;
          follows = record { mem = a.0; kept = kept_one (op.copy f.block at) d.mem tt t.0; others = refl };
        };
  }

  absent_here : (o : Option Spot) (m : Mem) → Absent ≡ (copy_of_spot o m f.block).1 → ((copy_of_spot o m f.block).0 ≡ m) × (content_or_null (content_if_found m o) ≡ null)
  absent_here None m h = (refl, refl)
  absent_here (Some spot) m h = absurd (cc)

  absent_is : (m : Mem) → Absent ≡ (copy m f.block at).1 → ((copy m f.block at).0 ≡ m) × (here m ≡ null)
  unfolding copy find_place
  absent_is m h = absent_here (base_spot m at.base) m h

  absent_goes : (r : Mem × Read) (c : Content) (d : Data) → Absent ≡ r.1 → c ≡ null → copied_or_pushed r f.block (scalar_of c) d.mem (next_with d) ≡ behind (op.push f.block scalar.Null ∷ []) d.mem (next_with d)
  absent_goes (m, Found) c d h e = absurd (cc)
  absent_goes (m, Absent) c d h e = ap (λ x. copied_or_pushed (m, Absent) f.block (scalar_of x) d.mem (next_with d)) e

  abbrev null_pushed : Data → Move
  null_pushed d = behind (op.push f.block scalar.Null ∷ []) d.mem (next_with d)

  read_absent : Answers Old New Absent (run (op.copy f.block place)) → (d : Data) → Ready Old f.block d → variable_read name f d ≢ Wrong → variable_read name f d ≡ null_pushed d
  read_absent answers d r h =
      let t = read_able d h in
      let a = answered Absent answers d.mem r.mem in
      t.1 ∙ absent_goes (copy d.mem f.block at) (here d.mem) d a.1 (absent_is d.mem a.1).1

  still_meant : Answers Old New Absent (run (op.copy f.block place)) → (d : Data) → Old d.mem → New d.mem
  still_meant answers d o = let a = answered Absent answers d.mem o in subst New (absent_is d.mem a.1).0 a.0

  pub can_push_null : Answers Old New Absent (run (op.copy f.block place)) → CanMove Old f.block (variable_read name f) → SomeMeant New (Can (op.push f.block scalar.Null))
  can_push_null answers c =
      let e = read_absent answers c.here c.ready c.able in
      let t = on_able (can (op.push f.block scalar.Null) c.here.mem) (effect (op.push f.block scalar.Null) c.here.mem) (next_with c.here) (λ w. c.able (e ∙ w)) in
      (c.here.mem, still_meant answers c.here c.ready.mem, (can-decides c.here.mem (op.push f.block scalar.Null)).0 t.0)

  pub acts_absent : (Last : Mem → Type 0) → Answers Old New Absent (run (op.copy f.block place)) → Does New Last (effect (op.push f.block scalar.Null)) → Acts Old Last f.block Goes (variable_read name f)
  acts_absent Last answers does = record {
    each = λ d r h.
        let e = read_absent answers d r h in
        let t = on_able (can (op.push f.block scalar.Null) d.mem) (effect (op.push f.block scalar.Null) d.mem) (next_with d) (λ w. h (e ∙ w)) in
        record {
          to = with_mem d (effect (op.push f.block scalar.Null) d.mem);
          is = e ∙ t.1;
          follows = record { mem = does d.mem (still_meant answers d r.mem); kept = kept_one (op.push f.block scalar.Null) d.mem tt ((can-decides d.mem (op.push f.block scalar.Null)).0 t.0); others = refl };
        };
  }
