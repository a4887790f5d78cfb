-- Controls: what is still to be done in a frame. C is the type of a control.
use Rattle.std.specs.Prelude.{ℕ, nat_eq, cond, List, [], ◌∷◌, Option, Some, None}

-- what comes first, and where the control is behind it
pub data Fetch (A C : Type 0) : Type 0 where
  -- nothing is done
  Silent : (next : C) → Fetch A C
  Act : (action : A) (next : C) → Fetch A C
  -- the value on top chooses
  Branch : (when_true when_false : C) → Fetch A C

-- a kind of control
pub record Control (A W C : Type 0) : Type 0 where
  -- a function's beginning
  pub start : ℕ → C
  -- a function comes before what is still to be done
  pub inside : ℕ → C → C
  pub fetch : C → Fetch A C
  -- where a completion is served, if it is
  pub serve : W → C → Option C

-- the control of a frame that is kept for an object
pub record Kept (C : Type 0) : Type 0 where
  pub object : ℕ
  pub control : C

-- a kept control that was taken out, and the others
pub record Taken (C : Type 0) : Type 0 where
  pub control : C
  pub others : List (Kept C)

abbrev pub beside : {C : Type 0} → Kept C → Option (Taken C) → Option (Taken C)
beside k None = None
beside k (Some t) = Some (record t { others = k ∷ t.others })

-- what is kept for an object, taken out
abbrev pub take_out : {C : Type 0} → ℕ → List (Kept C) → Option (Taken C)
take_out g [] = None
take_out g (k ∷ ks) = cond (nat_eq g k.object) (Some (record { control = k.control; others = ks })) (beside k (take_out g ks))
