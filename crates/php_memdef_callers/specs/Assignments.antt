-- What the callers make of a memory, and what they need of it.
use Rattle.std.specs.Prelude.{ℕ, Bool, true, false, List, [], ◌∷◌, Option, Some, None}
use Rattle.php_value.specs.declared.scalar.Scalar.{Scalar}
use Rattle.php_value.specs.declared.scalar.Scalar.TheVariants.{Int}
use Rattle.php_entries.specs.Listing.{count_of}
use Rattle.php_memdef.specs.declared.place.Place.{Place}
use Rattle.php_memdef.specs.declared.answer.Read.{Read}
use Rattle.php_memdef.specs.declared.answer.Fallen.{Fallen}
use Rattle.php_memdef.specs.declared.answer.Wrote.{Wrote}
use Rattle.php_memdef.specs.declared.answer.Wrote.TheVariants.{Done, NotArray, Full, Limit}
use Rattle.php_memdef.specs.Contents.{Content, null, truth, int, text, array, object, Mem}
use Rattle.php_memdef.specs.Temporaries as temporaries
use Rattle.php_memdef.specs.Writes as writes
use Rattle.php_memdef.specs.Releases.{fall}
use Rattle.php_memdef.specs.Objects.{make_object}
use Rattle.php_memdef.specs.Conditions.{IsBlock, CanPush, CanAssign, CanCopy, CanDropTop, CanMakeObject}
use Rattle.php_memdef_callers.specs.declared.callers.Setting.{Setting}

abbrev pub assigned : Mem → ℕ → Scalar → Place → Mem × Wrote
assigned m b v to = writes.assign (temporaries.push m b v) b to

-- a value is assigned, and what stands at the place then is copied
abbrev pub assigned_and_read : Mem → ℕ → Scalar → Place → Mem × (Wrote × Read)
assigned_and_read m b v to =
    let wrote = assigned m b v to in
    let read = temporaries.copy wrote.0 b to in
    (read.0, (wrote.1, read.1))

abbrev pub dropped_unless_done : Wrote → Mem → ℕ → Mem × Bool
dropped_unless_done Done m b = (m, true)
dropped_unless_done NotArray m b = (temporaries.drop_top m b, false)
dropped_unless_done Full m b = (temporaries.drop_top m b, false)
dropped_unless_done Limit m b = (temporaries.drop_top m b, false)

-- a value is assigned, or it falls
abbrev pub assigned_or_dropped : Mem → ℕ → Scalar → Place → Mem × Bool
assigned_or_dropped m b v to = let wrote = assigned m b v to in dropped_unless_done wrote.1 wrote.0 b

abbrev pub all_assigned : Mem → ℕ → List Setting → Mem
all_assigned m b [] = m
all_assigned m b (s ∷ ss) = all_assigned (assigned_and_read m b (Int s.number) s.place).0 b ss

pub record CanAssignAndRead (b : ℕ) (v : Scalar) (to : Place) (m : Mem) : Type 0 where
  pub push : CanPush b v m
  pub assign : CanAssign b to (temporaries.push m b v)
  pub copy : CanCopy b to (assigned m b v to).0

pub record CanAssignOrDrop (b : ℕ) (v : Scalar) (to : Place) (m : Mem) : Type 0 where
  pub push : CanPush b v m
  pub assign : CanAssign b to (temporaries.push m b v)
  pub drop : CanDropTop b (assigned m b v to).0

abbrev pub CanAssignAll : ℕ → List Setting → Mem → Type 0
CanAssignAll b [] m = Unit {0}
CanAssignAll b (s ∷ ss) m = CanAssignAndRead b (Int s.number) s.place m × CanAssignAll b ss (assigned_and_read m b (Int s.number) s.place).0

-- an object with a destructor is made, its handle falls, and what has fallen is released
abbrev pub made_and_dropped : Mem → ℕ → ℕ → Mem × Fallen
made_and_dropped m b class = fall (temporaries.drop_top (make_object m b class true).0 b) b

pub record CanMakeAndDrop (b class : ℕ) (m : Mem) : Type 0 where
  pub make : CanMakeObject b m
  pub drop : CanDropTop b (make_object m b class true).0
  pub fall : IsBlock (temporaries.drop_top (make_object m b class true).0 b) b

abbrev pub entries_of : Option Content → Option ℕ
entries_of None = None
entries_of (Some null) = None
entries_of (Some (truth b)) = None
entries_of (Some (int i)) = None
entries_of (Some (text bytes)) = None
entries_of (Some (array t)) = Some (count_of t)
entries_of (Some (object h)) = None
