-- The operations on a memory, as data: when each may be made, what it makes of a memory, what it
-- answers, and how many array entries it may make.
use Rattle.std.specs.Prelude.{◌≡◌, ℕ, ◌+◌, Bool, List, [], ◌∷◌, length, Option, Some, None}
use Rattle.php_value.specs.declared.scalar.Scalar.{Scalar}
use Rattle.php_entries.specs.Listing.{Entry, Listing}
use Rattle.php_memdef.specs.declared.place.Place.{Place}
use Rattle.php_memdef.specs.declared.answer.Read.{Read}
use Rattle.php_memdef.specs.declared.answer.Wrote.{Wrote}
use Rattle.php_memdef.specs.declared.answer.Wrote.TheVariants.{Done, NotArray, Full, Limit}
use Rattle.php_memdef.specs.declared.answer.Fallen.{Fallen}
use Rattle.php_memdef.specs.Numbered.{numbered}
use Rattle.php_memdef.specs.Contents.{Mem}
use Rattle.php_memdef.specs.Temporaries as temporaries
use Rattle.php_memdef.specs.Writes as writes
use Rattle.php_memdef.specs.Releases as releases
use Rattle.php_memdef.specs.Objects as objects
use Rattle.php_memdef.specs.Views.{found, elements_if_found, cost_of}
use Rattle.php_memdef.specs.Conditions.{IsBlock, IsObject, CanLeave, CanPush, CanPushArray, CanPushObject, CanCopy, CanAssign, CanLink, CanBind, CanSettle, CanPass, CanTurn, CanAppend, CanUnset, CanUnsetLast, CanForget, CanDropTop, CanMakeObject, CanClone, CanAttach}

-- an operation with its arguments: b is the block in which it is made, h an object
pub data Operation : Type 0 where
  enter : (b room : ℕ) → Operation
  leave : (b : ℕ) → Operation
  push : (b : ℕ) (v : Scalar) → Operation
  push_array : (b : ℕ) → Operation
  push_object : (b h : ℕ) → Operation
  copy : (b : ℕ) (from : Place) → Operation
  assign : (b : ℕ) (to : Place) → Operation
  link : (b : ℕ) (from : Place) → Operation
  bind : (b : ℕ) (to : Place) → Operation
  settle : (b : ℕ) → Operation
  pass : (from to : ℕ) → Operation
  turn : (b n : ℕ) → Operation
  reserve : (b n : ℕ) → Operation
  append : (b : ℕ) (to : Place) → Operation
  unset : (b : ℕ) (at : Place) → Operation
  unset_last : (b : ℕ) (at : Place) → Operation
  forget : (b name : ℕ) → Operation
  shed : (b : ℕ) → Operation
  drop_top : (b : ℕ) → Operation
  fall : (b : ℕ) → Operation
  make_object : (b class : ℕ) (finishing : Bool) → Operation
  clone_object : (b : ℕ) → Operation
  finish : (h : ℕ) → Operation
  spare : (h : ℕ) → Operation
  attach : (h : ℕ) (frame : Option ℕ) → Operation

-- the operation may be made in the memory
abbrev pub Can : Operation → Mem → Type 0
Can (enter b room) m = numbered m.blocks b ≡ None
Can (leave b) m = CanLeave b m
Can (push b v) m = CanPush b v m
Can (push_array b) m = CanPushArray b m
Can (push_object b h) m = CanPushObject b h m
Can (copy b from) m = CanCopy b from m
Can (assign b to) m = CanAssign b to m
Can (link b from) m = CanLink b from m
Can (bind b to) m = CanBind b to m
Can (settle b) m = CanSettle b m
Can (pass from to) m = CanPass from to m
Can (turn b n) m = CanTurn b n m
Can (reserve b n) m = IsBlock m b
Can (append b to) m = CanAppend b to m
Can (unset b at) m = CanUnset b at m
Can (unset_last b at) m = CanUnsetLast b at m
Can (forget b name) m = CanForget b m
Can (shed b) m = CanForget b m
Can (drop_top b) m = CanDropTop b m
Can (fall b) m = IsBlock m b
Can (make_object b class finishing) m = CanMakeObject b m
Can (clone_object b) m = CanClone b m
Can (finish h) m = IsObject m h
Can (spare h) m = IsObject m h
Can (attach h frame) m = CanAttach h frame m

-- what an operation answers
abbrev pub Answer : Operation → Type 0
Answer (enter b room) = Unit {0}
Answer (leave b) = Unit {0}
Answer (push b v) = Unit {0}
Answer (push_array b) = Unit {0}
Answer (push_object b h) = Unit {0}
Answer (copy b from) = Read
Answer (assign b to) = Wrote
Answer (link b from) = Wrote
Answer (bind b to) = Wrote
Answer (settle b) = Unit {0}
Answer (pass from to) = Unit {0}
Answer (turn b n) = Unit {0}
Answer (reserve b n) = Unit {0}
Answer (append b to) = Unit {0}
Answer (unset b at) = Unit {0}
Answer (unset_last b at) = Unit {0}
Answer (forget b name) = Unit {0}
Answer (shed b) = Bool
Answer (drop_top b) = Unit {0}
Answer (fall b) = Fallen
Answer (make_object b class finishing) = Option ℕ
Answer (clone_object b) = Option ℕ
Answer (finish h) = Unit {0}
Answer (spare h) = Unit {0}
Answer (attach h frame) = Unit {0}

-- the memory that the operation leaves, and its answer
abbrev pub run : (o : Operation) → Mem → Mem × Answer o
run (enter b room) m = (temporaries.enter m b room, tt)
run (leave b) m = (temporaries.leave m b, tt)
run (push b v) m = (temporaries.push m b v, tt)
run (push_array b) m = (temporaries.push_array m b, tt)
run (push_object b h) m = (temporaries.push_object m b h, tt)
run (copy b from) m = temporaries.copy m b from
run (assign b to) m = writes.assign m b to
run (link b from) m = writes.make_link m b from
run (bind b to) m = writes.bind m b to
run (settle b) m = (temporaries.settle m b, tt)
run (pass from to) m = (temporaries.pass m from to, tt)
run (turn b n) m = (temporaries.turn m b n, tt)
run (reserve b n) m = (temporaries.reserve m b n, tt)
run (append b to) m = (writes.append m b to, tt)
run (unset b at) m = (writes.unset m b at, tt)
run (unset_last b at) m = (writes.unset_last m b at, tt)
run (forget b name) m = (writes.forget m b name, tt)
run (shed b) m = writes.shed m b
run (drop_top b) m = (temporaries.drop_top m b, tt)
run (fall b) m = releases.fall m b
run (make_object b class finishing) m = objects.make_object m b class finishing
run (clone_object b) m = objects.clone_object m b
run (finish h) m = (objects.finish m h, tt)
run (spare h) m = (objects.spare m h, tt)
run (attach h frame) m = (objects.attach m h frame, tt)

abbrev pub effect : Operation → Mem → Mem
effect o m = (run o m).0

abbrev pub answer : (o : Operation) → Mem → Answer o
answer o m = (run o m).1

-- a write that is refused makes nothing
abbrev pub cost_if_done : Wrote → ℕ → ℕ
cost_if_done Done n = n
cost_if_done NotArray n = 0
cost_if_done Full n = 0
cost_if_done Limit n = 0

-- removing the last element costs what removing it by its key does; where the place has no element,
-- the steps of its path alone

abbrev pub cost_of_last : List (Entry ℕ) → Mem → Place → ℕ
cost_of_last [] m at = length at.path
cost_of_last (e ∷ es) m at = cost_of m at + (1 + length (e ∷ es))

abbrev pub cost_of_last_if : Option (Listing ℕ) → Mem → Place → ℕ
cost_of_last_if None m at = length at.path
cost_of_last_if (Some t) m at = cost_of_last t.entries m at

-- the most entries of arrays that a frugal memory makes for an operation
abbrev pub cost : Operation → Mem → ℕ
cost (assign b to) m = cost_if_done (writes.assign m b to).1 (cost_of m to)
cost (link b from) m = cost_if_done (writes.make_link m b from).1 (cost_of m from)
cost (bind b to) m = cost_if_done (writes.bind m b to).1 (cost_of m to)
cost (append b to) m = cost_of m to
cost (unset b at) m = cost_of m at
cost (unset_last b at) m = cost_of_last_if (elements_if_found (found m at)) m at
cost _ m = 0
