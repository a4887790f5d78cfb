-- The words in which a call of a memory is described, over the memories that it can be taken for.
use Rattle.std.specs.Prelude.{◌≡◌, ℕ, ◌+◌, ◌≤◌, Bool, IsTrue, Option, None}
use Rattle.php_memdef.specs.declared.answer.NoObject.{NoObject}
use Rattle.php_memdef.specs.declared.answer.NoObject.TheVariants.{Limit, NoMemory}
use Rattle.php_memdef.specs.Contents.{Mem}
use Rattle.php_memdef.specs.Operations.{Can, effect, enter}

-- some memory that is meant has this
abbrev pub SomeMeant : (Mem → Type 0) → (Mem → Type 0) → Type 0
SomeMeant Means P = (m : Mem) × Means m × P m

-- each memory that was meant is meant still
abbrev pub Keeps : (Mem → Type 0) → (Mem → Type 0) → Type 0
Keeps Old New = (m : Mem) → Old m → New m

-- whichever memory was meant, what the operation makes of it is meant now
abbrev pub Does : (Mem → Type 0) → (Mem → Type 0) → (Mem → Mem) → Type 0
Does Old New op = (m : Mem) → Old m → New (op m)

-- the same of an operation with an answer, which this is
abbrev pub Answers : {R : Type 0} → (Mem → Type 0) → (Mem → Type 0) → R → (Mem → Mem × R) → Type 0
Answers Old New r op = (m : Mem) → Old m → New (op m).0 × (r ≡ (op m).1)

-- no object was made: no number is left in any memory that was meant, or memory was wanted
abbrev pub MakesNone : (Mem → Type 0) → (Mem → Type 0) → NoObject → (Mem → Mem × Option ℕ) → Type 0
MakesNone Old New Limit op = Answers Old New None op
MakesNone Old New NoMemory op = Keeps Old New

-- each memory that is meant has this
abbrev pub EachMeant : (Mem → Type 0) → (Mem → Type 0) → Type 0
EachMeant Means P = (m : Mem) → Means m → P m

-- the count of what was made never falls, and a frugal memory makes no more entries than the memory
-- that was meant allows
abbrev pub MakesAtMost : Bool → (Mem → Type 0) → ℕ → ℕ → (Mem → ℕ) → Type 0
MakesAtMost frugal Old before after cost = (before ≤ after) × (IsTrue frugal → (m : Mem) → Old m → after ≤ before + cost m)

-- a block that no memory that was meant has is made in each of them
abbrev pub Enters : (Mem → Type 0) → (Mem → Type 0) → ℕ → ℕ → Type 0
Enters Old New b room = (m : Mem) → Old m → Can (enter b room) m × New (effect (enter b room) m)
