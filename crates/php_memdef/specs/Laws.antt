-- How the operations treat memories that differ in the numbers of their stores alone. What is named
-- in the first of them is there, as in every memory that the operations lead to.
use Rattle.std.specs.Prelude.{◌≡◌}
use Rattle.php_memdef.specs.Contents.{Mem}
use Rattle.php_memdef.specs.Sound.{IsClosed, IsFormed, IsHeld, IsSound}
use Rattle.php_memdef.specs.Alike.{Alike}

-- alike memories become alike memories
abbrev pub RespectsAlike : (Mem → Mem) → Type 0
RespectsAlike op = (m n : Mem) → IsClosed m → Alike m n → Alike (op m) (op n)

-- and the answer is one
abbrev pub AnswersAlike : {R : Type 0} → (Mem → Mem × R) → Type 0
AnswersAlike op = (m n : Mem) → IsClosed m → Alike m n → Alike (op m).0 (op n).0 × ((op n).1 ≡ (op m).1)

-- alike memories show the same
abbrev pub ShowsAlike : {R : Type 0} → (Mem → R) → Type 0
ShowsAlike view = (m n : Mem) → Alike m n → view n ≡ view m

-- what holds of a memory holds of all that are alike
abbrev pub HoldsAlike : (Mem → Type 0) → Type 0
HoldsAlike P = (m n : Mem) → Alike m n → P m → P n

-- where every named store is there, it is so afterwards
abbrev pub KeepsClosed : (Mem → Mem) → Type 0
KeepsClosed op = (m : Mem) → IsClosed m → IsClosed (op m)

-- each part is as it should be afterwards, where the operation may be called
abbrev pub KeepsFormed : (Mem → Type 0) → (Mem → Mem) → Type 0
KeepsFormed Can op = (m : Mem) → IsFormed m → Can m → IsFormed (op m)

-- what is there has a holder afterwards too, where the operation may be called
abbrev pub KeepsHeld : (Mem → Type 0) → (Mem → Mem) → Type 0
KeepsHeld Can op = (m : Mem) → IsHeld m → Can m → IsHeld (op m)

-- a sound memory stays sound, where the operation may be called
abbrev pub KeepsSound : (Mem → Type 0) → (Mem → Mem) → Type 0
KeepsSound Can op = (m : Mem) → IsSound m → Can m → IsSound (op m)
