-- Operations that are made one after another.
use Rattle.std.specs.Prelude.{ℕ, zero, suc, List, [], ◌∷◌, ◌++◌}
use Rattle.php_value.specs.declared.scalar.Scalar.{Scalar}
use Rattle.php_memdef.specs.Contents.{Mem}
use Rattle.php_memdef.specs.Conditions.{IsBlock}
use Rattle.php_memdef.specs.Operations.{Operation, Can, effect}
use Rattle.php_memdef.specs.Operations as op
use Rattle.php_memdef.specs.Deciders.{can}
use Rattle.php_actions.specs.Data.{Move, on}

-- each may be made after those before it
abbrev pub CanAll : List Operation → Mem → Type 0
CanAll [] m = Unit {0}
CanAll (o ∷ os) m = Can o m × CanAll os (effect o m)

-- what they make of a memory
abbrev pub all : List Operation → Mem → Mem
all [] m = m
all (o ∷ os) m = all os (effect o m)

-- the move behind them, where each may be made
abbrev pub behind : List Operation → Mem → (Mem → Move) → Move
behind [] m go = go m
behind (o ∷ os) m go = on (can o m) (effect o m) (λ n. behind os n go)

-- n temporaries fall, the top first
abbrev pub drops_of : ℕ → ℕ → List Operation
drops_of b zero = []
drops_of b (suc n) = op.drop_top b ∷ drops_of b n

-- the n temporaries under the top fall, the lowest first
abbrev pub sink_of : ℕ → ℕ → List Operation
sink_of b zero = []
sink_of b (suc n) = op.turn b (suc (suc n)) ∷ drops_of b (suc n)

-- the n temporaries under the top fall, the highest first
abbrev pub trim_of : ℕ → ℕ → List Operation
trim_of b zero = []
trim_of b (suc n) = op.turn b (suc (suc n)) ∷ op.turn b (suc n) ∷ drops_of b (suc n)

-- the n top temporaries fall, the lowest of them first, and a value comes
abbrev pub replace_of : ℕ → ℕ → Scalar → List Operation
replace_of b n v = op.turn b n ∷ (drops_of b n ++ op.push b v ∷ [])

-- the blocks stay
pub record Kept (m n : Mem) : Type 0 where
  pub blocks : (b : ℕ) → IsBlock m b → IsBlock n b

-- operations after which each block is there still
abbrev pub IsNoLeave : Operation → Type 0
IsNoLeave (op.leave b) = ⊥
IsNoLeave _ = Unit {0}

abbrev pub LeaveNone : List Operation → Type 0
LeaveNone [] = Unit {0}
LeaveNone (o ∷ os) = IsNoLeave o × LeaveNone os
