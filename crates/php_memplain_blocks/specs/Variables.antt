-- A block from which a variable goes.
use Rattle.std.specs.Prelude.{◌≡◌, ◌<◌, ◌+◌, ℕ, Bool, true, false, List, [], ◌∷◌, ◌++◌, length, map, take, drop, slice_index_or, Option, Some, None}
use Rattle.php_memdef.specs.Contents as model
use Rattle.php_memdef.specs.Contents.{Scope, link}
use Rattle.php_memdef.specs.Places.{variable_store}
use Rattle.php_memdef.specs.Writes.{without_variable}
use Rattle.php_memplain_cells.specs.declared.block.Variable.{Variable}
use Rattle.php_memplain_cells.specs.Seen.{variable_seen}

-- the oldest variable goes, and its store falls
abbrev pub shed_scope : List model.Variable → Scope → Scope
shed_scope [] f = f
shed_scope (v ∷ vs) f = record f { variables = vs; falling = f.falling ++ link v.store ∷ [] }

abbrev pub has_variable : List model.Variable → Bool
has_variable [] = false
has_variable (v ∷ vs) = true

-- the variable of a name goes where it is there, and its store falls
abbrev pub forget_scope : ℕ → Option ℕ → Scope → Scope
forget_scope n None f = f
forget_scope n (Some s) f = record f { variables = without_variable n f.variables; falling = f.falling ++ link s ∷ [] }

-- the variable of a name stands at a place
pub record StandsAt (n : ℕ) (vs : List Variable) (k : ℕ) : Type 0 where
  pub within : k < length vs
  pub without : without_variable n (map variable_seen vs) ≡ map variable_seen (take k vs ++ drop (k + 1) vs)
  pub store : (v : Variable) → v ≡ slice_index_or vs k v → variable_store (map variable_seen vs) n ≡ Some v.store
