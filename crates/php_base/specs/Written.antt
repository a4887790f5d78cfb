use Rattle.std.specs.Prelude.{◌≡◌, ℕ, ◌<◌, List, ◌++◌, length, take, Option}
use Rattle.std.specs.Option.{option_map}

-- what was told to be written grew by exactly these bytes; what isn't told stays untold
abbrev pub GrewBy : Option (List ℕ) → Option (List ℕ) → List ℕ → Type 0
GrewBy old new bytes = new ≡ option_map (λ written. written ++ bytes) old

-- it grew by the first bytes alone, and not by all of them
abbrev pub GrewByPart : Option (List ℕ) → Option (List ℕ) → List ℕ → Type 0
GrewByPart old new bytes = (n : ℕ) × (n < length bytes) × GrewBy old new (take n bytes)
