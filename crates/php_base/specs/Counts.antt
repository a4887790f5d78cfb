use Rattle.std.specs.Prelude.{◌==◌, ℕ, ◌+◌, ◌-◌, ◌^◌, ◌≤◌, Bool, List, min}
use Rattle.std.specs.List.{list_any}

-- the greatest value of a counter, at which it stands still
abbrev pub greatest_count : ℕ
greatest_count = 2 ^ 64 - 1

-- a count after one further event
abbrev pub counted_up : ℕ → ℕ
counted_up n = min (n + 1) greatest_count

-- at least one event was counted: the count is greater, or it stands at its greatest value
abbrev pub Rose : ℕ → ℕ → Type 0
Rose old new = counted_up old ≤ new

-- the call is one of those that fail
abbrev pub is_listed : ℕ → List ℕ → Bool
is_listed call failing = list_any (λ listed. listed == call) failing
