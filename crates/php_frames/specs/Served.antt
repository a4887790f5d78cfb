-- Where a completion goes on: ranges of places, each of which serves some completions.
use Rattle.std.specs.Prelude.{◌≡◌, ℕ, suc, ◌<◌, ◌≤◌, nat_le, nat_lt, Bool, true, false, ◌&&◌, cond, List, [], ◌∷◌, Option, Some, None, slice_get, IsTrue}
use Rattle.std.proofs.Common.{◌⊎◌}
use Rattle.php_frames.specs.declared.completion.Completion.{Completion}
use Rattle.php_frames.specs.declared.completion.Completion.TheVariants.{Break, Continue, Return, Throw}
use Rattle.php_frames.specs.declared.ranges.Serves.{Serves}
use Rattle.php_frames.specs.declared.ranges.Serves.TheVariants.{Loop, Switch, Catch, Finally}
use Rattle.php_frames.specs.declared.ranges.HandlerRange.{HandlerRange}

-- loops and switches serve breaks and continues of every level, a catch serves a throw, and a finally
-- serves all that is under way but an exit
abbrev pub does_serve : Serves → Completion → Bool
does_serve Loop (Break n) = true
does_serve Loop (Continue n) = true
does_serve Switch (Break n) = true
does_serve Switch (Continue n) = true
does_serve Catch Throw = true
does_serve Finally (Break n) = true
does_serve Finally (Continue n) = true
does_serve Finally Return = true
does_serve Finally Throw = true
does_serve _ _ = false

abbrev pub holds_place : HandlerRange → ℕ → Bool
holds_place r at = nat_le r.from at && nat_lt at r.to

-- the range holds the place and serves the completion
abbrev pub serves_at : HandlerRange → ℕ → Completion → Bool
serves_at r at why = holds_place r at && does_serve r.serves why

-- the number of the first range that serves the completion at the place, where the ranges' numbers begin with n
abbrev pub handler_from : List HandlerRange → ℕ → ℕ → Completion → Option ℕ
handler_from [] n at why = None
handler_from (r ∷ rs) n at why = cond (serves_at r at why) (Some n) (handler_from rs (suc n) at why)

abbrev pub handler_of : List HandlerRange → ℕ → Completion → Option ℕ
handler_of rs at why = handler_from rs 0 at why

-- a target lies outside its own range
abbrev pub IsOutside : HandlerRange → Type 0
IsOutside r = (r.target < r.from) ⊎ (r.to ≤ r.target)

-- the first range lies within the second one
abbrev pub IsWithin : HandlerRange → HandlerRange → Type 0
IsWithin r q = (q.from ≤ r.from) × (r.to ≤ q.to)

-- the first range may stand before the second one: they are apart, or it lies within that one
abbrev pub MayPrecede : HandlerRange → HandlerRange → Type 0
MayPrecede r q = (r.to ≤ q.from) ⊎ ((q.to ≤ r.from) ⊎ IsWithin r q)

abbrev pub MayPrecedeAll : HandlerRange → List HandlerRange → Type 0
MayPrecedeAll r [] = Unit {0}
MayPrecedeAll r (q ∷ qs) = MayPrecede r q × MayPrecedeAll r qs

-- an inner range stands before the outer ones, and each target is outside
abbrev pub AreNested : List HandlerRange → Type 0
AreNested [] = Unit {0}
AreNested (r ∷ rs) = IsOutside r × (MayPrecedeAll r rs × AreNested rs)

-- the range of this number holds the place and serves the completion, and lies within each other one that does
abbrev pub IsNearest : List HandlerRange → ℕ → Completion → ℕ → Type 0
IsNearest rs at why n =
    (r : HandlerRange) × (slice_get rs n ≡ Some r) × IsTrue (serves_at r at why)
    × ((m : ℕ) (q : HandlerRange) → slice_get rs m ≡ Some q → IsTrue (serves_at q at why) → IsWithin r q)
