-- Faults at tokens, and the first of several.
use Rattle.std.specs.Prelude.{◌≡◌, ℕ, ◌<◌, ◌≤◌, ◌⊎◌, Bool, ◌&&◌, ◌||◌, nat_lt, nat_eq, cond, Option, Some, None, List, [], ◌∷◌}
use Rattle.php_ast.specs.expression.View.{Note}
use Rattle.php_legality.specs.declared.kind.Kind.{Kind}
use Rattle.php_legality.specs.declared.kind.Kind.TheVariants as kind
use Rattle.php_legality.specs.declared.fault.Fault.{Fault}
use Rattle.php_legality.specs.Lists.{Has}

-- the order of kinds at one token
abbrev pub rank : Kind → ℕ
rank kind.NoPlace = 0
rank kind.BadBreak = 1
rank kind.JumpFromFinally = 2
rank kind.Duplicate = 3
rank kind.NoConstant = 4
rank kind.BadList = 5
rank kind.BadUse = 6
rank kind.TooManyNames = 7

-- a fault at the token of a note
abbrev pub fault_at : Kind → Note → Fault
fault_at kind_of at = record { kind = kind_of; spot = record { place = at.place; line = at.line } }

-- It stands at an earlier token, or at the same one with a kind that goes no later.
abbrev pub IsNoLater : Fault → Fault → Type 0
IsNoLater a b = (a.spot.place < b.spot.place) ⊎ ((a.spot.place ≡ b.spot.place) × (rank a.kind ≤ rank b.kind))

-- the first of several faults, or that there is none
abbrev pub IsFirst : List Fault → Option Fault → Type 0
IsFirst faults None = faults ≡ []
IsFirst faults (Some a) = Has faults a × ((b : Fault) → Has faults b → IsNoLater a b)

-- ---- by going over them

abbrev pub is_before : Fault → Fault → Bool
is_before a b = nat_lt a.spot.place b.spot.place || nat_eq a.spot.place b.spot.place && nat_lt (rank a.kind) (rank b.kind)

abbrev pub sooner : Option Fault → Fault → Option Fault
sooner None b = Some b
sooner (Some a) b = cond (is_before b a) (Some b) (Some a)

-- behind those met so far
abbrev pub first_from : Option Fault → List Fault → Option Fault
first_from met [] = met
first_from met (a ∷ faults) = first_from (sooner met a) faults
