-- Outputs only grow.
use Rattle.std.specs.Prelude.{◌≡◌, ℕ, List, ◌++◌}
use Rattle.php_machine.specs.Moves.{Move, Next, Again, Enter, Ask, Inside, Leave, Park, Wake, End, Wrong, Make, Truth, Yes, No, NoValue, Rules}

-- the second output begins with the first
abbrev pub Begins : List ℕ → List ℕ → Type 0
Begins xs ys = (more : List ℕ) × (ys ≡ xs ++ more)

module _ {D E : Type 0} (out : D → List ℕ) where
  -- whatever data a move leads to, its output begins with this
  abbrev pub MoveBegins : List ℕ → Move D E → Type 0
  MoveBegins xs (Next d) = Begins xs (out d)
  MoveBegins xs (Again d) = Begins xs (out d)
  MoveBegins xs (Enter f is_free at) = (n : ℕ) → Begins xs (out (at n))
  MoveBegins xs (Ask f is_free at) = (n : ℕ) → Begins xs (out (at n))
  MoveBegins xs (Inside f d) = Begins xs (out d)
  MoveBegins xs (Leave d) = Begins xs (out d)
  MoveBegins xs (Park g d) = Begins xs (out d)
  MoveBegins xs (Wake g d) = Begins xs (out d)
  MoveBegins xs (End e d) = Begins xs (out d)
  MoveBegins xs Wrong = Unit {0}

abbrev pub TruthBegins : {D : Type 0} → (D → List ℕ) → List ℕ → Truth D → Type 0
TruthBegins out xs (Yes d) = Begins xs (out d)
TruthBegins out xs (No d) = Begins xs (out d)
TruthBegins out xs NoValue = Unit {0}

-- no step takes back what was written
pub record OnlyWrites {A D W E : Type 0} (rules : Rules A D W E) (out : D → List ℕ) : Type 0 where
  pub effect : (a : A) (d : D) → MoveBegins out (out d) (rules.effect a d)
  pub truth : (d : D) → TruthBegins out (out d) (rules.truth d)
  pub landed : (d : D) → Begins (out d) (out (rules.landed d))
  pub unserved : (d : D) → MoveBegins out (out d) (rules.unserved d)
  pub makes : (d : D) (mv : Move D E) → rules.plan d ≡ Make mv → MoveBegins out (out d) mv
